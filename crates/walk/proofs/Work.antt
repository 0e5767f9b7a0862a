-- How many distances and queries a walk takes at most.
use Rattle.std.proofs.Common.{ℕ, ◌+◌, ◌*◌, ◌<◌, ◌≤◌, List, length, ap, mul-le-mul_left, arith}
use Rattle.std.proofs.lemmas.List.Sums.{length-filter, count_by-le-length}
use Rattle.points.specs.Entries.{Entry}
use Rattle.grouping.specs.Distance.{Place}
use Rattle.boxes.specs.declared.cut.Cut.{Cut}
use Rattle.boxes.specs.Regions.{boxes_after, contents, Logged}
use Rattle.pruning.specs.Positions.{lows, highs}
use Rattle.pruning.specs.Pruning.{keeps}
use Rattle.pruning.specs.Rules.{Test}
use Rattle.walk.specs.Costs.{LeftAt, Costs, whole, opened, looked_at}
use Rattle.walk.proofs.Downs.{length_parts}

module _ (prunes : Test) (axes : ℕ) (es : List Entry) (cs : List Place) (cuts : List Cut) (log : Logged cuts) (some : (b : ℕ) → b < boxes_after cuts → 0 < length (contents cuts b es)) where
  -- a rule leaves no more than it is given
  fewer : {b : ℕ} {ks ls : List ℕ} → LeftAt prunes axes es cs cuts b ks ls → length ls ≤ length ks
  fewer {ks = ks} l =
      let t = keeps prunes (lows axes l.bounds) (highs axes l.bounds) cs l.left.leader in
      omega (arith, ap length l.left.left, length-filter t ks, count_by-le-length t ks)

  pub at_most : {b : ℕ} {ks : List ℕ} {d q : ℕ} → Costs prunes axes es cs cuts b ks d q → b < boxes_after cuts → length ks ≤ 32 → (d ≤ 32 * length (contents cuts b es)) × (q + 31 ≤ 62 * length (contents cuts b es))
  at_most (whole {b = b} l n) there few = (omega arith, omega (arith, some b there))
  at_most (opened {b = b} i l n li of first second) there few =
      let a = at_most first (omega arith) (omega (arith, fewer l)) in
      let c = at_most second (omega arith) (omega (arith, fewer l)) in
      (omega (arith, a.0, c.0, length_parts cuts log b i li of es), omega (arith, a.1, c.1, length_parts cuts log b i li of es))
  at_most (looked_at {b = b} {ls = ls} l n u) there few =
      let p : length (contents cuts b es) * length ls ≤ length (contents cuts b es) * 32 = mul-le-mul_left {m = length ls} {n = 32} (length (contents cuts b es)) (omega (arith, fewer l)) in
      (omega (arith, p), omega (arith, some b there))
