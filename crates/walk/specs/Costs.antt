-- How many distances and queries a walk takes.
use Rattle.std.specs.Prelude.{◌≡◌, ℕ, ◌+◌, ◌-◌, ◌*◌, ◌%◌, ◌^◌, ◌<◌, List, length, ◌≢◌}
use Rattle.points.specs.declared.bounds.Bounds.{Bounds}
use Rattle.points.specs.Entries.{Entry}
use Rattle.grouping.specs.Distance.{Place}
use Rattle.boxes.specs.declared.cut.Cut.{Cut}
use Rattle.boxes.specs.Regions.{contents, cut_at, Uncut}
use Rattle.boxes.specs.Tells.{BoundsOf}
use Rattle.pruning.specs.Positions.{lows, highs}
use Rattle.pruning.specs.Pruning.{Left}
use Rattle.pruning.specs.Rules.{Test}
use Rattle.walk.specs.declared.tally.Tally.{Tally}

module _ (prunes : Test) (axes : ℕ) (es : List Entry) (cs : List Place) (cuts : List Cut) where
  -- at box b, of the candidates ks the candidates ls are left: the rule is given the bounds of what is in the box
  pub record LeftAt (b : ℕ) (ks ls : List ℕ) : Type 0 where
    pub bounds : Bounds
    pub of_box : BoundsOf (contents cuts b es) bounds
    pub left : Left prunes (lows axes bounds) (highs axes bounds) cs ks ls

  -- a walk that reaches box b with the candidates ks takes so many distances and so many queries: a query for every candidate but the
  -- leader; then nothing more, if one candidate is left; else what the walks of both children take, if the box is cut; else a distance
  -- for each entry and each candidate left
  pub data Costs : ℕ → List ℕ → ℕ → ℕ → Type 0 where
    whole : {b : ℕ} {ks ls : List ℕ} → LeftAt b ks ls → length ls ≡ 1 → Costs b ks 0 (length ks - 1)
    opened : {b : ℕ} {ks ls : List ℕ} {d q d' q' : ℕ} (i : ℕ) → LeftAt b ks ls → (length ls ≢ 1) → i < length cuts → (cut_at cuts i).parent ≡ b →
        Costs (2 * i + 1) ls d q → Costs (2 * i + 2) ls d' q' → Costs b ks (d + d') (length ks - 1 + (q + q'))
    looked_at : {b : ℕ} {ks ls : List ℕ} → LeftAt b ks ls → (length ls ≢ 1) → Uncut cuts b → Costs b ks (length (contents cuts b es) * length ls) (length ks - 1)

  -- the counts have grown by what such a walk takes: in 64 bits
  pub record Counted (b : ℕ) (ks : List ℕ) (old new : Tally) : Type 0 where
    pub distances : ℕ
    pub queries : ℕ
    pub costs : Costs b ks distances queries
    pub distances_are : new.distances % 2 ^ 64 ≡ (old.distances + distances) % 2 ^ 64
    pub queries_are : new.queries % 2 ^ 64 ≡ (old.queries + queries) % 2 ^ 64
