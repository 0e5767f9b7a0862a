use Rattle.std.proofs.Common.{◌≡◌, ℕ, ◌<◌, get_or, arith, rules}
use Rattle.pruning.proofs.Listed.{numbered}
use Rattle.pruning.proofs.candidates.Candidates.all.Goals as goal

pub invariant_of-result : goal.invariant_of-result
invariant_of-result c =
    let made = c.from_fn.ensures.items in
    let same : (i : ℕ) → i < 32 → get_or c.from_fn.result i 0 ≡ i = λ i h. let at = made.at i 0 h in search rules in
    let centers = c.args.centers.now in
    record {
      long = made.long;
      some = centers.some;
      few = centers.few;
      known = λ i h. omega (arith, same i (omega (arith, centers.few)));
      rises = λ i j h l. omega (arith, same i (omega (arith, centers.few)), same j (omega (arith, centers.few)));
    }

pub returns-clause-all : goal.returns-clause-all
returns-clause-all c =
    let made = c.from_fn.ensures.items in
    let same : (i : ℕ) → i < 32 → get_or c.from_fn.result i 0 ≡ i = λ i h. let at = made.at i 0 h in search rules in
    λ axes. numbered axes c.args.centers.now c.from_fn.result made.long same
