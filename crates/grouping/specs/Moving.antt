-- The centers after a round, computed.
use Rattle.std.specs.Prelude.{ℕ, zero, suc, cond, List, ℤ, pos, int_lt}
use Rattle.numbers.specs.Sums.{mapped_from}
use Rattle.points.specs.Entries.{Entry}
use Rattle.grouping.specs.Distance.{Place}
use Rattle.grouping.specs.Totals.{weight, sum}
use Rattle.grouping.specs.Rounding.{rounded}

-- where the center c of a group of weight w goes, with the sum s axis on each axis: to the rounded mean; without weight it stays
abbrev pub renewed : ℤ → (ℕ → ℤ) → Place → Place
renewed w s c = cond (int_lt (pos 0) w) (mapped_from (λ axis x. rounded (s axis) w) 0 c) c

-- the centers after a round
unfoldable pub move : List Entry → List Place → List Place
move es cs = mapped_from (λ k c. renewed (weight es cs k) (sum es cs k) c) 0 cs

-- the centers after rounds until one moves nothing, at most so many: after a round that moves nothing no round moves anything, so that
-- these are the centers after all of them
abbrev pub settled_centers : List Entry → ℕ → List Place → List Place
settled_centers es zero cs = cs
settled_centers es (suc n) cs = settled_centers es n (move es cs)
