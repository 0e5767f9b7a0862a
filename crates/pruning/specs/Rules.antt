-- What it is for a leader to beat a candidate, and the tests by which rules tell it for all of a box.
use Rattle.std.specs.Prelude.{◌≡◌, ℕ, ◌<◌, Bool, true, cond, ◌⊎◌, length, ◌<ℤ◌, int_le, int_lt, nat_lt}
use Rattle.grouping.specs.Distance.{Place, dist}
use Rattle.grouping.specs.Boxes.{Inside, corner, far, near}

-- the leader, of number i, is nearer to p than the candidate, of number j, or equally near and of the lower number
abbrev pub Wins : Place → ℕ → Place → ℕ → Place → Type 0
Wins p i leader j candidate = (dist p leader <ℤ dist p candidate) ⊎ ((dist p leader ≡ dist p candidate) × (i < j))

-- whether a leader prunes a candidate from a box: of the least and the greatest numbers of the box, the number and the place of the
-- leader, and those of the candidate
abbrev pub Test : Type 0
Test = Place → Place → ℕ → Place → ℕ → Place → Bool

-- a test that is safe to prune by: the leader wins at every place of the box
abbrev pub Safe : Test → Type 0
Safe prunes = (los his : Place) (i : ℕ) (leader : Place) (j : ℕ) (candidate : Place) →
    length leader ≡ length los → length candidate ≡ length los →
    prunes los his i leader j candidate ≡ true → (p : Place) → Inside los his p → Wins p i leader j candidate

-- whether the leader wins at p: for the lower number it is enough to be as near
abbrev pub wins : Place → ℕ → Place → ℕ → Place → Bool
wins p i leader j candidate = cond (nat_lt i j) (int_le (dist p leader) (dist p candidate)) (int_lt (dist p leader) (dist p candidate))

-- the leader is nearer to the farthest place of the box than the candidate is to the nearest
abbrev pub min_max_prunes : Test
min_max_prunes los his i leader j candidate = int_lt (far los his leader) (near los his candidate)

-- the leader wins at the corner that is best for the candidate
abbrev pub corner_prunes : Test
corner_prunes los his i leader j candidate = wins (corner los his leader candidate) i leader j candidate

-- the rule by corners prunes a candidate exactly where the leader wins at that corner
abbrev pub CornerPrunes : Type 0
CornerPrunes = (los his : Place) (i : ℕ) (leader : Place) (j : ℕ) (candidate : Place) →
    (corner_prunes los his i leader j candidate ≡ true → Wins (corner los his leader candidate) i leader j candidate)
    × (Wins (corner los his leader candidate) i leader j candidate → corner_prunes los his i leader j candidate ≡ true)
