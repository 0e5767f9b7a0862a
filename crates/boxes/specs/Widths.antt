-- How wide bounds are on their axes.
use Rattle.std.specs.Prelude.{ℕ, ◌<◌, ◌≤◌, ℤ, pos, negsuc, ◌-ℤ◌}
use Rattle.points.specs.declared.bounds.Bounds.{Bounds}
use Rattle.points.specs.Kinds.{position_place}
use Rattle.grouping.specs.Distance.{number}

-- 0 in the place of a number below it
abbrev pub natural : ℤ → ℕ
natural (pos n) = n
natural (negsuc n) = 0

-- how far the second number is above the first
unfoldable pub apart : ℤ → ℤ → ℕ
apart low high = natural (high -ℤ low)

-- how far the greatest number on the axis is above the least
unfoldable pub width_on : Bounds → ℕ → ℕ
width_on b axis = apart (number (position_place b.least) axis) (number (position_place b.greatest) axis)

-- of the first i axes, a is the first on which the bounds are widest
pub record WidestOf (b : Bounds) (i a : ℕ) : Type 0 where
  pub within : a < i
  pub most : (k : ℕ) → k < i → width_on b k ≤ width_on b a
  pub first : (k : ℕ) → k < a → width_on b k < width_on b a
