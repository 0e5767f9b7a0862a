-- Values that lie in a range, and the value of a range that is nearest to another.
use Rattle.std.specs.Prelude.{ℤ, ◌≤ℤ◌}
use Rattle.std.specs.Int.{int_max, int_min}
use Rattle.value.specs.declared.range.ValueRange.{ValueRange}

abbrev pub Within : ValueRange → ℤ → Type 0
Within range z = (range.least ≤ℤ z) × (z ≤ℤ range.greatest)

-- the least where z lies below it, the greatest where z lies above it, else z itself
abbrev pub nearest_in : ValueRange → ℤ → ℤ
nearest_in range z = int_max (int_min z range.greatest) range.least
