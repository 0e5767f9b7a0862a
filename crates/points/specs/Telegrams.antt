-- The ranges of the numbers of a telegram.
use Rattle.std.specs.Prelude.{ℤ, pos}
use Rattle.value.specs.Ranges.{Within}
use Rattle.value.specs.declared.range.ValueRange.{ValueRange}

abbrev pub gap_range : ValueRange
gap_range = record { least = pos 0; greatest = pos 32767 }

abbrev pub length_range : ValueRange
length_range = record { least = pos 0; greatest = pos 1500 }

abbrev pub hold_range : ValueRange
hold_range = record { least = pos 1; greatest = pos 65535 }

-- each of the three numbers lies in its range
abbrev pub AllWithin : ℤ → ℤ → ℤ → Type 0
AllWithin gap length hold = Within gap_range gap × (Within length_range length × Within hold_range hold)
