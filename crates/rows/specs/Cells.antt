-- What a field says as a value of a column.
use Rattle.std.specs.Prelude.{◌≡◌, ℕ, List, ℤ, Ok, Err, Result}
use Rattle.value.specs.declared.fault.ValueFault.{ValueFault}
use Rattle.value.specs.declared.fault.ValueFault.TheVariants.{NotAValue, OutOfRange}
use Rattle.value.specs.declared.range.ValueRange.{ValueRange}
use Rattle.value.specs.Ranges.{Within}
use Rattle.value.specs.Spelling.{Spells}
use Rattle.faults.specs.declared.row.RowFault.{RowFault}
use Rattle.faults.specs.declared.row.RowFault.TheVariants.{Unended, Count, Value}

-- why a field is no value of a column with this range
abbrev pub CellFaulty : ValueRange → List ℕ → ValueFault → Type 0
CellFaulty range field NotAValue = (z : ℤ) → Spells field z → ⊥
CellFaulty range field OutOfRange = (z : ℤ) × Spells field z × (Within range z → ⊥)

-- the value that the field spells, within the range, or the fault that it has
abbrev pub CellRead : ValueRange → List ℕ → Result ℤ ValueFault → Type 0
CellRead range field (Ok z) = Spells field z × Within range z
CellRead range field (Err f) = CellFaulty range field f

-- the same, the fault with the place of the field in its line
abbrev pub CellReadAt : ValueRange → List ℕ → ℕ → Result ℤ RowFault → Type 0
CellReadAt range field place (Ok z) = Spells field z × Within range z
CellReadAt range field place (Err Unended) = ⊥
CellReadAt range field place (Err Count) = ⊥
CellReadAt range field place (Err (Value column fault)) = (column ≡ place) × CellFaulty range field fault
