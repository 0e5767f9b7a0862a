-- How the faults of a line are reported.
use Rattle.std.specs.Prelude.{ℕ}
use Rattle.value.specs.declared.fault.Layer.{Layer}
use Rattle.value.specs.declared.fault.Layer.TheVariants as layer
use Rattle.value.specs.declared.fault.ValueFault.{ValueFault}
use Rattle.value.specs.declared.placed.Placed.{Placed}
use Rattle.value.specs.Faults as value
use Rattle.faults.specs.declared.row.RowFault.{RowFault}
use Rattle.faults.specs.declared.row.RowFault.TheVariants.{Unended, Count, Value}

abbrev pub number_of : RowFault → ℕ
number_of Unended = 25
number_of Count = 22
number_of (Value column fault) = value.number_of fault

abbrev pub layer_of : RowFault → Layer
layer_of Unended = layer.Row
layer_of Count = layer.Row
layer_of (Value column fault) = layer.Value

-- 0 stands for the whole line
abbrev pub column_of : RowFault → ℕ
column_of Unended = 0
column_of Count = 0
column_of (Value column fault) = column

-- the fault of a value in its column
abbrev pub value_at : Placed ℕ ValueFault → RowFault
value_at e = Value e.place e.fault
