-- The numbers under which the faults of a value are reported.
use Rattle.std.specs.Prelude.{ℕ}
use Rattle.value.specs.declared.fault.ValueFault.{ValueFault}
use Rattle.value.specs.declared.fault.ValueFault.TheVariants.{NotAValue, OutOfRange}

abbrev pub number_of : ValueFault → ℕ
number_of NotAValue = 23
number_of OutOfRange = 24
