-- A result whose fault has its place.
use Rattle.std.specs.Prelude.{Ok, Err, Result}
use Rattle.value.specs.declared.placed.Placed.{Placed}

abbrev pub placed : {T E P : Type 0} → Result T E → P → Result T (Placed P E)
placed (Ok x) place = Ok x
placed (Err e) place = Err (record { place = place; fault = e })
