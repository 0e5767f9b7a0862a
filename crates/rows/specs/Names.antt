-- How the names of the columns are spelled.
use Rattle.std.specs.Prelude.{ℕ, List, codes}
use Rattle.rows.specs.declared.name.Name.{Name}
use Rattle.rows.specs.declared.name.Name.TheVariants.{Lag, Torque, Speed, Temp, Gap, Length, Hold}

abbrev pub text_of : Name → List ℕ
text_of Lag = codes "lag"
text_of Torque = codes "torque"
text_of Speed = codes "speed"
text_of Temp = codes "temp"
text_of Gap = codes "gap"
text_of Length = codes "length"
text_of Hold = codes "hold"
