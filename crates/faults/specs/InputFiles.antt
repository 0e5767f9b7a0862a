-- The numbers under which the files of the program are reported.
use Rattle.std.specs.Prelude.{ℕ}
use Rattle.faults.specs.declared.input_file.InputFile.{InputFile}
use Rattle.faults.specs.declared.input_file.InputFile.TheVariants.{Recording, Centers}

abbrev pub number_of : InputFile → ℕ
number_of Recording = 1
number_of Centers = 2
