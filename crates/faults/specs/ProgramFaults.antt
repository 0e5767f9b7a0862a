-- How the faults of the program are reported.
use Rattle.std.specs.Prelude.{ℕ, List, ◌∷◌, ◌++◌, decimal}
use Rattle.value.specs.declared.fault.Layer.TheVariants.{Program}
use Rattle.value.specs.declared.placed.Placed.{Placed}
use Rattle.faults.specs.declared.file.FileFault.{FileFault}
use Rattle.faults.specs.FileFaults as file
use Rattle.faults.specs.declared.program.FaultReport.{FaultReport}
use Rattle.faults.specs.declared.program.ProgramFault.{ProgramFault}
use Rattle.faults.specs.declared.program.ProgramFault.TheVariants.{CannotOpen, TooLong, File}

-- the report of a fault that the program finds in a file before it reads it
abbrev pub unread : ℕ → ℕ → FaultReport
unread number n = record { number = number; layer = Program; file = n; line = 0; column = 0 }

-- number, layer, file, line and column; a line or a column of 0 stands for the whole
abbrev pub report_of : ProgramFault → FaultReport
report_of (CannotOpen n) = unread 27 n
report_of (TooLong n) = unread 26 n
report_of (File n fault) = record { number = file.number_of fault; layer = file.layer_of fault; file = n; line = file.line_of fault; column = file.column_of fault }

-- the fault of a file with the number of the file
abbrev pub file_at : Placed ℕ FileFault → ProgramFault
file_at e = File e.place e.fault

-- what is printed of a fault: number, file, line and column with commas between them
abbrev pub fault_text : FaultReport → List ℕ
fault_text r = decimal r.number ++ 44 ∷ (decimal r.file ++ 44 ∷ (decimal r.line ++ 44 ∷ decimal r.column))
