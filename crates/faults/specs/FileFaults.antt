-- How the faults of a file are reported.
use Rattle.std.specs.Prelude.{ℕ}
use Rattle.value.specs.declared.fault.Layer.{Layer}
use Rattle.value.specs.declared.fault.Layer.TheVariants.{File}
use Rattle.value.specs.declared.placed.Placed.{Placed}
use Rattle.faults.specs.declared.row.RowFault.{RowFault}
use Rattle.faults.specs.RowFaults as row
use Rattle.faults.specs.declared.file.FileFault.{FileFault}
use Rattle.faults.specs.declared.file.FileFault.TheVariants.{Names, Row, TooManyRows, TooManyCenters, NoRecord, NoCenter}

abbrev pub number_of : FileFault → ℕ
number_of Names = 21
number_of (Row line fault) = row.number_of fault
number_of (TooManyRows line) = 2
number_of (TooManyCenters line) = 3
number_of NoRecord = 1
number_of NoCenter = 11

abbrev pub layer_of : FileFault → Layer
layer_of Names = File
layer_of (Row line fault) = row.layer_of fault
layer_of (TooManyRows line) = File
layer_of (TooManyCenters line) = File
layer_of NoRecord = File
layer_of NoCenter = File

-- 0 stands for the whole file
abbrev pub line_of : FileFault → ℕ
line_of Names = 1
line_of (Row line fault) = line
line_of (TooManyRows line) = line
line_of (TooManyCenters line) = line
line_of NoRecord = 0
line_of NoCenter = 0

-- 0 stands for the whole line, or the whole file
abbrev pub column_of : FileFault → ℕ
column_of Names = 0
column_of (Row line fault) = row.column_of fault
column_of (TooManyRows line) = 0
column_of (TooManyCenters line) = 0
column_of NoRecord = 0
column_of NoCenter = 0

-- the fault of a row in its line
abbrev pub row_at : Placed ℕ RowFault → FileFault
row_at e = Row e.place e.fault
