-- The columns of each kind of file.
use Rattle.std.specs.Prelude.{ℕ, Bool, true, false, List, [], ◌∷◌, length, pos, negsuc, slice_index_or}
use Rattle.value.specs.declared.range.ValueRange.{ValueRange}
use Rattle.points.specs.Telegrams.{gap_range, length_range, hold_range}
use Rattle.rows.specs.declared.column.Column.{Column}
use Rattle.rows.specs.declared.kind.FileKind.{FileKind}
use Rattle.rows.specs.declared.kind.FileKind.TheVariants.{DriveRecords, TelegramRecords, DriveCenters, TelegramCenters}
use Rattle.rows.specs.declared.name.Name.{Name}
use Rattle.rows.specs.declared.name.Name.TheVariants.{Lag, Torque, Speed, Temp, Gap, Length, Hold}
use Rattle.rows.specs.Names.{text_of}

abbrev pub column : Name → ValueRange → Column
column name range = record { name = name; range = range }

-- a column whose values may be any whole number of 16 bits
abbrev pub full : Name → Column
full name = column name (record { least = negsuc 32767; greatest = pos 32767 })

abbrev pub drive : List Column
drive = full Lag ∷ full Torque ∷ full Speed ∷ full Temp ∷ []

abbrev pub columns_of : FileKind → List Column
columns_of DriveRecords = drive
columns_of TelegramRecords = column Gap gap_range ∷ column Length length_range ∷ column Hold hold_range ∷ []
columns_of DriveCenters = drive
columns_of TelegramCenters = full Gap ∷ full Length ∷ []

-- how many columns such a file has
abbrev pub width : FileKind → ℕ
width kind = length (columns_of kind)

abbrev pub column_at : FileKind → ℕ → Column
column_at kind c = slice_index_or (columns_of kind) c (full Gap)

abbrev pub range_at : FileKind → ℕ → ValueRange
range_at kind c = (column_at kind c).range

-- the text of a column's name
abbrev pub name_at : FileKind → ℕ → List ℕ
name_at kind c = text_of (column_at kind c).name

-- whether the rows of such a file are centers
abbrev pub is_centers : FileKind → Bool
is_centers DriveRecords = false
is_centers TelegramRecords = false
is_centers DriveCenters = true
is_centers TelegramCenters = true
