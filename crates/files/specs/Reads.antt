-- What the reading of a file leaves in the table, and what it answers.
use Rattle.std.specs.Prelude.{◌≡◌, ℕ, ◌<◌, ◌≤◌, List, [], ◌++◌, map, length, take, drop, ℤ, Some, None, Ok, Err, Option, Result}
use Rattle.std.specs.List.{AllByRecursion}
use Rattle.faults.specs.declared.row.RowFault.{RowFault}
use Rattle.rows.specs.declared.kind.FileKind.{FileKind}
use Rattle.rows.specs.declared.order.Order.{Order}
use Rattle.rows.specs.Lines.{Fits, cells_in, columns_in, names_in}
use Rattle.faults.specs.declared.file.FileFault.{FileFault}
use Rattle.files.specs.Format.{Ending, LineWrong, Outcome, Unnamed, line_of, lines_of, most, too_many}

-- the bytes begin with the names in this order, before those that are left; or they do not begin with the names
abbrev pub HeaderRead : FileKind → List ℕ → List ℕ → Option Order → Type 0
HeaderRead kind bytes left (Some o) = (o.kind ≡ kind) × (bytes ≡ line_of (names_in kind (columns_in o)) ++ left)
HeaderRead kind bytes left None = Unnamed kind bytes

-- a table of so many rows takes one more after n, or what is said of the row over
abbrev pub RoomLeft : FileKind → ℕ → ℕ → Result (Unit {0}) FileFault → Type 0
RoomLeft kind n room (Ok u) = n < most kind room
RoomLeft kind n room (Err fault) = (n ≡ most kind room) × (fault ≡ too_many kind n)

-- the row whose line stands first, and what stands after the line; or what is wrong with the line
abbrev pub LineRead : {R : Type 0} → FileKind → (R → List ℤ) → List ℕ → List ℕ → List ℕ → Result R RowFault → Type 0
LineRead kind fields order bytes after (Ok row) = (bytes ≡ line_of (cells_in order (fields row)) ++ after) × Fits kind (fields row)
LineRead kind fields order bytes after (Err fault) = 0 < length bytes → LineWrong kind order bytes fault

-- the first n rows of the table are those that stand in front of rest, and the other rows are as they were
pub record Filled {R : Type 0} (kind : FileKind) (fields : R → List ℤ) (order : List ℕ) (bytes rest : List ℕ) (old new : List R) (n : ℕ) : Type 0 where
  pub room : n ≤ most kind (length old)
  pub text : bytes ≡ lines_of order (map fields (take n new)) ++ rest
  pub fits : AllByRecursion (Fits kind) (map fields (take n new))
  pub others : drop n new ≡ drop n old

-- all rows are read, or those in front of the first fault
abbrev pub RowsRead : {R : Type 0} → FileKind → (R → List ℤ) → List ℕ → List ℕ → List R → List R → Result ℕ FileFault → Type 0
RowsRead kind fields order bytes old new (Ok n) = Filled kind fields order bytes [] old new n
RowsRead kind fields order bytes old new (Err fault) = (n : ℕ) × (rest : List ℕ) × Filled kind fields order bytes rest old new n × (0 < length rest) × Ending kind order (length old) n rest (Some fault)

-- what is said of a file by the answer
abbrev pub said_by : Result ℕ FileFault → Option FileFault
said_by (Ok n) = None
said_by (Err fault) = Some fault

-- The file has this outcome; its right rows stand at the front of the table, and the rows behind them are as they were.
pub record Read {R : Type 0} (kind : FileKind) (fields : R → List ℤ) (bytes : List ℕ) (old new : List R) (n : ℕ) (said : Option FileFault) : Type 0 where
  pub outcome : Outcome kind (length old) bytes (map fields (take n new)) said
  pub room : n ≤ length old
  pub others : drop n new ≡ drop n old

abbrev pub FileRead : {R : Type 0} → FileKind → (R → List ℤ) → List ℕ → List R → List R → Result ℕ FileFault → Type 0
FileRead kind fields bytes old new (Ok n) = Read kind fields bytes old new n None
FileRead kind fields bytes old new (Err fault) = (n : ℕ) × Read kind fields bytes old new n (Some fault)

-- no other outcome fits the bytes
abbrev pub NoOther : {R : Type 0} → FileKind → (R → List ℤ) → List ℕ → List R → List R → Result ℕ FileFault → Type 0
NoOther kind fields bytes old new r = (rows : List (List ℤ)) (said : Option FileFault) → Outcome kind (length old) bytes rows said → (said_by r ≡ said) × (map fields (take (length rows) new) ≡ rows)
