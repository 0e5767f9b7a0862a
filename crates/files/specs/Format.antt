-- How a file is written: a line of names, then a line for each row; and what can be wrong with a file that is not.
use Rattle.std.specs.Prelude.{◌≡◌, ℕ, zero, suc, ◌+◌, ◌<◌, ◌≤◌, min, cond, List, [], ◌∷◌, ◌++◌, length, ℤ, Some, None, Option, ◌==◌}
use Rattle.std.specs.List.{flat_map, AllByRecursion}
use Rattle.reader.specs.Fields.{Lacks, commas, fields_of}
use Rattle.faults.specs.declared.row.RowFault.{RowFault}
use Rattle.faults.specs.declared.row.RowFault.TheVariants.{Unended, Count, Value}
use Rattle.rows.specs.declared.kind.FileKind.{FileKind}
use Rattle.rows.specs.Columns.{is_centers, width}
use Rattle.rows.specs.Lines.{EachOnce, Fits, LineFaulty, names_in, cells_in}
use Rattle.faults.specs.declared.file.FileFault.{FileFault}
use Rattle.faults.specs.declared.file.FileFault.TheVariants.{Names, Row, TooManyRows, TooManyCenters, NoRecord, NoCenter}

-- a line: its fields with commas between them, and the line end
abbrev pub line_of : List (List ℕ) → List ℕ
line_of fields = commas fields ++ 10 ∷ []

-- the lines of the rows, whose values stand in the order of the names
abbrev pub lines_of : List ℕ → List (List ℤ) → List ℕ
lines_of order rows = flat_map (λ row. line_of (cells_in order row)) rows

-- The bytes are a file of this kind with these rows: the names, each once and in some order, then a line for each row.
-- A row is the list of its values, in the kind's own order of the columns, each within the range of its column.
pub record Spelled (kind : FileKind) (bytes : List ℕ) (rows : List (List ℤ)) : Type 0 where
  pub order : List ℕ
  pub each : EachOnce (width kind) order
  pub text : bytes ≡ line_of (names_in kind order) ++ lines_of order rows
  pub fits : AllByRecursion (Fits kind) rows

-- the most rows that are taken into a table of so many rows: of centers at most 32
abbrev pub most : FileKind → ℕ → ℕ
most kind room = cond (is_centers kind) (min 32 room) room

-- a file has a row, and no more than are taken
abbrev pub WithinLimits : FileKind → ℕ → ℕ → Type 0
WithinLimits kind room n = (0 < n) × (n ≤ most kind room)

-- the file begins with a line of the kind's names
abbrev pub Named : FileKind → List ℕ → Type 0
Named kind bytes = (order : List ℕ) × (rest : List ℕ) × EachOnce (width kind) order × (bytes ≡ line_of (names_in kind order) ++ rest)

-- it does not
abbrev pub Unnamed : FileKind → List ℕ → Type 0
Unnamed kind bytes = Named kind bytes → ⊥

-- what stands after the right rows begins with a line that is wrong
abbrev pub LineWrong : FileKind → List ℕ → List ℕ → RowFault → Type 0
LineWrong kind order rest Unended = (0 < length rest) × Lacks 10 rest
LineWrong kind order rest Count = (text : List ℕ) × (after : List ℕ) × (rest ≡ text ++ 10 ∷ after) × Lacks 10 text × LineFaulty kind order 0 (fields_of text) Count
LineWrong kind order rest (Value column fault) = (text : List ℕ) × (after : List ℕ) × (rest ≡ text ++ 10 ∷ after) × Lacks 10 text × LineFaulty kind order 0 (fields_of text) (Value column fault)

-- what is said of a file that ends after n rows
abbrev pub when_ended : FileKind → ℕ → Option FileFault
when_ended kind zero = Some (cond (is_centers kind) NoCenter NoRecord)
when_ended kind (suc n) = None

-- what is said of a row over: of centers the 33rd is refused before the table's length is looked at
abbrev pub too_many : FileKind → ℕ → FileFault
too_many kind n = cond (is_centers kind) (cond (n == 32) (TooManyCenters (n + 2)) (TooManyRows (n + 2))) (TooManyRows (n + 2))

-- How a file goes on after n right rows, and what is then said of it (None: it is accepted). The line of row n is n + 2.
pub data Ending (kind : FileKind) (order : List ℕ) (room n : ℕ) : List ℕ → Option FileFault → Type 0 where
  ended : Ending kind order room n [] (when_ended kind n)
  over : {rest : List ℕ} → 0 < length rest → n ≡ most kind room → Ending kind order room n rest (Some (too_many kind n))
  wrong : {rest : List ℕ} {fault : RowFault} → n < most kind room → LineWrong kind order rest fault → Ending kind order room n rest (Some (Row (n + 2) fault))

-- The right rows at the front of a file, and what is said of it: the first fault by the rules, or None where it is accepted.
pub data Outcome (kind : FileKind) (room : ℕ) (bytes : List ℕ) : List (List ℤ) → Option FileFault → Type 0 where
  unnamed : Unnamed kind bytes → Outcome kind room bytes [] (Some Names)
  named : {order rest : List ℕ} {rows : List (List ℤ)} {said : Option FileFault} → EachOnce (width kind) order → bytes ≡ line_of (names_in kind order) ++ (lines_of order rows ++ rest) → AllByRecursion (Fits kind) rows → length rows ≤ most kind room → Ending kind order room (length rows) rest said → Outcome kind room bytes rows said

-- a file has one outcome
abbrev pub OneOutcome : Type 0
OneOutcome = (kind : FileKind) (room : ℕ) (bytes : List ℕ) (rows others : List (List ℤ)) (said other : Option FileFault) → Outcome kind room bytes rows said → Outcome kind room bytes others other → (rows ≡ others) × (said ≡ other)

-- a file is accepted with its rows just where it is written by the format within the limits
abbrev pub AcceptedExactly : Type 0
AcceptedExactly = (kind : FileKind) (room : ℕ) (bytes : List ℕ) (rows : List (List ℤ)) → (Outcome kind room bytes rows None → Spelled kind bytes rows × WithinLimits kind room (length rows)) × (Spelled kind bytes rows → WithinLimits kind room (length rows) → Outcome kind room bytes rows None)
