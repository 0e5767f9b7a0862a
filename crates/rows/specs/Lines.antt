-- How the line of names and the lines of values are written, field by field, and which fault of a line comes first.
use Rattle.std.specs.Prelude.{◌≡◌, ℕ, ◌+◌, ◌<◌, List, [], ◌∷◌, map, length, take, ℤ, pos, Some, None, Ok, Err, MatchOption, Option, Result, ◌≢◌, slice_index, slice_index_or}
use Rattle.std.specs.Fmt.{signed_decimal}
use Rattle.value.specs.Ranges.{Within}
use Rattle.value.specs.Spelling.{Spells}
use Rattle.reader.specs.declared.cursor.Reader.{Reader}
use Rattle.reader.specs.Steps.{fields_left, line_number, next_bytes}
use Rattle.faults.specs.declared.row.RowFault.{RowFault}
use Rattle.faults.specs.declared.row.RowFault.TheVariants.{Unended, Count, Value}
use Rattle.rows.specs.declared.kind.FileKind.{FileKind}
use Rattle.rows.specs.declared.order.Order.{Order}
use Rattle.rows.specs.Cells.{CellFaulty}
use Rattle.rows.specs.Columns.{width, range_at, name_at}

-- each of the numbers below n once
pub record EachOnce (n : ℕ) (order : List ℕ) : Type 0 where
  pub long : length order ≡ n
  pub known : (k : ℕ) → k < n → slice_index order k < n
  pub once : (i j : ℕ) → i < j → j < n → slice_index order i ≢ slice_index order j

-- the columns in the order of the fields
abbrev pub columns_in : Order → List ℕ
columns_in o = take (width o.kind) o.at

-- the fields of the line of names
abbrev pub names_in : FileKind → List ℕ → List (List ℕ)
names_in kind order = map (name_at kind) order

-- the fields of a row's line: its values, column by column in the order of the names
abbrev pub cells_in : List ℕ → List ℤ → List (List ℕ)
cells_in order row = map (λ c. signed_decimal (slice_index_or row c (pos 0))) order

-- a row has a value for each column, within the column's range
pub record Fits (kind : FileKind) (row : List ℤ) : Type 0 where
  pub long : length row ≡ width kind
  pub within : (c : ℕ) → c < width kind → Within (range_at kind c) (slice_index_or row c (pos 0))

-- the fields are the kind's names, each once, in the order that is given; or they are not its names in any order
abbrev pub NamesRead : FileKind → List (List ℕ) → Option Order → Type 0
NamesRead kind fields (Some o) = (o.kind ≡ kind) × (fields ≡ names_in kind (columns_in o))
NamesRead kind fields None = (order : List ℕ) → EachOnce (width kind) order → fields ≢ names_in kind order

-- the next field that r has left is the name of the column, or of none; s stands behind it
pub record NameRead (kind : FileKind) (r s : Reader) (column : Option ℕ) : Type 0 where
  pub field : List ℕ
  pub first : fields_left r ≡ field ∷ fields_left s
  pub named : MatchOption column ((c : ℕ) → c < width kind → field ≢ name_at kind c) (λ c. (c < width kind) × (field ≡ name_at kind c))
  pub rest : next_bytes s ≡ next_bytes r
  pub line : line_number s ≡ line_number r

-- the field is a value of the column
abbrev pub Right : FileKind → ℕ → List ℕ → Type 0
Right kind c field = (z : ℤ) × Spells field z × Within (range_at kind c) z

-- The first fault of a line with these fields: their number, else the first field that is no value of its column. So many fields
-- of the line stand before them.
abbrev pub LineFaulty : FileKind → List ℕ → ℕ → List (List ℕ) → RowFault → Type 0
LineFaulty kind order before fields Unended = ⊥
LineFaulty kind order before fields Count = length fields ≡ width kind → ⊥
LineFaulty kind order before fields (Value column fault) =
    (k : ℕ) × (column ≡ before + k + 1) × (k < width kind) × (length fields ≡ width kind)
    × ((i : ℕ) → i < k → Right kind (slice_index order i) (slice_index_or fields i []))
    × CellFaulty (range_at kind (slice_index order k)) (slice_index_or fields k []) fault

-- the values that are a row of the kind
abbrev pub row_in : FileKind → List ℤ → List ℤ
row_in kind values = take (width kind) values

-- the row that the fields spell, or the first fault
abbrev pub ValuesRead : FileKind → List ℕ → ℕ → List (List ℕ) → Result (List ℤ) RowFault → Type 0
ValuesRead kind order before fields (Ok values) = (fields ≡ cells_in order (row_in kind values)) × Fits kind (row_in kind values)
ValuesRead kind order before fields (Err fault) = LineFaulty kind order before fields fault

-- a line that writes a row has no fault
abbrev pub RightLinesPass : Type 0
RightLinesPass = (kind : FileKind) (order : List ℕ) → EachOnce (width kind) order → (before : ℕ) (row : List ℤ) → Fits kind row → (fault : RowFault) → LineFaulty kind order before (cells_in order row) fault → ⊥

-- a line has one first fault
abbrev pub OneFirstFault : Type 0
OneFirstFault = (kind : FileKind) (order : List ℕ) (before : ℕ) (fields : List (List ℕ)) (f g : RowFault) → LineFaulty kind order before fields f → LineFaulty kind order before fields g → f ≡ g

-- a line writes one row
abbrev pub OneRow : Type 0
OneRow = (kind : FileKind) (order : List ℕ) → EachOnce (width kind) order → (row other : List ℤ) → Fits kind row → Fits kind other → cells_in order row ≡ cells_in order other → row ≡ other

-- a line of names gives one order
abbrev pub OneOrder : Type 0
OneOrder = (kind : FileKind) (order other : List ℕ) → EachOnce (width kind) order → EachOnce (width kind) other → names_in kind order ≡ names_in kind other → order ≡ other
