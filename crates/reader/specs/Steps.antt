-- What a reader has before it, and how its calls step through that.
use Rattle.std.specs.Prelude.{◌≡◌, ℕ, ◌+◌, ◌<◌, List, [], ◌∷◌, ◌++◌, length, Some, None, Ok, Err, Option, Result}
use Rattle.std.specs.Borrow.{Bor}
use Rattle.reader.specs.declared.cursor.Reader.{Reader}
use Rattle.reader.specs.declared.lines.NoLine.{NoLine}
use Rattle.reader.specs.declared.lines.NoLine.TheVariants.{Unended, Missing}
use Rattle.reader.specs.declared.token.Field.{Field}
use Rattle.reader.specs.declared.token.Token.{Token}
use Rattle.reader.specs.declared.token.Token.TheVariants.{Name, Value}
use Rattle.reader.specs.Fields.{Lacks, fields_of}

-- the file after the current line
abbrev pub next_bytes : Reader → List ℕ
next_bytes r = r.rest.now

-- the number of the current line, 0 before the first
abbrev pub line_number : Reader → ℕ
line_number r = r.line

-- how many fields of the current line were lent
abbrev pub column_number : Reader → ℕ
column_number r = r.column

-- the fields of a text, none where there is no text
abbrev pub fields_in : Option (Bor (List ℕ)) → List (List ℕ)
fields_in (Some text) = fields_of text.now
fields_in None = []

-- the fields of the current line that are not lent yet
abbrev pub fields_left : Reader → List (List ℕ)
fields_left r = fields_in r.text

-- s stands at the start of the line that begins where r's line ends
pub record LineEnds (r s : Reader) : Type 0 where
  pub text : List ℕ
  pub split : next_bytes r ≡ text ++ 10 ∷ next_bytes s
  pub whole : Lacks 10 text
  pub fields : fields_left s ≡ fields_of text
  pub number : line_number s ≡ line_number r + 1
  pub start : column_number s ≡ 0

-- what next_line says of the step from r to s
abbrev pub LineStep : Reader → Result (Unit {0}) NoLine → Reader → Type 0
LineStep r (Ok u) s = LineEnds r s
LineStep r (Err Unended) s = (0 < length (next_bytes r)) × Lacks 10 (next_bytes r) × (s ≡ r)
LineStep r (Err Missing) s = (next_bytes r ≡ []) × (s ≡ r)

-- the field that is taken for a name or a value
abbrev pub field_of : Token → Field
field_of (Name field) = field
field_of (Value field) = field

-- the field is the first that r has left, with its place, and s has the others left
pub record Lent (r : Reader) (field : Field) (s : Reader) : Type 0 where
  pub first : fields_left r ≡ field.bytes.now ∷ fields_left s
  pub line_is : field.line ≡ line_number r
  pub column_is : field.column ≡ column_number r + 1
  pub step : column_number s ≡ column_number r + 1
  pub same_line : line_number s ≡ line_number r
  pub same_rest : next_bytes s ≡ next_bytes r

-- the next field, or None where no field is left
abbrev pub FieldLent : Reader → Option Field → Reader → Type 0
FieldLent r None s = (fields_left r ≡ []) × (s ≡ r)
FieldLent r (Some field) s = Lent r field s

-- the same, as a name
abbrev pub NameLent : Reader → Option Token → Reader → Type 0
NameLent r None s = (fields_left r ≡ []) × (s ≡ r)
NameLent r (Some (Name field)) s = Lent r field s
NameLent r (Some (Value field)) s = ⊥

-- the same, as a value
abbrev pub ValueLent : Reader → Option Token → Reader → Type 0
ValueLent r None s = (fields_left r ≡ []) × (s ≡ r)
ValueLent r (Some (Value field)) s = Lent r field s
ValueLent r (Some (Name field)) s = ⊥
