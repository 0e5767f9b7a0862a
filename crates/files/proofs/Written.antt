-- The row of a line, and the rows in a table.
use Rattle.std.proofs.Common.{◌≡◌, ℕ, zero, suc, ◌+◌, ◌<◌, ◌≤◌, min, Bool, true, false, cond, List, [], ◌∷◌, ◌++◌, length, get_or, ℤ, pos, Some, Ok, Err, Decides, Result, sym, refl, ap, ◌∙◌, subst, arith}
use borrow.Author.Tests.{clash}
use Rattle.std.proofs.lemmas.List.{ext_get_or, get_or-take}
use Rattle.std.proofs.lemmas.Int.{ints, clamps}
use Rattle.value.specs.declared.range.ValueRange.{ValueRange}
use Rattle.value.specs.Ranges.{Within, nearest_in}
use Rattle.reader.specs.declared.cursor.Reader.{Reader}
use Rattle.reader.specs.Fields.{fields_of}
use Rattle.reader.specs.Steps.{LineEnds, column_number, fields_left, next_bytes}
use Rattle.rows.specs.declared.column.Column.{Column}
use Rattle.faults.specs.declared.row.RowFault.{RowFault}
use Rattle.faults.specs.declared.row.RowFault.TheVariants.{Unended, Count, Value}
use Rattle.faults.specs.FileFaults.{row_at}
use Rattle.value.specs.declared.placed.Placed.{Placed}
use Rattle.value.specs.Placing.{placed}
use Rattle.rows.specs.declared.kind.FileKind.{FileKind}
use Rattle.rows.specs.declared.name.Name.TheVariants.{Gap}
use Rattle.rows.specs.Columns.{columns_of, width, range_at, full, is_centers}
use Rattle.rows.specs.Lines.{Fits, LineFaulty, ValuesRead, row_in, cells_in}
use Rattle.faults.specs.declared.file.FileFault.{FileFault}
use Rattle.faults.specs.declared.file.FileFault.TheVariants.{Row}
use Rattle.files.specs.Format.{Ending, LineWrong, over, wrong, line_of, most}
use Rattle.files.specs.Reads.{Filled, LineRead, RoomLeft, RowsRead}
use Rattle.files.specs.Rows.{nearests_from, nearests}
use Rattle.files.proofs.Headers.{line_written}

length_nearests : (k : ℕ) (columns : List Column) (values : List ℤ) → length (nearests_from k columns values) ≡ length columns
length_nearests k [] values = refl
length_nearests k (c ∷ cs) values = omega (arith, length_nearests (suc k) cs values)

nearest_at : (k : ℕ) (columns : List Column) (values : List ℤ) (d : Column) (i : ℕ) → i < length columns → get_or (nearests_from k columns values) i (pos 0) ≡ nearest_in (get_or columns i d).range (get_or values (k + i) (pos 0))
nearest_at k [] values d i l = absurd (omega arith)
nearest_at k (c ∷ cs) values d zero l = ap (λ j. nearest_in c.range (get_or values j (pos 0))) (omega arith)
nearest_at k (c ∷ cs) values d (suc i) l = nearest_at (suc k) cs values d i (omega arith) ∙ ap (λ j. nearest_in (get_or cs i d).range (get_or values j (pos 0))) (omega arith)

stays : (range : ValueRange) (z : ℤ) → Within range z → nearest_in range z ≡ z
stays range z h = let low = h.0 in let high = h.1 in omega (arith, ints, clamps)

-- values within their ranges are their own nearest
pub row_kept : (kind : FileKind) (values : List ℤ) → Fits kind (row_in kind values) → nearests (columns_of kind) values ≡ row_in kind values
row_kept kind values fit =
    ext_get_or (pos 0) (nearests (columns_of kind) values) (row_in kind values) (length_nearests 0 (columns_of kind) values ∙ sym fit.long)
    (λ i l.
    let m : i < width kind = omega (arith, length_nearests 0 (columns_of kind) values) in
    let is : get_or (row_in kind values) i (pos 0) ≡ get_or values i (pos 0) = get_or-take (width kind) values i (pos 0) m in
    nearest_at 0 (columns_of kind) values (full Gap) i m ∙ ap (λ j. nearest_in (range_at kind i) (get_or values j (pos 0))) (omega arith) ∙ stays (range_at kind i) (get_or values i (pos 0)) (subst (Within (range_at kind i)) is (fit.within i m)) ∙ sym is)

most_room : (b : Bool) (room : ℕ) → cond b (min 32 room) room ≤ room
most_room true room = omega arith
most_room false room = omega arith

-- no more rows are taken than the table has
pub within_room : (kind : FileKind) (room : ℕ) → most kind room ≤ room
within_room kind room = most_room (is_centers kind) room

-- what is read of a line whose end stands
module _ (kind other : FileKind) (order : List ℕ) (r s : Reader) (same : other ≡ kind) (ends : LineEnds r s) where
  said : (answer : Result (List ℤ) RowFault) → ValuesRead other order (column_number s) (fields_left s) answer → ValuesRead kind order 0 (fields_of ends.text) answer
  said answer read = subst (λ k. ValuesRead k order 0 (fields_of ends.text) answer) same (subst (λ fs. ValuesRead other order 0 fs answer) ends.fields (subst (λ n. ValuesRead other order n (fields_left s) answer) ends.start read))

  line_faulty : (f : RowFault) → LineFaulty kind order 0 (fields_of ends.text) f → LineWrong kind order (next_bytes r) f
  line_faulty Unended h = absurd h
  line_faulty Count h = (ends.text, next_bytes s, ends.split, ends.whole, h)
  line_faulty (Value column fault) h = (ends.text, next_bytes s, ends.split, ends.whole, h)

  pub line_wrong : (f : RowFault) → ValuesRead other order (column_number s) (fields_left s) (Err f) → LineWrong kind order (next_bytes r) f
  line_wrong f read = line_faulty f (said (Err f) read)

  pub line_right : (values row : List ℤ) (left : List ℕ) → ValuesRead other order (column_number s) (fields_left s) (Ok values) → row ≡ nearests (columns_of kind) values → left ≡ next_bytes s → (next_bytes r ≡ line_of (cells_in order row) ++ left) × Fits kind row
  line_right values row left read made after =
      let h = said (Ok values) read in
      let is : row ≡ row_in kind values = made ∙ row_kept kind values h.1 in
      (line_written (next_bytes r) ends.text left (cells_in order row) (ends.split ∙ ap (λ t. ends.text ++ 10 ∷ t) (sym after)) (h.0 ∙ ap (cells_in order) (sym is)), subst (Fits kind) (sym is) h.1)

-- what stands after the last row that was read is not empty
pub some_left : (rest : List ℕ) (ended : Bool) → Decides ended (rest ≡ []) → ended ≡ false → 0 < length rest
some_left [] ended h e = absurd (clash (sym e ∙ h.1 refl))
some_left (b ∷ rest) ended h e = omega arith

module _ {R : Type 0} (kind : FileKind) (fields : R → List ℤ) (order : List ℕ) (bytes rest : List ℕ) (old new : List R) (n : ℕ) (h : Filled kind fields order bytes rest old new n) (some : 0 < length rest) where
  pub stops_over : (f : FileFault) → RoomLeft kind n (length old) (Err f) → RowsRead kind fields order bytes old new (Err f)
  stops_over f p = (n, rest, h, some, subst (λ g. Ending kind order (length old) n rest (Some g)) (sym p.1) (over some p.0))

  pub stops_wrong : (line : ℕ) (after : List ℕ) (r : Result R RowFault) (f : Placed ℕ RowFault) → line ≡ n + 2 → n < most kind (length old) → LineRead kind fields order rest after r → Err f ≡ placed r line → RowsRead kind fields order bytes old new (Err (row_at f))
  stops_wrong line after (Ok row) f number l read e = cc
  stops_wrong line after (Err w) f number l read e =
      let same : record { place = line; fault = w } ≡ f = cc in
      subst (λ g. RowsRead kind fields order bytes old new (Err (row_at g))) same (n, rest, h, some, subst (λ m. Ending kind order (length old) n rest (Some (Row m w))) (sym number) (wrong l (read some)))
