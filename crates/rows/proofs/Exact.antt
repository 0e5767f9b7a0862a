-- The laws of a line: what its fields say, they say of one row or of one fault.
use Rattle.std.proofs.Common.{◌≡◌, ℕ, ◌+◌, ◌<◌, List, [], length, get_or, ℤ, pos, negsuc, ◌≤ℤ◌, sym, refl, ap, ◌∙◌, subst, inl, inr, arith, rules}
use Rattle.std.specs.Fmt.{signed_decimal}
use Rattle.std.specs.List.{AllByRecursion}
use Rattle.std.proofs.ByRecursion.{All-get_or}
use Rattle.std.proofs.lemmas.List.{ext_get_or, length-map, get_or-map}
use Rattle.std.proofs.lemmas.Int.{ints}
use Rattle.std.proofs.lemmas.Bool.{cases_order}
use Rattle.value.specs.declared.fault.ValueFault.{ValueFault}
use Rattle.value.specs.declared.fault.ValueFault.TheVariants.{NotAValue, OutOfRange}
use Rattle.value.specs.declared.range.ValueRange.{ValueRange}
use Rattle.value.specs.Ranges.{Within}
use Rattle.value.specs.Spelling.{Spells}
use Rattle.value.proofs.Laws.{unique, covers}
use Rattle.rows.specs.declared.column.Column.{Column}
use Rattle.faults.specs.declared.row.RowFault.TheVariants.{Unended, Count, Value}
use Rattle.rows.specs.declared.kind.FileKind.{FileKind}
use Rattle.rows.specs.declared.kind.FileKind.TheVariants.{DriveRecords, TelegramRecords, DriveCenters, TelegramCenters}
use Rattle.rows.specs.declared.name.Name.TheVariants.{Gap}
use Rattle.rows.specs.Cells.{CellFaulty}
use Rattle.rows.specs.Columns.{columns_of, width, range_at, full}
use Rattle.rows.specs.Lines.{EachOnce, Fits, cells_in, names_in, Right, RightLinesPass, OneFirstFault, OneRow, OneOrder}
use Rattle.rows.proofs.Named.{name_there, found_there}
use Rattle.rows.proofs.Once.{stands}

-- the values of the column's range are among those that have a spelling
abbrev Narrow : Column → Type 0
Narrow column = (negsuc 99998 ≤ℤ column.range.least) × (column.range.greatest ≤ℤ pos 999999)

narrow_all : (kind : FileKind) → AllByRecursion Narrow (columns_of kind)
narrow_all DriveRecords = search rules
narrow_all TelegramRecords = search rules
narrow_all DriveCenters = search rules
narrow_all TelegramCenters = search rules

-- every value of a column's range has a spelling
pub value_spelled : (kind : FileKind) (c : ℕ) (z : ℤ) → Within (range_at kind c) z → c < width kind → Spells (signed_decimal z) z
value_spelled kind c z within l =
    let n = All-get_or Narrow (columns_of kind) c (full Gap) l (narrow_all kind) in
    covers.1 z (omega (arith, ints, n.0, within.0)) (omega (arith, ints, n.1, within.1))

-- every value of a row has a spelling
pub row_spelled : (kind : FileKind) (row : List ℤ) → Fits kind row → (c : ℕ) → c < width kind → Spells (signed_decimal (get_or row c (pos 0))) (get_or row c (pos 0))
row_spelled kind row fit c l = value_spelled kind c (get_or row c (pos 0)) (fit.within c l) l

-- a field of a row's line
cell_is : (order : List ℕ) (row : List ℤ) (i : ℕ) → i < length order → get_or (cells_in order row) i [] ≡ signed_decimal (get_or row (get_or order i 0) (pos 0))
cell_is order row i l = get_or-map (λ c. signed_decimal (get_or row c (pos 0))) order i 0 [] l

-- it is a value of its column
pub right_at : (kind : FileKind) (order : List ℕ) → EachOnce (width kind) order → (row : List ℤ) → Fits kind row → (i : ℕ) → i < width kind → Right kind (get_or order i 0) (get_or (cells_in order row) i [])
right_at kind order each row fit i l =
    let c = get_or order i 0 in
    let m = each.known i l in
    (get_or row c (pos 0), subst (λ t. Spells t (get_or row c (pos 0))) (sym (cell_is order row i (omega (arith, each.long)))) (row_spelled kind row fit c m), fit.within c m)

-- two rows of one line have one text in each column, since each column stands in the line
same_texts : (n : ℕ) (order : List ℕ) → EachOnce n order → (row other : List ℤ) → cells_in order row ≡ cells_in order other → (c : ℕ) → c < n → signed_decimal (get_or row c (pos 0)) ≡ signed_decimal (get_or other c (pos 0))
same_texts n order each row other e c l =
    let p = stands n order each c l in
    let i : p.0 < length order = omega (arith, each.long, p.1) in
    subst (λ d. signed_decimal (get_or row d (pos 0)) ≡ signed_decimal (get_or other d (pos 0))) p.2 (sym (cell_is order row p.0 i) ∙ ap (λ fs. get_or fs p.0 []) e ∙ cell_is order other p.0 i)

-- a value of the column has no fault
right_cell : (kind : FileKind) (c : ℕ) (field : List ℕ) (fault : ValueFault) → Right kind c field → CellFaulty (range_at kind c) field fault → ⊥
right_cell kind c field NotAValue right wrong = wrong right.0 right.1
right_cell kind c field OutOfRange right wrong = wrong.2 (subst (Within (range_at kind c)) (unique.0 field right.0 wrong.0 right.1 wrong.1) right.2)

-- a field has one fault
one_cell_fault : (range : ValueRange) (field : List ℕ) (f g : ValueFault) → CellFaulty range field f → CellFaulty range field g → f ≡ g
one_cell_fault range field NotAValue NotAValue a b = refl
one_cell_fault range field NotAValue OutOfRange a b = absurd (a b.0 b.1)
one_cell_fault range field OutOfRange NotAValue a b = absurd (b a.0 a.1)
one_cell_fault range field OutOfRange OutOfRange a b = refl

pub right_passes : RightLinesPass
right_passes kind order each before row fit Unended h = h
right_passes kind order each before row fit Count h = h (length-map order (λ c. signed_decimal (get_or row c (pos 0))) ∙ each.long)
right_passes kind order each before row fit (Value column fault) h = right_cell kind (get_or order h.0 0) (get_or (cells_in order row) h.0 []) fault (right_at kind order each row fit h.0 h.2) h.5

pub one_fault : OneFirstFault
one_fault kind order before fields Unended g a b = absurd a
one_fault kind order before fields Count Unended a b = absurd b
one_fault kind order before fields Count Count a b = refl
one_fault kind order before fields Count (Value d g) a b = absurd (a b.3)
one_fault kind order before fields (Value c f) Unended a b = absurd b
one_fault kind order before fields (Value c f) Count a b = absurd (b a.3)
one_fault kind order before fields (Value c f) (Value d g) a b =
    elim (cases_order a.0 b.0) [
      | inl same ↦
          let place : c ≡ d = a.1 ∙ ap (λ k. before + k + 1) same ∙ sym b.1 in
          let fault : f ≡ g = one_cell_fault (range_at kind (get_or order b.0 0)) (get_or fields b.0 []) f g (subst (λ k. CellFaulty (range_at kind (get_or order k 0)) (get_or fields k []) f) same a.5) b.5 in
          λ i. Value (place i) (fault i)
      | inr (inl less) ↦ absurd (right_cell kind (get_or order a.0 0) (get_or fields a.0 []) f (b.4 a.0 less) a.5)
      | inr (inr more) ↦ absurd (right_cell kind (get_or order b.0 0) (get_or fields b.0 []) g (a.4 b.0 more) b.5)
    ]

-- values that are spelled alike are the same
same_value : (y z : ℤ) → Spells (signed_decimal y) y → Spells (signed_decimal z) z → signed_decimal y ≡ signed_decimal z → y ≡ z
same_value y z a b e = unique.0 (signed_decimal y) y z a (subst (λ t. Spells t z) (sym e) b)

pub one_row : OneRow
one_row kind order each row other fit fit' e =
    ext_get_or (pos 0) row other (fit.long ∙ sym fit'.long)
    (λ c l. let m : c < width kind = omega (arith, fit.long) in same_value (get_or row c (pos 0)) (get_or other c (pos 0)) (row_spelled kind row fit c m) (row_spelled kind other fit' c m) (same_texts (width kind) order each row other e c m))

pub one_order : OneOrder
one_order kind order other each each' e =
    ext_get_or 0 order other (each.long ∙ sym each'.long)
    (λ i l. let m : i < width kind = omega (arith, each.long) in found_there kind (names_in kind order) other each' e i (get_or order i 0) m (each.known i m) (name_there kind (names_in kind order) order each refl i m))
