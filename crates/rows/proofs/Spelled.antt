-- The fields of a line of values, from the left.
use Rattle.std.proofs.Common.{◌≡◌, ℕ, ◌+◌, ◌<◌, List, [], length, get_or, set, ℤ, pos, negsuc, Err, sym, ap, ◌∙◌, subst, arith, get_or-set_other, get_or-set_same, w32, SFits, to_z, of_z, below_more}
use Rattle.std.specs.Fmt.{signed_decimal}
use Rattle.std.proofs.lemmas.List.{ext_get_or, get_or_default, length-map, get_or-map, get_or-take, length-take-le}
use Rattle.std.proofs.lemmas.Int.{to_z-of_z}
use Rattle.value.specs.declared.range.ValueRange.{ValueRange}
use Rattle.value.specs.Ranges.{Within}
use Rattle.value.specs.Spelling.{Spells}
use Rattle.rows.specs.declared.column.Column.{Column}
use Rattle.faults.specs.declared.row.RowFault.{RowFault}
use Rattle.faults.specs.declared.row.RowFault.TheVariants.{Unended, Count, Value}
use Rattle.rows.specs.declared.kind.FileKind.{FileKind}
use Rattle.rows.specs.declared.name.Name.TheVariants.{Gap}
use Rattle.rows.specs.Cells.{CellFaulty, CellReadAt}
use Rattle.rows.specs.declared.order.Order.{Order}
use Rattle.rows.specs.Columns.{columns_of, width, range_at, full}
use Rattle.rows.specs.Lines.{EachOnce, Fits, columns_in, cells_in, row_in, Right, LineFaulty}
use Rattle.rows.proofs.Named.{few}
use Rattle.rows.proofs.Once.{stands}

-- the first k fields spell the values that are written in their columns
abbrev pub ReadSofar : FileKind → List ℕ → List (List ℕ) → ℕ → List ℤ → Type 0
ReadSofar kind order fields k values = (i : ℕ) → i < k →
    Spells (get_or fields i []) (get_or values (get_or order i 0) (pos 0)) × Within (range_at kind (get_or order i 0)) (get_or values (get_or order i 0) (pos 0))

fits : (bytes : List ℕ) (z : ℤ) → Spells bytes z → SFits w32 z
fits bytes (pos n) h = let small = h.small in record { sfits = omega arith }
fits bytes (negsuc n) h = let small = h.small in record { sfits = omega arith }

pub one_read : (kind : FileKind) (order : List ℕ) (fields : List (List ℕ)) (k : ℕ) (values : List ℤ) (z : ℤ) → EachOnce (width kind) order → k < width kind → length values ≡ 4 →
    ReadSofar kind order fields k values → Spells (get_or fields k []) z → Within (range_at kind (get_or order k 0)) z →
    ReadSofar kind order fields (k + 1) (set values (get_or order k 0) (to_z w32 (of_z w32 z)))
one_read kind order fields k values z each l four h spells within =
    let c = get_or order k 0 in
    let new = set values c (to_z w32 (of_z w32 z)) in
    let f = few kind in
    let is : get_or new c (pos 0) ≡ z = get_or-set_same values c _ (pos 0) (omega (arith, each.known k l)) ∙ to_z-of_z w32 z (fits _ z spells) in
    below_more (λ i. Spells (get_or fields i []) (get_or new (get_or order i 0) (pos 0)) × Within (range_at kind (get_or order i 0)) (get_or new (get_or order i 0) (pos 0))) k
    (λ i m. subst (λ v. Spells (get_or fields i []) v × Within (range_at kind (get_or order i 0)) v) (sym (get_or-set_other values c (get_or order i 0) _ (pos 0) (each.once i k m l))) (h i m))
    (subst (λ v. Spells (get_or fields k []) v × Within (range_at kind c) v) (sym is) (spells, within))

-- the fields before k are values of their columns
pub right_before : (kind : FileKind) (order : List ℕ) (fields : List (List ℕ)) (k : ℕ) (values : List ℤ) → ReadSofar kind order fields k values → (i : ℕ) → i < k → Right kind (get_or order i 0) (get_or fields i [])
right_before kind order fields k values h i l = (get_or values (get_or order i 0) (pos 0), (h i l).0, (h i l).1)

module _ (kind : FileKind) (order : List ℕ) (fields : List (List ℕ)) (values : List ℤ) (each : EachOnce (width kind) order) (h : ReadSofar kind order fields (width kind) values) where
  -- a value of the row
  in_row : (c : ℕ) → c < width kind → get_or (row_in kind values) c (pos 0) ≡ get_or values c (pos 0)
  in_row c l = get_or-take (width kind) values c (pos 0) l

  pub all_cells : length fields ≡ width kind → fields ≡ cells_in order (row_in kind values)
  all_cells long =
      ext_get_or [] fields (cells_in order (row_in kind values)) (long ∙ sym (length-map order (λ c. signed_decimal (get_or (row_in kind values) c (pos 0))) ∙ each.long))
      (λ i l. let m : i < width kind = omega arith in (h i m).0.text ∙ ap signed_decimal (sym (in_row (get_or order i 0) (each.known i m))) ∙ sym (get_or-map (λ c. signed_decimal (get_or (row_in kind values) c (pos 0))) order i 0 [] (omega (arith, each.long))))

  pub all_fit : length values ≡ 4 → Fits kind (row_in kind values)
  all_fit four =
      let f = few kind in
      record {
        long = length-take-le (width kind) values (omega arith);
        within = λ c l. let p = stands (width kind) order each c l in subst (Within (range_at kind c)) (sym (in_row c l)) (subst (λ d. Within (range_at kind d) (get_or values d (pos 0))) p.2 (h p.0 p.1).1);
      }

-- what the type of an order says of its columns
pub order_once : (o : Order) → EachOnce (width o.kind) (columns_in o)
order_once o =
    let n = width o.kind in
    let f = few o.kind in
    let is : (k : ℕ) → k < n → get_or (columns_in o) k 0 ≡ get_or o.at k 0 = λ k l. get_or-take n o.at k 0 l in
    record {
      long = length-take-le n o.at (omega (arith, o.long));
      known = λ k l. subst (λ c. c < n) (sym (is k l)) (o.known k l);
      once = λ i j less l e. o.once i j less l (sym (is i (omega arith)) ∙ e ∙ is j l);
    }

-- the range of a column, as it is read from the kind's table
pub range_read : (kind : FileKind) (columns : List Column) (c d : ℕ) (other : Column) → columns ≡ columns_of kind → d ≡ c → c < width kind → (get_or columns d other).range ≡ range_at kind c
range_read kind columns c d other e same l = (λ i. (get_or (e i) (same i) other).range) ∙ ap (λ x. x.range) (get_or_default (columns_of kind) c other (full Gap) l)

pub cell_right : (range range' : ValueRange) (bytes field : List ℕ) (z : ℤ) → Spells bytes z × Within range z → range ≡ range' → field ≡ bytes → Spells field z × Within range' z
cell_right range range' bytes field z h same is = (subst (λ t. Spells t z) (sym is) h.0, subst (λ x. Within x z) same h.1)

-- the field of place k is the first that is no value of its column
pub cell_wrong : (kind : FileKind) (order : List ℕ) (before : ℕ) (fields : List (List ℕ)) (k : ℕ) (range : ValueRange) (bytes : List ℕ) (place : ℕ) (f : RowFault) → CellReadAt range bytes place (Err f) → range ≡ range_at kind (get_or order k 0) → get_or fields k [] ≡ bytes → place ≡ before + k + 1 → k < width kind → length fields ≡ width kind → ((i : ℕ) → i < k → Right kind (get_or order i 0) (get_or fields i [])) → LineFaulty kind order before fields f
cell_wrong kind order before fields k range bytes place Unended h same is at l long right = absurd h
cell_wrong kind order before fields k range bytes place Count h same is at l long right = absurd h
cell_wrong kind order before fields k range bytes place (Value column fault) h same is at l long right = (k, h.0 ∙ at, l, long, right, subst (λ x. CellFaulty x (get_or fields k []) fault) same (subst (λ t. CellFaulty range t fault) (sym is) h.1))
