-- A file has one outcome: it is cut at its line ends in one way, and what follows its right rows is said in one way.
use Rattle.std.proofs.Common.{◌≡◌, ℕ, zero, suc, ◌+◌, ◌<◌, ◌≤◌, List, [], ◌∷◌, ◌++◌, map, length, get_or, take, ℤ, pos, Some, None, Ok, Err, Option, Result, sym, refl, ap, ◌∙◌, subst, append_assoc, append-nil, arith}
use Rattle.std.specs.List.{AllByRecursion}
use Rattle.std.specs.Fmt.{signed_decimal}
use Rattle.std.proofs.lemmas.List.{length-append, length-map, length-take-le}
use Rattle.reader.specs.Fields.{Lacks, commas, fields_of}
use Rattle.reader.proofs.Cuts.{no_cut, cut_unique}
use Rattle.reader.proofs.Splits.{fields_commas}
use Rattle.faults.specs.declared.row.RowFault.{RowFault}
use Rattle.faults.specs.declared.row.RowFault.TheVariants.{Unended, Count, Value}
use Rattle.rows.specs.declared.kind.FileKind.{FileKind}
use Rattle.rows.specs.declared.order.Order.{Order}
use Rattle.rows.specs.Columns.{width}
use Rattle.rows.specs.Lines.{EachOnce, Fits, LineFaulty, cells_in, columns_in, names_in}
use Rattle.rows.proofs.Exact.{one_fault, one_order, one_row, right_passes}
use Rattle.rows.proofs.Named.{few}
use Rattle.rows.proofs.Plain.{cells_plain, commas_lack}
use Rattle.rows.proofs.Spelled.{order_once}
use Rattle.faults.specs.declared.file.FileFault.{FileFault}
use Rattle.faults.specs.declared.file.FileFault.TheVariants.{Names, Row}
use Rattle.files.specs.Format.{AcceptedExactly, Ending, LineWrong, OneOutcome, Outcome, Spelled, Unnamed, WithinLimits, ended, over, wrong, named, unnamed, line_of, lines_of, most, when_ended}
use Rattle.files.specs.Reads.{FileRead, Filled, NoOther, Read, RowsRead}
use Rattle.files.proofs.Headers.{line_first, names_split, names_whole}
use Rattle.files.proofs.Written.{within_room}

-- ---- one line

cells_whole : (kind : FileKind) (order : List ℕ) → EachOnce (width kind) order → (row : List ℤ) → Fits kind row → Lacks 10 (commas (cells_in order row))
cells_whole kind order each row fit = commas_lack 10 (cells_in order row) (cells_plain kind order each row fit 10 (λ e. omega arith) (λ d. omega (arith, d.0))) (λ e. omega arith)

cells_split : (kind : FileKind) (order : List ℕ) → EachOnce (width kind) order → (row : List ℤ) → Fits kind row → fields_of (commas (cells_in order row)) ≡ cells_in order row
cells_split kind order each row fit =
    let f = few kind in
    fields_commas (cells_in order row) (omega (arith, length-map order (λ c. signed_decimal (get_or row c (pos 0))), each.long)) (cells_plain kind order each row fit 44 (λ e. omega arith) (λ d. omega (arith, d.0)))

-- a line that writes a row is not wrong
line_passes : (kind : FileKind) (order : List ℕ) → EachOnce (width kind) order → (row : List ℤ) → Fits kind row → (rest after text end : List ℕ) (fault : RowFault) → rest ≡ line_of (cells_in order row) ++ after → rest ≡ text ++ 10 ∷ end → Lacks 10 text → LineFaulty kind order 0 (fields_of text) fault → ⊥
line_passes kind order each row fit rest after text end fault is split whole h =
    let c = cut_unique 10 text (commas (cells_in order row)) end after whole (cells_whole kind order each row fit) (sym split ∙ is ∙ line_first (cells_in order row) after) in
    right_passes kind order each 0 row fit fault (subst (λ fs. LineFaulty kind order 0 fs fault) (ap fields_of c.0 ∙ cells_split kind order each row fit) h)

not_wrong : (kind : FileKind) (order : List ℕ) → EachOnce (width kind) order → (row : List ℤ) → Fits kind row → (rest after : List ℕ) (fault : RowFault) → rest ≡ line_of (cells_in order row) ++ after → LineWrong kind order rest fault → ⊥
not_wrong kind order each row fit rest after Unended is h = no_cut 10 (commas (cells_in order row)) rest after h.1 (is ∙ line_first (cells_in order row) after)
not_wrong kind order each row fit rest after Count is h = line_passes kind order each row fit rest after h.0 h.1 Count is h.2 h.3 h.4
not_wrong kind order each row fit rest after (Value column fault) is h = line_passes kind order each row fit rest after h.0 h.1 (Value column fault) is h.2 h.3 h.4

one_line : (kind : FileKind) (order : List ℕ) (rest text end text' end' : List ℕ) (f g : RowFault) → rest ≡ text ++ 10 ∷ end → Lacks 10 text → LineFaulty kind order 0 (fields_of text) f → rest ≡ text' ++ 10 ∷ end' → Lacks 10 text' → LineFaulty kind order 0 (fields_of text') g → f ≡ g
one_line kind order rest text end text' end' f g split whole h split' whole' h' =
    let c = cut_unique 10 text text' end end' whole whole' (sym split ∙ split') in
    one_fault kind order 0 (fields_of text') f g (subst (λ t. LineFaulty kind order 0 (fields_of t) f) c.0 h) h'

one_wrong : (kind : FileKind) (order rest : List ℕ) (f g : RowFault) → LineWrong kind order rest f → LineWrong kind order rest g → f ≡ g
one_wrong kind order rest Unended Unended a b = refl
one_wrong kind order rest Unended Count a b = absurd (no_cut 10 b.0 rest b.1 a.1 b.2)
one_wrong kind order rest Unended (Value d g) a b = absurd (no_cut 10 b.0 rest b.1 a.1 b.2)
one_wrong kind order rest Count Unended a b = absurd (no_cut 10 a.0 rest a.1 b.1 a.2)
one_wrong kind order rest (Value c f) Unended a b = absurd (no_cut 10 a.0 rest a.1 b.1 a.2)
one_wrong kind order rest Count Count a b = refl
one_wrong kind order rest Count (Value d g) a b = one_line kind order rest a.0 a.1 b.0 b.1 Count (Value d g) a.2 a.3 a.4 b.2 b.3 b.4
one_wrong kind order rest (Value c f) Count a b = one_line kind order rest a.0 a.1 b.0 b.1 (Value c f) Count a.2 a.3 a.4 b.2 b.3 b.4
one_wrong kind order rest (Value c f) (Value d g) a b = one_line kind order rest a.0 a.1 b.0 b.1 (Value c f) (Value d g) a.2 a.3 a.4 b.2 b.3 b.4

wrong_some : (kind : FileKind) (order rest : List ℕ) (f : RowFault) → LineWrong kind order rest f → 0 < length rest
wrong_some kind order rest Unended h = h.0
wrong_some kind order rest Count h = omega (arith, ap length h.2, length-append h.0 (10 ∷ h.1))
wrong_some kind order rest (Value c f) h = omega (arith, ap length h.2, length-append h.0 (10 ∷ h.1))

-- ---- what follows the right rows

module _ (kind : FileKind) (order : List ℕ) (room : ℕ) where
  one_ending : (n : ℕ) (rest : List ℕ) (said other : Option FileFault) → Ending kind order room n rest said → Ending kind order room n rest other → said ≡ other
  one_ending n rest said other ended ended = refl
  one_ending n rest said other ended (over some full) = absurd (omega arith)
  one_ending n rest said other ended (wrong {fault = f} less h) = absurd (omega (arith, wrong_some kind order [] f h))
  one_ending n rest said other (over some full) ended = absurd (omega arith)
  one_ending n rest said other (over some full) (over some' full') = refl
  one_ending n rest said other (over some full) (wrong less h) = absurd (omega arith)
  one_ending n rest said other (wrong {fault = f} less h) ended = absurd (omega (arith, wrong_some kind order [] f h))
  one_ending n rest said other (wrong less h) (over some full) = absurd (omega arith)
  one_ending n rest said other (wrong {fault = f} less h) (wrong {fault = g} less' h') = ap (λ x. Some (Row (n + 2) x)) (one_wrong kind order rest f g h h')

  module _ (each : EachOnce (width kind) order) where
    -- where a right row still follows, and there is room for it, nothing can be said yet
    goes_further : (n : ℕ) (rest after : List ℕ) (row : List ℤ) (said : Option FileFault) → Fits kind row → n < most kind room → rest ≡ line_of (cells_in order row) ++ after → Ending kind order room n rest said → ⊥
    goes_further n rest after row said fit less is ended = omega (arith, ap length (is ∙ line_first (cells_in order row) after), length-append (commas (cells_in order row)) (10 ∷ after))
    goes_further n rest after row said fit less is (over some full) = omega arith
    goes_further n rest after row said fit less is (wrong {fault = f} less' h) = not_wrong kind order each row fit rest after f is h

    next : (row : List ℤ) (rows : List (List ℤ)) (rest : List ℕ) → lines_of order (row ∷ rows) ++ rest ≡ line_of (cells_in order row) ++ (lines_of order rows ++ rest)
    next row rows rest = append_assoc (line_of (cells_in order row)) (lines_of order rows) rest

    one_end : (n : ℕ) (rows others : List (List ℤ)) (rest rest' : List ℕ) (said other : Option FileFault) → AllByRecursion (Fits kind) rows → AllByRecursion (Fits kind) others → n + length rows ≤ most kind room → n + length others ≤ most kind room → lines_of order rows ++ rest ≡ lines_of order others ++ rest' → Ending kind order room (n + length rows) rest said → Ending kind order room (n + length others) rest' other → (rows ≡ others) × (said ≡ other)
    one_end n [] [] rest rest' said other a b l m e h h' = (refl, one_ending (n + 0) rest' said other (subst (λ t. Ending kind order room (n + 0) t said) e h) h')
    one_end n [] (q ∷ qs) rest rest' said other a b l m e h h' = absurd (goes_further (n + 0) rest (lines_of order qs ++ rest') q said b.0 (omega arith) (e ∙ next q qs rest') h)
    one_end n (r ∷ rs) [] rest rest' said other a b l m e h h' = absurd (goes_further (n + 0) rest' (lines_of order rs ++ rest) r other a.0 (omega arith) (sym e ∙ next r rs rest) h')
    one_end n (r ∷ rs) (q ∷ qs) rest rest' said other a b l m e h h' =
        let c = cut_unique 10 (commas (cells_in order r)) (commas (cells_in order q)) (lines_of order rs ++ rest) (lines_of order qs ++ rest') (cells_whole kind order each r a.0) (cells_whole kind order each q b.0) (sym (line_first (cells_in order r) (lines_of order rs ++ rest)) ∙ sym (next r rs rest) ∙ e ∙ next q qs rest' ∙ line_first (cells_in order q) (lines_of order qs ++ rest')) in
        let s : r ≡ q = one_row kind order each r q a.0 b.0 (sym (cells_split kind order each r a.0) ∙ ap fields_of c.0 ∙ cells_split kind order each q b.0) in
        let more : (k : ℕ) → n + suc k ≡ suc n + k = λ k. omega arith in
        let t = one_end (suc n) rs qs rest rest' said other a.1 b.1 (omega arith) (omega arith) c.1 (subst (λ k. Ending kind order room k rest said) (more (length rs)) h) (subst (λ k. Ending kind order room k rest' other) (more (length qs)) h') in
        ((λ i. s i ∷ t.0 i), t.1)

-- ---- the whole file

pub one_outcome : OneOutcome
one_outcome kind room bytes rows others said other (unnamed u) (unnamed u') = (refl, refl)
one_outcome kind room bytes rows others said other (unnamed u) (named {order = o} {rest = rest} {rows = rs} each text fits few end) = absurd (u (o, lines_of o rs ++ rest, each, text))
one_outcome kind room bytes rows others said other (named {order = o} {rest = rest} {rows = rs} each text fits few end) (unnamed u) = absurd (u (o, lines_of o rs ++ rest, each, text))
one_outcome kind room bytes rows others said other (named {order = o} {rest = r} {rows = rs} {said = s} each text fits few end) (named {order = p} {rest = q} {rows = qs} {said = t} each' text' fits' few' end') =
    let c = cut_unique 10 (commas (names_in kind o)) (commas (names_in kind p)) (lines_of o rs ++ r) (lines_of p qs ++ q) (names_whole kind o) (names_whole kind p) (sym (line_first (names_in kind o) (lines_of o rs ++ r)) ∙ sym text ∙ text' ∙ line_first (names_in kind p) (lines_of p qs ++ q)) in
    let same : p ≡ o = one_order kind p o each' each (sym (names_split kind p each') ∙ ap fields_of (sym c.0) ∙ names_split kind o each) in
    let zero_more : (n : ℕ) → n ≡ 0 + n = λ n. omega arith in
    one_end kind o room each 0 rs qs r q s t fits fits' (omega arith) (omega arith) (c.1 ∙ ap (λ x. lines_of x qs ++ q) same) (subst (λ n. Ending kind o room n r s) (zero_more (length rs)) end) (subst (λ n. Ending kind o room n q t) (zero_more (length qs)) (subst (λ x. Ending kind x room (length qs) q t) same end'))

-- a file that ends after some row is accepted, and no other
some_row : (kind : FileKind) (n : ℕ) → when_ended kind n ≡ None → 0 < n
some_row kind zero e = cc
some_row kind (suc n) e = omega arith

ends_well : (kind : FileKind) (order : List ℕ) (room n : ℕ) → 0 < n → Ending kind order room n [] None
ends_well kind order room zero l = absurd (omega arith)
ends_well kind order room (suc n) l = ended

not_zero : (n : ℕ) → (n ≡ 0 → ⊥) → 0 < n
not_zero zero h = absurd (h refl)
not_zero (suc n) h = omega arith

spelled_of : (kind : FileKind) (room : ℕ) (bytes : List ℕ) (rows : List (List ℤ)) (said : Option FileFault) → said ≡ None → Outcome kind room bytes rows said → Spelled kind bytes rows × WithinLimits kind room (length rows)
spelled_of kind room bytes rows said e (unnamed u) = cc
spelled_of kind room bytes rows said e (named {order = o} {rows = rs} each text fits few ended) = (record { order = o; each = each; text = text ∙ ap (λ t. line_of (names_in kind o) ++ t) (append-nil (lines_of o rs)); fits = fits }, (some_row kind (length rs) e, few))
spelled_of kind room bytes rows said e (named each text fits few (over some full)) = cc
spelled_of kind room bytes rows said e (named each text fits few (wrong less h)) = cc

pub accepted : AcceptedExactly
accepted kind room bytes rows = (
  spelled_of kind room bytes rows None refl,
  λ s limits. named s.each (s.text ∙ ap (λ t. line_of (names_in kind s.order) ++ t) (sym (append-nil (lines_of s.order rows)))) s.fits limits.1 (ends_well kind s.order room (length rows) limits.0),
)

-- ---- what the reading of a file says of it

module _ {R : Type 0} (kind : FileKind) (fields : R → List ℤ) (bytes : List ℕ) (old new : List R) (long : length new ≡ length old) where
  count : (n : ℕ) → n ≤ length old → length (map fields (take n new)) ≡ n
  count n l = length-map (take n new) fields ∙ length-take-le n new (omega arith)

  no_other_at : (n : ℕ) (said : Option FileFault) → Read kind fields bytes old new n said → (rows : List (List ℤ)) (other : Option FileFault) → Outcome kind (length old) bytes rows other → (said ≡ other) × (map fields (take (length rows) new) ≡ rows)
  no_other_at n said h rows other o =
      let one = one_outcome kind (length old) bytes (map fields (take n new)) rows said other h.outcome o in
      let n_is : n ≡ length rows = sym (count n h.room) ∙ ap length one.0 in
      (one.1, ap (λ k. map fields (take k new)) (sym n_is) ∙ one.0)

  pub no_other : (r : Result ℕ FileFault) → FileRead kind fields bytes old new r → NoOther kind fields bytes old new r
  no_other (Ok n) h = no_other_at n None h
  no_other (Err fault) h = no_other_at h.0 (Some fault) h.1

  -- the file begins with the names in this order
  module _ (o : Order) (left : List ℕ) (own : o.kind ≡ kind) (text : bytes ≡ line_of (names_in kind (columns_in o)) ++ left) where
    read_to : (n : ℕ) (rest : List ℕ) (said : Option FileFault) → Filled kind fields (columns_in o) left rest old new n → Ending kind (columns_in o) (length old) n rest said → Read kind fields bytes old new n said
    read_to n rest said h end =
        let c = count n (omega (arith, h.room, within_room kind (length old))) in
        record {
          outcome = named (subst (λ k. EachOnce (width k) (columns_in o)) own (order_once o)) (text ∙ ap (λ t. line_of (names_in kind (columns_in o)) ++ t) h.text) h.fits (subst (λ k. k ≤ most kind (length old)) (sym c) h.room) (subst (λ k. Ending kind (columns_in o) (length old) k rest said) (sym c) end);
          room = omega (arith, h.room, within_room kind (length old));
          others = h.others;
        }

    pub read_stopped : (f : FileFault) → RowsRead kind fields (columns_in o) left old new (Err f) → FileRead kind fields bytes old new (Err f)
    read_stopped f p = (p.0, read_to p.0 p.1 (Some f) p.2 p.4)

    pub read_empty : (n : ℕ) (f : FileFault) → RowsRead kind fields (columns_in o) left old new (Ok n) → n ≡ 0 → Some f ≡ when_ended kind 0 → FileRead kind fields bytes old new (Err f)
    read_empty n f p none said = (0, read_to 0 [] (Some f) (subst (Filled kind fields (columns_in o) left [] old new) none p) (subst (Ending kind (columns_in o) (length old) 0 []) (sym said) ended))

    pub read_all : (n : ℕ) → RowsRead kind fields (columns_in o) left old new (Ok n) → (n ≡ 0 → ⊥) → FileRead kind fields bytes old new (Ok n)
    read_all n p some = read_to n [] None p (ends_well kind (columns_in o) (length old) n (not_zero n some))

  -- the file does not begin with the names
  pub read_unnamed : Unnamed kind bytes → new ≡ old → FileRead kind fields bytes old new (Err Names)
  read_unnamed h kept = (0, record { outcome = unnamed h; room = omega arith; others = kept })
