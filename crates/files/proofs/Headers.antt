-- The line of names at the front of a file.
use Rattle.std.proofs.Common.{◌≡◌, ℕ, List, [], ◌∷◌, ◌++◌, is_some, true, is_ok, Some, None, Ok, Err, Result, Decides, Option, sym, refl, ap, ◌∙◌, subst, append_assoc, arith}
use borrow.Author.Tests.{clash}
use Rattle.std.proofs.lemmas.List.{length-map}
use Rattle.reader.specs.declared.cursor.Reader.{Reader}
use Rattle.reader.specs.declared.lines.NoLine.{NoLine}
use Rattle.reader.specs.Steps.{LineEnds, LineStep, fields_left, next_bytes}
use Rattle.reader.specs.Fields.{Lacks, commas, fields_of}
use Rattle.reader.proofs.Cuts.{cut_unique}
use Rattle.reader.proofs.Splits.{commas_fields, fields_commas}
use Rattle.rows.specs.declared.kind.FileKind.{FileKind}
use Rattle.rows.specs.declared.order.Order.{Order}
use Rattle.rows.specs.Columns.{width, name_at}
use Rattle.rows.specs.Lines.{EachOnce, NamesRead, columns_in, names_in}
use Rattle.rows.proofs.Named.{few}
use Rattle.rows.proofs.Plain.{commas_lack, names_plain}
use Rattle.rows.proofs.Spelled.{order_once}
use Rattle.files.specs.Format.{Named, line_of}
use Rattle.files.specs.Reads.{HeaderRead}

-- a line before the rest of a file
pub line_first : (fields : List (List ℕ)) (rest : List ℕ) → line_of fields ++ rest ≡ commas fields ++ 10 ∷ rest
line_first fields rest = append_assoc (commas fields) (10 ∷ []) rest

pub names_whole : (kind : FileKind) (order : List ℕ) → Lacks 10 (commas (names_in kind order))
names_whole kind order = commas_lack 10 (names_in kind order) (names_plain kind order 10 (omega arith)) (λ e. omega arith)

pub names_split : (kind : FileKind) (order : List ℕ) → EachOnce (width kind) order → fields_of (commas (names_in kind order)) ≡ names_in kind order
names_split kind order each =
    let f = few kind in
    fields_commas (names_in kind order) (omega (arith, length-map order (name_at kind), each.long)) (names_plain kind order 44 (omega arith))

-- the first line, where the file begins with the names
pub first_line : (kind : FileKind) (bytes text after : List ℕ) → bytes ≡ text ++ 10 ∷ after → Lacks 10 text → (n : Named kind bytes) → fields_of text ≡ names_in kind n.0
first_line kind bytes text after split whole n =
    let c = cut_unique 10 text (commas (names_in kind n.0)) after n.1 whole (names_whole kind n.0) (sym split ∙ n.3 ∙ line_first (names_in kind n.0) n.1) in
    ap fields_of c.0 ∙ names_split kind n.0 n.2

-- the fields of a line are its text
pub line_written : (bytes text after : List ℕ) (fields : List (List ℕ)) → bytes ≡ text ++ 10 ∷ after → fields_of text ≡ fields → bytes ≡ line_of fields ++ after
line_written bytes text after fields split e = split ∙ ap (λ t. t ++ 10 ∷ after) (sym (commas_fields text) ∙ ap commas e) ∙ sym (line_first fields after)

-- where a line with its end came next, the reader stands at its start
pub line_taken : (r s : Reader) (next : Result (Unit {0}) NoLine) → LineStep r next s → true ≡ is_ok next → LineEnds r s
line_taken r s (Ok u) h e = h
line_taken r s (Err why) h e = cc

pub header_read : (kind : FileKind) (r s : Reader) (left : List ℕ) (o : Option Order) → LineEnds r s → NamesRead kind (fields_left s) o → left ≡ next_bytes s → HeaderRead kind (next_bytes r) left o
header_read kind r s left (Some o) ends h same = (h.0, line_written (next_bytes r) ends.text left (names_in kind (columns_in o)) (ends.split ∙ ap (λ t. ends.text ++ 10 ∷ t) (sym same)) (sym ends.fields ∙ h.1))
header_read kind r s left None ends h same = λ n. h n.0 n.2 (ends.fields ∙ first_line kind (next_bytes r) ends.text (next_bytes s) ends.split ends.whole n)

pub names_decide : (kind : FileKind) (bytes left : List ℕ) (o : Option Order) → HeaderRead kind bytes left o → Decides (is_some o) (Named kind bytes)
names_decide kind bytes left (Some o) h = (λ _. (columns_in o, left, subst (λ k. EachOnce (width k) (columns_in o)) h.0 (order_once o), h.1), λ _. refl)
names_decide kind bytes left None h = (λ e. absurd (clash e), λ n. absurd (h n))
