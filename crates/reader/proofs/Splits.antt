-- A text and its fields.
use Rattle.std.proofs.Common.{◌≡◌, ℕ, zero, suc, ◌+◌, ◌<◌, false, eqb, List, [], ◌∷◌, ◌++◌, length, count_by, refl, ap, ◌∙◌, arith}
use Rattle.std.specs.List.{All, AllByRecursion, onto_first}
use Rattle.std.proofs.lemmas.List.Elements.{All-from_get_or}
use Rattle.std.proofs.lemmas.List.Splits.{slice_split_none, slice_split_at, length-slice_split, join_with_byte-slice_split}
use Rattle.std.proofs.lemmas.Bool.{cond_both, ne_eqb, eqb-false}
use Rattle.reader.specs.Fields.{Lacks, commas, fields_of, FieldsExactly}

-- a text has one field more than commas
pub fields_count : (text : List ℕ) → length (fields_of text) ≡ count_by (λ b. eqb b 44) text + 1
fields_count text = length-slice_split _ text

no_comma : (bs : List ℕ) → Lacks 44 bs → All (λ x. eqb x 44 ≡ false) bs
no_comma bs h = All-from_get_or (λ x. eqb x 44 ≡ false) bs 0 (λ k l. ne_eqb _ 44 (h k l))

-- a text with no comma is one field
pub fields_last : (f : List ℕ) → Lacks 44 f → fields_of f ≡ f ∷ []
fields_last f h = slice_split_none _ f (no_comma f h)

-- what stands before the first comma is the first field
pub fields_cut : (f rest : List ℕ) → Lacks 44 f → fields_of (f ++ 44 ∷ rest) ≡ f ∷ fields_of rest
fields_cut f rest h = slice_split_at _ f 44 rest (no_comma f h) refl

-- one more byte in front that is no comma
lacks_front : (x : ℕ) (p : List ℕ) → (x ≡ 44 → ⊥) → Lacks 44 p → Lacks 44 (x ∷ p)
lacks_front x p ne h zero l e = ne e
lacks_front x p ne h (suc k) l e = h k (omega arith) e

-- a byte that is no comma, in front of fields that have none
onto_lack : (b : ℕ) (fs : List (List ℕ)) → (b ≡ 44 → ⊥) → AllByRecursion (Lacks 44) fs → AllByRecursion (Lacks 44) (onto_first b fs)
onto_lack b [] ne h = (lacks_front b [] ne (λ k l e. omega arith), h)
onto_lack b (f ∷ fs) ne h = (lacks_front b f ne h.0, h.1)

-- no field has a comma
pub fields_lack : (text : List ℕ) → AllByRecursion (Lacks 44) (fields_of text)
fields_lack [] = (λ k l e. omega arith, tt)
fields_lack (b ∷ bs) =
    cond_both (eqb b 44) ([] ∷ fields_of bs) (onto_first b (fields_of bs)) (AllByRecursion (Lacks 44))
    (λ _. (λ k l e. omega arith, fields_lack bs))
    (λ e. onto_lack b (fields_of bs) (eqb-false b 44 e) (fields_lack bs))

-- the fields with commas between them are their text
pub commas_fields : (text : List ℕ) → commas (fields_of text) ≡ text
commas_fields text = join_with_byte-slice_split 44 text

-- fields with commas between them are the fields of that text
pub fields_commas : (fs : List (List ℕ)) → 0 < length fs → AllByRecursion (Lacks 44) fs → fields_of (commas fs) ≡ fs
fields_commas [] l h = absurd (omega arith)
fields_commas (f ∷ []) l h = fields_last f h.0
fields_commas (f ∷ g ∷ fs) l h = fields_cut f (commas (g ∷ fs)) h.0 ∙ ap (λ t. f ∷ t) (fields_commas (g ∷ fs) (omega arith) h.1)

-- the law of the fields
pub fields_exactly : FieldsExactly
fields_exactly = (λ text. (commas_fields text, fields_lack text, omega (arith, fields_count text)), fields_commas)
