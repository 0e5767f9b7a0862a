-- The fields of a text: what stands between its commas.
use Rattle.std.specs.Prelude.{◌≡◌, ℕ, ◌<◌, List, ◌∷◌, ◌++◌, length, Some, None, Option, ◌==◌, ◌≢◌, slice_index}
use Rattle.std.specs.Borrow.{Bor}
use Rattle.std.specs.List.{AllByRecursion, join_with_byte, slice_split}

-- no byte of bs is b
abbrev pub Lacks : ℕ → List ℕ → Type 0
Lacks b bs = (k : ℕ) → k < length bs → slice_index bs k ≢ b

-- the two parts stand before and behind the first b of bs; or no byte is b
abbrev pub CutOnce : List ℕ → ℕ → Option (Bor (List ℕ) × Bor (List ℕ)) → Type 0
CutOnce bs b (Some parts) = (bs ≡ parts.0.now ++ b ∷ parts.1.now) × Lacks b parts.0.now
CutOnce bs b None = Lacks b bs

-- fields written with commas between them
abbrev pub commas : List (List ℕ) → List ℕ
commas fields = join_with_byte 44 fields

-- what stands between the commas of a text: always one field or more
abbrev pub fields_of : List ℕ → List (List ℕ)
fields_of text = slice_split (λ b. b == 44) text

-- A text is its fields with commas between them, no field has a comma, and there is one at least; and these fields are
-- the only ones of which that holds.
abbrev pub FieldsExactly : Type 0
FieldsExactly =
    ((text : List ℕ) → (commas (fields_of text) ≡ text) × AllByRecursion (Lacks 44) (fields_of text) × (0 < length (fields_of text)))
    × ((fs : List (List ℕ)) → 0 < length fs → AllByRecursion (Lacks 44) fs → fields_of (commas fs) ≡ fs)
