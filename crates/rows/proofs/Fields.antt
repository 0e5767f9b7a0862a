-- Fields that are taken one by one from the left.
use Rattle.std.proofs.Common.{◌≡◌, ℕ, Option, Some, None, refl, ◌+◌, ◌<◌, List, [], ◌∷◌, length, get_or, drop, inl, inr}
use Rattle.std.specs.Prelude.{IsSome}
use Rattle.reader.specs.declared.cursor.Reader.{Reader}
use Rattle.reader.specs.declared.token.Token.{Token}
use Rattle.reader.specs.declared.token.Token.TheVariants.{Name, Value}
use Rattle.reader.specs.Steps.{Lent, NameLent, ValueLent, field_of, fields_left}
use Rattle.std.proofs.lemmas.List.{drop_more, drop_all}
use Rattle.std.proofs.lemmas.Bool.{cases_lt}

pub next_field : (fields : List (List ℕ)) (k : ℕ) (field : List ℕ) (rest : List (List ℕ)) → drop k fields ≡ field ∷ rest → (get_or fields k [] ≡ field) × (drop (k + 1) fields ≡ rest)
next_field fields k field rest e =
    elim (cases_lt k (length fields)) [
      | inl l ↦ let d = drop_more fields k [] l in (cc, cc)
      | inr l ↦ let d = drop_all k fields l in cc
    ]

-- what the reader says of a token that it lends as a name, and as a value
pub name_lent : (r : Reader) (t : Token) (s : Reader) → NameLent r (Some t) s → Lent r (field_of t) s
name_lent r (Name field) s h = h
name_lent r (Value field) s h = absurd h

pub value_lent : (r : Reader) (t : Token) (s : Reader) → ValueLent r (Some t) s → Lent r (field_of t) s
value_lent r (Name field) s h = absurd h
value_lent r (Value field) s h = h

-- as long as fields are left, the reader lends one
pub value_there : (fields : List (List ℕ)) (k : ℕ) (r s : Reader) (o : Option Token) → ValueLent r o s → drop k fields ≡ fields_left r → k < length fields → IsSome o
value_there fields k r s None h e l = let d = drop_more fields k [] l in let none = h.0 in cc
value_there fields k r s (Some t) h e l = refl
