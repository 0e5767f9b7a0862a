-- How a value is written.
use Rattle.std.specs.Prelude.{◌≡◌, ℕ, ◌^◌, ◌<◌, ◌≤◌, List, length, ℤ, pos, negsuc, ◌≤ℤ◌, decimal, Result, MatchResult, unsigned_abs}
use Rattle.std.specs.Fmt.{signed_decimal}
use Rattle.value.specs.declared.fault.ValueFault.{ValueFault}
use Rattle.value.specs.declared.fault.ValueFault.TheVariants.{NotAValue}

-- The bytes are the decimal text of z, in at most six bytes. The text of a number is what `{}` prints of it:
-- no sign but a minus, no leading 0.
pub record Spells (bytes : List ℕ) (z : ℤ) : Type 0 where
  pub text : bytes ≡ signed_decimal z
  pub short : length bytes ≤ 6
  pub small : unsigned_abs z < 10 ^ 6

-- a value just where the bytes spell it, and the fault just where they spell none
abbrev pub ReadExactly : List ℕ → Result ℤ ValueFault → Type 0
ReadExactly bytes r = MatchResult r (λ z. Spells bytes z) (λ f. (f ≡ NotAValue) × ((z : ℤ) → Spells bytes z → ⊥))

-- The digits are the decimal text of n, which is not 0.
pub record Writes (digits : List ℕ) (n : ℕ) : Type 0 where
  pub text : digits ≡ decimal n
  pub some : 0 < n
  pub small : n < 10 ^ 6

-- bytes spell at most one value, and a value has at most one spelling
abbrev pub SpellingUnique : Type 0
SpellingUnique =
    ((bytes : List ℕ) (y z : ℤ) → Spells bytes y → Spells bytes z → y ≡ z)
    × ((bytes others : List ℕ) (z : ℤ) → Spells bytes z → Spells others z → bytes ≡ others)

-- the values that have a spelling are -99999 to 999999
abbrev pub SpellingCovers : Type 0
SpellingCovers =
    ((bytes : List ℕ) (z : ℤ) → Spells bytes z → (negsuc 99998 ≤ℤ z) × (z ≤ℤ pos 999999))
    × ((z : ℤ) → negsuc 99998 ≤ℤ z → z ≤ℤ pos 999999 → Spells (signed_decimal z) z)
