use Rattle.std.proofs.Common.{ℕ, suc, ◌^◌, ◌<◌, ◌≤◌, List, length, ℤ, pos, negsuc, ◌≤ℤ◌, decimal, sym, refl, ap, ◌∙◌, arith}
use lib.Signed.{mag}
use Rattle.std.specs.Fmt.{signed_decimal}
use Rattle.std.proofs.lemmas.Int.{ints}
use Rattle.std.proofs.lemmas.Str.Parse.{digits_value_short}
use Rattle.std.proofs.lemmas.Fmt.{signed_decimal_injective, digits_value-decimal, digits_decimal, length-decimal-le}
use Rattle.value.specs.Spelling.{Spells, SpellingUnique, SpellingCovers}
use Rattle.value.proofs.Shapes.{own}

small : (bs : List ℕ) (z : ℤ) → Spells bs z → mag z < 2 ^ 63
small bs (pos n) h = omega (arith, h.small)
small bs (negsuc n) h = omega (arith, h.small)

pub unique : SpellingUnique
unique = (λ bs y z a b. signed_decimal_injective y z (small bs y a) (small bs z b) (sym a.text ∙ b.text), λ cs bs z a b. a.text ∙ sym b.text)

inside : (bs : List ℕ) (z : ℤ) → Spells bs z → (negsuc 99998 ≤ℤ z) × (z ≤ℤ pos 999999)
inside bs (pos n) h = let s = h.small in (omega (arith, ints), omega (arith, ints))
inside bs (negsuc n) h =
    let s : suc n < 10 ^ 6 = h.small in
    let l : length (decimal (suc n)) ≤ 5 = omega (arith, h.short, ap length h.text) in
    let v : suc n < 10 ^ 5 = omega (arith, digits_value-decimal own (suc n) (omega arith), digits_value_short own (decimal (suc n)) 5 (digits_decimal own (suc n) (omega arith)) l) in
    (omega (arith, ints), omega (arith, ints))

spelled : (z : ℤ) → negsuc 99998 ≤ℤ z → z ≤ℤ pos 999999 → Spells (signed_decimal z) z
spelled (pos n) l h = let s : n < 10 ^ 6 = omega (arith, ints) in record { text = refl; short = length-decimal-le 6 n (omega arith) s (omega arith); small = s }
spelled (negsuc n) l h = let s : suc n < 10 ^ 5 = omega (arith, ints) in record { text = refl; short = omega (arith, length-decimal-le 5 (suc n) (omega arith) s (omega arith)); small = omega arith }

pub covers : SpellingCovers
covers = (inside, spelled)
