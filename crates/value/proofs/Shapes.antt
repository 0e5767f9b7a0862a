-- What the decimal text of a number looks like, and what digits write.
use Rattle.std.proofs.Common.{◌≡◌, ℕ, zero, suc, ◌^◌, ◌<◌, ◌≤◌, List, [], ◌∷◌, length, get_or, drop, ℤ, pos, negsuc, decimal, sym, ap, ◌∙◌, subst, ⊎_elim, arith}
use Rattle.std.specs.Str.Parse.{AllDigits, digits_value}
use Rattle.std.specs.Int.{IsInRange}
use Rattle.std.proofs.str.Laws.{order}
use Rattle.std.proofs.lemmas.List.{ext_get_or}
use Rattle.std.proofs.lemmas.Str.Parse.{IsNumeralModel, digits_value_short, numerals_by_value, tells_digits, digit_at}
use Rattle.std.proofs.lemmas.Fmt.{decimal_digit, decimal_nonempty, first_decimal, digits_decimal, decimal-digits_value}
use Rattle.value.specs.Spelling.{Writes, Spells}

pub own : IsNumeralModel (AllDigits 10) (digits_value 10)
own = numerals_by_value _ tells_digits

-- each byte of a number's text is a digit, and the first is not 0
pub digits_of : (ds : List ℕ) (n : ℕ) → Writes ds n → AllDigits 10 ds
digits_of ds n w = let small = w.small in subst (AllDigits 10) (sym w.text) (digits_decimal own n (omega arith))

pub some_of : (ds : List ℕ) (n : ℕ) → Writes ds n → 0 < length ds
some_of ds n w = let small = w.small in subst (λ l. 0 < length l) (sym w.text) (decimal_nonempty n (omega arith))

pub first_of : (ds : List ℕ) (n : ℕ) → Writes ds n → 48 < get_or ds 0 0
first_of ds n w = let small = w.small in subst (λ l. 48 < get_or l 0 0) (sym w.text) (first_decimal n w.some (omega arith))

pub digit_of : (ds : List ℕ) (n : ℕ) → Writes ds n → (i : ℕ) → i < length ds → IsInRange 48 57 (get_or ds i 0)
digit_of ds n w i h = digit_at ds i (digits_of ds n w) h

-- digits whose first is not 0 write a number
pub written : (ds : List ℕ) → AllDigits 10 ds → 0 < length ds → length ds ≤ 6 → 48 < get_or ds 0 0 → Writes ds (digits_value 10 ds)
written ds h some short first =
    let small : digits_value 10 ds < 10 ^ 6 = digits_value_short own ds 6 h short in
    let back : decimal (digits_value 10 ds) ≡ ds = decimal-digits_value own ds h some (λ e. absurd (omega arith)) (omega arith) in
    record {
      text = sym back;
      some = ⊎_elim (λ p. p) (λ p. let z : digits_value 10 ds ≡ 0 = omega arith in let f : get_or ds 0 0 ≡ 48 = ap (λ l. get_or l 0 0) (sym back ∙ ap decimal z ∙ decimal_digit 0 (omega arith)) in absurd (omega arith)) (order 0 (digits_value 10 ds));
      small = small;
    }

-- the byte 0 spells the value 0
pub zero_spells : (bs : List ℕ) → get_or bs 0 0 ≡ 48 → length bs ≡ 1 → Spells bs (pos 0)
zero_spells bs e l = record { text = ext_get_or 0 bs (48 ∷ []) l (λ i h. let z : i ≡ 0 = omega arith in ap (λ k. get_or bs k 0) z ∙ e ∙ sym (ap (λ k. get_or (48 ∷ []) k 0) z)) ∙ sym (decimal_digit 0 (omega arith)); short = omega arith; small = omega arith }

-- bytes that are neither 0, nor a minus and a number, nor a number, spell no value
pub no_shape : (bs : List ℕ) → (get_or bs 0 0 ≡ 48 → length bs ≡ 1 → ⊥) → (0 < length bs → get_or bs 0 0 ≡ 45 → (n : ℕ) → Writes (drop 1 bs) n → ⊥) → ((n : ℕ) → Writes bs n → ⊥) → (z : ℤ) → Spells bs z → ⊥
no_shape bs a b d (pos zero) h = a (ap (λ l. get_or l 0 0) (h.text ∙ decimal_digit 0 (omega arith))) (ap length (h.text ∙ decimal_digit 0 (omega arith)))
no_shape bs a b d (pos (suc n)) h = d (suc n) (record { text = h.text; some = omega arith; small = h.small })
no_shape bs a b d (negsuc n) h = let small = h.small in let e = h.text in b (simp e (omega arith)) (ap (λ l. get_or l 0 0) e) (suc n) (record { text = ap (λ l. drop 1 l) e; some = omega arith; small = small })
