-- What groups cost, as the code computes it in 64 bits.
use Rattle.std.proofs.Common.{◌≡◌, ℕ, suc, ◌+◌, ◌<◌, ◌≤◌, List, [], ◌∷◌, ◌++◌, length, get_or, take, ℤ, pos, ◌+ℤ◌, ◌-ℤ◌, ◌*ℤ◌, sym, refl, ap, ◌∙◌, subst, arith, w64, SFits, to_z, of_z}
use Rattle.std.specs.declared.ops.Range.{Range}
use Rattle.std.specs.Int.{int_wrap}
use Rattle.std.specs.Iterator.{Drains}
use Rattle.std.specs.List.{FoldsTo}
use Rattle.std.proofs.iter.Yields.{nat_range_steps}
use Rattle.std.proofs.lemmas.List.{take_more, length-take-le}
use Rattle.std.proofs.lemmas.Int.{to_z-of_z, SFits-int_wrap, int_wrap-add_left, int_wrap-add_right, int_wrap-sub_right, int_wrap-add_same}
use Rattle.numbers.specs.Sums.{summed_from}
use Rattle.numbers.proofs.Quote.{solve, quotes}
use Rattle.numbers.proofs.Ring.{lin}
use Rattle.grouping.specs.Rounding.{axis_cost}
use Rattle.walk.proofs.Adding.{wrapped_twice}
use Rattle.walk.proofs.Folding.{folded}
use denote.Param.Members.{Mut, Called}

-- an axis: w (x x) - s (x + x)
pub axis_wrapped : (s w x : ℤ) → int_wrap w64 (int_wrap w64 (w *ℤ (x *ℤ x)) -ℤ int_wrap w64 (s *ℤ (x +ℤ x))) ≡ int_wrap w64 (axis_cost s w x)
axis_wrapped s w x =
    let i : w *ℤ (x *ℤ x) -ℤ s *ℤ (x +ℤ x) ≡ axis_cost s w x = solve (w ∷ x ∷ s ∷ []) (search quotes depth 30 fits 20000) tt in
    int_wrap-sub_right w64 (int_wrap w64 (w *ℤ (x *ℤ x))) (s *ℤ (x +ℤ x)) ∙ int_wrap-add_left w64 (w *ℤ (x *ℤ x)) _ ∙ ap (int_wrap w64) i

-- ---- sums over a list, one element after the other

from_push : {X : Type 0} (f : ℕ → X → ℤ) (k : ℕ) (xs : List X) (x : X) → summed_from f k (xs ++ x ∷ []) ≡ summed_from f k xs +ℤ f (k + length xs) x
from_push f k [] x =
    let e : k + 0 ≡ k = omega arith in
    let one : f k x +ℤ pos 0 ≡ pos 0 +ℤ f k x = omega (arith, lin) in
    one ∙ ap (λ n. pos 0 +ℤ f n x) (sym e)
from_push f k (y ∷ xs) x =
    let e : suc k + length xs ≡ k + suc (length xs) = omega arith in
    let last = from_push f (suc k) xs x ∙ ap (λ n. summed_from f (suc k) xs +ℤ f n x) e in
    let regroup : f k y +ℤ (summed_from f (suc k) xs +ℤ f (k + suc (length xs)) x) ≡ f k y +ℤ summed_from f (suc k) xs +ℤ f (k + suc (length xs)) x = omega (arith, lin) in
    ap (λ z. f k y +ℤ z) last ∙ regroup

from_more : {X : Type 0} (f : ℕ → X → ℤ) (xs : List X) (i : ℕ) (d : X) → i < length xs → summed_from f 0 (take (i + 1) xs) ≡ summed_from f 0 (take i xs) +ℤ f i (get_or xs i d)
from_more f xs i d l =
    let n : 0 + length (take i xs) ≡ i = omega (arith, length-take-le i xs (omega arith)) in
    ap (summed_from f 0) (take_more xs i d l) ∙ from_push f 0 (take i xs) (get_or xs i d) ∙ ap (λ j. summed_from f 0 (take i xs) +ℤ f j (get_or xs i d)) n

-- the code's turn: what is added is congruent to the next element
pub turn_wrapped : {X : Type 0} (f : ℕ → X → ℤ) (xs : List X) (i : ℕ) (d : X) (base old y new : ℤ) → i < length xs → int_wrap w64 old ≡ int_wrap w64 (base +ℤ summed_from f 0 (take i xs)) → int_wrap w64 y ≡ int_wrap w64 (f i (get_or xs i d)) → new ≡ int_wrap w64 (old +ℤ y) →
    int_wrap w64 new ≡ int_wrap w64 (base +ℤ summed_from f 0 (take (i + 1) xs))
turn_wrapped f xs i d base old y new l a b c =
    let s = base +ℤ summed_from f 0 (take i xs) in
    let z = f i (get_or xs i d) in
    ap (int_wrap w64) c ∙ sym (wrapped_twice (old +ℤ y)) ∙ int_wrap-add_same w64 old s y a ∙ sym (int_wrap-add_right w64 s y) ∙ ap (λ v. int_wrap w64 (s +ℤ v)) b ∙ int_wrap-add_right w64 s z ∙ ap (int_wrap w64) (omega (arith, lin, from_more f xs i d l))

-- the code's fold over the first n elements, where what each adds is congruent to the element's
module _ {F X : Type 0} (g : Mut F (ℤ × (ℕ × Unit {0})) ℤ) (f : F) (h : ℕ → X → ℤ) (xs : List X) (d : X) (n : ℕ) (base : ℤ) (within : n ≤ length xs) (fits : SFits w64 base)
    (step : (k : ℕ) (a b : ℤ) (q : F) → k < n → SFits w64 a → Called g f (a, (k, tt)) b q → (q ≡ f) × ((y : ℤ) × (int_wrap w64 y ≡ int_wrap w64 (h k (get_or xs k d))) × (b ≡ int_wrap w64 (a +ℤ y)))) where
  abbrev Wrapped : ℕ → ℤ → Type 0
  Wrapped k z = SFits w64 z × (int_wrap w64 z ≡ int_wrap w64 (base +ℤ summed_from h 0 (take k xs)))

  wrapped_step : (k : ℕ) (a b : ℤ) (q : F) → k < n → Wrapped k a → Called g f (a, (k, tt)) b q → (q ≡ f) × Wrapped (k + 1) b
  wrapped_step k a b q l w called =
      let (same, (y, adds, is)) = step k a b q l w.0 called in
      (same, (subst (SFits w64) (sym is) (SFits-int_wrap w64 (a +ℤ y)), turn_wrapped h xs k d base a y b (omega arith) w.1 adds is))

  pub fold_wrapped : (s : Range ℕ) (r : ℤ) → s ≡ record { start = 0; end = n } → (ks : List ℕ) × (q : F) × Drains nat_range_steps s ks × FoldsTo {P = F × ℤ} (λ p x u. Called g p.0 (p.1, (x, tt)) u.1 u.0) (f, base) ks (q, r) →
      int_wrap w64 (to_z w64 (of_z w64 r)) ≡ int_wrap w64 (base +ℤ summed_from h 0 (take n xs))
  fold_wrapped s r e ran =
      let done : Wrapped n r = folded g f Wrapped n wrapped_step s base r e (fits, ap (int_wrap w64) (omega (arith, lin))) ran in
      ap (int_wrap w64) (to_z-of_z w64 r done.0) ∙ done.1

-- sums of congruent numbers
pub from_congruent : {X : Type 0} (f g : ℕ → X → ℤ) (d : X) (k : ℕ) (xs : List X) → ((i : ℕ) → i < length xs → int_wrap w64 (f (k + i) (get_or xs i d)) ≡ int_wrap w64 (g (k + i) (get_or xs i d))) → int_wrap w64 (summed_from f k xs) ≡ int_wrap w64 (summed_from g k xs)
from_congruent f g d k [] h = refl
from_congruent f g d k (x ∷ xs) h =
    let z : k + 0 ≡ k = omega arith in
    let first : int_wrap w64 (f k x) ≡ int_wrap w64 (g k x) = subst (λ j. int_wrap w64 (f j x) ≡ int_wrap w64 (g j x)) z (h 0 (omega arith)) in
    let rest = from_congruent f g d (suc k) xs (λ i l. let e : k + suc i ≡ suc k + i = omega arith in subst (λ j. int_wrap w64 (f j (get_or xs i d)) ≡ int_wrap w64 (g j (get_or xs i d))) e (h (suc i) (omega arith))) in
    int_wrap-add_same w64 (f k x) (g k x) (summed_from f (suc k) xs) first ∙ sym (int_wrap-add_right w64 (g k x) (summed_from f (suc k) xs)) ∙ ap (λ v. int_wrap w64 (g k x +ℤ v)) rest ∙ int_wrap-add_right w64 (g k x) (summed_from g (suc k) xs)

-- a sum with nothing before it
pub no_base : (x : ℤ) → pos 0 +ℤ x ≡ x
no_base x = omega (arith, lin)
