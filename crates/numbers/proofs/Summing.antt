-- Sums of signed numbers that an iterator gives: that they fit, and what they are.
use Rattle.std.proofs.Common.{◌≡◌, ℕ, zero, suc, ◌+◌, ◌*◌, ◌<◌, ◌≤◌, ◌^◌, List, [], ◌∷◌, ◌++◌, map, length, take, fold, Option, Some, None, ℤ, pos, ◌+ℤ◌, ◌≤ℤ◌, sym, refl, add-one, ap, ap₂, ◌∙◌, subst, arith, w64, SFits}
use Rattle.std.proofs.lemmas.Int.{ints}
use Rattle.std.proofs.lemmas.Nat.{mul-le}
use Rattle.std.proofs.lemmas.List.{map-id}
use Rattle.std.proofs.lemmas.List.Sums.{fold_push}
use Rattle.std.proofs.lemmas.List.FromFn.{map-range_with_len_more, take-map-range_with_len, length-map-range_with_len}
use Rattle.std.specs.Iterator.{Yields, AlwaysYields, Drains}
use Rattle.std.specs.Iterator.Runs.{Run, YieldsRun, EachRunFrom}
use Rattle.std.specs.List.{range_with_len}
use Rattle.std.specs.Iterator.Adapters.{map_source, map_callee}
use Rattle.std.specs.declared.iter.Map.{Map}
use Rattle.std.specs.declared.ops.Range.{Range}
use Rattle.std.proofs.lemmas.Iterator.{YieldsList, YieldsList-from_map, YieldsList-from_range, maps}
use denote.Param.Members.{Mut, Called}
use Rattle.std.proofs.iter.Yields.{nat_range_steps, gives_Drains}

-- the sum of the first n values
abbrev pub sum_below : (ℕ → ℤ) → ℕ → ℤ
sum_below value zero = pos 0
sum_below value (suc n) = sum_below value n +ℤ value n

-- each of the first n values is between 0 and a bound
abbrev pub Bounded : (ℕ → ℤ) → ℕ → ℕ → Type 0
Bounded value n most = (i : ℕ) → i < n → (pos 0 ≤ℤ value i) × (value i ≤ℤ pos most)

pub sum_low : (value : ℕ → ℤ) (n most : ℕ) → Bounded value n most → pos 0 ≤ℤ sum_below value n
sum_low value zero most h = omega (arith, ints)
sum_low value (suc n) most h = omega (arith, ints, sum_low value n most (λ i l. h i (omega arith)), (h n (omega arith)).0)

pub sum_high : (value : ℕ → ℤ) (n most : ℕ) → Bounded value n most → sum_below value n ≤ℤ pos (n * most)
sum_high value zero most h = omega (arith, ints)
sum_high value (suc n) most h = omega (arith, ints, sum_high value n most (λ i l. h i (omega arith)), (h n (omega arith)).1)

fold_is : (value : ℕ → ℤ) (n : ℕ) → fold ◌+ℤ◌ (pos 0) (map value (range_with_len 0 n)) ≡ sum_below value n
fold_is value zero = refl
fold_is value (suc n) =
    ap (λ m. fold ◌+ℤ◌ (pos 0) (map value (range_with_len 0 m))) (sym (add-one n)) ∙ ap (fold ◌+ℤ◌ (pos 0)) (map-range_with_len_more value 0 n n (omega arith)) ∙ fold_push ◌+ℤ◌ (pos 0) (map value (range_with_len 0 n)) (value n)
    ∙ ap (λ z. z +ℤ value n) (fold_is value n)

module _ {S : Type 0} (steps : S → Option ℤ → S → Type 0) where
  -- what some calls gave is the front of what all give
  front_of : (xs ys : List ℤ) (s t : S) → AlwaysYields steps (λ z. z) s ys → Yields steps s xs t → (length xs ≤ length ys) × (xs ≡ take (length xs) ys)
  front_of [] ys s t a y = (omega arith, refl)
  front_of (x ∷ xs) [] s t a (j, h, y) = absurd (a x j h)
  front_of (x ∷ xs) (z ∷ ys) s t a (j, h, y) =
      let one = a.1 x j h in
      let rest = front_of xs ys j t one.1 y in
      (omega (arith, rest.0), ap₂ (λ w ws. w ∷ ws) one.0 rest.1)

module _ {S : Type 0} {steps : S → Option ℤ → S → Type 0} {s : S} (value : ℕ → ℤ) (n : ℕ) (gives : YieldsList steps (λ z. z) s (map value (range_with_len 0 n))) where
  -- no sum on the way is too large
  sum_fits : (most : ℕ) → Bounded value n most → n * most < 2 ^ 63 → EachRunFrom steps s (λ p. SFits w64 (fold ◌+ℤ◌ (pos 0) p.items))
  unfolding YieldsRun
  sum_fits most bounded small p seen from =
      let calls = subst (λ z. Yields steps z p.items p.gave.0.0) from p.gave.0.1 in
      let front = front_of steps p.items (map value (range_with_len 0 n)) s p.gave.0.0 gives.runs calls in
      let k = length p.items in
      let l : k ≤ n = omega (arith, front.0, length-map-range_with_len value 0 n) in
      let is : fold ◌+ℤ◌ (pos 0) p.items ≡ sum_below value k = ap (fold ◌+ℤ◌ (pos 0)) (front.1 ∙ take-map-range_with_len value 0 n k l) ∙ fold_is value k in
      let low = sum_low value k most (λ i m. bounded i (omega arith)) in
      let high = sum_high value k most (λ i m. bounded i (omega arith)) in
      let within : k * most ≤ n * most = mul-le k most n most l (omega arith) in
      omega (arith, ints)

  sum_is : (xs : List ℤ) → Drains steps s xs → fold ◌+ℤ◌ (pos 0) xs ≡ sum_below value n
  sum_is xs d = ap (fold ◌+ℤ◌ (pos 0)) (sym (map-id xs) ∙ gives_Drains steps (λ z. z) xs (map value (range_with_len 0 n)) s gives.runs d) ∙ fold_is value n

-- the same of the values of a closure over the first n indices
module _ {F : Type 0} (g : Mut F (ℕ × Unit {0}) ℤ) (s : Map (Range ℕ) F) (value : ℕ → ℤ) (n : ℕ) (f : F) (source : map_source s ≡ record { start = 0; end = n }) (callee : map_callee s ≡ f)
    (call : (i : ℕ) (z : ℤ) (f' : F) → Called g f (i, tt) z f' → (f' ≡ f) × (z ≡ value i)) where
  given : YieldsList (maps nat_range_steps g) (λ z. z) s (map value (range_with_len 0 n))
  given = YieldsList-from_map g value (YieldsList-from_range 0 n n source (omega arith)) callee call

  pub range_fits : (most : ℕ) → Bounded value n most → n * most < 2 ^ 63 → EachRunFrom (maps nat_range_steps g) s (λ p. SFits w64 (fold ◌+ℤ◌ (pos 0) p.items))
  range_fits = sum_fits value n given

  pub range_sum : (xs : List ℤ) → Drains (maps nat_range_steps g) s xs → fold ◌+ℤ◌ (pos 0) xs ≡ sum_below value n
  range_sum = sum_is value n given
