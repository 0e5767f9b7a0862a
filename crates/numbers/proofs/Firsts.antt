-- The first of the least keys, which is what `min_by_key` answers over a range of indices.
use Rattle.std.proofs.Common.{◌≡◌, ℕ, zero, suc, ◌+◌, ◌<◌, List, [], ◌∷◌, length, ℤ, ◌<ℤ◌, ◌≤ℤ◌, Option, Some, None, MatchOption, sym, refl, ap, ap₂, ◌∙◌, subst, inl, inr, arith}
use Rattle.std.proofs.lemmas.Int.{ints}
use Rattle.std.proofs.lemmas.Bool.{cases_lt}
use Rattle.std.specs.declared.cmp.Ordering.{Ordering}
use Rattle.std.specs.declared.cmp.Ordering.TheVariants.{Less, Equal, Greater}
use Rattle.std.specs.declared.ops.Range.{Range}
use Rattle.std.specs.Fn.{CalledAt}
use Rattle.std.specs.Iterator.{PicksMinByKey, KeyTurn, Drains}
use Rattle.std.specs.List.{FoldsTo, range_with_len}
use Rattle.std.specs.Ordering.{MatchOrdering, min_by_ordering, int_cmp}
use Rattle.std.proofs.lemmas.Cmp.{int_ranked}
use Rattle.std.proofs.lemmas.Iterator.{YieldsList-from_range}
use Rattle.std.proofs.iter.Yields.{nat_range_steps, gives_Drains}
use Rattle.std.proofs.lemmas.List.{map-id}
use Rattle.std.proofs.lemmas.List.FromFn.{length-range_with_len}
use denote.Param.Members.{Mut}
use denote.Ref.{Bor}

-- index k of the first n has the least key, and every index before it a greater one
pub record FirstLeast (key : ℕ → ℤ) (n k : ℕ) : Type 0 where
  pub there : k < n
  pub least : (j : ℕ) → j < n → key k ≤ℤ key j
  pub first : (j : ℕ) → j < k → key k <ℤ key j

-- one index more, whose key was compared with the least
turned : (key : ℕ → ℤ) (i best : ℕ) (o : Ordering) → FirstLeast key i best → MatchOrdering o (key best <ℤ key i) (key best ≡ key i) (key i <ℤ key best) → FirstLeast key (i + 1) (min_by_ordering o best i)
turned key i best Less h r = record {
  there = omega (arith, h.there);
  least = λ j l. elim (cases_lt j i) [ inl b ↦ h.least j b | inr e ↦ let k : j ≡ i = omega arith in subst (λ z. key best ≤ℤ key z) (sym k) (omega (arith, ints)) ];
  first = h.first;
}
turned key i best Equal h r = record {
  there = omega (arith, h.there);
  least = λ j l. elim (cases_lt j i) [ inl b ↦ h.least j b | inr e ↦ let k : j ≡ i = omega arith in subst (λ z. key best ≤ℤ key z) (sym k) (omega (arith, ints)) ];
  first = h.first;
}
turned key i best Greater h r = record {
  there = omega arith;
  least = λ j l. elim (cases_lt j i) [ inl b ↦ omega (arith, ints, h.least j b) | inr e ↦ let k : j ≡ i = omega arith in subst (λ z. key i ≤ℤ key z) (sym k) (omega (arith, ints)) ];
  first = λ j b. omega (arith, ints, h.least j b);
}

key_of : (key : ℕ → ℤ) (o : Ordering) (x y : ℕ) → min_by_ordering o (key x) (key y) ≡ key (min_by_ordering o x y)
key_of key Less x y = refl
key_of key Equal x y = refl
key_of key Greater x y = refl

-- a range of some indices begins with 0
front : (n x : ℕ) (xs : List ℕ) → x ∷ xs ≡ range_with_len 0 n → (m : ℕ) × (n ≡ m + 1) × (x ≡ 0) × (xs ≡ range_with_len 1 m)
front zero x xs e = cc
front (suc m) x xs e = (m, omega arith, cc, cc)

module _ {F : Type 0} (g : Mut F (Bor ℕ × Unit {0}) ℤ) (f : F) (key : ℕ → ℤ) (n : ℕ) (call : (i : ℕ) (z : ℤ) (f' : F) → i < n → CalledAt g f i z f' → (f' ≡ f) × (z ≡ key i)) where
  walked : (m i best y : ℕ) (q : F × ℤ) → i + m ≡ n → FirstLeast key i best → FoldsTo {P = (F × ℤ) × ℕ} (KeyTurn min_by_ordering min_by_ordering g int_cmp) ((f, key best), best) (range_with_len i m) (q, y) → FirstLeast key n y
  walked zero i best y q e h t = subst (λ z. FirstLeast key n z) (ap (λ p. p.1) t) (subst (λ k. FirstLeast key k best) (omega arith) h)
  walked (suc m) i best y q e h (j, (z, o, c, cmp, least, pick), rest) =
      let one = call i z j.0.0 (omega arith) c in
      let ranked = int_ranked (key best) (key i) o (sym cmp ∙ ap (int_cmp (key best)) one.1) in
      let same : j ≡ ((f, key (min_by_ordering o best i)), min_by_ordering o best i) = ap₂ (λ (a : F × ℤ) (b : ℕ). (a, b)) (ap₂ (λ (a : F) (b : ℤ). (a, b)) one.0 (least ∙ ap (min_by_ordering o (key best)) one.1 ∙ key_of key o best i)) pick in
      walked m (i + 1) (min_by_ordering o best i) y q (omega arith) (turned key i best o h ranked) (subst (λ (p : (F × ℤ) × ℕ). FoldsTo {P = (F × ℤ) × ℕ} (KeyTurn min_by_ordering min_by_ordering g int_cmp) p (range_with_len (i + 1) m) (q, y)) same rest)

  all : (s : Range ℕ) (xs : List ℕ) → s ≡ record { start = 0; end = n } → Drains nat_range_steps s xs → xs ≡ range_with_len 0 n
  all s xs e d = sym (map-id xs) ∙ gives_Drains nat_range_steps (λ x. x) xs (range_with_len 0 n) s (YieldsList-from_range 0 n n e (omega arith)).runs d

  -- what `min_by_key` answers over the first n indices, where f computes the key of each
  pub first_least : (s : Range ℕ) (r : Option ℕ) → s ≡ record { start = 0; end = n } → PicksMinByKey nat_range_steps g int_cmp s f r → MatchOption r (n ≡ 0) (FirstLeast key n)
  first_least s None e d = sym (length-range_with_len 0 n) ∙ sym (ap length (all s [] e d))
  first_least s (Some y) e (x, xs, k, f', q, d, c, t) =
      let (m, long, first, rest) = front n x xs (all s (x ∷ xs) e d) in
      let one = call x k f' (omega arith) c in
      let begun : FirstLeast key 1 0 = record { there = omega arith; least = λ j l. let z : j ≡ 0 = omega arith in subst (λ i. key 0 ≤ℤ key i) (sym z) (omega (arith, ints)); first = λ j l. absurd (omega arith) } in
      let same : ((f', k), x) ≡ ((f, key 0), 0) = ap₂ (λ (a : F × ℤ) (b : ℕ). (a, b)) (ap₂ (λ (a : F) (b : ℤ). (a, b)) one.0 (one.1 ∙ ap key first)) first in
      walked m 1 0 y q (omega arith) begun (subst (λ (p : (F × ℤ) × ℕ). FoldsTo {P = (F × ℤ) × ℕ} (KeyTurn min_by_ordering min_by_ordering g int_cmp) p (range_with_len 1 m) (q, y)) same (subst (λ zs. FoldsTo {P = (F × ℤ) × ℕ} (KeyTurn min_by_ordering min_by_ordering g int_cmp) ((f', k), x) zs (q, y)) rest t))
