-- Numbers below n, as many as n and none twice, are all the numbers below n.
use Rattle.std.proofs.Common.{◌≡◌, ℕ, ◌<◌, ◌≤◌, true, false, eqb, List, ◌∷◌, length, get_or, sym, ◌∙◌, inl, inr, arith}
use borrow.Author.Tests.{clash}
use Rattle.std.specs.List.{IsDistinct, list_any}
use Rattle.std.proofs.ByRecursion.{All-from_get_or}
use Rattle.std.proofs.lemmas.Bool.{cases_Bool, eqb-true, false_from_ne_true, ne_eqb, or_cases}
use Rattle.std.proofs.lemmas.List.{get_or_default}
use Rattle.std.proofs.lemmas.List.Folds.{Any-from_list_any, list_any_at}
use Rattle.std.proofs.lemmas.Map.Keys.{IsDistinct-from_apart}
use Rattle.std.proofs.lemmas.Map.Steps.{length-le_from_distinct_below}
use Rattle.rows.specs.Lines.{EachOnce}

module _ (n : ℕ) (order : List ℕ) (each : EachOnce n order) where
  -- where a number stands that the order has
  place : (c : ℕ) → list_any (eqb c) order ≡ true → (k : ℕ) × (k < n) × (get_or order k 0 ≡ c)
  place c h =
      let a = Any-from_list_any (eqb c) order h in
      (a.0, omega (arith, each.long, a.2), get_or_default order a.0 0 a.1 a.2 ∙ a.3 ∙ sym (eqb-true c a.1 a.4))

  -- a number below n that it has not would make it longer than n
  too_long : (c : ℕ) → c < n → list_any (eqb c) order ≡ false → ⊥
  unfolding IsDistinct
  too_long c l h =
      let same : (i d : ℕ) → i < length order → get_or order i 0 ≡ get_or order i d = λ i d m. get_or_default order i 0 d m in
      let apart : IsDistinct eqb order = IsDistinct-from_apart eqb order (λ i j d less m. ne_eqb _ _ (λ e. each.once i j less (omega (arith, each.long)) (same i d (omega arith) ∙ e ∙ sym (same j d m)))) in
      let other = All-from_get_or (λ y. eqb c y ≡ false) order 0 (λ k m. false_from_ne_true _ (λ e. clash (sym h ∙ list_any_at (eqb c) order k 0 m e))) in
      let m : length (c ∷ order) ≤ n = length-le_from_distinct_below (c ∷ order) n (other, apart) (λ q e. elim (or_cases (eqb q c) (list_any (eqb q) order) e) [ inl is ↦ omega (arith, eqb-true q c is) | inr there ↦ let p = place q there in omega (arith, p.1, p.2, each.known p.0 p.1) ]) in
      omega (arith, each.long)

-- every number below n stands in the order
pub stands : (n : ℕ) (order : List ℕ) → EachOnce n order → (c : ℕ) → c < n → (k : ℕ) × (k < n) × (get_or order k 0 ≡ c)
stands n order each c l = elim (cases_Bool (list_any (eqb c) order)) [ inl h ↦ place n order each c h | inr h ↦ absurd (too_long n order each c l h) ]
