-- The turns of the loop that parts a run.
use Rattle.std.proofs.Common.{◌≡◌, ℕ, ◌+◌, ◌≤◌, Bool, true, false, cond, List, [], ◌∷◌, length, get_or, take, drop, filter, sym, refl, ap, ◌∙◌, subst, inl, inr, arith, length-append, length-drop}
use Rattle.std.specs.List.{AllByRecursion}
use Rattle.std.specs.List.Sorted.{IsPermutation}
use Rattle.std.proofs.lemmas.List.Sorted.{IsPermutation-refl, IsPermutation-trans, sum_by-IsPermutation}
use Rattle.std.proofs.lemmas.List.Sums.{length-filter}
use Rattle.std.proofs.lemmas.List.Elements.{filter-append}
use Rattle.std.proofs.ByRecursion.{All-from_get_or}
use Rattle.std.proofs.lemmas.List.{get_or-take, get_or-drop, length-take-le, take-append-drop}
use Rattle.std.proofs.lemmas.Bool.{cases_lt}
use Rattle.points.specs.Entries.{Entry}
use Rattle.boxes.specs.declared.cut.Cut.{Cut}
use Rattle.boxes.specs.Runs.{under, Parted}

pub parted_none : (es : List Entry) (v : Cut) (ns : List ℕ) → Parted es v ns ns 0 0
parted_none es v ns = record { shuffled = IsPermutation-refl ns; as_many = omega arith; split = omega arith; low = λ j l. absurd (omega arith); high = λ j l m. absurd (omega arith) }

module _ (es : List Entry) (v : Cut) (ns ms : List ℕ) (k i : ℕ) (p : Parted es v ns ms k i) where
  -- the next number does not lie below
  pub parted_keeps : under es v (get_or ms i 0) ≡ false → Parted es v ns ms k (i + 1)
  parted_keeps e =
      record {
        shuffled = p.shuffled;
        as_many = p.as_many;
        split = omega (arith, p.split);
        low = p.low;
        high = λ j a b. elim (cases_lt j i) [ inl l ↦ p.high j a l | inr l ↦ let q : i ≡ j = omega arith in subst (λ n. under es v (get_or ms n 0) ≡ false) q e ];
      }

  -- the next number lies below, and changes its place with the first that does not
  pub parted_swaps : under es v (get_or ms i 0) ≡ true → (zs : List ℕ) → IsPermutation ms zs → length zs ≡ length ms → get_or zs k 0 ≡ get_or ms i 0 → get_or zs i 0 ≡ get_or ms k 0 →
      ((j : ℕ) → (j ≡ k → ⊥) → (j ≡ i → ⊥) → get_or zs j 0 ≡ get_or ms j 0) → Parted es v ns zs (k + 1) (i + 1)
  parted_swaps e zs s n at-k at_i rest =
      record {
        shuffled = IsPermutation-trans ns ms zs p.shuffled s;
        as_many = n ∙ p.as_many;
        split = omega (arith, p.split);
        low = λ j a. elim (cases_lt j k) [
          | inl l ↦ ap (under es v) (rest j (λ q. omega arith) (λ q. omega (arith, p.split))) ∙ p.low j l
          | inr l ↦ let q : k ≡ j = omega arith in subst (λ m. under es v (get_or zs m 0) ≡ true) q (ap (under es v) at-k ∙ e)
        ];
        high = λ j a b. elim (cases_lt j i) [
          | inl l ↦ ap (under es v) (rest j (λ q. omega arith) (λ q. omega arith)) ∙ p.high j (omega arith) l
          | inr l ↦ let q : i ≡ j = omega arith in subst (λ m. under es v (get_or zs m 0) ≡ false) q (ap (under es v) at_i ∙ p.high k (omega arith) (omega arith))
        ];
      }

-- ---- how many lie below

length_kept : (t : ℕ → Bool) (xs : List ℕ) → AllByRecursion (λ x. t x ≡ true) xs → length (filter t xs) ≡ length xs
length_kept t [] a = refl
length_kept t (x ∷ xs) a = rw a.0 (omega (arith, length_kept t xs a.1))

length_left_out : (t : ℕ → Bool) (xs : List ℕ) → AllByRecursion (λ x. t x ≡ false) xs → length (filter t xs) ≡ 0
length_left_out t [] a = refl
length_left_out t (x ∷ xs) a = rw a.0 (length_left_out t xs a.1)

-- the first k of the run
pub parted_count : (es : List Entry) (v : Cut) (ns ms : List ℕ) (k : ℕ) → Parted es v ns ms k (length ns) → k ≡ length (filter (under es v) ns)
parted_count es v ns ms k p =
    let t = under es v in
    let l : k ≤ length ms = omega (arith, p.split, p.as_many) in
    let front : length (take k ms) ≡ k = length-take-le k ms l in
    let a = length_kept t (take k ms) (All-from_get_or (λ x. t x ≡ true) (take k ms) 0 (λ j h. ap t (get_or-take k ms j 0 (omega arith)) ∙ p.low j (omega arith))) in
    let b = length_left_out t (drop k ms) (All-from_get_or (λ x. t x ≡ false) (drop k ms) 0 (λ j h. ap t (get_or-drop k ms j 0) ∙ p.high (k + j) (omega arith) (omega (arith, length-drop k ms, p.as_many)))) in
    let whole = ap (λ xs. length (filter t xs)) (sym (take-append-drop k ms)) ∙ ap length (filter-append t (take k ms) (drop k ms)) ∙ length-append (filter t (take k ms)) (filter t (drop k ms)) in
    let same = sum_by-IsPermutation (λ x. cond (t x) 1 0) ns ms p.shuffled in
    omega (arith, a, b, whole, front, length-filter t ns, length-filter t ms, same)
