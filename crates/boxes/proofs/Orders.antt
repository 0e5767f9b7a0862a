-- The order of the table, as a part of it is put into another order.
use Rattle.std.proofs.Common.{◌≡◌, ℕ, ◌+◌, ◌-◌, ◌<◌, ◌≤◌, List, ◌++◌, length, get_or, take, sym, ap, ◌∙◌, subst, ap₂, inl, inr, arith}
use Rattle.std.specs.List.{between, All}
use Rattle.std.specs.List.Sorted.{IsPermutation}
use Rattle.std.proofs.lemmas.List.Edits.{split_between, length-between, get_or-between}
use Rattle.std.proofs.ByRecursion.{has_get_or, has_shuffled}
use Rattle.std.proofs.lemmas.List.{get_or-take, get_or-drop, get_or_default, take-take}
use Rattle.std.proofs.lemmas.Slice.{between_is, between-put_mid, take-put_mid_below, drop-put_mid}
use Rattle.std.proofs.lemmas.List.Sorted.{IsPermutation-sym, IsPermutation-append_left, IsPermutation-append_right}
use Rattle.std.proofs.lemmas.Bool.{cases_lt}
use borrow.Rule.Slice.PartMut.{put_mid, same_len_mid}
use Rattle.boxes.specs.Runs.{Reordered}
use Rattle.boxes.specs.Table.{Known}
use Rattle.boxes.proofs.Sameness.{between_take}

pub run_known : (order : List ℕ) (n from to : ℕ) → Known order n → to ≤ n → n ≤ length order → All (λ i. i < n) (between from to order)
run_known order n from to k l long j d h =
    let m' = length-between order from to (omega arith) in
    let m : from + j < to = omega arith in
    subst (λ x. x < n) (sym (get_or-between order from to j d m ∙ get_or_default order (from + j) d 0 (omega arith))) (k (from + j) (omega arith))

-- a write to that part
pub reordered_mid : (order ys : List ℕ) (from to : ℕ) → from ≤ to → to ≤ length order → length ys ≡ length (between from to order) → IsPermutation (between from to order) ys → Reordered order (put_mid from (to - from) order ys) from to
reordered_mid order ys from to up end l s =
    let n : length (between from to order) ≡ to - from = length-between order from to end in
    let m : length ys ≡ to - from = l ∙ n in
    record {
      long = same_len_mid from (to - from) order ys l;
      before = take-put_mid_below from (to - from) order ys from (omega arith) (omega arith);
      after = drop-put_mid from (to - from) order ys to (omega arith) (omega arith) m;
      shuffled = subst (IsPermutation (between from to order)) (sym (between-put_mid from (to - from) order ys to (omega arith) m)) s;
    }

module _ (order order' : List ℕ) (from to : ℕ) (up : from ≤ to) (end : to ≤ length order) (r : Reordered order order' from to) where
  pub same_before : (j : ℕ) → j < from → get_or order' j 0 ≡ get_or order j 0
  same_before j l = sym (get_or-take from order' j 0 l) ∙ ap (λ xs. get_or xs j 0) r.before ∙ get_or-take from order j 0 l

  pub same_after : (j : ℕ) → to ≤ j → get_or order' j 0 ≡ get_or order j 0
  same_after j l =
      let e : to + (j - to) ≡ j = omega arith in
      ap (λ k. get_or order' k 0) (sym e) ∙ sym (get_or-drop to order' (j - to) 0) ∙ ap (λ xs. get_or xs (j - to) 0) r.after ∙ get_or-drop to order (j - to) 0 ∙ ap (λ k. get_or order k 0) e

  -- where in the old order a number of the part stood
  pub record Source (j : ℕ) : Type 0 where
    pub place : ℕ
    pub low : from ≤ place
    pub high : place < to
    pub is : get_or order' j 0 ≡ get_or order place 0

  pub source : (j : ℕ) → from ≤ j → j < to → Source j
  source j l h =
      let n' : length (between from to order') ≡ to - from = length-between order' from to (omega (arith, r.long)) in
      let n : length (between from to order) ≡ to - from = length-between order from to end in
      let e : from + (j - from) ≡ j = omega arith in
      let here : get_or (between from to order') (j - from) 0 ≡ get_or order' j 0 = get_or-between order' from to (j - from) 0 (omega arith) ∙ ap (λ k. get_or order' k 0) e in
      let old = has_shuffled (between from to order') (between from to order) _ (IsPermutation-sym _ _ r.shuffled) (has_get_or (between from to order') (j - from) 0 (omega arith)) in
      let lk : old.0 < to - from = omega (arith, old.1) in
      record { place = from + old.0; low = omega arith; high = omega arith; is = sym here ∙ sym (old.2 0) ∙ get_or-between order from to old.0 0 (omega arith) }

  pub reordered_known : (n : ℕ) → to ≤ n → Known order n → Known order' n
  reordered_known n l k j h = elim (cases_lt j from) [
    | inl a ↦ subst (λ x. x < n) (sym (same_before j a)) (k j h)
    | inr a ↦ elim (cases_lt j to) [
      | inl b ↦ let s = source j a b in subst (λ x. x < n) (sym s.is) (k s.place (omega (arith, s.high)))
      | inr b ↦ subst (λ x. x < n) (sym (same_after j b)) (k j h)
    ]
  ]

-- ---- the whole of the order

-- the first n of the order, in three parts
thirds : (order : List ℕ) (from to n : ℕ) → from ≤ to → to ≤ n → n ≤ length order → take n order ≡ take from order ++ (between from to order ++ between to n order)
thirds order from to n up l long =
    split_between (take n order) from to up
    ∙ ap₂ ◌++◌ (take-take from n order (omega arith)) (ap₂ ◌++◌ (between_take 0 order from to n l long) (sym (between_is order to n)))

pub reordered_all : (order order' : List ℕ) (from to n : ℕ) → from ≤ to → to ≤ n → n ≤ length order → Reordered order order' from to → IsPermutation (take n order) (take n order')
reordered_all order order' from to n up l long r =
    let a = sym (thirds order from to n up l long) in
    let b = thirds order' from to n up l (omega (arith, r.long)) ∙ ap₂ (λ xs ys. xs ++ (between from to order' ++ take (n - to) ys)) r.before r.after in
    let parts = IsPermutation-append_right (take from order) (between from to order ++ between to n order) (between from to order' ++ between to n order) (IsPermutation-append_left (between to n order) (between from to order) (between from to order') r.shuffled) in
    subst (λ zs. IsPermutation zs (take n order')) a (subst (IsPermutation (take from order ++ (between from to order ++ between to n order))) (sym b) parts)
