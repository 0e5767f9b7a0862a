-- Lists of numbers: what they have, what a filter keeps, and how they rise.
use Rattle.std.proofs.Common.{◌≡◌, ℕ, ◌+◌, ◌<◌, Bool, true, cond, List, [], ◌∷◌, ◌++◌, length, get_or, take, drop, filter, sym, ap, ◌∙◌, arith}
use Rattle.std.specs.List.{ContainsAt as Has}
use Rattle.std.proofs.ByRecursion.{has_append_left, has_push}
use Rattle.std.proofs.lemmas.Bool.{cond-true}
use Rattle.std.proofs.lemmas.List.{take-append-drop}
use Rattle.std.proofs.lemmas.List.Elements.{filter-append, filter_more}
use Rattle.std.proofs.lemmas.List.Kept.{IsStrictlyIncreasing-filter, AllPairs-from_increasing}

pub has_some : (ks : List ℕ) (k : ℕ) → Has ks k → 0 < length ks
has_some ks k h = omega (arith, h.1)

module _ (test : ℕ → Bool) (ks : List ℕ) where
  -- what passes is kept: it is the last of what is kept of some front of the list
  pub has_kept : (k : ℕ) → test k ≡ true → Has ks k → Has (filter test ks) k
  has_kept k e h =
      let i = h.0 in
      let one : cond (test (get_or ks i 0)) (get_or ks i 0 ∷ []) [] ≡ k ∷ [] = ap (λ x. cond (test x) (x ∷ []) []) (h.2 0) ∙ cond-true (test k) (k ∷ []) [] e in
      let front : filter test (take (i + 1) ks) ≡ filter test (take i ks) ++ k ∷ [] = filter_more test ks i 0 h.1 ∙ ap (λ l. filter test (take i ks) ++ l) one in
      let whole : filter test ks ≡ (filter test (take i ks) ++ k ∷ []) ++ filter test (drop (i + 1) ks) =
      ap (filter test) (sym (take-append-drop (i + 1) ks)) ∙ filter-append test (take (i + 1) ks) (drop (i + 1) ks) ∙ ap (λ l. l ++ filter test (drop (i + 1) ks)) front in
      rw whole (has_append_left (filter test (take i ks) ++ k ∷ []) (filter test (drop (i + 1) ks)) k (has_push (filter test (take i ks)) k))

  pub rises_kept : ((i j : ℕ) → i < j → j < length ks → get_or ks i 0 < get_or ks j 0) → (i j : ℕ) → i < j → j < length (filter test ks) → get_or (filter test ks) i 0 < get_or (filter test ks) j 0
  rises_kept f i j h l = AllPairs-from_increasing (filter test ks) (IsStrictlyIncreasing-filter test ks (λ k l. f k (k + 1) (omega arith) l)) i j 0 h l
