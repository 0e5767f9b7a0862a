-- A fold over the first n indices, whose closure stays as it is.
use Rattle.std.proofs.Common.{◌≡◌, ℕ, zero, suc, ◌+◌, ◌<◌, List, sym, ap, ◌∙◌, subst, arith}
use Rattle.std.specs.declared.ops.Range.{Range}
use Rattle.std.specs.Iterator.{Drains}
use Rattle.std.specs.List.{FoldsTo, range_with_len}
use Rattle.std.proofs.lemmas.Iterator.{YieldsList-from_range}
use Rattle.std.proofs.iter.Yields.{nat_range_steps, gives_Drains}
use Rattle.std.proofs.lemmas.List.{map-id}
use denote.Param.Members.{Mut, Called}

-- what holds before the first index, and is carried over each, holds after the last
module _ {F C : Type 0} (g : Mut F (C × (ℕ × Unit {0})) C) (f : F) (J : ℕ → C → Type 0) (n : ℕ) (step : (i : ℕ) (a b : C) (f' : F) → i < n → J i a → Called g f (a, (i, tt)) b f' → (f' ≡ f) × J (i + 1) b) where
  walked : (m i : ℕ) (a r : C) (f' : F) → i + m ≡ n → J i a → FoldsTo {P = F × C} (λ p x q. Called g p.0 (p.1, (x, tt)) q.1 q.0) (f, a) (range_with_len i m) (f', r) → J n r
  walked zero i a r f' e h t = subst (J n) (ap (λ p. p.1) t) (subst (λ k. J k a) (omega arith) h)
  walked (suc m) i a r f' e h (j, c, rest) =
      let one = step i a j.1 j.0 (omega arith) h c in
      let same : j ≡ (f, j.1) = ap (λ (x : F). (x, j.1)) one.0 in
      walked m (i + 1) j.1 r f' (omega arith) one.1 (subst (λ (q : F × C). FoldsTo {P = F × C} (λ p x q. Called g p.0 (p.1, (x, tt)) q.1 q.0) q (range_with_len (i + 1) m) (f', r)) same rest)

  pub folded : (s : Range ℕ) (a r : C) → s ≡ record { start = 0; end = n } → J 0 a → (xs : List ℕ) × (f' : F) × Drains nat_range_steps s xs × FoldsTo {P = F × C} (λ p x q. Called g p.0 (p.1, (x, tt)) q.1 q.0) (f, a) xs (f', r) → J n r
  folded s a r e h (xs, f', d, t) =
      let all : xs ≡ range_with_len 0 n = sym (map-id xs) ∙ gives_Drains nat_range_steps (λ x. x) xs (range_with_len 0 n) s (YieldsList-from_range 0 n n e (omega arith)).runs d in
      walked n 0 a r f' (omega arith) h (subst (λ zs. FoldsTo {P = F × C} (λ p x q. Called g p.0 (p.1, (x, tt)) q.1 q.0) (f, a) zs (f', r)) all t)
