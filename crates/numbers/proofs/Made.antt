-- Arrays made from a function of the index.
use Rattle.std.proofs.Common.{◌≡◌, ℕ, zero, suc, ◌+◌, ◌<◌, ◌≤◌, List, get_or, sym, subst, inl, inr, arith}
use Rattle.std.proofs.lemmas.Bool.{cases_eq}
use Rattle.std.specs.Array.{IsFromFnResult, IsFromFnResultFrom}
use denote.Param.Members.{Mut, Called}

-- f stays as it is, and what it answers at i is in the relation to i
module _ {F B : Type 0} (g : Mut F (ℕ × Unit {0}) B) (f : F) (Holds : ℕ → B → Type 0) (call : (i : ℕ) (y : B) (q : F) → Called g f (i, tt) y q → (q ≡ f) × Holds i y) where
  made_from : (ys : List B) (n i j : ℕ) (d : B) → i ≤ j → j < i + n → IsFromFnResultFrom g f ys i n → Holds j (get_or ys j d)
  made_from ys zero i j d l h m = absurd (omega arith)
  made_from ys (suc n) i j d l h (q, y, e, c, rest) =
      let one = call i y q c in
      elim (cases_eq j i) [
        | inl z ↦ subst (λ k. Holds k (get_or ys k d)) (sym z) (subst (Holds i) (sym (e.1 d)) one.1)
        | inr z ↦ made_from ys n (i + 1) j d (omega arith) (omega arith) (subst (λ p. IsFromFnResultFrom g p ys (i + 1) n) one.0 rest)
      ]

  -- so is what stands at place j of the array
  pub made_at : (ys : List B) (n j : ℕ) (d : B) → IsFromFnResult g f ys n → j < n → Holds j (get_or ys j d)
  made_at ys n j d m h = made_from ys n 0 j d (omega arith) (omega arith) m.each
