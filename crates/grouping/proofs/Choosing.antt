-- Exactly one center is chosen.
use Rattle.std.proofs.Common.{◌≡◌, ℕ, Option, Some, None, MatchOption, zero, suc, ◌<◌, Bool, true, false, cond, List, [], ◌∷◌, length, ◌≤ℤ◌, sym, refl, subst, inl, inr, arith}
use borrow.Author.Differences.{ints}
use lib.Signed.{lt_z}
use Rattle.std.proofs.lemmas.Int.{by_lt_z}
use Rattle.std.proofs.lemmas.Bool.{cases_eq, cases_lt}
use Rattle.grouping.specs.Distance.{Place, dist}
use Rattle.grouping.specs.Choice.{center, Beats, Chosen, choose}
use Rattle.numbers.proofs.Ring.{lin}
use Rattle.numbers.proofs.Firsts.{FirstLeast}

-- one more center, ahead of the others
ahead : (c : Place) (cs : List Place) (p : Place) (j : ℕ) (b : Bool) → lt_z (dist p (center cs j)) (dist p c) ≡ b → Chosen cs p j → Chosen (c ∷ cs) p (cond b (suc j) 0)
ahead c cs p j true e h = record { one_of = omega (arith, h.one_of); beats = win }
  where
    win : (i : ℕ) → i < length (c ∷ cs) → (i ≡ suc j → ⊥) → Beats (c ∷ cs) p (suc j) i
    win zero l n = inl (omega (arith, ints))
    win (suc i) l n = elim (h.beats i (omega arith) (λ z. n (omega arith))) [ inl q ↦ inl q | inr q ↦ inr (q.0, omega (arith, q.1)) ]
ahead c cs p j false e h = record { one_of = omega arith; beats = win }
  where
    first : (i : ℕ) → dist p c ≤ℤ dist p (center cs i) → Beats (c ∷ cs) p 0 (suc i)
    first i l = by_lt_z (dist p c) (dist p (center cs i)) (λ less. inl less) (λ most. inr (omega (arith, lin), omega arith))

    win : (i : ℕ) → i < length (c ∷ cs) → (i ≡ 0 → ⊥) → Beats (c ∷ cs) p 0 i
    win zero l n = absurd (n refl)
    win (suc i) l n = elim (cases_eq i j) [
      | inl q ↦ first i (rw q (omega (arith, ints)))
      | inr q ↦ elim (h.beats i (omega arith) q) [ inl r ↦ first i (omega (arith, ints, e)) | inr r ↦ first i (omega (arith, ints, e, r.0)) ]
    ]

pub chosen : (cs : List Place) (p : Place) → 0 < length cs → Chosen cs p (choose cs p)
unfolding choose
chosen [] p h = absurd (omega arith)
chosen (c ∷ []) p h = record { one_of = omega arith; beats = λ j l n. absurd (omega arith) }
chosen (c ∷ d ∷ cs) p h = ahead c (d ∷ cs) p (choose (d ∷ cs) p) (lt_z (dist p (center (d ∷ cs) (choose (d ∷ cs) p))) (dist p c)) refl (chosen (d ∷ cs) p (omega arith))

-- there is no other
pub chosen_is : (cs : List Place) (p : Place) (k : ℕ) → Chosen cs p k → k ≡ choose cs p
chosen_is cs p k c = elim (cases_eq k (choose cs p)) [ inl e ↦ e | inr n ↦ absurd (apart n) ]
  where
    some : 0 < length cs
    some = omega (arith, c.one_of)

    apart : (k ≡ choose cs p → ⊥) → ⊥
    apart n =
        let a = c.beats (choose cs p) (chosen cs p some).one_of (λ e. n (sym e)) in
        let b = (chosen cs p some).beats k c.one_of n in
        omega (arith, lin)

-- the chosen center is no farther than any other
pub nearest_of : (cs : List Place) (p : Place) (j : ℕ) → j < length cs → dist p (center cs (choose cs p)) ≤ℤ dist p (center cs j)
nearest_of cs p j l = elim (cases_eq j (choose cs p)) [
  | inl e ↦ rw e (omega (arith, lin))
  | inr n ↦ let b = (chosen cs p (omega arith)).beats j l n in omega (arith, lin)
]

-- ---- the first of the nearest

first_chosen : (cs : List Place) (p : Place) (k : ℕ) → FirstLeast (λ i. dist p (center cs i)) (length cs) k → Chosen cs p k
first_chosen cs p k h = record { one_of = h.there; beats = win }
  where
    win : (j : ℕ) → j < length cs → (j ≡ k → ⊥) → Beats cs p k j
    win j l n = elim (cases_lt j k) [
      | inl b ↦ inl (h.first j b)
      | inr a ↦ by_lt_z (dist p (center cs k)) (dist p (center cs j)) (λ less. inl less) (λ most. let least = h.least j l in inr (omega (arith, lin), omega arith))
    ]

-- what a search for the first of the nearest of n centers answers
pub chosen_first : (cs : List Place) (p : Place) (n : ℕ) (r : Option ℕ) → length cs ≡ n → MatchOption r (n ≡ 0) (FirstLeast (λ i. dist p (center cs i)) n) →
    MatchOption r (n ≡ 0) (λ k. (k < n) × (Chosen cs p k × (k ≡ choose cs p)))
chosen_first cs p n None e h = h
chosen_first cs p n (Some k) e h =
    let c = first_chosen cs p k (subst (λ m. FirstLeast (λ i. dist p (center cs i)) m k) (sym e) h) in
    (h.there, (c, chosen_is cs p k c))
