-- The rules are safe: an impl of a rule cites these as the proof of its law.
use Rattle.std.proofs.Common.{arith, sym, ◌∙◌, inl, inr}
use Rattle.std.specs.Prelude.{◌≡◌, ℕ, true, [], ◌∷◌, length, nat_lt}
use Rattle.std.proofs.lemmas.Int.{by_lt_z, ints}
use Rattle.std.proofs.lemmas.Bool.{cases_Bool, ltb-true, cond-true, cond-false}
use Rattle.grouping.specs.Boxes.{Inside, corner}
use Rattle.grouping.specs.Distance.{Place, dist}
use Rattle.grouping.proofs.Boxes.{corner_decides, far_below_near}
use Rattle.pruning.specs.Rules.{Wins, wins, Safe, min_max_prunes, corner_prunes}

-- the test tells it
pub wins_true : (p : Place) (i : ℕ) (l : Place) (j : ℕ) (c : Place) → wins p i l j c ≡ true → Wins p i l j c
wins_true p i l j c e = elim (cases_Bool (nat_lt i j)) [
  | inl t ↦
      let le = sym (cond-true (nat_lt i j) _ _ t) ∙ e in
      by_lt_z (dist p l) (dist p c) (λ less. inl less) (λ most. inr (omega (arith, ints), ltb-true i j t))
  | inr t ↦ let lt = sym (cond-false (nat_lt i j) _ _ t) ∙ e in inl (omega (arith, ints))
]

-- a leader that wins at the corner wins at every place of the box
corner_wins : (los his : Place) (i : ℕ) (l : Place) (j : ℕ) (c : Place) → length l ≡ length los → length c ≡ length los →
    Wins (corner los his l c) i l j c → (p : Place) → Inside los his p → Wins p i l j c
corner_wins los his i l j c h k (inl w) p r = elim (corner_decides los his (c ∷ l ∷ []) 1 0 h k (inl w) p r) [ inl b ↦ inl b | inr b ↦ absurd (omega (arith, b.1)) ]
corner_wins los his i l j c h k (inr w) p r = elim (corner_decides los his (l ∷ c ∷ []) 0 1 h k (inr (w.0, omega arith)) p r) [ inl b ↦ inl b | inr b ↦ inr (b.0, w.1) ]

pub corner_safe : Safe corner_prunes
corner_safe los his i l j c h k e = corner_wins los his i l j c h k (wins_true (corner los his l c) i l j c e)

pub min_max_safe : Safe min_max_prunes
min_max_safe los his i l j c h k e p r = inl (far_below_near los his l c (omega (arith, ints)) p r)
