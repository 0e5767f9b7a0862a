-- Cuts worked by hand: which entries lie on each side is computed.
use Rattle.std.proofs.Common.{◌≡◌, ℕ, ◌<◌, List, [], ◌∷◌, length, pos, refl, ap, inl, inr, arith}
use Rattle.points.specs.Entries.{Entry}
use Rattle.boxes.specs.declared.cut.Cut.{Cut}
use Rattle.boxes.specs.declared.fault.CutFault.TheVariants.{NoUncutBox, NoAxis, Full, OneSided}
use Rattle.boxes.specs.Examples.{four, WorkedFigures, WorkedBoxes}
use Rattle.boxes.specs.Faults.{lower_side, upper_side, Against, Refused, Accepted}
use Rattle.boxes.specs.Regions.{cut_by, holds, regions}
use Rattle.boxes.proofs.Sides.{refused, accepted}

-- box 0 before the first cut
module _ (es : List Entry) (c : Cut) (root : c.parent ≡ 0) where
  free : (axes : ℕ) → Against axes es [] c NoUncutBox → ⊥
  free axes (inl l) = omega arith
  free axes (inr n) = n (λ i l. absurd (omega arith))

  room : (axes : ℕ) → Against axes es [] c Full → ⊥
  room axes e = omega arith

  -- entries on both sides
  both : (axes : ℕ) → 0 < length (lower_side [] c es) → 0 < length (upper_side [] c es) → Against axes es [] c OneSided → ⊥
  both axes l u (inl e) = omega (arith, ap length e)
  both axes l u (inr e) = omega (arith, ap length e)

pub worked_figures : WorkedFigures
unfolding holds regions
worked_figures = (yes_at 101 (omega arith) (omega arith), (yes_at 112 (omega arith) (omega arith), (one_sided 100 (inl refl), (one_sided 113 (inr refl), (no_axis, (again, tt))))))
  where
    yes_at : (value : ℕ) → 0 < length (lower_side [] (cut_by 0 0 (pos value)) four) → 0 < length (upper_side [] (cut_by 0 0 (pos value)) four) → Accepted 2 four [] (cut_by 0 0 (pos value))
    yes_at value l u = let c = cut_by 0 0 (pos value) in accepted 2 four [] c (free four c refl 2) (λ h. omega arith) (room four c refl 2) (both four c refl 2 l u)

    one_sided : (value : ℕ) → Against 2 four [] (cut_by 0 0 (pos value)) OneSided → Refused 2 four [] (cut_by 0 0 (pos value)) OneSided
    one_sided value h = let c = cut_by 0 0 (pos value) in refused 2 four [] c OneSided h (λ l. free four c refl 2) (λ l k. omega arith) (λ l. room four c refl 2)

    no_axis : Refused 2 four [] (cut_by 0 2 (pos 101)) NoAxis
    no_axis = let c = cut_by 0 2 (pos 101) in refused 2 four [] c NoAxis (omega arith) (λ l. free four c refl 2) (λ l. absurd (omega arith)) (λ l. absurd (omega arith))

    again : Refused 2 four (cut_by 0 0 (pos 101) ∷ []) (cut_by 0 1 (pos 20)) NoUncutBox
    again = refused 2 four (cut_by 0 0 (pos 101) ∷ []) (cut_by 0 1 (pos 20)) NoUncutBox (inr (λ u. u 0 (omega arith) refl)) (λ l. absurd (omega arith)) (λ l. absurd (omega arith)) (λ l. absurd (omega arith))

pub worked_boxes : WorkedBoxes
unfolding holds regions
worked_boxes = (refl, refl)
