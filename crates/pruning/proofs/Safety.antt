-- What the tests of the rules decide.
use Rattle.std.proofs.Common.{arith, ◌∙◌, inl, inr}
use Rattle.std.specs.Prelude.{◌≡◌, ℕ, true, List, ℤ, ◌<ℤ◌, int_le, int_lt, nat_lt}
use Rattle.std.proofs.lemmas.Int.{ints}
use Rattle.std.proofs.lemmas.Bool.{lt-ltb, cond-true, cond_both}
use Rattle.grouping.specs.Boxes.{corner}
use Rattle.grouping.specs.Distance.{Place, dist}
use Rattle.grouping.specs.Choice.{Beats, center}
use Rattle.pruning.specs.Rules.{Wins, wins, CornerPrunes}
use Rattle.pruning.specs.Safety.{wins_true}

-- at the places of two centers it is what grouping says of them
pub wins_beats : (cs : List Place) (p : Place) (k j : ℕ) → Wins p k (center cs k) j (center cs j) → Beats cs p k j
wins_beats cs p k j w = w

wins_from : (p : Place) (i : ℕ) (l : Place) (j : ℕ) (c : Place) → Wins p i l j c → wins p i l j c ≡ true
wins_from p i l j c (inl w) = cond_both (nat_lt i j) (int_le (dist p l) (dist p c)) (int_lt (dist p l) (dist p c)) (λ b. b ≡ true) (λ t. (below (dist p l) (dist p c) w).0) (λ t. (below (dist p l) (dist p c) w).1)
  where
    below : (x y : ℤ) → x <ℤ y → (int_le x y ≡ true) × (int_lt x y ≡ true)
    below x y h = (grind (arith, ints), grind (arith, ints))
wins_from p i l j c (inr w) = cond-true (nat_lt i j) (int_le (dist p l) (dist p c)) (int_lt (dist p l) (dist p c)) (lt-ltb i j w.1) ∙ equal (dist p l) (dist p c) w.0
  where
    equal : (x y : ℤ) → x ≡ y → int_le x y ≡ true
    equal x y e = grind (arith, ints)

pub corner_prunes_is : CornerPrunes
corner_prunes_is los his i l j c = (wins_true (corner los his l c) i l j c, wins_from (corner los his l c) i l j c)
