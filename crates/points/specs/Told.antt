-- Numbers of 16 bits, told.
use Rattle.std.specs.Prelude.{◌≡◌, ℕ, zero, suc, ◌<◌, List, [], ◌∷◌, ℤ, pos, negsuc, ◌≤ℤ◌, FitsSigned, slice_index_or, refl}
use Rattle.std.proofs.Common.{arith}
use Rattle.std.specs.Int.{w16}
use Rattle.std.proofs.lemmas.Int.{ints, clamps}
use Rattle.points.specs.Kinds.{told}

pub told_same : (z : ℤ) → FitsSigned w16 z → z ≡ told z
told_same z h = omega (arith, ints, clamps)

told_in : (z : ℤ) → (negsuc 32767 ≤ℤ told z) × (told z ≤ℤ pos 32767)
told_in z = (omega (arith, ints, clamps), omega (arith, ints, clamps))

-- every number of four that are told, and 0 past them
pub told_ranged : (w x y z : ℤ) (k : ℕ) →
    (negsuc 32767 ≤ℤ slice_index_or (told w ∷ told x ∷ told y ∷ told z ∷ []) k (pos 0)) × (slice_index_or (told w ∷ told x ∷ told y ∷ told z ∷ []) k (pos 0) ≤ℤ pos 32767)
told_ranged w x y z zero = told_in w
told_ranged w x y z (suc zero) = told_in x
told_ranged w x y z (suc (suc zero)) = told_in y
told_ranged w x y z (suc (suc (suc zero))) = told_in z
told_ranged w x y z (suc (suc (suc (suc k)))) = (omega (arith, ints), omega (arith, ints))

-- f of the first four of a list, one by one
pub at_four : (f : ℤ → ℤ) (xs : List ℤ) (k : ℕ) → k < 4 →
    slice_index_or (f (slice_index_or xs 0 (pos 0)) ∷ f (slice_index_or xs 1 (pos 0)) ∷ f (slice_index_or xs 2 (pos 0)) ∷ f (slice_index_or xs 3 (pos 0)) ∷ []) k (pos 0) ≡ f (slice_index_or xs k (pos 0))
at_four f xs zero h = refl
at_four f xs (suc zero) h = refl
at_four f xs (suc (suc zero)) h = refl
at_four f xs (suc (suc (suc zero))) h = refl
at_four f xs (suc (suc (suc (suc k)))) h = absurd (omega arith)
