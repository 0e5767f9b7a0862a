-- The number of 16 bits that is nearest to a value is told as itself.
use Rattle.std.proofs.Common.{◌≡◌, ℤ, ap, ◌∙◌, arith, w16, SFits, to_z, of_z}
use Rattle.std.proofs.lemmas.Int.{ints, clamps, to_z-of_z}
use Rattle.points.specs.Kinds.{told}

fits : (z : ℤ) → SFits w16 (told z)
fits z = omega (arith, ints, clamps)

pub told_again : (r z : ℤ) → r ≡ told z → told (to_z w16 (of_z w16 r)) ≡ told z
told_again r z e = ap (λ x. told (to_z w16 (of_z w16 x))) e ∙ ap told (to_z-of_z w16 (told z) (fits z)) ∙ omega (arith, ints, clamps)
