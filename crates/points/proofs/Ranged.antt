-- Numbers that lie in a range, narrowed to the fields of a telegram.
use Rattle.std.proofs.Common.{◌≡◌, ℤ, pos, nat_abs, ◌≤ℤ◌, ap, ◌∙◌, subst, arith, w16, w32, SFits, to_z, of_z}
use Rattle.std.proofs.lemmas.Int.{ints, clamps, to_z-of_z}
use Rattle.value.specs.Ranges.{Within, nearest_in}
use Rattle.value.specs.declared.range.ValueRange.{ValueRange}

pub nearest_same : (range : ValueRange) (z : ℤ) → Within range z → nearest_in range z ≡ z
nearest_same range z h = let low = h.0 in let high = h.1 in omega (arith, ints, clamps)

pub nearest_within : (range : ValueRange) (z : ℤ) → range.least ≤ℤ range.greatest → Within range (nearest_in range z)
nearest_within range z h = (omega (arith, ints, clamps), omega (arith, ints, clamps))

narrow : (x : ℤ) → pos 0 ≤ℤ x → x ≤ℤ pos 32767 → to_z w16 (of_z w16 (to_z w32 (of_z w32 x))) ≡ x
narrow x low high = omega (arith, ints)

-- a number of the range in 16 bits, with a sign and without
pub kept : (range : ValueRange) (x z : ℤ) → x ≡ z → Within range z → pos 0 ≤ℤ range.least → range.greatest ≤ℤ pos 32767 →
    nearest_in range (to_z w16 (of_z w16 (to_z w32 (of_z w32 x)))) ≡ z
kept range x z e h low high =
    let a = h.0 in
    let b = h.1 in
    ap (nearest_in range) (narrow x (omega (arith, ints)) (omega (arith, ints)) ∙ e) ∙ nearest_same range z h

natural : (x : ℤ) → pos 0 ≤ℤ x → x ≤ℤ pos 65535 → pos (nat_abs (to_z w32 (of_z w32 x))) ≡ x
natural x low high = omega (arith, ints)

pub kept_natural : (range : ValueRange) (x z : ℤ) → x ≡ z → Within range z → pos 0 ≤ℤ range.least → range.greatest ≤ℤ pos 65535 →
    pos (nat_abs (nearest_in range (pos (nat_abs (to_z w32 (of_z w32 x)))))) ≡ z
kept_natural range x z e h low high =
    let a = h.0 in
    let b = h.1 in
    ap (λ y. pos (nat_abs (nearest_in range y))) (natural x (omega (arith, ints)) (omega (arith, ints)) ∙ e) ∙ ap (λ y. pos (nat_abs y)) (nearest_same range z h) ∙ omega (arith, ints)

-- a number as it is passed
pub admitted : (range : ValueRange) (x z : ℤ) → SFits w32 z → (x ≡ to_z w32 (of_z w32 z)) × Within range (to_z w32 (of_z w32 z)) → (x ≡ z) × Within range z
admitted range x z f h = subst (λ y. (x ≡ y) × Within range y) (to_z-of_z w32 z f) h

pub brought : (range : ValueRange) (x z : ℤ) → SFits w32 z → x ≡ nearest_in range (to_z w32 (of_z w32 z)) → x ≡ nearest_in range z
brought range x z f h = h ∙ ap (nearest_in range) (to_z-of_z w32 z f)
