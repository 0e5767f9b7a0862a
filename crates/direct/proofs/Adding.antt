-- One record more in a group.
use Rattle.std.proofs.Common.{◌≡◌, ℕ, ◌*◌, ◌^◌, ◌≤◌, ℤ, pos, negsuc, ◌+ℤ◌, ◌*ℤ◌, neg_ℤ, ◌≤ℤ◌, ap, ◌∙◌, arith, w16, w64, SFits, to_z, of_z}
use borrow.Author.Differences.{ints, fits_in}
use Rattle.std.proofs.lemmas.Int.{to_z-of_z, to_z_pos}
use Rattle.numbers.proofs.Ring.{lin, *ℤ-rises}

-- ---- hold times number

pub moment_low : (h : ℕ) (x : ℤ) → h ≤ 65535 → SFits w16 x → neg_ℤ (pos (65535 * 32768)) ≤ℤ (pos h *ℤ x)
moment_low h x s f =
    let end : pos h *ℤ negsuc 32767 ≡ neg_ℤ (pos (32768 * h)) = omega (arith, ints) in
    omega (arith, lin, *ℤ-rises (pos h) (negsuc 32767) x (omega (arith, ints)) (omega (arith, ints)))

pub moment_high : (h : ℕ) (x : ℤ) → h ≤ 65535 → SFits w16 x → (pos h *ℤ x) ≤ℤ pos (65535 * 32768)
moment_high h x s f =
    let end : pos h *ℤ pos 32767 ≡ pos (32767 * h) = omega (arith, ints) in
    omega (arith, lin, *ℤ-rises (pos h) x (pos 32767) (omega (arith, ints)) (omega (arith, ints)))

-- as the code computes it
pub moment_is : (h : ℕ) (x : ℤ) → h ≤ 65535 → SFits w16 x → to_z w64 (of_z w64 (to_z w64 h *ℤ to_z w64 (of_z w64 (to_z w16 (of_z w16 x))))) ≡ pos h *ℤ x
moment_is h x s f =
    let wide : to_z w64 (of_z w64 (to_z w16 (of_z w16 x))) ≡ x = omega (arith, ints) in
    let fits : SFits w64 (pos h *ℤ x) = omega (arith, lin, fits_in, moment_low h x s f, moment_high h x s f) in
    ap (λ z. to_z w64 (of_z w64 (z *ℤ to_z w64 (of_z w64 (to_z w16 (of_z w16 x)))))) (to_z_pos w64 h (omega arith)) ∙ ap (λ z. to_z w64 (of_z w64 (pos h *ℤ z))) wide ∙ to_z-of_z w64 (pos h *ℤ x) fits

-- a sum with a moment more, as the code computes it
pub sum_is : (x m : ℤ) → neg_ℤ (pos (2 ^ 44)) ≤ℤ x → x ≤ℤ pos (2 ^ 44) → neg_ℤ (pos (65535 * 32768)) ≤ℤ m → m ≤ℤ pos (65535 * 32768) →
    to_z w64 (of_z w64 (to_z w64 (of_z w64 x) +ℤ to_z w64 (of_z w64 m))) ≡ x +ℤ m
sum_is x m lx hx lm hm = omega (arith, ints)
