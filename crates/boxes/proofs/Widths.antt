-- How wide bounds are, in the numbers of the code.
use Rattle.std.proofs.Common.{◌≡◌, ℕ, ◌+◌, ◌/◌, ◌<◌, ◌≤◌, true, false, get_or, ℤ, pos, negsuc, ◌+ℤ◌, ◌-ℤ◌, nat_abs, ◌≤ℤ◌, sym, refl, ap, ◌∙◌, ap₂, arith, w16, w32, SFits, to_z, of_z}
use borrow.Author.Differences.{ints}
use lib.Signed.{lt_z}
use Rattle.std.specs.Int.{int_min}
use Rattle.std.proofs.lemmas.Int.{clamps, by_lt_z}
use Rattle.points.specs.declared.position.Position.{Position}
use Rattle.points.specs.Kinds.{position_place}
use Rattle.points.specs.Told.{told_ranged}
use Rattle.grouping.specs.Distance.{number}
use Rattle.boxes.specs.Widths.{natural, apart}

natural_none : (z : ℤ) → z ≤ℤ pos 0 → natural z ≡ 0
natural_none (pos n) l = omega (arith, ints, l)
natural_none (negsuc n) l = refl

natural_some : (z : ℤ) → pos 0 ≤ℤ z → z ≡ pos (natural z)
natural_some (pos n) l = refl
natural_some (negsuc n) l = absurd (omega (arith, ints, l))

pub apart_none : (low high : ℤ) → high ≤ℤ low → apart low high ≡ 0
unfolding apart
apart_none low high l = natural_none (high -ℤ low) (omega (arith, ints))

-- the lower number and how far they are apart make the higher one
pub apart_makes : (low high : ℤ) → low ≤ℤ high → high ≡ low +ℤ pos (apart low high)
unfolding apart
apart_makes low high l = let e = natural_some (high -ℤ low) (omega (arith, ints)) in omega (arith, ints)

-- the difference, as the code has it
pub apart_cast : (low high x y : ℤ) → SFits w16 x → SFits w16 y → x ≡ low → y ≡ high → lt_z (to_z w32 (of_z w32 (to_z w16 (of_z w16 x)))) (to_z w32 (of_z w32 (to_z w16 (of_z w16 y)))) ≡ true →
    (nat_abs (to_z w32 (of_z w32 (to_z w32 (of_z w32 (to_z w16 (of_z w16 y))) -ℤ to_z w32 (of_z w32 (to_z w16 (of_z w16 x)))))) ≡ apart low high) × (apart low high ≤ 65535)
unfolding apart
apart_cast low high x y fx fy ex ey t =
    let a : to_z w32 (of_z w32 (to_z w16 (of_z w16 x))) ≡ low = omega (arith, ints) in
    let b : to_z w32 (of_z w32 (to_z w16 (of_z w16 y))) ≡ high = omega (arith, ints) in
    let less : lt_z low high ≡ true = ap₂ lt_z (sym a) (sym b) ∙ t in
    let up : low ≤ℤ high = grind (arith, ints) in
    let n = natural_some (high -ℤ low) (omega (arith, ints)) in
    let d : to_z w32 (of_z w32 (to_z w32 (of_z w32 (to_z w16 (of_z w16 y))) -ℤ to_z w32 (of_z w32 (to_z w16 (of_z w16 x))))) ≡ pos (natural (high -ℤ low)) = omega (arith, ints) in
    (ap nat_abs d, omega (arith, ints))

pub apart_uncast : (low high x y : ℤ) → SFits w16 x → SFits w16 y → x ≡ low → y ≡ high → lt_z (to_z w32 (of_z w32 (to_z w16 (of_z w16 x)))) (to_z w32 (of_z w32 (to_z w16 (of_z w16 y)))) ≡ false → high ≤ℤ low
apart_uncast low high x y fx fy ex ey t = grind (arith, ints)

-- the middle, as the code has it
pub middle_is : (low high x m : ℤ) (half : ℕ) → SFits w16 x → low ≤ℤ pos 32767 → high ≤ℤ pos 32767 → negsuc 32767 ≤ℤ low → x ≡ low → half ≡ apart low high / 2 → 0 < apart low high →
    m ≡ int_min (to_z w32 (of_z w32 (to_z w32 (of_z w32 (to_z w32 (of_z w32 (to_z w16 (of_z w16 x))) +ℤ to_z w32 half)) +ℤ pos 1))) (pos 32767) → to_z w16 (of_z w16 (to_z w32 (of_z w32 m))) ≡ low +ℤ pos (apart low high / 2 + 1)
middle_is low high x m half fx l h g e f some is =
    let up : low ≤ℤ high = by_lt_z high low (λ less. let over : high ≤ℤ low = omega (arith, ints) in absurd (omega (arith, apart_none low high over))) (λ most. most) in
    let n = apart_makes low high up in
    let a : to_z w32 (of_z w32 (to_z w16 (of_z w16 x))) ≡ low = omega (arith, ints) in
    let v : m ≡ low +ℤ pos (apart low high / 2 + 1) = omega (arith, ints, clamps) in
    omega (arith, ints)

-- the numbers of a position have 16 bits
pub ranged : (p : Position) (axis : ℕ) → (negsuc 32767 ≤ℤ number (position_place p) axis) × (number (position_place p) axis ≤ℤ pos 32767)
ranged p axis = told_ranged (get_or p.at 0 (pos 0)) (get_or p.at 1 (pos 0)) (get_or p.at 2 (pos 0)) (get_or p.at 3 (pos 0)) axis
