-- Squared distances, axis by axis.
use Rattle.std.proofs.Common.{◌≡◌, ℕ, zero, suc, negsuc, refl, ap, ◌∙◌, ◌*◌, ◌<◌, ◌≤◌, [], ◌∷◌, length, take, ℤ, pos, ◌+ℤ◌, ◌-ℤ◌, ◌*ℤ◌, nat_abs, ◌≤ℤ◌, arith, take_all, w16, w64, SFits}
use borrow.Author.Differences.{ints, fits_in}
use Rattle.grouping.specs.Distance.{Place, dist, number}
use Rattle.points.specs.declared.position.Position.{Position}
use Rattle.points.specs.Kinds.{position_place}
use Rattle.points.specs.Told.{told_ranged}
use Rattle.numbers.proofs.Summing.{Bounded, sum_below}
use Rattle.numbers.proofs.Ring.{lin, square_low, square_high}

gap : (x y : ℤ) → SFits w16 x → SFits w16 y → nat_abs (x -ℤ y) ≤ 65535
gap x y f h = omega (arith, ints)

pub apart_high : (x y : ℤ) → SFits w16 x → SFits w16 y → ((x -ℤ y) *ℤ (x -ℤ y)) ≤ℤ pos (65535 * 65535)
apart_high x y f h = square_high (x -ℤ y) 65535 (gap x y f h)

pub apart_fits : (x y : ℤ) → SFits w16 x → SFits w16 y → SFits w64 ((x -ℤ y) *ℤ (x -ℤ y))
apart_fits x y f h = omega (arith, lin, fits_in, square_low (x -ℤ y), apart_high x y f h)

pub dist_natural : (xs ys : Place) → pos 0 ≤ℤ dist xs ys
dist_natural [] ys = omega (arith, lin)
dist_natural (x ∷ xs) [] = omega (arith, lin)
dist_natural (x ∷ xs) (y ∷ ys) = omega (arith, lin, square_low (x -ℤ y), dist_natural xs ys)

dist_suc : (xs ys : Place) (i : ℕ) → i < length xs → i < length ys →
    dist (take (suc i) xs) (take (suc i) ys) ≡ dist (take i xs) (take i ys) +ℤ (number xs i -ℤ number ys i) *ℤ (number xs i -ℤ number ys i)
dist_suc [] ys i h k = absurd (omega arith)
dist_suc (x ∷ xs) [] i h k = absurd (omega arith)
dist_suc (x ∷ xs) (y ∷ ys) zero h k = omega (arith, lin)
dist_suc (x ∷ xs) (y ∷ ys) (suc i) h k = omega (arith, lin, dist_suc xs ys i (omega arith) (omega arith))

-- the squared difference of two numbers of 16 bits
abbrev pub apart_on : Place → Place → ℕ → ℤ
apart_on xs ys i = (number xs i -ℤ number ys i) *ℤ (number xs i -ℤ number ys i)

-- a place of numbers of 16 bits
abbrev pub Ranged : Place → Type 0
Ranged xs = (i : ℕ) → (negsuc 32767 ≤ℤ number xs i) × (number xs i ≤ℤ pos 32767)

pub position_ranged : (p : Position) → Ranged (position_place p)
position_ranged p i = told_ranged (number p.at 0) (number p.at 1) (number p.at 2) (number p.at 3) i

pub apart_bounded : (xs ys : Place) (n : ℕ) → Ranged xs → Ranged ys → Bounded (apart_on xs ys) n (65535 * 65535)
apart_bounded xs ys n rx ry i l =
    let fx : SFits w16 (number xs i) = omega (arith, ints, (rx i).0, (rx i).1) in
    let fy : SFits w16 (number ys i) = omega (arith, ints, (ry i).0, (ry i).1) in
    (square_low (number xs i -ℤ number ys i), apart_high (number xs i) (number ys i) fx fy)

-- the squared distance, summed axis by axis
pub dist_summed : (xs ys : Place) (n : ℕ) → n ≤ length xs → n ≤ length ys → dist (take n xs) (take n ys) ≡ sum_below (apart_on xs ys) n
dist_summed xs ys zero h k = refl
dist_summed xs ys (suc n) h k = dist_suc xs ys n h k ∙ ap (λ z. z +ℤ apart_on xs ys n) (dist_summed xs ys n (omega arith) (omega arith))

-- all axes of the first place
pub dist_all : (xs ys : Place) (i : ℕ) → length xs ≡ i → dist (take i xs) (take i ys) ≡ dist xs (take i ys)
dist_all xs ys i h = let l : length xs ≤ i = omega arith in rw (take_all i xs l)
