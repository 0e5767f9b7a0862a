-- Distances of a box as sums over its axes.
use Rattle.std.proofs.Common.{◌≡◌, ℕ, zero, suc, ◌+◌, ◌<◌, min, [], ◌∷◌, get_or, ℤ, ◌+ℤ◌, refl, ap, ◌∙◌, arith}
use Rattle.std.proofs.lemmas.List.{take_min, take_more}
use Rattle.numbers.specs.Sums.{summed}
use Rattle.numbers.proofs.Ring.{lin}
use Rattle.numbers.proofs.Sums.{summed_append}
use Rattle.points.specs.declared.bounds.Bounds.{Bounds}
use Rattle.points.specs.declared.position.Position.{Position}
use Rattle.grouping.specs.Boxes.{near, far, corner}
use Rattle.grouping.specs.Distance.{dist}
use Rattle.grouping.specs.Groups.{place_of}
use Rattle.pruning.specs.Axes.{axes_of, near_on, far_on, corner_on}
use Rattle.pruning.specs.Positions.{lows, highs}

-- ---- a sum over the axes, one axis after the other

axis_at : (a d : ℕ) → a < 4 → get_or (axes_of 4) a d ≡ a
axis_at zero d h = refl
axis_at (suc zero) d h = refl
axis_at (suc (suc zero)) d h = refl
axis_at (suc (suc (suc zero))) d h = refl
axis_at (suc (suc (suc (suc a)))) d h = absurd (omega arith)

pub summed_more : (f : ℕ → ℤ) (a : ℕ) → a < 4 → summed f (axes_of (a + 1)) ≡ summed f (axes_of a) +ℤ f a
summed_more f a h =
    let next : axes_of (a + 1) ≡ _ = take_more (axes_of 4) a 0 h in
    let one : f (get_or (axes_of 4) a 0) ≡ f a = ap f (axis_at a 0 h) in
    omega (arith, lin, ap (summed f) next ∙ summed_append f (axes_of a) (get_or (axes_of 4) a 0 ∷ []), one)

pub summed_all : (f : ℕ → ℤ) (axes a : ℕ) → a ≡ min axes 4 → summed f (axes_of a) ≡ summed f (axes_of axes)
summed_all f axes a e = ap (λ n. summed f (axes_of n)) e ∙ ap (summed f) (take_min axes (axes_of 4))

-- ---- the distances

-- what computes for each number of axes up to four, and for all that are more
by_axes : (P : ℕ → Type 0) → P 0 → P 1 → P 2 → P 3 → P 4 → ((n : ℕ) → P (suc (suc (suc (suc (suc n)))))) → (n : ℕ) → P n
by_axes P p q r s t u zero = p
by_axes P p q r s t u (suc zero) = q
by_axes P p q r s t u (suc (suc zero)) = r
by_axes P p q r s t u (suc (suc (suc zero))) = s
by_axes P p q r s t u (suc (suc (suc (suc zero)))) = t
by_axes P p q r s t u (suc (suc (suc (suc (suc n))))) = u n

pub near_is : (b : Bounds) (c : Position) (axes : ℕ) → summed (near_on b c) (axes_of axes) ≡ near (lows axes b) (highs axes b) (place_of axes c)
near_is b c = by_axes (λ n. summed (near_on b c) (axes_of n) ≡ near (lows n b) (highs n b) (place_of n c)) refl refl refl refl refl (λ n. refl)

pub far_is : (b : Bounds) (c : Position) (axes : ℕ) → summed (far_on b c) (axes_of axes) ≡ far (lows axes b) (highs axes b) (place_of axes c)
far_is b c = by_axes (λ n. summed (far_on b c) (axes_of n) ≡ far (lows n b) (highs n b) (place_of n c)) refl refl refl refl refl (λ n. refl)

pub corner_is : (b : Bounds) (l k c : Position) (axes : ℕ) →
    summed (corner_on b l k c) (axes_of axes) ≡ dist (corner (lows axes b) (highs axes b) (place_of axes l) (place_of axes k)) (place_of axes c)
corner_is b l k c =
    by_axes (λ n. summed (corner_on b l k c) (axes_of n) ≡ dist (corner (lows n b) (highs n b) (place_of n l) (place_of n k)) (place_of n c)) refl refl refl refl refl (λ n. refl)
