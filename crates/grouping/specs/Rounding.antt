-- The rounded mean, and what a number costs an axis.
use Rattle.std.specs.Prelude.{cond, ℤ, pos, ◌+ℤ◌, ◌-ℤ◌, ◌*ℤ◌, ◌≤ℤ◌, ◌<ℤ◌, int_le}
use Rattle.std.specs.Int.{int_div_euclid, int_rem_euclid}

-- m is the whole number nearest to s / w, the lower of two: 2s - w ≤ 2wm < 2s + w
pub record Rounded (s w m : ℤ) : Type 0 where
  pub low : (pos 2 *ℤ s -ℤ w) ≤ℤ (pos 2 *ℤ w *ℤ m)
  pub high : (pos 2 *ℤ w *ℤ m) <ℤ (pos 2 *ℤ s +ℤ w)

-- that number: the quotient, or the next number where more than half of w remains
abbrev pub rounded : ℤ → ℤ → ℤ
rounded s w = cond (int_le (int_rem_euclid s w +ℤ int_rem_euclid s w) w) (int_div_euclid s w) (int_div_euclid s w +ℤ pos 1)

-- what a center at x costs one axis of a group of weight w with the sum s, but for the squares of the group's numbers
abbrev pub axis_cost : ℤ → ℤ → ℤ → ℤ
axis_cost s w x = w *ℤ (x *ℤ x) -ℤ pos 2 *ℤ s *ℤ x
