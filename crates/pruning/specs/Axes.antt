-- The axes of a box, and what one of them adds to its distances.
use Rattle.std.specs.Prelude.{ℕ, cond, List, [], ◌∷◌, take, ℤ, pos, int_lt}
use Rattle.points.specs.declared.bounds.Bounds.{Bounds}
use Rattle.points.specs.declared.position.Position.{Position}
use Rattle.points.specs.Kinds.{position_place}
use Rattle.grouping.specs.Boxes.{apart}
use Rattle.grouping.specs.Distance.{number}

-- the axes of points with so many: the first of the four
abbrev pub axes_of : ℕ → List ℕ
axes_of axes = take axes (0 ∷ 1 ∷ 2 ∷ 3 ∷ [])

-- the squared difference of y and the number of lo..hi that is nearest to it
abbrev pub near_axis : ℤ → ℤ → ℤ → ℤ
near_axis lo hi y = cond (int_lt y lo) (apart lo y) (cond (int_lt hi y) (apart hi y) (pos 0))

-- of y and the end that is farther from it
abbrev pub far_axis : ℤ → ℤ → ℤ → ℤ
far_axis lo hi y = cond (int_lt (apart hi y) (apart lo y)) (apart lo y) (apart hi y)

-- of y and the end on the side of the candidate c against the leader l
abbrev pub corner_axis : ℤ → ℤ → ℤ → ℤ → ℤ → ℤ
corner_axis lo hi l c y = apart (cond (int_lt l c) hi lo) y

-- the number of a position on an axis
abbrev pub number_on : Position → ℕ → ℤ
number_on p a = number (position_place p) a

-- what an axis adds to the least squared distance of the bounds to c
abbrev pub near_on : Bounds → Position → ℕ → ℤ
near_on b c a = near_axis (number_on b.least a) (number_on b.greatest a) (number_on c a)

-- to the greatest
abbrev pub far_on : Bounds → Position → ℕ → ℤ
far_on b c a = far_axis (number_on b.least a) (number_on b.greatest a) (number_on c a)

-- to that of the corner on the candidate's side
abbrev pub corner_on : Bounds → Position → Position → Position → ℕ → ℤ
corner_on b leader candidate c a = corner_axis (number_on b.least a) (number_on b.greatest a) (number_on leader a) (number_on candidate a) (number_on c a)
