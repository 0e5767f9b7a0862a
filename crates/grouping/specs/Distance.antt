-- Places and how far they are from one another.
use Rattle.std.specs.Prelude.{ℕ, List, [], ◌∷◌, ℤ, pos, ◌+ℤ◌, ◌-ℤ◌, ◌*ℤ◌, slice_index_or}

-- one whole number for each axis
abbrev pub Place : Type 0
Place = List ℤ

-- the number of a place on an axis; 0 on an axis that it has not
abbrev pub number : Place → ℕ → ℤ
number p axis = slice_index_or p axis (pos 0)

-- the squared distance, over the axes that both places have
abbrev pub dist : Place → Place → ℤ
dist [] ys = pos 0
dist (x ∷ xs) [] = pos 0
dist (x ∷ xs) (y ∷ ys) = (x -ℤ y) *ℤ (x -ℤ y) +ℤ dist xs ys
