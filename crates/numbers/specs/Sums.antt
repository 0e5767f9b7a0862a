-- Sums over lists, and lists made element by element.
use Rattle.std.specs.Prelude.{ℕ, suc, List, [], ◌∷◌, ℤ, pos, ◌+ℤ◌}

-- the sum of f over a list
abbrev pub summed : {X : Type 0} → (X → ℤ) → List X → ℤ
summed f [] = pos 0
summed f (x ∷ xs) = f x +ℤ summed f xs

-- the sum of f over a list, each element taken with its number, from k on
abbrev pub summed_from : {X : Type 0} → (ℕ → X → ℤ) → ℕ → List X → ℤ
summed_from f k [] = pos 0
summed_from f k (x ∷ xs) = f k x +ℤ summed_from f (suc k) xs

-- f of every element, taken with its number, from k on
abbrev pub mapped_from : {X Y : Type 0} → (ℕ → X → Y) → ℕ → List X → List Y
mapped_from f k [] = []
mapped_from f k (x ∷ xs) = f k x ∷ mapped_from f (suc k) xs
