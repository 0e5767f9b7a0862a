-- Which center a place belongs to: the nearest, and of several the one of the lowest number.
use Rattle.std.specs.Prelude.{◌≡◌, ℕ, suc, ◌<◌, cond, ◌⊎◌, List, [], ◌∷◌, length, ◌<ℤ◌, ◌≢◌, int_lt, slice_index_or}
use Rattle.grouping.specs.Distance.{Place, dist}

-- the center of number k
abbrev pub center : List Place → ℕ → Place
center cs k = slice_index_or cs k []

-- center k is nearer to p than center j, or equally near and of the lower number
abbrev pub Beats : List Place → Place → ℕ → ℕ → Type 0
Beats cs p k j = (dist p (center cs k) <ℤ dist p (center cs j)) ⊎ ((dist p (center cs k) ≡ dist p (center cs j)) × (k < j))

-- p belongs to center k: it beats every other
pub record Chosen (cs : List Place) (p : Place) (k : ℕ) : Type 0 where
  pub one_of : k < length cs
  pub beats : (j : ℕ) → j < length cs → (j ≢ k) → Beats cs p k j

-- the number of the center that p belongs to: of several centers, the one of all but the first, if it is nearer than the
-- first; else the first
unfoldable pub choose : List Place → Place → ℕ
choose [] p = 0
choose (c ∷ []) p = 0
choose (c ∷ d ∷ cs) p =
    let k = choose (d ∷ cs) p in
    cond (int_lt (dist p (center (d ∷ cs) k)) (dist p c)) (suc k) 0
