-- Centers that go where their groups send them.
use Rattle.std.specs.Prelude.{◌≡◌, ℕ, suc, ◌<◌, ◌≤◌, List, [], ◌∷◌, pos, ◌≢◌}
use Rattle.points.specs.Kinds.{position_place}
use Rattle.grouping.specs.declared.group.Group.{Group}
use Rattle.grouping.specs.Distance.{number}
use Rattle.grouping.specs.Groups.{place_of, Goes}

-- the group h is g with its center gone where g sends it: on the axes from this number on, to 0
pub record Sent (axes : ℕ) (g h : Group) : Type 0 where
  pub goes : (axis : ℕ) → axis < axes → Goes g axis (number (position_place h.center) axis)
  pub flat : (axis : ℕ) → axes ≤ axis → number (position_place h.center) axis ≡ pos 0
  pub weight : h.weight ≡ g.weight
  pub sums : h.sums ≡ g.sums

-- every group so, and n of the centers changed their place
pub data Advances (axes : ℕ) : List Group → List Group → ℕ → Type 0 where
  none : Advances axes [] [] 0
  same : {g h : Group} {gs hs : List Group} {n : ℕ} →
      Sent axes g h → place_of axes h.center ≡ place_of axes g.center → Advances axes gs hs n → Advances axes (g ∷ gs) (h ∷ hs) n
  other : {g h : Group} {gs hs : List Group} {n : ℕ} →
      Sent axes g h → (place_of axes h.center ≢ place_of axes g.center) → Advances axes gs hs n → Advances axes (g ∷ gs) (h ∷ hs) (suc n)
