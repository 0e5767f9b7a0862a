-- Groups, one by one.
use Rattle.std.proofs.Common.{◌≡◌, ℕ, zero, suc, ◌<◌, List, [], ◌∷◌, map, length, get_or, set, pos, sym, refl, ap, ◌∙◌}
use Rattle.std.proofs.lemmas.List.{get_or-map, map-set, set-get_or}
use Rattle.points.specs.Kinds.{position_place}
use Rattle.grouping.specs.declared.group.Group.{Group}
use Rattle.grouping.specs.Choice.{center}
use Rattle.grouping.specs.Distance.{number}
use Rattle.grouping.specs.Groups.{place_of, centers, places, no_group, group_at, Flat}

pub center_at : (axes : ℕ) (gs : List Group) (k : ℕ) → k < length gs → center (places axes gs) k ≡ place_of axes (group_at gs k).center
center_at axes gs k h = get_or-map (λ g. place_of axes g.center) gs k no_group [] h

places_are : (axes : ℕ) (gs : List Group) → places axes gs ≡ map (place_of axes) (centers gs)
places_are axes [] = refl
places_are axes (g ∷ gs) = ap (λ ps. place_of axes g.center ∷ ps) (places_are axes gs)

-- the same centers have the same places
pub places_same : (axes : ℕ) (gs hs : List Group) → centers gs ≡ centers hs → places axes gs ≡ places axes hs
places_same axes gs hs e = places_are axes gs ∙ ap (map (place_of axes)) e ∙ sym (places_are axes hs)

center_of : (gs : List Group) (k : ℕ) → get_or (centers gs) k no_group.center ≡ (group_at gs k).center
center_of [] k = refl
center_of (g ∷ gs) zero = refl
center_of (g ∷ gs) (suc k) = center_of gs k

-- the same centers stand at 0 on the same axes
pub flat_same : (axes : ℕ) (gs hs : List Group) → centers gs ≡ centers hs → Flat axes hs → Flat axes gs
flat_same axes gs hs e f k axis h =
    ap (λ p. number (position_place p) axis) (sym (center_of gs k) ∙ ap (λ ps. get_or ps k no_group.center) e ∙ center_of hs k) ∙ f k axis h

-- a group with the center of the one that it replaces
pub centers_set : (gs : List Group) (k : ℕ) (h : Group) → h.center ≡ (group_at gs k).center → centers (set gs k h) ≡ centers gs
centers_set gs k h e = map-set (λ g. g.center) gs k h ∙ ap (set (centers gs) k) (e ∙ sym (center_of gs k)) ∙ set-get_or (centers gs) k no_group.center

-- 0 on every axis
pub zeros : (axis : ℕ) → number (pos 0 ∷ pos 0 ∷ pos 0 ∷ pos 0 ∷ []) axis ≡ pos 0
zeros zero = refl
zeros (suc zero) = refl
zeros (suc (suc zero)) = refl
zeros (suc (suc (suc zero))) = refl
zeros (suc (suc (suc (suc axis)))) = refl
