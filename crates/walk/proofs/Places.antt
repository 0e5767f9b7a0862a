-- A box of one place.
use Rattle.std.proofs.Common.{◌≡◌, ℕ, ◌<◌, ◌≤◌, Bool, true, false, cond, List, [], ◌∷◌, length, get_or, ℤ, pos, sym, refl, ap, ◌∙◌, subst, inl, inr, arith}
use borrow.Author.Differences.{ints}
use lib.Signed.{lt_z}
use Rattle.std.specs.List.{ContainsAt as Has, AllByRecursion}
use Rattle.std.proofs.lemmas.List.{get_or-take, ext_get_or, length-take-le}
use Rattle.points.specs.Kinds.{position_place, told}
use Rattle.points.specs.Told.{at_four}
use Rattle.numbers.proofs.Quote.{solve, quotes}
use Rattle.numbers.proofs.Ring.{lin}
use Rattle.grouping.specs.Boxes.{apart, near}
use Rattle.grouping.specs.Choice.{Beats, center, choose}
use Rattle.grouping.specs.Distance.{Place, number, dist}
use Rattle.grouping.specs.Groups.{place_of}
use Rattle.pruning.specs.Pruning.{Leader}
use Rattle.pruning.proofs.Leading.{listed_chosen}

near_axis_is : (x y : ℤ) (s t : Bool) → lt_z y x ≡ s → lt_z x y ≡ t → cond s (apart x y) (cond t (apart x y) (pos 0)) ≡ apart x y
near_axis_is x y true t d e = refl
near_axis_is x y false true d e = refl
near_axis_is x y false false d e =
    let same : y ≡ x = omega (arith, ints) in
    let z : pos 0 ≡ apart x x = solve (x ∷ []) (search quotes depth 30 fits 20000) tt in
    subst (λ w. pos 0 ≡ apart x w) (sym same) z

-- the least squared distance to it is the squared distance
pub near_place : (p c : Place) → near p p c ≡ dist p c
near_place [] c = refl
near_place (x ∷ p) [] = refl
near_place (x ∷ p) (y ∷ c) = omega (arith, lin, near_axis_is x y (lt_z y x) (lt_z x y) refl refl, near_place p c)

-- and its leader is the center that the place chooses, if that is a candidate
pub leader_chosen : (cs : List Place) (ks : List ℕ) (p los his : Place) (l : ℕ) → los ≡ p → his ≡ p → AllByRecursion (λ k. k < length cs) ks → Leader los his cs ks l → Has ks (choose cs p) → l ≡ choose cs p
leader_chosen cs ks p los his l e f known leads has = listed_chosen cs ks p l known leads.one_of beats has
  where
    at : (k : ℕ) → near los his (center cs k) ≡ dist p (center cs k)
    at k = ap (λ q. near q his (center cs k)) e ∙ ap (λ q. near p q (center cs k)) f ∙ near_place p (center cs k)

    beats : (j : ℕ) → Has ks j → (j ≡ l → ⊥) → Beats cs p l j
    beats j h n = elim (leads.nearest j h n) [
      | inl less ↦ inl (omega (arith, lin, less, at l, at j))
      | inr tie ↦ inr (sym (at l) ∙ tie.0 ∙ at j, tie.1)
    ]

-- ---- the place of a point, as a position

pub place_at : (n : ℕ) (p : Place) (at : List ℤ) → n ≤ 4 → length p ≡ n → ((j : ℕ) → j < 4 → told (get_or at j (pos 0)) ≡ number p j) → place_of n (record { at = at }) ≡ p
place_at n p at l long h =
    let lp : length (place_of n (record { at = at })) ≡ n = length-take-le n (position_place (record { at = at })) l in
    ext_get_or (pos 0) _ p (lp ∙ sym long)
    (λ i k. let k' : i < n = omega arith in get_or-take n (position_place (record { at = at })) i (pos 0) k' ∙ at_four told at i (omega arith) ∙ h i (omega arith))
