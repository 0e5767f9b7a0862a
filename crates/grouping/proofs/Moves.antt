-- Where centers go, axis by axis.
use Rattle.std.specs.Bool.{MatchBool}
use Rattle.std.proofs.Common.{◌≡◌, ℕ, Bool, true, false, ◌<◌, ◌≤◌, length, get_or, take, ℤ, pos, negsuc, ◌≤ℤ◌, sym, ap, ◌∙◌, subst, arith, w16, w64, SFits, to_z, of_z}
use borrow.Author.Differences.{ints}
use Rattle.std.specs.Int.{int_max, int_min}
use Rattle.std.proofs.lemmas.List.{get_or-take, ext_get_or, length-take-le}
use Rattle.std.proofs.lemmas.Int.{clamps, to_z-of_z}
use Rattle.std.proofs.lemmas.Bool.{true≢false, false≢true}
use Rattle.points.specs.declared.position.Position.{Position}
use Rattle.points.specs.Kinds.{position_place, told}
use Rattle.points.specs.Told.{told_same, at_four}
use Rattle.grouping.specs.declared.group.Group.{Group}
use Rattle.grouping.specs.Distance.{number}
use Rattle.grouping.specs.Rounding.{Rounded}
use Rattle.grouping.specs.Groups.{place_of, Goes}

-- ---- one axis

-- a mean as the code narrows it
narrowed : (m y : ℤ) → SFits w64 m → y ≡ int_max (negsuc 32767) (int_min (to_z w64 (of_z w64 m)) (pos 32767)) → to_z w16 (of_z w16 (to_z w64 (of_z w64 y))) ≡ told m
narrowed m y f q =
    let q' : y ≡ int_max (negsuc 32767) (int_min m (pos 32767)) = q ∙ ap (λ z. int_max (negsuc 32767) (int_min z (pos 32767))) (to_z-of_z w64 m f) in
    let is : y ≡ told m = omega (arith, ints, clamps) in
    let low : negsuc 32767 ≤ℤ y = omega (arith, ints, clamps) in
    let high : y ≤ℤ pos 32767 = omega (arith, ints, clamps) in
    let fy : SFits w64 y = omega (arith, ints) in
    let fz : SFits w16 y = omega (arith, ints) in
    ap (λ z. to_z w16 (of_z w16 z)) (to_z-of_z w64 y fy) ∙ to_z-of_z w16 y fz ∙ is

pub goes_to_mean : (group : Group) (a : ℕ) (m y : ℤ) → (group.weight ≡ 0 → ⊥) → SFits w64 (number group.sums a) → SFits w64 m →
    Rounded (to_z w64 (of_z w64 (number group.sums a))) (pos group.weight) m → y ≡ int_max (negsuc 32767) (int_min (to_z w64 (of_z w64 m)) (pos 32767)) →
    Goes group a (to_z w16 (of_z w16 (to_z w64 (of_z w64 y))))
goes_to_mean group a m y some fs fm r q =
    let s = number group.sums a in
    let r' = subst (λ z. Rounded z (pos group.weight) m) (to_z-of_z w64 s fs) r in
    record { stays = λ z. absurd (some z); goes = λ _. (m, (r', narrowed m y fm q)) }

number_at : (p : Position) (a : ℕ) → a < 4 → number (position_place p) a ≡ told (get_or p.at a (pos 0))
number_at p a h = at_four told p.at a h

pub goes_at : (group : Group) (p : Position) (a : ℕ) → a < 4 → SFits w16 (get_or p.at a (pos 0)) → Goes group a (get_or p.at a (pos 0)) → Goes group a (number (position_place p) a)
goes_at group p a h f goes = subst (Goes group a) (told_same _ f ∙ sym (number_at p a h)) goes

-- ---- places of positions

pub same_numbers : (n : ℕ) (p q : Position) → n ≤ 4 → ((j : ℕ) → j < n → number (position_place p) j ≡ number (position_place q) j) → place_of n p ≡ place_of n q
same_numbers n p q l h =
    let lp : length (take n (position_place p)) ≡ n = length-take-le n (position_place p) l in
    let lq : length (take n (position_place q)) ≡ n = length-take-le n (position_place q) l in
    ext_get_or (pos 0) _ _ (lp ∙ sym lq) (λ i k. let i' : i < n = omega arith in get_or-take n (position_place p) i (pos 0) i' ∙ h i i' ∙ sym (get_or-take n (position_place q) i (pos 0) i'))

pub number_of : (n : ℕ) (p : Position) (j : ℕ) → j < n → number (place_of n p) j ≡ number (position_place p) j
number_of n p j h = get_or-take n (position_place p) j (pos 0) h

-- positions that differ on one of the first n axes are two places
pub places_apart : (n : ℕ) (p q : Position) (j : ℕ) → j < n → (number (position_place p) j ≡ number (position_place q) j → ⊥) → place_of n p ≡ place_of n q → ⊥
places_apart n p q j h apart e = apart (sym (number_of n p j h) ∙ ap (λ z. number z j) e ∙ number_of n q j h)

-- what a test of the first n axes says of the places
pub one_place : (n m : ℕ) (p q : Position) (r : Bool) → m ≡ n → n ≤ 4 →
    MatchBool r ((j : ℕ) → j < m → number (position_place p) j ≡ number (position_place q) j) ((j : ℕ) × (j < m) × (number (position_place p) j ≡ number (position_place q) j → ⊥)) →
    (r ≡ true → place_of n p ≡ place_of n q) × (r ≡ false → place_of n p ≡ place_of n q → ⊥)
one_place n m p q true e l h = (λ _. same_numbers n p q l (λ j k. h j (omega arith)), λ f. absurd (true≢false f))
one_place n m p q false e l (j, k, h) = (λ t. absurd (false≢true t), λ _. places_apart n p q j (omega arith) h)
