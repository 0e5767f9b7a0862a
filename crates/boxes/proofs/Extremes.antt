-- The least and the greatest number of entries on an axis.
use Rattle.std.proofs.Common.{◌≡◌, ℕ, zero, suc, ◌+◌, ◌<◌, ◌≤◌, Bool, true, false, cond, ◌⊎◌, List, [], ◌∷◌, ◌++◌, map, length, get_or, take, ℤ, pos, ◌≤ℤ◌, Some, fold, sym, refl, ◌∙◌, subst, inl, inr, arith, w16, SFits}
use borrow.Author.Differences.{ints}
use Rattle.std.specs.Int.{int_max, int_min}
use Rattle.std.specs.List.{ContainsAt as Has, Contains, reduce}
use denote.Param.Members.{Mut, Called}
use Rattle.std.specs.Array.{IsFromFnResult, IsFromFnResultFrom}
use Rattle.std.specs.Prelude.{int_lt}
use Rattle.std.specs.Ordering.{int_cmp, min_by_ordering, max_by_ordering}
use Rattle.std.specs.declared.cmp.Ordering.TheVariants.{Less, Equal, Greater}
use Rattle.std.proofs.ByRecursion.{has_get_or, All-from_get_or}
use Rattle.std.proofs.lemmas.List.{map_more}
use Rattle.std.proofs.lemmas.Simd.{map-map}
use Rattle.std.proofs.lemmas.Int.{fold-int_min_reached, fold-int_min_bounds, fold-int_max_reached, fold-int_max_bounds}
use Rattle.std.proofs.lemmas.Bool.{cases_eq}
use Rattle.points.specs.Entries.{Entry}
use Rattle.points.specs.Kinds.{position_place, told}
use Rattle.points.specs.Told.{told_same, at_four}
use Rattle.grouping.specs.Distance.{number}
use Rattle.boxes.specs.Runs.{entry_at, picked}
use Rattle.boxes.specs.Tells.{numbers_on, Lowest, Highest}

pub picked_more : (es : List Entry) (run : List ℕ) (i : ℕ) → i < length run → picked es (take (i + 1) run) ≡ picked es (take i run) ++ entry_at es (get_or run i 0) ∷ []
picked_more es run i l = map_more (λ n. entry_at es n) run i 0 l

-- what `min` and `max` keep of two numbers
both : (x y : ℤ) → int_lt x y ≡ true → int_lt y x ≡ true → ⊥
both x y a b = omega (arith, ints, a, b)

pub min_of : (x y : ℤ) → min_by_ordering (int_cmp x y) x y ≡ int_min x y
min_of x y = go (int_lt x y) (int_lt y x) (both x y)
  where
    go : (a b : Bool) → (a ≡ true → b ≡ true → ⊥) → min_by_ordering (cond a Less (cond b Greater Equal)) x y ≡ cond b y x
    go true true n = absurd (n refl refl)
    go true false n = refl
    go false true n = refl
    go false false n = refl

pub max_of : (x y : ℤ) → max_by_ordering (int_cmp x y) x y ≡ int_max x y
max_of x y = go (int_lt x y) (int_lt y x) (both x y)
  where
    go : (a b : Bool) → (a ≡ true → b ≡ true → ⊥) → max_by_ordering (cond a Less (cond b Greater Equal)) x y ≡ cond b x y
    go true true n = absurd (n refl refl)
    go true false n = refl
    go false true n = refl
    go false false n = refl

-- the first of a list, or one of the others
has_first_or : (z : ℤ) (zs : List ℤ) (m : ℤ) → (m ≡ z) ⊎ Contains zs m → Has (z ∷ zs) m
has_first_or z zs m (inl e) = (0, omega arith, λ d. sym e)
has_first_or z zs m (inr (k, l, e)) = let l' : suc k < length (z ∷ zs) = omega (arith, l) in subst (Has (z ∷ zs)) e (has_get_or (z ∷ zs) (suc k) m l')

-- the least and the greatest number on an axis
pub lowest_min : (axis : ℕ) (es : List Entry) (m : ℤ) → Some m ≡ reduce int_min (numbers_on axis es) → Lowest axis es m
lowest_min axis [] m e = absurd (let z : ◌≡◌ {A = ℕ} 0 1 = cc in omega arith)
lowest_min axis (x ∷ es) m e =
    let zs = numbers_on axis es in
    let is : m ≡ fold int_min (number x.place axis) zs = cc in
    let b = fold-int_min_bounds (number x.place axis) zs m is in
    record { one_of = has_first_or (number x.place axis) zs m (fold-int_min_reached (number x.place axis) zs m is); below = (b.0, All-from_get_or (λ y. m ≤ℤ y) zs (pos 0) (λ k l. b.1 k (pos 0) l)) }

pub highest_max : (axis : ℕ) (es : List Entry) (m : ℤ) → Some m ≡ reduce int_max (numbers_on axis es) → Highest axis es m
highest_max axis [] m e = absurd (let z : ◌≡◌ {A = ℕ} 0 1 = cc in omega arith)
highest_max axis (x ∷ es) m e =
    let zs = numbers_on axis es in
    let is : m ≡ fold int_max (number x.place axis) zs = cc in
    let b = fold-int_max_bounds (number x.place axis) zs m is in
    record { one_of = has_first_or (number x.place axis) zs m (fold-int_max_reached (number x.place axis) zs m is); above = (b.0, All-from_get_or (λ y. y ≤ℤ m) zs (pos 0) (λ k l. b.1 k (pos 0) l)) }

-- the numbers of a run on an axis
pub numbers_picked : (axis : ℕ) (es : List Entry) (ns : List ℕ) → map (λ i. number (entry_at es i).place axis) ns ≡ numbers_on axis (picked es ns)
numbers_picked axis es ns = sym (map-map (λ e. number e.place axis) (λ i. entry_at es i) ns)

-- a number of a position, as the code stores it
pub told_at : (P : ℤ → Type 0) (xs : List ℤ) (axis : ℕ) → axis < 4 → SFits w16 (get_or xs axis (pos 0)) → P (get_or xs axis (pos 0)) → P (number (position_place (record { at = xs })) axis)
told_at P xs axis l fits = subst P (sym (at_four told xs axis l ∙ sym (told_same (get_or xs axis (pos 0)) fits)))

-- what holds of each answer of a closure that does not change holds of the array that it made
module _ {F B : Type 0} (g : Mut F (ℕ × Unit {0}) B) (f : F) (ys : List B) (P : ℕ → B → Type 0) (each : (i : ℕ) (y : B) (q : F) → Called g f (i, tt) y q → (q ≡ f) × P i y) where
  go : (n i : ℕ) → IsFromFnResultFrom g f ys i n → (j : ℕ) (d : B) → i ≤ j → j < i + n → P j (get_or ys j d)
  go zero i e j d l h = absurd (omega arith)
  go (suc n) i e j d l h = elim (cases_eq j i) [
    | inl s ↦ subst (λ k. P k (get_or ys k d)) (sym s) (subst (P i) (sym (e.2.1 d)) (each i e.1 e.0 e.3).1)
    | inr ne ↦ go n (i + 1) (subst (λ q. IsFromFnResultFrom g q ys (i + 1) n) (each i e.1 e.0 e.3).0 e.4) j d (omega arith) (omega arith)
  ]

  pub from_fn_all : (n : ℕ) → IsFromFnResult g f ys n → (j : ℕ) (d : B) → j < n → P j (get_or ys j d)
  from_fn_all n r j d l = go n 0 r.each j d (omega arith) (omega arith)
