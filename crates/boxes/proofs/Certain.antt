-- A fact that is known to hold has a proof that can be named, since each of these facts can be decided.
use Rattle.std.proofs.Common.{◌≡◌, ℕ, zero, suc, ◌+◌, cond, eqb, List, [], ◌∷◌, ◌++◌, ℤ, sym, refl, ap, subst, ◌⊎◌, inl, inr, arith, sum_by}
use Rattle.std.specs.List.{ContainsAt as Has}
use Rattle.std.specs.List.Sorted.{IsPermutation}
use Rattle.std.proofs.Math.IntN.{ℤ_discrete}
use Rattle.std.proofs.Math.Logic.{∥∥₁_elim, ∥∥₁_prop}
use Rattle.points.specs.declared.bounds.Bounds.{Bounds}
use Rattle.points.specs.Entries.{Entry}
use Rattle.boxes.specs.declared.cut.Cut.{Cut}
use Rattle.boxes.specs.declared.node.BoxNode.{BoxNode}
use Rattle.boxes.specs.declared.node.Tallies.{Tallies}
use Rattle.boxes.specs.Agreement.{Agrees}
use Rattle.boxes.specs.Tells.{BoundsOf, TalliesOf}
use Rattle.std.proofs.Props.{props}
use Rattle.std.proofs.lemmas.Bool.{cases_eq, eq-eqb, ne_eqb}
use Rattle.std.proofs.lemmas.List.Sums.{sum_by-cons}
use Rattle.std.proofs.lemmas.List.Sorted.{IsPermutation-refl, IsPermutation-sym, IsPermutation-cons, IsPermutation-middle, IsPermutation-trans, sum_by-IsPermutation}

-- an element of a list of numbers
has_or : (xs : List ℤ) (z : ℤ) → Has xs z ⊎ (Has xs z → ⊥)
has_or [] z = inr (λ h. omega (arith, h.1))
has_or (x ∷ xs) z = elim (ℤ_discrete x z) [
  | yes e ↦ inl (0, omega arith, λ d. e)
  | no n ↦ elim (has_or xs z) [ inl (k, l, e) ↦ inl (suc k, omega (arith, l), e) | inr m ↦ inr (later n m) ]
]
  where
    later : (x ≡ z → ⊥) → (Has xs z → ⊥) → Has (x ∷ xs) z → ⊥
    later n m (zero, l, e) = n (e z)
    later n m (suc k, l, e) = m (k, omega arith, e)

pub has_known : (xs : List ℤ) (z : ℤ) → ∥ Has xs z ∥₁ → Has xs z
has_known xs z t = elim (has_or xs z) [ inl h ↦ h | inr n ↦ absurd (∥∥₁_elim t (Prim.hlevel props) n) ]

-- how often n stands in a list
is : ℕ → ℕ → ℕ
is n x = cond (eqb n x) 1 0

is_same : (n : ℕ) → is n n ≡ 1
unfolding is
is_same n = ap {B = ℕ} (λ b. cond b 1 0) (eq-eqb n n refl)

is_other : (n x : ℕ) → (n ≡ x → ⊥) → is n x ≡ 0
unfolding is
is_other n x ne = ap {B = ℕ} (λ b. cond b 1 0) (ne_eqb n x ne)

times : ℕ → List ℕ → ℕ
times n xs = sum_by (is n) xs

times_none : (n : ℕ) → times n [] ≡ 0
unfolding times
times_none n = refl

times_cons : (n x : ℕ) (xs : List ℕ) → times n (x ∷ xs) ≡ is n x + times n xs
unfolding times
times_cons n x xs = sum_by-cons (is n) x xs

record Split (x : ℕ) (ys : List ℕ) : Type 0 where
  front : List ℕ
  back : List ℕ
  same : ys ≡ front ++ x ∷ back

split_at : (x : ℕ) (ys : List ℕ) → (times x ys ≡ 0 → ⊥) → Split x ys
split_at x [] ne = absurd (ne (times_none x))
split_at x (y ∷ ys) ne = elim (cases_eq x y) [
  | inl e ↦ record { front = []; back = ys; same = ap (λ z. z ∷ ys) (sym e) }
  | inr n ↦ let s = split_at x ys (λ e. ne (omega (arith, e, is_other x y n, times_cons x y ys))) in record { front = y ∷ s.front; back = s.back; same = ap (λ zs. y ∷ zs) s.same }
]

times_middle : (n x : ℕ) (front back : List ℕ) → times n (front ++ x ∷ back) ≡ is n x + times n (front ++ back)
times_middle n x [] back = times_cons n x back
times_middle n x (y ∷ front) back = omega (arith, times_middle n x front back, times_cons n y (front ++ x ∷ back), times_cons n y (front ++ back))

-- lists in which every number stands as often
by_times : (xs ys : List ℕ) → ((n : ℕ) → times n ys ≡ times n xs) → IsPermutation xs ys
by_times [] [] h = IsPermutation-refl []
by_times [] (y ∷ ys) h = absurd (omega (arith, h y, times_none y, times_cons y y ys, is_same y))
by_times (x ∷ xs) ys h =
    let s = split_at x ys (λ e. omega (arith, e, h x, times_cons x x xs, is_same x)) in
    let rest = by_times xs (s.front ++ s.back) (λ n. omega (arith, h n, ap (times n) s.same, times_middle n x s.front s.back, times_cons n x xs)) in
    let moved = IsPermutation-sym (s.front ++ x ∷ s.back) (x ∷ (s.front ++ s.back)) (IsPermutation-middle s.front x s.back) in
    subst (IsPermutation (x ∷ xs)) (sym s.same) (IsPermutation-trans (x ∷ xs) (x ∷ (s.front ++ s.back)) (s.front ++ x ∷ s.back) (IsPermutation-cons x xs (s.front ++ s.back) rest) moved)

pub shuffled_known : (xs ys : List ℕ) → ∥ IsPermutation xs ys ∥₁ → IsPermutation xs ys
unfolding times
shuffled_known xs ys t = by_times xs ys (λ n. ∥∥₁_elim t (Prim.hlevel props) (sum_by-IsPermutation (is n) xs ys))

bounds_known : (es : List Entry) (b : Bounds) → ∥ BoundsOf es b ∥₁ → BoundsOf es b
bounds_known es b t =
    record {
      low = λ axis l. record {
        one_of = has_known _ _ (∥∥₁_elim t ∥∥₁_prop (λ h. ∣ (h.low axis l).one_of ∣₁));
        below = ∥∥₁_elim t (Prim.hlevel props) (λ h. (h.low axis l).below);
      };
      high = λ axis l. record {
        one_of = has_known _ _ (∥∥₁_elim t ∥∥₁_prop (λ h. ∣ (h.high axis l).one_of ∣₁));
        above = ∥∥₁_elim t (Prim.hlevel props) (λ h. (h.high axis l).above);
      };
    }

tallies_known : (es : List Entry) (w : Tallies) → ∥ TalliesOf es w ∥₁ → TalliesOf es w
tallies_known es w t =
    record {
      weight = ∥∥₁_elim t (Prim.hlevel props) (λ h. h.weight);
      sums = λ axis l. ∥∥₁_elim t (Prim.hlevel props) (λ h. h.sums axis l);
      squares = ∥∥₁_elim t (Prim.hlevel props) (λ h. h.squares);
    }

pub agrees_known : (es : List Entry) (cuts : List Cut) (ns : List BoxNode) (order : List ℕ) → ∥ Agrees es cuts ns order ∥₁ → Agrees es cuts ns order
agrees_known es cuts ns order t =
    record {
      log = record {
        stood = λ i l. ∥∥₁_elim t (Prim.hlevel props) (λ a. a.log.stood i l);
        once = λ i j l m e. ∥∥₁_elim t (Prim.hlevel props) (λ a. a.log.once i j l m e);
      };
      cut_by = λ b i l e. ∥∥₁_elim t (Prim.hlevel props) (λ a. a.cut_by b i l e);
      uncut = λ b l e i m f. ∥∥₁_elim t (Prim.hlevel props) (λ a. a.uncut b l e i m f);
      all_there = shuffled_known _ _ (∥∥₁_elim t ∥∥₁_prop (λ a. ∣ a.all_there ∣₁));
      located = λ b j l h. ∥∥₁_elim t (Prim.hlevel props) (λ a. a.located b j l h);
      bounds = λ b l. bounds_known _ _ (∥∥₁_elim t ∥∥₁_prop (λ a. ∣ a.bounds b l ∣₁));
      tallies = λ b l. tallies_known _ _ (∥∥₁_elim t ∥∥₁_prop (λ a. ∣ a.tallies b l ∣₁));
    }
