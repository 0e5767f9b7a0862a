-- What a whole walk has found is exact: nothing that a recording adds up to passes 64 bits.
use Rattle.std.proofs.Common.{◌≡◌, ℕ, suc, ◌+◌, ◌<◌, ◌≤◌, List, [], ◌∷◌, map, length, get_or, ℤ, pos, ◌+ℤ◌, sym, refl, ap, ◌∙◌, subst, ap₂, arith, w64, SFits}
use borrow.Author.Differences.{ints}
use Rattle.std.specs.List.{AllByRecursion}
use Rattle.std.specs.Int.{int_wrap}
use Rattle.std.proofs.ByRecursion.{All-get_or, All-from_get_or, All-map, All-weaker}
use Rattle.std.proofs.lemmas.List.{get_or-take, length-take-le}
use Rattle.std.proofs.lemmas.Int.{int_wrap_fits, int_wrap-add_same}
use Rattle.numbers.specs.Sums.{summed_from}
use Rattle.points.specs.declared.position.Position.{Position}
use Rattle.points.specs.Kinds.{position_place}
use Rattle.points.specs.Told.{told_ranged}
use Rattle.points.specs.Entries.{Entry}
use Rattle.grouping.specs.Choice.{choose}
use Rattle.grouping.specs.Costs.{distortion, group_cost}
use Rattle.grouping.specs.Distance.{Place, number}
use Rattle.grouping.specs.Expansion.{norm}
use Rattle.grouping.specs.Groups.{place_of}
use Rattle.grouping.specs.Ranges.{InRange, Limited, Fits}
use Rattle.grouping.specs.Rounding.{axis_cost}
use Rattle.grouping.specs.Totals.{total, within, weight, sum}
use Rattle.grouping.proofs.Bounds.{weight_bound, sum_bound, distortion_bound}
use Rattle.grouping.proofs.Choosing.{chosen}
use Rattle.grouping.proofs.Totals.{all_of}
use Rattle.grouping.proofs.Descents.{cost_before}
use Rattle.grouping.proofs.Expansions.{group_by_axes}
use Rattle.boxes.specs.declared.node.Tallies.{Tallies}
use Rattle.boxes.specs.declared.run.Quantity.{Quantity}
use Rattle.boxes.specs.declared.run.Quantity.TheVariants.{Weight, Sum, Squares}
use Rattle.boxes.specs.Regions.{contents}
use Rattle.boxes.specs.declared.cut.Cut.{Cut}
use Rattle.boxes.proofs.Regions.{holds_root}
use Rattle.boxes.specs.Tells.{measured}
use Rattle.pruning.specs.Pruning.{numbers_of}
use Rattle.pruning.proofs.Leading.{numbers_has}
use Rattle.walk.specs.Growth.{Grown, Covered}
use Rattle.walk.specs.Told.{told, Tells, tallies_at, cost_of}
use Rattle.walk.proofs.Costing.{from_congruent, no_base}

-- box 0 has all entries, and all centers cover them
pub contents_all : (cuts : List Cut) (es : List Entry) → contents cuts 0 es ≡ es
contents_all cuts [] = refl
contents_all cuts (e ∷ es) = rw (holds_root cuts e.place) (ap (λ fs. e ∷ fs) (contents_all cuts es))

pub covered_all : (cs : List Place) (es : List Entry) → 0 < length cs → Covered cs (numbers_of cs) es
covered_all cs [] some = tt
covered_all cs (e ∷ es) some = (numbers_has cs (choose cs e.place) (chosen cs e.place some).one_of, covered_all cs es some)

-- sums of equals
from_equal : {X : Type 0} (f g : ℕ → X → ℤ) (d : X) (k : ℕ) (xs : List X) → ((i : ℕ) → i < length xs → f (k + i) (get_or xs i d) ≡ g (k + i) (get_or xs i d)) → summed_from f k xs ≡ summed_from g k xs
from_equal f g d k [] h = refl
from_equal f g d k (x ∷ xs) h =
    let z : k + 0 ≡ k = omega arith in
    ap₂ ◌+ℤ◌ (subst (λ j. f j x ≡ g j x) z (h 0 (omega arith))) (from_equal f g d (suc k) xs (λ i l. let e : k + suc i ≡ suc k + i = omega arith in subst (λ j. f j (get_or xs i d) ≡ g j (get_or xs i d)) e (h (suc i) (omega arith))))

module _ (axes : ℕ) (es : List Entry) (cs : List Place) (limited : Limited axes es) (ts us : List Tallies) (none : (q : Quantity) (k : ℕ) → told q (tallies_at ts k) ≡ pos 0)
    (fits : (q : Quantity) (k : ℕ) → told q (tallies_at us k) ≡ int_wrap w64 (told q (tallies_at us k))) (grown : Grown cs es ts us) where
  found : (q : Quantity) (k : ℕ) → Tells q → k < 32 → int_wrap w64 (told q (tallies_at us k)) ≡ int_wrap w64 (total (within cs k (measured q)) es)
  found q k l h = grown q k l h ∙ ap (λ z. int_wrap w64 (z +ℤ total (within cs k (measured q)) es)) (none q k) ∙ ap (int_wrap w64) (no_base _)

  pub weight_exact : (k : ℕ) → k < 32 → (tallies_at us k).weight ≡ weight es cs k
  unfolding weight
  weight_exact k h =
      let b = weight_bound axes es cs k limited in
      let f : SFits w64 (weight es cs k) = omega (arith, ints, b.0, b.1) in
      fits Weight k ∙ found Weight k tt h ∙ int_wrap_fits w64 (weight es cs k) f

  pub sum_exact : (k axis : ℕ) → k < 32 → axis < 4 → number (tallies_at us k).sums axis ≡ sum es cs k axis
  unfolding sum
  sum_exact k axis h l =
      let b = sum_bound axes es cs k axis limited in
      let f : SFits w64 (sum es cs k axis) = omega (arith, ints, b.0, b.1) in
      fits (Sum axis) k ∙ found (Sum axis) k l h ∙ int_wrap_fits w64 (sum es cs k axis) f

  cost_exact : (k : ℕ) (c : Place) → k < 32 → length c ≡ axes → AllByRecursion (λ e. length e.place ≡ length c) es → int_wrap w64 (cost_of (tallies_at us k) c) ≡ int_wrap w64 (group_cost es cs k c)
  cost_exact k c h n sized =
      let t = tallies_at us k in
      let exact = from_equal (λ axis x. axis_cost (number t.sums axis) t.weight x) (λ axis x. axis_cost (sum es cs k axis) (weight es cs k) x) (pos 0) 0 c
      (λ i l. ap₂ (λ s w. axis_cost s w (get_or c i (pos 0))) (sum_exact k (0 + i) h (omega (arith, limited.short))) (weight_exact k h)) in
      ap (λ z. int_wrap w64 (t.squares +ℤ z)) exact
      ∙ int_wrap-add_same w64 t.squares (total (within cs k norm) es) _ (found Squares k tt h)
      ∙ ap (int_wrap w64) (sym (group_by_axes es cs k c sized))

  pub distortion_exact : (d : ℤ) → SFits w64 d → 0 < length cs → length cs ≤ 32 → AllByRecursion (Fits axes) cs → int_wrap w64 d ≡ int_wrap w64 (summed_from (λ k c. cost_of (tallies_at us k) c) 0 cs) → d ≡ distortion es cs
  distortion_exact d f some few fit h =
      let b = distortion_bound axes es cs limited fit in
      let g : SFits w64 (distortion es cs) = omega (arith, ints, b.0, b.1) in
      let groups = from_congruent (λ k c. cost_of (tallies_at us k) c) (group_cost es cs) [] 0 cs
      (λ i l.
      let n : length (get_or cs i []) ≡ axes = (All-get_or (Fits axes) cs i [] l fit).0 in
      cost_exact (0 + i) (get_or cs i []) (omega arith) n (all_sized (get_or cs i []) n)) in
      sym (int_wrap_fits w64 d f) ∙ h ∙ groups ∙ ap (int_wrap w64) (sym (cost_before es cs some)) ∙ int_wrap_fits w64 (distortion es cs) g
    where
      all_sized : (c : Place) → length c ≡ axes → AllByRecursion (λ e. length e.place ≡ length c) es
      all_sized c n = All-weaker (λ e. Fits axes e.place) (λ e. length e.place ≡ length c) (λ e p. p.0 ∙ sym n) es limited.fit

-- ---- centers

pub centers_fit : (axes : ℕ) → axes ≤ 4 → (ps : List Position) → AllByRecursion (Fits axes) (map (place_of axes) ps)
centers_fit axes few ps = All-map (Fits axes) (place_of axes) ps (all_of one ps)
  where
    one : (p : Position) → Fits axes (place_of axes p)
    one p =
        let n = length-take-le axes (position_place p) few in
        (n, All-from_get_or InRange (place_of axes p) (pos 0) (λ i l. subst InRange (sym (get_or-take axes (position_place p) i (pos 0) (omega arith))) (told_ranged (get_or p.at 0 (pos 0)) (get_or p.at 1 (pos 0)) (get_or p.at 2 (pos 0)) (get_or p.at 3 (pos 0)) i)))
