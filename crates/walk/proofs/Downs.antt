-- One box of a walk.
use Rattle.std.proofs.Common.{◌≡◌, ℕ, suc, ◌+◌, ◌*◌, ◌<◌, ◌≤◌, Bool, true, false, cond, not, ◌&&◌, List, [], ◌∷◌, ◌++◌, length, get_or, ℤ, pos, ◌+ℤ◌, ◌≤ℤ◌, sym, refl, ◌∙◌, arith}
use Rattle.std.specs.List.{ContainsAt as Has, AllByRecursion}
use Rattle.std.proofs.ByRecursion.{All-get_or, All-from_get_or}
use Rattle.std.proofs.lemmas.List.{get_or-map, length-map, length-take-le, get_or-take}
use Rattle.numbers.proofs.Ring.{lin}
use Rattle.points.specs.declared.bounds.Bounds.{Bounds}
use Rattle.points.specs.Entries.{Entry}
use Rattle.points.specs.Kinds.{position_place}
use Rattle.grouping.specs.Boxes.{Inside, none, more}
use Rattle.grouping.specs.Choice.{choose}
use Rattle.grouping.specs.Distance.{Place, number}
use Rattle.grouping.specs.Totals.{total}
use Rattle.boxes.specs.declared.cut.Cut.{Cut}
use Rattle.boxes.specs.Regions.{below, holds, contents, cut_at, Logged}
use Rattle.boxes.specs.Runs.{nothing}
use Rattle.boxes.specs.Tells.{BoundsOf, numbers_on}
use Rattle.boxes.proofs.Measures.{total_append}
use Rattle.boxes.proofs.Regions.{children_hold}
use Rattle.pruning.specs.Positions.{lows, highs}
use Rattle.pruning.proofs.Leading.{has_single}
use Rattle.walk.specs.Growth.{Covered}

-- ---- what is in a box lies within its bounds

inside_by : (los his p : Place) → length los ≡ length p → length his ≡ length p → ((axis : ℕ) → axis < length p → (number los axis ≤ℤ number p axis) × (number p axis ≤ℤ number his axis)) → Inside los his p
inside_by [] [] [] a b h = none
inside_by [] [] (x ∷ p) a b h = absurd (omega arith)
inside_by [] (hi ∷ his) p a b h = absurd (omega arith)
inside_by (lo ∷ los) his [] a b h = absurd (omega arith)
inside_by (lo ∷ los) [] (x ∷ p) a b h = absurd (omega arith)
inside_by (lo ∷ los) (hi ∷ his) (x ∷ p) a b h = more (h 0 (omega arith)).0 (h 0 (omega arith)).1 (inside_by los his p (omega arith) (omega arith) (λ axis l. h (suc axis) (omega arith)))

pub within_bounds : (axes : ℕ) (es : List Entry) (b : Bounds) → axes ≤ 4 → AllByRecursion (λ e. length e.place ≡ axes) es → BoundsOf es b → AllByRecursion (λ e. Inside (lows axes b) (highs axes b) e.place) es
within_bounds axes es b few sized h =
    All-from_get_or (λ e. Inside (lows axes b) (highs axes b) e.place) es nothing
    (λ i l.
    let e = get_or es i nothing in
    let n : length e.place ≡ axes = All-get_or (λ x. length x.place ≡ axes) es i nothing l sized in
    let at : (axis : ℕ) → get_or (numbers_on axis es) i (pos 0) ≡ number e.place axis = λ axis. get_or-map (λ x. number x.place axis) es i nothing (pos 0) l in
    inside_by (lows axes b) (highs axes b) e.place (length-take-le axes (position_place b.least) few ∙ sym n) (length-take-le axes (position_place b.greatest) few ∙ sym n)
    (λ axis k.
    let k' : axis < axes = omega arith in
    let il : i < length (numbers_on axis es) = omega (arith, length-map es (λ x. number x.place axis)) in
    let low = All-get_or (λ x. number (position_place b.least) axis ≤ℤ x) (numbers_on axis es) i (pos 0) il (h.low axis (omega arith)).below in
    let high = All-get_or (λ x. x ≤ℤ number (position_place b.greatest) axis) (numbers_on axis es) i (pos 0) il (h.high axis (omega arith)).above in
    (omega (arith, lin, low, at axis, get_or-take axes (position_place b.least) axis (pos 0) k'), omega (arith, lin, high, at axis, get_or-take axes (position_place b.greatest) axis (pos 0) k'))))

-- ---- candidates

-- what the rule leaves still covers
pub covered_left : (cs : List Place) (ks ls : List ℕ) (los his : Place) (es : List Entry) → ((p : Place) → Inside los his p → Has ks (choose cs p) → Has ls (choose cs p)) → AllByRecursion (λ e. Inside los his e.place) es → Covered cs ks es → Covered cs ls es
covered_left cs ks ls los his [] h a c = tt
covered_left cs ks ls los his (e ∷ es) h a c = (h e.place a.0 c.0, covered_left cs ks ls los his es h a.1 c.1)

-- one candidate that is left has all
pub covered_one : (cs : List Place) (ls : List ℕ) (k : ℕ) (es : List Entry) → length ls ≡ 1 → k ≡ get_or ls 0 0 → Covered cs ls es → AllByRecursion (λ e. k ≡ choose cs e.place) es
covered_one cs ls k [] n e c = tt
covered_one cs ls k (x ∷ es) n e c = (e ∙ sym (has_single ls (choose cs x.place) n c.0), covered_one cs ls k es n e c.1)

-- ---- the children of a cut box

module _ (cuts : List Cut) (log : Logged cuts) (b i : ℕ) (l : i < length cuts) (of : (cut_at cuts i).parent ≡ b) where
  -- the two parts of one entry
  pub total_parts : (f : Place → ℤ) (es : List Entry) → total f (contents cuts b es) ≡ total f (contents cuts (2 * i + 1) es ++ contents cuts (2 * i + 2) es)
  total_parts f es = sums es ∙ sym (total_append f (contents cuts (2 * i + 1) es) (contents cuts (2 * i + 2) es))
    where
      one : (x y : Bool) (e : Entry) (fs gs hs : List Entry) → total f fs ≡ total f gs +ℤ total f hs →
          total f (cond x (e ∷ fs) fs) ≡ total f (cond (x && y) (e ∷ gs) gs) +ℤ total f (cond (x && not y) (e ∷ hs) hs)
      one true true e fs gs hs h = omega (arith, lin, h)
      one true false e fs gs hs h = omega (arith, lin, h)
      one false y e fs gs hs h = h

      sums : (es : List Entry) → total f (contents cuts b es) ≡ total f (contents cuts (2 * i + 1) es) +ℤ total f (contents cuts (2 * i + 2) es)
      sums [] = refl
      sums (e ∷ es) =
          let parts = children_hold cuts log b i l of e.place in
          rw (parts.0, parts.1) (one (holds cuts b e.place) (below (cut_at cuts i) e.place) e (contents cuts b es) (contents cuts (2 * i + 1) es) (contents cuts (2 * i + 2) es) (sums es))

  pub length_parts : (es : List Entry) → length (contents cuts b es) ≡ length (contents cuts (2 * i + 1) es) + length (contents cuts (2 * i + 2) es)
  length_parts [] = refl
  length_parts (e ∷ es) =
      let parts = children_hold cuts log b i l of e.place in
      rw (parts.0, parts.1) (one (holds cuts b e.place) (below (cut_at cuts i) e.place) (length_parts es))
    where
      one : (x y : Bool) → length (contents cuts b es) ≡ length (contents cuts (2 * i + 1) es) + length (contents cuts (2 * i + 2) es) →
          length (cond x (e ∷ contents cuts b es) (contents cuts b es)) ≡ length (cond (x && y) (e ∷ contents cuts (2 * i + 1) es) (contents cuts (2 * i + 1) es)) + length (cond (x && not y) (e ∷ contents cuts (2 * i + 2) es) (contents cuts (2 * i + 2) es))
      one true true h = omega (arith, h)
      one true false h = omega (arith, h)
      one false y h = h

  -- what holds of all entries of the box holds of all of each child
  pub all_parts : (P : Entry → Type 0) (es : List Entry) → AllByRecursion P (contents cuts b es) → AllByRecursion P (contents cuts (2 * i + 1) es) × AllByRecursion P (contents cuts (2 * i + 2) es)
  all_parts P [] a = (tt, tt)
  all_parts P (e ∷ es) a =
      let parts = children_hold cuts log b i l of e.place in
      rw (parts.0, parts.1) (one (holds cuts b e.place) (below (cut_at cuts i) e.place) a (all_parts P es))
    where
      one : (x y : Bool) → AllByRecursion P (cond x (e ∷ contents cuts b es) (contents cuts b es)) → (AllByRecursion P (contents cuts b es) → AllByRecursion P (contents cuts (2 * i + 1) es) × AllByRecursion P (contents cuts (2 * i + 2) es)) →
          AllByRecursion P (cond (x && y) (e ∷ contents cuts (2 * i + 1) es) (contents cuts (2 * i + 1) es)) × AllByRecursion P (cond (x && not y) (e ∷ contents cuts (2 * i + 2) es) (contents cuts (2 * i + 2) es))
      one true true a h = ((a.0, (h a.1).0), (h a.1).1)
      one true false a h = ((h a.1).0, (a.0, (h a.1).1))
      one false y a h = h a
