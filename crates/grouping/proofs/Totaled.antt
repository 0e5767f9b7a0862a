-- Weights and sums, entry by entry, and how large they are.
use Rattle.std.proofs.Common.{◌≡◌, ℕ, ◌*◌, ◌≤◌, Bool, true, false, cond, eqb, List, [], ◌∷◌, ◌++◌, length, get_or, ℤ, pos, negsuc, ◌+ℤ◌, ◌*ℤ◌, neg_ℤ, ◌≤ℤ◌, ap, ◌∙◌, arith}
use borrow.Author.Differences.{ints}
use Rattle.std.specs.List.{AllByRecursion}
use Rattle.std.proofs.ByRecursion.{All-map}
use Rattle.std.proofs.lemmas.Bool.{eq-eqb, ne_eqb}
use Rattle.points.specs.Entries.{Entry, entry, entries}
use Rattle.points.specs.declared.point.Point.{Ghosts as PointGhosts}
use Rattle.points.specs.declared.record.Record.{Ghosts as RecordGhosts}
use Rattle.grouping.specs.Distance.{Place, number}
use Rattle.grouping.specs.Choice.{choose}
use Rattle.grouping.specs.Ranges.{InRange}
use Rattle.grouping.specs.Totals.{total, within, weight, sum}
use Rattle.numbers.proofs.Ring.{lin}
use Rattle.grouping.proofs.Totals.{all_of, total_natural, total_rises, total_scaled, bit_low, bit_high, held_high}

-- ---- one entry more

total_push : (f : Place → ℤ) (es : List Entry) (e : Entry) → total f (es ++ e ∷ []) ≡ total f es +ℤ pos e.hold *ℤ f e.place
total_push f [] e = omega (arith, lin)
total_push f (d ∷ es) e = omega (arith, lin, total_push f es e)

module _ (f : Place → ℤ) (es : List Entry) (e : Entry) (cs : List Place) (k : ℕ) where
  in_group : choose cs e.place ≡ k → total (within cs k f) (es ++ e ∷ []) ≡ total (within cs k f) es +ℤ pos e.hold *ℤ f e.place
  in_group h =
      total_push (within cs k f) es e
      ∙ ap (λ b. total (within cs k f) es +ℤ pos e.hold *ℤ cond b (f e.place) (pos 0)) (eq-eqb (choose cs e.place) k h)

  out_group : (choose cs e.place ≡ k → ⊥) → total (within cs k f) (es ++ e ∷ []) ≡ total (within cs k f) es
  out_group h =
      total_push (within cs k f) es e
      ∙ ap (λ b. total (within cs k f) es +ℤ pos e.hold *ℤ cond b (f e.place) (pos 0)) (ne_eqb (choose cs e.place) k h)
      ∙ omega (arith, ints)

module _ (es : List Entry) (e : Entry) (cs : List Place) (k : ℕ) where
  pub weight_in : choose cs e.place ≡ k → weight (es ++ e ∷ []) cs k ≡ weight es cs k +ℤ pos e.hold
  unfolding weight
  weight_in h = in_group (λ p. pos 1) es e cs k h ∙ omega (arith, ints)

  pub weight_out : (choose cs e.place ≡ k → ⊥) → weight (es ++ e ∷ []) cs k ≡ weight es cs k
  unfolding weight
  weight_out h = out_group (λ p. pos 1) es e cs k h

  pub sum_in : choose cs e.place ≡ k → (axis : ℕ) → sum (es ++ e ∷ []) cs k axis ≡ sum es cs k axis +ℤ pos e.hold *ℤ number e.place axis
  unfolding sum
  sum_in h axis = in_group (λ p. number p axis) es e cs k h

  pub sum_out : (choose cs e.place ≡ k → ⊥) → (axis : ℕ) → sum (es ++ e ∷ []) cs k axis ≡ sum es cs k axis
  unfolding sum
  sum_out h axis = out_group (λ p. number p axis) es e cs k h

pub weight_none : (cs : List Place) (k : ℕ) → weight [] cs k ≡ pos 0
unfolding weight
weight_none cs k = omega (arith, ints)

pub sum_none : (cs : List Place) (k axis : ℕ) → sum [] cs k axis ≡ pos 0
unfolding sum
sum_none cs k axis = omega (arith, ints)

-- ---- how large they are

-- every place is of 16 bits
abbrev pub Ranged : List Entry → Type 0
Ranged es = AllByRecursion (λ e. (axis : ℕ) → InRange (number e.place axis)) es

-- every place is of 16 bits, and held at most 65,535 times
pub record Modest (es : List Entry) : Type 0 where
  pub held : AllByRecursion (λ e. e.hold ≤ 65535) es
  pub ranged : Ranged es

pub modest_entries : {R : Type 0} (kindP : PointGhosts R) (kindR : RecordGhosts R) →
    ((p : R) (k : ℕ) → (negsuc 32767 ≤ℤ get_or (kindP.place p) k (pos 0)) × (get_or (kindP.place p) k (pos 0) ≤ℤ pos 32767)) →
    ((r : R) → (1 ≤ kindR.hold r) × (kindR.hold r ≤ 65535)) →
    (rs : List R) → Modest (entries kindP kindR rs)
modest_entries kindP kindR ranged held rs =
    record {
      held = All-map (λ e. e.hold ≤ 65535) (λ r. entry kindP kindR r) rs (all_of (λ r. (held r).1) rs);
      ranged = All-map (λ e. (axis : ℕ) → InRange (number e.place axis)) (λ r. entry kindP kindR r) rs (all_of ranged rs);
    }

-- within, or 0
either : (b : Bool) (x lo hi : ℤ) → lo ≤ℤ x → x ≤ℤ hi → (cond b lo (pos 0) ≤ℤ cond b x (pos 0)) × (cond b x (pos 0) ≤ℤ cond b hi (pos 0))
either true x lo hi l h = (l, h)
either false x lo hi l h = (omega (arith, lin), omega (arith, lin))

module _ (cs : List Place) (k : ℕ) where
  here : Place → Bool
  here p = eqb (choose cs p) k

  pub weight_low : (es : List Entry) → pos 0 ≤ℤ weight es cs k
  unfolding weight here
  weight_low es = total_natural (within cs k (λ p. pos 1)) (λ p. bit_low (here p)) es

  pub weight_high : (es : List Entry) → AllByRecursion (λ e. e.hold ≤ 65535) es → weight es cs k ≤ℤ pos (65535 * length es)
  unfolding weight here
  weight_high es h =
      omega (arith, lin, held_high es h, total_rises (λ p. Unit {0}) (within cs k (λ p. pos 1)) (λ p. pos 1) (λ p u. bit_high (here p)) es (all_of (λ e. tt) es))

  pub sum_low : (es : List Entry) (axis : ℕ) → Ranged es → neg_ℤ (pos 32768 *ℤ weight es cs k) ≤ℤ sum es cs k axis
  unfolding weight sum here
  sum_low es axis r =
      let f : Place → ℤ = λ p. number p axis in
      omega (arith, ints, total_scaled here (negsuc 32767) es, total_rises (λ p. (a : ℕ) → InRange (number p a)) (λ p. cond (here p) (negsuc 32767) (pos 0)) (within cs k f) (λ p h. (either (here p) (f p) (negsuc 32767) (pos 32767) (h axis).0 (h axis).1).0) es r)

  pub sum_high : (es : List Entry) (axis : ℕ) → Ranged es → sum es cs k axis ≤ℤ (pos 32767 *ℤ weight es cs k)
  unfolding weight sum here
  sum_high es axis r =
      let f : Place → ℤ = λ p. number p axis in
      omega (arith, ints, total_scaled here (pos 32767) es, total_rises (λ p. (a : ℕ) → InRange (number p a)) (within cs k f) (λ p. cond (here p) (pos 32767) (pos 0)) (λ p h. (either (here p) (f p) (negsuc 32767) (pos 32767) (h axis).0 (h axis).1).1) es r)
