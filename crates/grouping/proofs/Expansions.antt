-- The cost of entries at a position.
use Rattle.std.proofs.Common.{◌≡◌, ℕ, suc, Bool, true, false, cond, eqb, List, [], ◌∷◌, length, ℤ, pos, ◌+ℤ◌, ◌-ℤ◌, ◌*ℤ◌, refl, arith}
use Rattle.std.specs.List.{AllByRecursion}
use Rattle.numbers.specs.Sums.{summed_from}
use Rattle.numbers.proofs.Quote.{solve, quotes}
use Rattle.numbers.proofs.Ring.{lin}
use Rattle.numbers.proofs.Sums.{from_next}
use Rattle.points.specs.Entries.{Entry}
use Rattle.grouping.specs.Distance.{Place, number, dist}
use Rattle.grouping.specs.Choice.{choose}
use Rattle.grouping.specs.Costs.{group_cost}
use Rattle.grouping.specs.Expansion.{norm, along, Expands, GroupExpands}
use Rattle.grouping.specs.Rounding.{axis_cost}
use Rattle.grouping.specs.Totals.{total, within, weight, sum}

-- one place
dist_expands : (p c : Place) → length p ≡ length c → dist p c ≡ norm p -ℤ pos 2 *ℤ along c (number p) +ℤ norm c
dist_expands [] [] e = refl
dist_expands [] (y ∷ c) e = absurd (omega arith)
dist_expands (x ∷ p) [] e = absurd (omega arith)
dist_expands (x ∷ p) (y ∷ c) e =
    rw (dist_expands p c (omega arith), from_next (λ axis z. z *ℤ number (x ∷ p) axis) 0 c)
    (solve (x ∷ y ∷ norm p ∷ along c (number p) ∷ norm c ∷ []) (search quotes depth 30 fits 20000) tt)

along_zero : (c : Place) (j : ℕ) → summed_from (λ axis x. x *ℤ pos 0) j c ≡ pos 0
along_zero [] j = refl
along_zero (x ∷ c) j = rw (along_zero c (suc j)) (solve (x ∷ []) (search quotes depth 30 fits 20000) tt)

along_more : (h : ℤ) (s t : ℕ → ℤ) (c : Place) (j : ℕ) →
    summed_from (λ axis x. x *ℤ (h *ℤ s axis +ℤ t axis)) j c ≡ h *ℤ summed_from (λ axis x. x *ℤ s axis) j c +ℤ summed_from (λ axis x. x *ℤ t axis) j c
along_more h s t [] j = solve (h ∷ []) (search quotes depth 30 fits 20000) tt
along_more h s t (x ∷ c) j =
    rw (along_more h s t c (suc j))
    (solve (h ∷ x ∷ s j ∷ t j ∷ summed_from (λ axis x. x *ℤ s axis) (suc j) c ∷ summed_from (λ axis x. x *ℤ t axis) (suc j) c ∷ []) (search quotes depth 30 fits 20000) tt)

along_if : (b : Bool) (s : ℕ → ℤ) (c : Place) → along c (λ axis. cond b (s axis) (pos 0)) ≡ cond b (along c s) (pos 0)
along_if true s c = refl
along_if false s c = along_zero c 0

-- the places that pass a test
module _ (t : Place → Bool) (c : Place) where
  expands_where : (es : List Entry) → AllByRecursion (λ e. length e.place ≡ length c) es →
      total (λ p. cond (t p) (dist p c) (pos 0)) es
      ≡ total (λ p. cond (t p) (norm p) (pos 0)) es -ℤ pos 2 *ℤ along c (λ axis. total (λ p. cond (t p) (number p axis) (pos 0)) es) +ℤ total (λ p. cond (t p) (pos 1) (pos 0)) es *ℤ norm c
  expands_where [] a = rw (along_zero c 0) (solve (norm c ∷ []) (search quotes depth 30 fits 20000) tt)
  expands_where (e ∷ es) a =
      let p = e.place in
      rw (
        expands_where es a.1,
        dist_expands p c a.0,
        along_more (pos e.hold) (λ axis. cond (t p) (number p axis) (pos 0)) (λ axis. total (λ q. cond (t q) (number q axis) (pos 0)) es) c 0,
        along_if (t p) (number p) c,
      )
      (entry (t p) (pos e.hold) (norm p) (along c (number p)) (norm c) (total (λ q. cond (t q) (norm q) (pos 0)) es) (along c (λ axis. total (λ q. cond (t q) (number q axis) (pos 0)) es)) (total (λ q. cond (t q) (pos 1) (pos 0)) es))
    where
      entry : (b : Bool) (h q a n qs as' w : ℤ) →
          h *ℤ cond b (q -ℤ pos 2 *ℤ a +ℤ n) (pos 0) +ℤ (qs -ℤ pos 2 *ℤ as' +ℤ w *ℤ n)
          ≡ (h *ℤ cond b q (pos 0) +ℤ qs) -ℤ pos 2 *ℤ (h *ℤ cond b a (pos 0) +ℤ as') +ℤ (h *ℤ cond b (pos 1) (pos 0) +ℤ w) *ℤ n
      entry true h q a n qs as' w = solve (h ∷ q ∷ a ∷ n ∷ qs ∷ as' ∷ w ∷ []) (search quotes depth 30 fits 20000) tt
      entry false h q a n qs as' w = solve (h ∷ q ∷ a ∷ n ∷ qs ∷ as' ∷ w ∷ []) (search quotes depth 30 fits 20000) tt

pub expands : Expands
expands es c a = expands_where (λ p. true) c es a

pub group_expands : GroupExpands
unfolding group_cost weight sum
group_expands es cs k c a = expands_where (λ p. eqb (choose cs p) k) c es a

-- ---- axis by axis

axis_costs : (s : ℕ → ℤ) (w : ℤ) (c : Place) (j : ℕ) →
    summed_from (λ axis x. axis_cost (s axis) w x) j c ≡ w *ℤ norm c -ℤ pos 2 *ℤ summed_from (λ axis x. x *ℤ s axis) j c
axis_costs s w [] j = solve (w ∷ []) (search quotes depth 30 fits 20000) tt
axis_costs s w (x ∷ c) j =
    rw (axis_costs s w c (suc j)) (solve (w ∷ x ∷ s j ∷ norm c ∷ summed_from (λ axis x. x *ℤ s axis) (suc j) c ∷ []) (search quotes depth 30 fits 20000) tt)

-- a group costs the squares of its places, and on every axis what its center costs there
pub group_by_axes : (es : List Entry) (cs : List Place) (k : ℕ) (c : Place) → AllByRecursion (λ e. length e.place ≡ length c) es →
    group_cost es cs k c ≡ total (within cs k norm) es +ℤ summed_from (λ axis x. axis_cost (sum es cs k axis) (weight es cs k) x) 0 c
group_by_axes es cs k c a = omega (arith, lin, group_expands es cs k c a, axis_costs (sum es cs k) (weight es cs k) c 0)
