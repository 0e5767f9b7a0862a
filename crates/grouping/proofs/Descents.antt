-- Rounds descend, and where they rest all is best.
use Rattle.std.proofs.Common.{◌≡◌, ℕ, suc, ◌<◌, Bool, true, false, cond, eqb, ◌⊎◌, List, [], ◌∷◌, length, ℤ, pos, ◌+ℤ◌, ◌≤ℤ◌, ◌<ℤ◌, sym, refl, ap, ◌∙◌, subst, ap₂, inl, inr, arith}
use borrow.Author.Differences.{ints}
use lib.IntN.{ℤ_discrete}
use lib.Signed.{lt_z}
use Rattle.std.specs.List.{AllByRecursion}
use Rattle.std.proofs.ByRecursion.{All-get_or}
use Rattle.std.proofs.lemmas.List.{nil_from_length}
use Rattle.std.proofs.lemmas.Int.{by_lt_z}
use Rattle.numbers.specs.Sums.{summed, summed_from, mapped_from}
use Rattle.numbers.proofs.Ring.{lin, *ℤ-rises}
use Rattle.numbers.proofs.Sums.{from_pick, from_least, length_mapped}
use Rattle.points.specs.Entries.{Entry}
use Rattle.grouping.specs.Distance.{Place, dist}
use Rattle.grouping.specs.Choice.{center, choose}
use Rattle.grouping.specs.Costs.{distortion, group_cost}
use Rattle.grouping.specs.Expansion.{norm}
use Rattle.grouping.specs.Moving.{renewed, move}
use Rattle.grouping.specs.Ranges.{Sized}
use Rattle.grouping.specs.Rounding.{rounded, axis_cost}
use Rattle.grouping.specs.Rounds.{Moved}
use Rattle.grouping.specs.RunLaws.{coordinates, Lower, NeverRises, Descends, BestAssignment, BestPosition}
use Rattle.grouping.specs.Totals.{total, within, weight, sum}
use Rattle.grouping.proofs.Choosing.{chosen, nearest_of}
use Rattle.grouping.proofs.Expansions.{group_by_axes}
use Rattle.grouping.proofs.Means.{rounded_is, mean_best, mean_lower}
use Rattle.grouping.proofs.Outcomes.{center_moved, length_move, moves_only}
use Rattle.grouping.proofs.Totaled.{weight_low}
use Rattle.grouping.proofs.Totals.{all_of, total_same, total_rises, total_summed, total_none}

-- ---- what changes for the better

-- the cost a falls to a'; or it stays, and the number g falls to g'; or nothing changed
pub data Better (a a' g g' : ℤ) (E : Type 0) : Type 0 where
  less : a' <ℤ a → Better a a' g g' E
  lower : a' ≡ a → g' <ℤ g → Better a a' g g' E
  same : E → Better a a' g g' E

-- beside a cost that is the same for both
beside : {a a' b b' g g' : ℤ} {E : Type 0} (q : ℤ) → b ≡ q +ℤ a → b' ≡ q +ℤ a' → Better a a' g g' E → Better b b' g g' E
beside q e e' (less p) = less (omega (arith, lin))
beside q e e' (lower p r) = lower (omega (arith, lin)) r
beside q e e' (same p) = same p

-- where every element changes for the better, so do the sums
module _ {X : Type 0} (P : X → Type 0) (F : ℕ → X → ℤ) (G : X → ℤ) (f : ℕ → X → X) where
  join : (k : ℕ) (x x' : X) (xs xs' : List X) → Better (F k x) (F k x') (G x) (G x') (x' ≡ x) →
      Better (summed_from F (suc k) xs) (summed_from F (suc k) xs') (summed G xs) (summed G xs') (xs' ≡ xs) →
      Better (summed_from F k (x ∷ xs)) (summed_from F k (x' ∷ xs')) (summed G (x ∷ xs)) (summed G (x' ∷ xs')) (◌≡◌ {A = List X} (x' ∷ xs') (x ∷ xs))
  join k x x' xs xs' (less p) (less q) = less (omega (arith, lin))
  join k x x' xs xs' (less p) (lower q u) = less (omega (arith, lin))
  join k x x' xs xs' (less p) (same q) = less (omega (arith, lin, ap (summed_from F (suc k)) q))
  join k x x' xs xs' (lower p u) (less q) = less (omega (arith, lin))
  join k x x' xs xs' (lower p u) (lower q v) = lower (omega (arith, lin)) (omega (arith, lin))
  join k x x' xs xs' (lower p u) (same q) = lower (omega (arith, lin, ap (summed_from F (suc k)) q)) (omega (arith, lin, ap (summed G) q))
  join k x x' xs xs' (same p) (less q) = less (omega (arith, lin, ap (F k) p))
  join k x x' xs xs' (same p) (lower q v) = lower (omega (arith, lin, ap (F k) p)) (omega (arith, lin, ap G p))
  join k x x' xs xs' (same p) (same q) = same (ap₂ ◌∷◌ p q)

  falls : ((k : ℕ) (x : X) → P x → Better (F k x) (F k (f k x)) (G x) (G (f k x)) (f k x ≡ x)) → (k : ℕ) (xs : List X) → AllByRecursion P xs →
      Better (summed_from F k xs) (summed_from F k (mapped_from f k xs)) (summed G xs) (summed G (mapped_from f k xs)) (mapped_from f k xs ≡ xs)
  falls h k [] a = same refl
  falls h k (x ∷ xs) a = join k x (f k x) xs (mapped_from f (suc k) xs) (h k x a.0) (falls h (suc k) xs a.1)

-- ---- one group

axis_better : (s w x : ℤ) → pos 0 <ℤ w → Better (axis_cost s w x) (axis_cost s w (rounded s w)) x (rounded s w) (rounded s w ≡ x)
axis_better s w x h =
    let m = rounded s w in
    let r = rounded_is s w h in
    elim (ℤ_discrete x m) [
      | yes p ↦ same (sym p)
      | no n ↦ by_lt_z (axis_cost s w m) (axis_cost s w x) (λ l. less l) (λ g.
          let e : axis_cost s w x ≡ axis_cost s w m = omega (arith, lin, mean_best s w m h r x, g) in
          lower (sym e) (omega (arith, lin, mean_lower s w m h r x e n)))
    ]

fit_to : {axes : ℕ} (es : List Entry) (c : Place) → length c ≡ axes → AllByRecursion (λ e. length e.place ≡ axes) es → AllByRecursion (λ e. length e.place ≡ length c) es
fit_to es c e a = subst (λ (n : ℕ). AllByRecursion (λ (d : Entry). length d.place ≡ n) es) (sym e) a

module _ (axes : ℕ) (es : List Entry) (held : AllByRecursion (λ e. length e.place ≡ axes) es) (cs : List Place) (k : ℕ) where
  mean_of : Place → Place
  mean_of c = mapped_from (λ axis x. rounded (sum es cs k axis) (weight es cs k)) 0 c

  group_better : (c : Place) → length c ≡ axes → (b : Bool) → lt_z (pos 0) (weight es cs k) ≡ b →
      Better (group_cost es cs k c) (group_cost es cs k (cond b (mean_of c) c)) (summed (λ x. x) c) (summed (λ x. x) (cond b (mean_of c) c)) (cond b (mean_of c) c ≡ c)
  unfolding mean_of
  group_better c e false t = same refl
  group_better c e true t =
      let w = weight es cs k in
      let e' : length (mean_of c) ≡ axes = length_mapped (λ axis x. rounded (sum es cs k axis) w) 0 c ∙ e in
      beside (total (within cs k norm) es) (group_by_axes es cs k c (fit_to es c e held)) (group_by_axes es cs k (mean_of c) (fit_to es (mean_of c) e' held))
      (falls (λ x. Unit {0}) (λ axis x. axis_cost (sum es cs k axis) w x) (λ x. x) (λ axis x. rounded (sum es cs k axis) w) (λ axis x u. axis_better (sum es cs k axis) w x (omega (arith, ints))) 0 c (all_of (λ x. tt) c))

-- ---- all groups

-- what it costs to keep every place in its group for the centers cs, once these stand at cs'
cost_by_groups : (es : List Entry) (cs cs' : List Place) → 0 < length cs → length cs' ≡ length cs →
    total (λ p. dist p (center cs' (choose cs p))) es ≡ summed_from (group_cost es cs) 0 cs'
unfolding group_cost
cost_by_groups es cs cs' h e =
    total_same (λ p. Unit {0}) (λ p. dist p (center cs' (choose cs p))) (λ p. summed_from (λ k c. cond (eqb (choose cs p) k) (dist p c) (pos 0)) 0 cs')
    (λ p u. sym (from_pick (λ c. dist p c) [] (choose cs p) cs' (omega (arith, (chosen cs p h).one_of)))) es (all_of (λ d. tt) es)
    ∙ total_summed (λ p k c. cond (eqb (choose cs p) k) (dist p c) (pos 0)) 0 cs' es

groups_better : (axes : ℕ) (es : List Entry) (cs : List Place) → Sized axes es cs →
    Better (summed_from (group_cost es cs) 0 cs) (summed_from (group_cost es cs) 0 (move es cs)) (coordinates cs) (coordinates (move es cs)) (move es cs ≡ cs)
unfolding move coordinates mean_of
groups_better axes es cs s =
    falls (λ c. length c ≡ axes) (group_cost es cs) (summed (λ x. x)) (λ k c. renewed (weight es cs k) (sum es cs k) c) (λ k c h. group_better axes es s.held cs k c h (lt_z (pos 0) (weight es cs k)) refl) 0 cs s.centers

module _ (es : List Entry) (cs : List Place) (some : 0 < length cs) where
  -- the distortion is what all groups cost their centers
  pub cost_before : distortion es cs ≡ summed_from (group_cost es cs) 0 cs
  unfolding distortion
  cost_before = cost_by_groups es cs cs some refl

  -- once the centers stand elsewhere, every place goes to its nearest
  cost_after : (cs' : List Place) → length cs' ≡ length cs → distortion es cs' ≤ℤ summed_from (group_cost es cs) 0 cs'
  unfolding distortion
  cost_after cs' l =
      let m = total_rises (λ p. Unit {0}) (λ p. dist p (center cs' (choose cs' p))) (λ p. dist p (center cs' (choose cs p))) (λ p u. nearest_of cs' p (choose cs p) (omega (arith, l, (chosen cs p some).one_of))) es (all_of (λ d. tt) es) in
      omega (arith, lin, m, cost_by_groups es cs cs' some l)

  falls_or_rests : (cs' : List Place) → length cs' ≡ length cs → Better (summed_from (group_cost es cs) 0 cs) (summed_from (group_cost es cs) 0 cs') (coordinates cs) (coordinates cs') (cs' ≡ cs) →
      Lower es cs' cs ⊎ (cs' ≡ cs)
  falls_or_rests cs' l (less p) = inl (inl (omega (arith, lin, p, cost_before, cost_after cs' l)))
  falls_or_rests cs' l (lower p q) = by_lt_z (distortion es cs') (distortion es cs) (λ f. inl (inl f)) (λ g. inl (inr (omega (arith, lin, g, p, cost_before, cost_after cs' l), q)))
  falls_or_rests cs' l (same p) = inr p

move_falls : (axes : ℕ) (es : List Entry) (cs : List Place) → Sized axes es cs → Lower es (move es cs) cs ⊎ (move es cs ≡ cs)
move_falls axes es [] s = inr (nil_from_length (move es []) (length_move es []))
move_falls axes es (c ∷ cs) s = falls_or_rests es (c ∷ cs) (omega arith) (move es (c ∷ cs)) (length_move es (c ∷ cs)) (groups_better axes es (c ∷ cs) s)

round_falls : (axes : ℕ) (es : List Entry) (cs cs' : List Place) → Sized axes es cs → Moved es cs cs' → Lower es cs' cs ⊎ (cs' ≡ cs)
round_falls axes es cs cs' s m = subst (λ (x : List Place). Lower es x cs ⊎ (x ≡ cs)) (sym (moves_only es cs cs' m)) (move_falls axes es cs s)

pub never_rises : NeverRises
never_rises axes es cs cs' s m = elim (round_falls axes es cs cs' s m) [
  | inl l ↦ elim l [ inl p ↦ omega (arith, lin) | inr p ↦ omega (arith, lin, p.0) ]
  | inr e ↦ omega (arith, lin, ap (distortion es) e)
]

pub descends : Descends
descends axes es cs cs' s m h = elim (round_falls axes es cs cs' s m) [ inl l ↦ l | inr e ↦ absurd (h e) ]

-- ---- rest

pub best_assignment : BestAssignment
unfolding distortion
best_assignment [] cs ks a = omega (arith, lin)
best_assignment (e ∷ es) cs [] a = absurd (omega (arith, a.each))
best_assignment (e ∷ es) cs (k ∷ ks) a =
    omega (
      arith,
      lin,
      best_assignment es cs ks (record { each = omega (arith, a.each); there = a.there.1 }),
      *ℤ-rises (pos e.hold) (dist e.place (center cs (choose cs e.place))) (dist e.place (center cs k)) (omega (arith, lin)) (nearest_of cs e.place k a.there.0),
    )

pub best_position : BestPosition
unfolding group_cost weight
best_position axes es cs s m k h x l = go (lt_z (pos 0) (weight es cs k)) refl
  where
    long : length (center cs k) ≡ axes
    long = All-get_or (λ c. length c ≡ axes) cs k [] h s.centers

    stands : renewed (weight es cs k) (sum es cs k) (center cs k) ≡ center cs k
    stands = sym (center_moved es cs k h) ∙ ap (λ (ds : List Place). center ds k) (sym (moves_only es cs cs m))

    go : (b : Bool) → lt_z (pos 0) (weight es cs k) ≡ b → group_cost es cs k (center cs k) ≤ℤ group_cost es cs k x
    go false t =
        let none : weight es cs k ≡ pos 0 = omega (arith, ints, weight_low cs k es) in
        omega (arith, lin, total_none (λ p. eqb (choose cs p) k) (λ p. dist p (center cs k)) es none, total_none (λ p. eqb (choose cs p) k) (λ p. dist p x) es none)
    go true t =
        let w = weight es cs k in
        let some : pos 0 <ℤ w = omega (arith, ints) in
        let m : ℕ → ℤ = λ axis. rounded (sum es cs k axis) w in
        let r : mapped_from (λ axis y. m axis) 0 (center cs k) ≡ center cs k = rw t at stands in
        let u = from_least (λ axis y. axis_cost (sum es cs k axis) w y) m (λ axis y. mean_best (sum es cs k axis) w (m axis) some (rounded_is (sum es cs k axis) w some) y) 0 (center cs k) x (long ∙ sym l) in
        omega (arith, lin, group_by_axes es cs k (center cs k) (fit_to es (center cs k) long s.held), group_by_axes es cs k x (fit_to es x l s.held), rw r at u)
