-- Rounds keep the centers in range, and only so many in a row can move one.
use Rattle.std.proofs.Common.{◌≡◌, ℕ, zero, suc, ◌+◌, ◌*◌, ◌≤◌, Bool, true, false, cond, ◌⊎◌, List, [], ◌∷◌, length, ℤ, pos, negsuc, ◌+ℤ◌, ◌-ℤ◌, ◌*ℤ◌, neg_ℤ, ◌≤ℤ◌, ◌<ℤ◌, sym, refl, ap, ◌∙◌, subst, inl, inr, arith}
use mathlib.Core.List.{List-discrete}
use borrow.Author.Differences.{ints}
use lib.IntN.{ℤ_discrete}
use lib.Signed.{lt_z}
use Rattle.std.specs.List.{AllByRecursion}
use Rattle.std.proofs.ByRecursion.{All-weaker}
use Rattle.std.proofs.lemmas.Bool.{true≢false}
use Rattle.numbers.specs.Sums.{summed, mapped_from}
use Rattle.numbers.proofs.Quote.{solve, quotes}
use Rattle.numbers.proofs.Ring.{lin, *ℤ-natural}
use Rattle.numbers.proofs.Sums.{all_mapped}
use Rattle.points.specs.Entries.{Entry}
use Rattle.grouping.specs.Distance.{Place, number, dist}
use Rattle.grouping.specs.Choice.{center, choose}
use Rattle.grouping.specs.Costs.{distortion}
use Rattle.grouping.specs.Moving.{renewed, move, settled_centers}
use Rattle.grouping.specs.Ranges.{Sized, InRange, Fits, Fitting}
use Rattle.grouping.specs.Rounding.{rounded}
use Rattle.grouping.specs.Rounds.{Moved, Rounds, start, last, more}
use Rattle.grouping.specs.RunLaws.{coordinates, StaysFitting, Ends, ComesToRest, SettlesAt}
use Rattle.grouping.specs.Totals.{weight, sum}
use Rattle.grouping.proofs.Descents.{descends}
use Rattle.grouping.proofs.Distances.{dist_natural}
use Rattle.grouping.proofs.Means.{rounded_is, mean_low, mean_high}
use Rattle.grouping.proofs.Outcomes.{length_renewed, moves, moves_only}
use Rattle.grouping.proofs.Totaled.{Ranged, sum_low, sum_high}
use Rattle.grouping.proofs.Totals.{total_natural}

-- ---- centers stay in range

number_range : (p : Place) → AllByRecursion InRange p → (axis : ℕ) → InRange (number p axis)
number_range [] h axis = (omega (arith, lin), omega (arith, lin))
number_range (x ∷ p) h zero = h.0
number_range (x ∷ p) h (suc axis) = number_range p h.1 axis

pub fit_ranged : (axes : ℕ) (es : List Entry) → AllByRecursion (λ e. Fits axes e.place) es → Ranged es
fit_ranged axes es h = All-weaker (λ e. Fits axes e.place) (λ e. (axis : ℕ) → InRange (number e.place axis)) (λ e f. number_range e.place f.1) es h

-- the mean of sums that are in range by their weight
mean_range : (s w : ℤ) → pos 0 <ℤ w → neg_ℤ (pos 32768 *ℤ w) ≤ℤ s → s ≤ℤ (pos 32767 *ℤ w) → InRange (rounded s w)
mean_range s (negsuc w) h l u = absurd (omega (arith, lin))
mean_range s (pos w) h l u =
    let r = rounded_is s (pos w) h in
    (mean_low s w (rounded s (pos w)) (omega (arith, lin)) r l, mean_high s w (rounded s (pos w)) (omega (arith, lin)) r u)

renewed_fits : (axes : ℕ) (es : List Entry) (cs : List Place) → Ranged es → (k : ℕ) (c : Place) → Fits axes c → Fits axes (renewed (weight es cs k) (sum es cs k) c)
renewed_fits axes es cs r k c f = (length_renewed (weight es cs k) (sum es cs k) c ∙ f.0, by (lt_z (pos 0) (weight es cs k)) refl)
  where
    by : (b : Bool) → lt_z (pos 0) (weight es cs k) ≡ b → AllByRecursion InRange (cond b (mapped_from (λ axis x. rounded (sum es cs k axis) (weight es cs k)) 0 c) c)
    by false e = f.1
    by true e =
        all_mapped InRange InRange (λ axis x. rounded (sum es cs k axis) (weight es cs k)) (λ axis x u. mean_range (sum es cs k axis) (weight es cs k) (omega (arith, ints)) (sum_low cs k es axis r) (sum_high cs k es axis r)) 0 c f.1

pub stays_fitting : StaysFitting
unfolding move
stays_fitting axes es cs cs' f m =
    record {
      held = f.held;
      centers = subst (AllByRecursion (Fits axes)) (sym (moves_only es cs cs' m)) (all_mapped (Fits axes) (Fits axes) (λ k c. renewed (weight es cs k) (sum es cs k) c) (renewed_fits axes es cs (fit_ranged axes es f.held)) 0 cs f.centers);
    }

fitting_sized : (axes : ℕ) (es : List Entry) (cs : List Place) → Fitting axes es cs → Sized axes es cs
fitting_sized axes es cs f =
    record {
      held = All-weaker (λ e. Fits axes e.place) (λ e. length e.place ≡ axes) (λ e h. h.0) es f.held;
      centers = All-weaker (Fits axes) (λ c. length c ≡ axes) (λ c h. h.0) cs f.centers;
    }

-- ---- the coordinate total is in range

place_high : (c : Place) → AllByRecursion InRange c → summed (λ x. x) c ≤ℤ pos (32767 * length c)
place_high [] h = omega (arith, lin)
place_high (x ∷ c) h = omega (arith, lin, place_high c h.1, h.0.1)

place_low : (c : Place) → AllByRecursion InRange c → (pos 0 -ℤ pos (32768 * length c)) ≤ℤ summed (λ x. x) c
place_low [] h = omega (arith, lin)
place_low (x ∷ c) h = omega (arith, lin, place_low c h.1, h.0.0)

coordinates_high : (axes : ℕ) (cs : List Place) → AllByRecursion (Fits axes) cs → coordinates cs ≤ℤ pos (32767 * (length cs * axes))
unfolding coordinates
coordinates_high axes [] h = omega (arith, lin)
coordinates_high axes (c ∷ cs) h =
    let e : summed (λ x. x) c ≤ℤ pos (32767 * axes) = rw h.0.0 at (place_high c h.0.1) in
    let i = coordinates_high axes cs h.1 in
    omega (arith, lin)

coordinates_low : (axes : ℕ) (cs : List Place) → AllByRecursion (Fits axes) cs → (pos 0 -ℤ pos (32768 * (length cs * axes))) ≤ℤ coordinates cs
unfolding coordinates
coordinates_low axes [] h = omega (arith, lin)
coordinates_low axes (c ∷ cs) h =
    let e : (pos 0 -ℤ pos (32768 * axes)) ≤ℤ summed (λ x. x) c = rw h.0.0 at (place_low c h.0.1) in
    let i = coordinates_low axes cs h.1 in
    omega (arith, lin)

pub distortion_natural : (es : List Entry) (cs : List Place) → pos 0 ≤ℤ distortion es cs
unfolding distortion
distortion_natural es cs = total_natural (λ p. dist p (center cs (choose cs p))) (λ p. dist_natural p (center cs (choose cs p))) es

-- ---- a number that falls with every round

-- d falls by 1 or more, and t rises by less than m
outweighs : (d d' t t' m : ℤ) → pos 0 ≤ℤ m → d' <ℤ d → (t' -ℤ t +ℤ pos 1) ≤ℤ m → (d' *ℤ m +ℤ t' +ℤ pos 1) ≤ℤ (d *ℤ m +ℤ t)
outweighs d d' t t' m h l g =
    let p = *ℤ-natural (d -ℤ d' -ℤ pos 1) m (omega (arith, lin)) h in
    let e : d *ℤ m ≡ d' *ℤ m +ℤ m +ℤ (d -ℤ d' -ℤ pos 1) *ℤ m = solve (d ∷ d' ∷ m ∷ []) (search quotes depth 30 fits 20000) tt in
    omega (arith, lin)

module _ (axes : ℕ) (es : List Entry) (many : ℕ) where
  height : List Place → ℤ
  height cs = distortion es cs *ℤ pos (65535 * (many * axes) + 1) +ℤ coordinates cs

  round_lowers : (cs cs' : List Place) → Fitting axes es cs → length cs ≡ many → Moved es cs cs' → (cs' ≡ cs → ⊥) → (height cs' +ℤ pos 1) ≤ℤ height cs
  unfolding height
  round_lowers cs cs' f l m n =
      let f' = stays_fitting axes es cs cs' f m in
      let l' : length cs' ≡ many = m.as_many ∙ l in
      let high : coordinates cs' ≤ℤ pos (32767 * (many * axes)) = rw l' at (coordinates_high axes cs' f'.centers) in
      let low : (pos 0 -ℤ pos (32768 * (many * axes))) ≤ℤ coordinates cs = rw l at (coordinates_low axes cs f.centers) in
      elim (descends axes es cs cs' (fitting_sized axes es cs f) m n) [
        | inl p ↦ outweighs (distortion es cs) (distortion es cs') (coordinates cs) (coordinates cs') (pos (65535 * (many * axes) + 1)) (omega (arith, lin)) p (omega (arith, lin))
        | inr p ↦ rw p.0 (omega (arith, lin, p.1))
      ]

  rounds_lower : {cs ds : List Place} {n : ℕ} {b : Bool} → Rounds es cs n b ds → b ≡ false → Fitting axes es cs → length cs ≡ many →
      Fitting axes es ds × (length ds ≡ many) × ((height ds +ℤ pos n) ≤ℤ height cs)
  rounds_lower start e f l = (f, l, omega (arith, lin))
  rounds_lower (last m q) e f l = absurd (true≢false e)
  rounds_lower (more {cs = cs} {cs' = cs'} m q rest) e f l =
      let h = round_lowers cs cs' f l m q in
      let r = rounds_lower rest e (stays_fitting axes es cs cs' f m) (m.as_many ∙ l) in
      (r.0, r.1, omega (arith, lin, h, r.2))

pub ends : Ends
unfolding height
ends axes es cs ds n f rs =
    let k = length cs in
    let m = pos (65535 * (k * axes) + 1) in
    let r = rounds_lower axes es k rs refl f refl in
    let high = coordinates_high axes cs f.centers in
    let low : (pos 0 -ℤ pos (32768 * (k * axes))) ≤ℤ coordinates ds = rw r.1 at (coordinates_low axes ds r.0.centers) in
    let rest = *ℤ-natural (distortion es ds) m (distortion_natural es ds) (omega (arith, lin)) in
    let e : (distortion es cs +ℤ pos 1) *ℤ m ≡ distortion es cs *ℤ m +ℤ m = solve (distortion es cs ∷ m ∷ []) (search quotes depth 30 fits 20000) tt in
    omega (arith, lin, r.2)

-- ---- where rounds settle

-- centers that a round does not move stay
still : (es : List Entry) (cs : List Place) (n : ℕ) → move es cs ≡ cs → settled_centers es n cs ≡ cs
still es cs zero e = refl
still es cs (suc n) e = ap (settled_centers es n) e ∙ still es cs n e

settles : (es : List Entry) {cs cs' : List Place} {n : ℕ} {b : Bool} (limit : ℕ) → Rounds es cs n b cs' → n ≤ limit → (b ≡ true) ⊎ (n ≡ limit) → cs' ≡ settled_centers es limit cs
settles es limit (start {cs}) l (inl e) = absurd (true≢false (sym e))
settles es limit (start {cs}) l (inr e) = ap (λ (n : ℕ). settled_centers es n cs) e
settles es limit (last {cs} {cs'} m q) l e = q ∙ sym (still es cs limit (sym (moves_only es cs cs' m) ∙ q))
settles es zero (more m q rest) l e = absurd (omega arith)
settles es (suc limit) (more {cs} {cs'} m q rest) l e =
    settles es limit rest (omega arith) (elim e [ inl t ↦ inl t | inr t ↦ inr (omega arith) ]) ∙ ap (settled_centers es limit) (moves_only es cs cs' m)

pub settles_at : SettlesAt
settles_at es cs cs' n limit settled rs l e = settles es limit rs l e

-- rounds that all move a center, or rest
moving_or_still : (es : List Entry) (n : ℕ) (cs : List Place) → Rounds es cs n false (settled_centers es n cs) ⊎ (move es (settled_centers es n cs) ≡ settled_centers es n cs)
moving_or_still es zero cs = inl start
moving_or_still es (suc n) cs = elim (List-discrete (List-discrete ℤ_discrete) (move es cs) cs) [
  | yes e ↦ inr (subst (λ (ds : List Place). move es ds ≡ ds) (sym (still es cs (suc n) e)) e)
  | no m ↦ elim (moving_or_still es n (move es cs)) [ inl rs ↦ inl (more (moves es cs) m rs) | inr e ↦ inr e ]
]

pub comes_to_rest : ComesToRest
comes_to_rest axes es cs n f h = elim (moving_or_still es n cs) [
  | inl rs ↦ absurd (omega (arith, lin, ends axes es cs (settled_centers es n cs) n f rs))
  | inr e ↦ subst (Moved es (settled_centers es n cs)) e (moves es (settled_centers es n cs))
]
