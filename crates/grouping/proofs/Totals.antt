-- Totals over entries.
use Rattle.std.proofs.Common.{◌≡◌, ℕ, zero, suc, ◌*◌, ◌≤◌, Bool, true, false, cond, List, [], ◌∷◌, length, replicate, ℤ, pos, ◌+ℤ◌, ◌*ℤ◌, ◌≤ℤ◌, sym, refl, ◌∙◌, arith}
use lib.IntN.{*ℤ-zero, zero-*ℤ}
use Rattle.std.specs.List.{AllByRecursion}
use Rattle.std.specs.List.Sorted.{IsPermutation}
use Rattle.numbers.specs.Sums.{summed, summed_from}
use Rattle.numbers.proofs.Quote.{solve, quotes}
use Rattle.numbers.proofs.Ring.{lin, *ℤ-add, *ℤ-rises}
use Rattle.numbers.proofs.Sums.{summed_append, summed_replicate, summed_shuffled}
use Rattle.points.specs.Entries.{Entry}
use Rattle.grouping.specs.Distance.{Place}
use Rattle.grouping.specs.Totals.{total}
use Rattle.grouping.specs.Unfolded.{unfolded}

pub all_of : {X : Type 0} {P : X → Type 0} → ((x : X) → P x) → (xs : List X) → AllByRecursion P xs
all_of h [] = tt
all_of h (x ∷ xs) = (h x, all_of h xs)

pub total_zero : (es : List Entry) → total (λ p. pos 0) es ≡ pos 0
total_zero [] = refl
total_zero (e ∷ es) = omega (arith, lin, total_zero es, *ℤ-zero (pos e.hold))

pub total_add : (f g : Place → ℤ) (es : List Entry) → total (λ p. f p +ℤ g p) es ≡ total f es +ℤ total g es
total_add f g [] = refl
total_add f g (e ∷ es) = omega (arith, lin, total_add f g es, *ℤ-add (pos e.hold) (f e.place) (g e.place))

-- a total of sums is the sum of the totals
pub total_summed : {X : Type 0} (f : Place → ℕ → X → ℤ) (k : ℕ) (xs : List X) (es : List Entry) →
    total (λ p. summed_from (f p) k xs) es ≡ summed_from (λ j x. total (λ p. f p j x) es) k xs
total_summed f k [] es = total_zero es
total_summed f k (x ∷ xs) es = omega (arith, lin, total_add (λ p. f p k x) (λ p. summed_from (f p) (suc k) xs) es, total_summed f (suc k) xs es)

-- ---- over entries whose places have a property

pub total_same : (P : Place → Type 0) (f g : Place → ℤ) → ((p : Place) → P p → f p ≡ g p) → (es : List Entry) → AllByRecursion (λ e. P e.place) es → total f es ≡ total g es
total_same P f g h [] a = refl
total_same P f g h (e ∷ es) a = rw (h e.place a.0, total_same P f g h es a.1)

pub total_rises : (P : Place → Type 0) (f g : Place → ℤ) → ((p : Place) → P p → f p ≤ℤ g p) → (es : List Entry) → AllByRecursion (λ e. P e.place) es → total f es ≤ℤ total g es
total_rises P f g h [] a = omega (arith, lin)
total_rises P f g h (e ∷ es) a =
    omega (arith, lin, total_rises P f g h es a.1, *ℤ-rises (pos e.hold) (f e.place) (g e.place) (omega (arith, lin)) (h e.place a.0))

pub total_natural : (f : Place → ℤ) → ((p : Place) → pos 0 ≤ℤ f p) → (es : List Entry) → pos 0 ≤ℤ total f es
total_natural f h es = omega (arith, lin, total_zero es, total_rises (λ p. Unit {0}) (λ p. pos 0) f (λ p u. h p) es (all_of (λ e. tt) es))

-- ---- over the places that pass a test

-- how much it is if it is the same everywhere
pub total_scaled : (t : Place → Bool) (z : ℤ) (es : List Entry) → total (λ p. cond (t p) z (pos 0)) es ≡ z *ℤ total (λ p. cond (t p) (pos 1) (pos 0)) es
total_scaled t z [] = solve (z ∷ []) (search quotes depth 30 fits 20000) tt
total_scaled t z (e ∷ es) = rw (total_scaled t z es) (entry (t e.place) (pos e.hold) (total (λ p. cond (t p) (pos 1) (pos 0)) es))
  where
    entry : (b : Bool) (h w : ℤ) → h *ℤ cond b z (pos 0) +ℤ z *ℤ w ≡ z *ℤ (h *ℤ cond b (pos 1) (pos 0) +ℤ w)
    entry true h w = solve (z ∷ h ∷ w ∷ []) (search quotes depth 30 fits 20000) tt
    entry false h w = solve (z ∷ h ∷ w ∷ []) (search quotes depth 30 fits 20000) tt

pub bit_low : (b : Bool) → pos 0 ≤ℤ cond b (pos 1) (pos 0)
bit_low true = omega (arith, lin)
bit_low false = omega (arith, lin)

pub bit_high : (b : Bool) → cond b (pos 1) (pos 0) ≤ℤ pos 1
bit_high true = omega (arith, lin)
bit_high false = omega (arith, lin)

-- places without weight have no total
pub total_none : (t : Place → Bool) (f : Place → ℤ) (es : List Entry) → total (λ p. cond (t p) (pos 1) (pos 0)) es ≡ pos 0 → total (λ p. cond (t p) (f p) (pos 0)) es ≡ pos 0
total_none t f [] h = refl
total_none t f (e ∷ es) h =
    step (t e.place) e.hold (f e.place) (total (λ p. cond (t p) (pos 1) (pos 0)) es) (total (λ p. cond (t p) (f p) (pos 0)) es) h (total_natural (λ p. cond (t p) (pos 1) (pos 0)) (λ p. bit_low (t p)) es) (total_none t f es)
  where
    step : (b : Bool) (n : ℕ) (z w r : ℤ) → pos n *ℤ cond b (pos 1) (pos 0) +ℤ w ≡ pos 0 → pos 0 ≤ℤ w → (w ≡ pos 0 → r ≡ pos 0) → pos n *ℤ cond b z (pos 0) +ℤ r ≡ pos 0
    step true zero z w r h k i = omega (arith, lin, zero-*ℤ z, i (omega (arith, lin, zero-*ℤ (pos 1))))
    step true (suc n) z w r h k i =
        let e : pos (suc n) *ℤ pos 1 ≡ pos (suc n) = solve (pos (suc n) ∷ []) (search quotes depth 30 fits 20000) tt in
        absurd (omega (arith, lin))
    step false n z w r h k i = omega (arith, lin, *ℤ-zero (pos n), i (omega (arith, lin, *ℤ-zero (pos n))))

-- ---- how large they are

-- as often as all are held
pub held_high : (es : List Entry) → AllByRecursion (λ e. e.hold ≤ 65535) es → total (λ p. pos 1) es ≤ℤ pos (65535 * length es)
held_high [] h = omega (arith, lin)
held_high (e ∷ es) h =
    let u : pos e.hold *ℤ pos 1 ≡ pos e.hold = solve (pos e.hold ∷ []) (search quotes depth 30 fits 20000) tt in
    omega (arith, lin, held_high es h.1, h.0)

-- ---- one by one

total_is : (f : Place → ℤ) (es : List Entry) → total f es ≡ summed f (unfolded es)
total_is f [] = refl
total_is f (e ∷ es) =
    omega (arith, lin, total_is f es, summed_append f (replicate e.hold e.place) (unfolded es), summed_replicate f e.hold e.place)

-- a total depends on what is held and how often, and not on how it is recorded
pub same_totals : (es es' : List Entry) → IsPermutation (unfolded es) (unfolded es') → (f : Place → ℤ) → total f es ≡ total f es'
same_totals es es' h f = total_is f es ∙ summed_shuffled f (unfolded es) (unfolded es') h ∙ sym (total_is f es')
