-- Boxes: what a corner decides, and what the greatest and the least distance decide.
use Rattle.std.proofs.Common.{◌≡◌, Bool, true, false, cond, [], ◌∷◌, length, ℤ, pos, ◌+ℤ◌, ◌-ℤ◌, ◌*ℤ◌, neg_ℤ, ◌≤ℤ◌, refl, inl, inr, arith}
use borrow.Author.Differences.{ints}
use lib.Signed.{lt_z}
use Rattle.std.proofs.lemmas.Int.{by_lt_z}
use Rattle.numbers.proofs.Quote.{solve, quotes}
use Rattle.numbers.proofs.Ring.{lin, square_low, *ℤ-natural}
use Rattle.grouping.specs.Distance.{Place, dist}
use Rattle.grouping.specs.Choice.{center}
use Rattle.grouping.specs.Boxes.{Inside, none, more, corner, apart, far, near, CornerDecides, FarBelowNear, FarAndNear, Reached, FarAndNearReached}

-- a product of numbers that are both at most 0
both_low : (a b : ℤ) → a ≤ℤ pos 0 → b ≤ℤ pos 0 → pos 0 ≤ℤ (a *ℤ b)
both_low a b p q =
    let n = *ℤ-natural (neg_ℤ a) (neg_ℤ b) (omega (arith, lin)) (omega (arith, lin)) in
    let i : neg_ℤ a *ℤ neg_ℤ b ≡ a *ℤ b = solve (a ∷ b ∷ []) (search quotes depth 30 fits 20000) tt in
    omega (arith, lin)

-- ---- the corner

-- from e to x, c loses at least as much as l, if c lies on that side of l where e lies of x
loses : (e x l c : ℤ) → pos 0 ≤ℤ ((c -ℤ l) *ℤ (e -ℤ x)) → (apart e c +ℤ apart x l) ≤ℤ (apart x c +ℤ apart e l)
loses e x l c n =
    let d = (c -ℤ l) *ℤ (e -ℤ x) in
    let i : apart x c +ℤ apart e l ≡ apart e c +ℤ apart x l +ℤ (d +ℤ d) = solve (e ∷ x ∷ l ∷ c ∷ []) (search quotes depth 30 fits 20000) tt in
    omega (arith, lin)

-- one axis: so it is from the end of lo..hi on the side of c
axis_gap : (lo hi x l c : ℤ) (b : Bool) → lt_z l c ≡ b → lo ≤ℤ x → x ≤ℤ hi → (apart (cond b hi lo) c +ℤ apart x l) ≤ℤ (apart x c +ℤ apart (cond b hi lo) l)
axis_gap lo hi x l c true e p q = loses hi x l c (*ℤ-natural (c -ℤ l) (hi -ℤ x) (omega (arith, ints)) (omega (arith, ints)))
axis_gap lo hi x l c false e p q = loses lo x l c (both_low (c -ℤ l) (lo -ℤ x) (omega (arith, ints)) (omega (arith, ints)))

-- from the corner to a place of the box the candidate loses at least as much as the leader
corner_gap : {los his p : Place} (leader candidate : Place) → length leader ≡ length los → length candidate ≡ length los → Inside los his p →
    (dist (corner los his leader candidate) candidate +ℤ dist p leader) ≤ℤ (dist p candidate +ℤ dist (corner los his leader candidate) leader)
corner_gap ls cs h k none = omega (arith, lin)
corner_gap [] cs h k (more p q r) = absurd (omega arith)
corner_gap (l ∷ ls) [] h k (more p q r) = absurd (omega arith)
corner_gap (l ∷ ls) (c ∷ cs) h k (more {lo = lo} {hi = hi} {x = x} p q r) =
    omega (arith, lin, axis_gap lo hi x l c (lt_z l c) refl p q, corner_gap ls cs (omega arith) (omega arith) r)

pub corner_decides : CornerDecides
corner_decides los his cs i j h k (inl b) p r = inl (omega (arith, lin, corner_gap (center cs i) (center cs j) h k r))
corner_decides los his cs i j h k (inr b) p r =
    by_lt_z (dist p (center cs i)) (dist p (center cs j)) (λ less. inl less) (λ most. inr (omega (arith, lin, corner_gap (center cs i) (center cs j) h k r), b.1))

-- ---- the greatest and the least distance

-- y is no farther from z than x is
closer : (x y z : ℤ) → pos 0 ≤ℤ ((x -ℤ y) *ℤ (x -ℤ z +ℤ (y -ℤ z))) → apart y z ≤ℤ apart x z
closer x y z n =
    let i : apart x z ≡ apart y z +ℤ (x -ℤ y) *ℤ (x -ℤ z +ℤ (y -ℤ z)) = solve (x ∷ y ∷ z ∷ []) (search quotes depth 30 fits 20000) tt in
    omega (arith, lin)

-- where it lies between them, from below or from above
between : (x y z : ℤ) → x ≤ℤ y → y ≤ℤ z → apart y z ≤ℤ apart x z
between x y z p q = closer x y z (both_low (x -ℤ y) (x -ℤ z +ℤ (y -ℤ z)) (omega (arith, lin)) (omega (arith, lin)))

between_down : (x y z : ℤ) → z ≤ℤ y → y ≤ℤ x → apart y z ≤ℤ apart x z
between_down x y z p q = closer x y z (*ℤ-natural (x -ℤ y) (x -ℤ z +ℤ (y -ℤ z)) (omega (arith, lin)) (omega (arith, lin)))

greater : (x y : ℤ) (b : Bool) → lt_z y x ≡ b → (x ≤ℤ cond b x y) × (y ≤ℤ cond b x y)
greater x y true e = (omega (arith, ints), omega (arith, ints))
greater x y false e = (omega (arith, ints), omega (arith, ints))

far_axis_is : (lo hi x y : ℤ) → lo ≤ℤ x → x ≤ℤ hi → apart x y ≤ℤ cond (lt_z (apart hi y) (apart lo y)) (apart lo y) (apart hi y)
far_axis_is lo hi x y p q =
    let g = greater (apart lo y) (apart hi y) (lt_z (apart hi y) (apart lo y)) refl in
    by_lt_z x y (λ before. omega (arith, lin, between lo x y p (omega (arith, lin)), g.0)) (λ after. omega (arith, lin, between_down hi x y after q, g.1))

near_axis_is : (lo hi x y : ℤ) (s t : Bool) → lt_z y lo ≡ s → lt_z hi y ≡ t → lo ≤ℤ x → x ≤ℤ hi → cond s (apart lo y) (cond t (apart hi y) (pos 0)) ≤ℤ apart x y
near_axis_is lo hi x y true t d e p q = between_down x lo y (omega (arith, ints)) p
near_axis_is lo hi x y false true d e p q = between x hi y q (omega (arith, ints))
near_axis_is lo hi x y false false d e p q = square_low (x -ℤ y)

at_most_far : {los his p : Place} (c : Place) → Inside los his p → dist p c ≤ℤ far los his c
at_most_far c none = omega (arith, lin)
at_most_far [] (more p q r) = omega (arith, lin)
at_most_far (y ∷ c) (more {lo = lo} {hi = hi} {x = x} p q r) = omega (arith, lin, far_axis_is lo hi x y p q, at_most_far c r)

at_least_near : {los his p : Place} (c : Place) → Inside los his p → near los his c ≤ℤ dist p c
at_least_near c none = omega (arith, lin)
at_least_near [] (more p q r) = omega (arith, lin)
at_least_near (y ∷ c) (more {lo = lo} {hi = hi} {x = x} p q r) = omega (arith, lin, near_axis_is lo hi x y (lt_z y lo) (lt_z hi y) refl refl p q, at_least_near c r)

pub far_and_near : FarAndNear
far_and_near los his c p r = (at_least_near c r, at_most_far c r)

pub far_below_near : FarBelowNear
far_below_near los his leader candidate h p r = omega (arith, lin, at_most_far leader r, at_least_near candidate r)

-- ---- both distances are reached

-- one more axis, with the number z on it
reached_at : {los his c : Place} {lo hi y d f : ℤ} (z : ℤ) → lo ≤ℤ z → z ≤ℤ hi → apart z y ≡ d → Reached los his c f → Reached (lo ∷ los) (hi ∷ his) (y ∷ c) (d +ℤ f)
reached_at z p q e r = record { place = z ∷ r.place; inside = more p q r.inside; there = omega (arith, lin, e, r.there) }

far_reached_at : {los his c : Place} {f : ℤ} (lo hi y : ℤ) (b : Bool) → lo ≤ℤ hi → Reached los his c f → Reached (lo ∷ los) (hi ∷ his) (y ∷ c) (cond b (apart lo y) (apart hi y) +ℤ f)
far_reached_at lo hi y true h r = reached_at lo (omega (arith, lin)) h refl r
far_reached_at lo hi y false h r = reached_at hi h (omega (arith, lin)) refl r

near_reached_at : {los his c : Place} {f : ℤ} (lo hi y : ℤ) (s t : Bool) → lt_z y lo ≡ s → lt_z hi y ≡ t → lo ≤ℤ hi → Reached los his c f → Reached (lo ∷ los) (hi ∷ his) (y ∷ c) (cond s (apart lo y) (cond t (apart hi y) (pos 0)) +ℤ f)
near_reached_at lo hi y true t d e h r = reached_at lo (omega (arith, lin)) h refl r
near_reached_at lo hi y false true d e h r = reached_at hi h (omega (arith, lin)) refl r
near_reached_at lo hi y false false d e h r =
    let i : apart y y ≡ pos 0 = solve (y ∷ []) (search quotes depth 30 fits 20000) tt in
    reached_at y (omega (arith, ints)) (omega (arith, ints)) i r

far_reached : {los his p : Place} (c : Place) → Inside los his p → Reached los his c (far los his c)
far_reached c none = record { place = []; inside = none; there = refl }
far_reached [] (more p q r) = record { place = _; inside = more p q r; there = refl }
far_reached (y ∷ c) (more {lo = lo} {hi = hi} p q r) = far_reached_at lo hi y (lt_z (apart hi y) (apart lo y)) (omega (arith, lin)) (far_reached c r)

near_reached : {los his p : Place} (c : Place) → Inside los his p → Reached los his c (near los his c)
near_reached c none = record { place = []; inside = none; there = refl }
near_reached [] (more p q r) = record { place = _; inside = more p q r; there = refl }
near_reached (y ∷ c) (more {lo = lo} {hi = hi} p q r) = near_reached_at lo hi y (lt_z y lo) (lt_z hi y) refl refl (omega (arith, lin)) (near_reached c r)

pub far_and_near_reached : FarAndNearReached
far_and_near_reached los his c p r = (far_reached c r, near_reached c r)
