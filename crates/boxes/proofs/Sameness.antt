-- Lists with the same elements, each as often: what the run of a box is to the entries of the box.
use Rattle.std.proofs.Common.{◌≡◌, ℕ, zero, suc, ◌+◌, ◌-◌, ◌<◌, ◌≤◌, Bool, true, false, cond, ◌&&◌, ltb, leb, List, [], ◌∷◌, ◌++◌, map, length, get_or, take, drop, ℤ, pos, ◌+ℤ◌, ◌*ℤ◌, ◌≤ℤ◌, filter, sym, refl, ap, ◌∙◌, subst, arith}
use Rattle.std.specs.List.{range_with_len, ContainsAt as Has, between, AllByRecursion}
use Rattle.std.specs.List.Sorted.{IsPermutation}
use Rattle.std.proofs.lemmas.List.FromFn.{fill_by_all, get_or-range_with_len, length-range_with_len}
use Rattle.std.proofs.lemmas.List.Edits.{split_between, length-between, get_or-between}
use Rattle.std.proofs.ByRecursion.{All-from_get_or, all-has, All-weaker, All-map, all_kept_by, kept_by_passes, has_get_or, has_append_right, has_shuffled}
use Rattle.std.proofs.lemmas.List.{get_or-take, get_or-drop, get_or-map, length-map, length-take-le, length-drop, ext_get_or}
use Rattle.std.proofs.lemmas.List.Sorted.{IsPermutation-sym}
use Rattle.std.proofs.lemmas.Bool.{lt-ltb, le-ltb, le-leb, ltb-true, leb-true, and_parts, and_from, and_right, lt-leb, both_ways}
use Rattle.numbers.specs.Sums.{summed}
use Rattle.numbers.proofs.Ring.{lin}
use Rattle.numbers.proofs.Sums.{summed_append, summed_shuffled}
use Rattle.points.specs.declared.bounds.Bounds.{Bounds}
use Rattle.points.specs.Kinds.{position_place}
use Rattle.points.specs.Entries.{Entry}
use Rattle.grouping.specs.Distance.{Place, number}
use Rattle.grouping.specs.Totals.{total}
use Rattle.boxes.specs.declared.node.Tallies.{Tallies}
use Rattle.boxes.specs.declared.run.Quantity.TheVariants.{Weight, Sum, Squares}
use Rattle.boxes.specs.Runs.{nothing, entry_at, picked}
use Rattle.boxes.specs.Tells.{measured, numbers_on, BoundsOf, TalliesOf}
use Rattle.boxes.proofs.Measures.{total_is}

-- the same elements, each as often: every sum over them is the same
pub record Same {X : Type 0} (xs ys : List X) : Type 0 where
  pub sums : (f : X → ℤ) → summed f xs ≡ summed f ys
  pub there : AllByRecursion (Has ys) xs
  pub back : AllByRecursion (Has xs) ys

-- what holds of each of the ones holds of each of the others
pub all_same : {X : Type 0} (P : X → Type 0) (xs ys : List X) → Same xs ys → AllByRecursion P ys → AllByRecursion P xs
all_same P xs ys s a = All-weaker (Has ys) P (λ x h. all-has P ys x a h) xs s.there

pub all_back : {X : Type 0} (P : X → Type 0) (xs ys : List X) → Same xs ys → AllByRecursion P xs → AllByRecursion P ys
all_back P xs ys s a = All-weaker (Has xs) P (λ x h. all-has P xs x a h) ys s.back

has_same : {X : Type 0} (xs ys : List X) (x : X) → Same xs ys → Has ys x → Has xs x
has_same xs ys x s h = all-has (Has xs) ys x s.back h

-- ---- sums

summed_map : {X Y : Type 0} (g : X → Y) (f : Y → ℤ) (xs : List X) → summed f (map g xs) ≡ summed (λ x. f (g x)) xs
summed_map g f [] = refl
summed_map g f (x ∷ xs) = ap (λ z. f (g x) +ℤ z) (summed_map g f xs)

summed_kept : {X : Type 0} (t : X → Bool) (f : X → ℤ) (xs : List X) → summed f (filter t xs) ≡ summed (λ x. cond (t x) (f x) (pos 0)) xs
summed_kept t f [] = refl
summed_kept t f (x ∷ xs) = one (t x) (summed_kept t f xs)
  where
    one : (b : Bool) → summed f (filter t xs) ≡ summed (λ y. cond (t y) (f y) (pos 0)) xs → summed f (cond b (x ∷ filter t xs) (filter t xs)) ≡ cond b (f x) (pos 0) +ℤ summed (λ y. cond (t y) (f y) (pos 0)) xs
    one true e = ap (λ z. f x +ℤ z) e
    one false e = omega (arith, lin, e)

summed_all : {X : Type 0} (t : X → Bool) (f : X → ℤ) (xs : List X) → AllByRecursion (λ x. t x ≡ true) xs → summed (λ x. cond (t x) (f x) (pos 0)) xs ≡ summed f xs
summed_all t f [] a = refl
summed_all t f (x ∷ xs) a = rw (a.0, summed_all t f xs a.1)

summed_no : {X : Type 0} (t : X → Bool) (f : X → ℤ) (xs : List X) → AllByRecursion (λ x. t x ≡ false) xs → summed (λ x. cond (t x) (f x) (pos 0)) xs ≡ pos 0
summed_no t f [] a = refl
summed_no t f (x ∷ xs) a = rw (a.0, summed_no t f xs a.1) (omega (arith, lin))

pub total_same : (f : Place → ℤ) (es fs : List Entry) → Same es fs → total f es ≡ total f fs
total_same f es fs s = total_is f es ∙ s.sums (λ e. pos e.hold *ℤ f e.place) ∙ sym (total_is f fs)

pub has_map : {X Y : Type 0} (g : X → Y) (xs : List X) (x : X) → Has xs x → Has (map g xs) (g x)
has_map g xs x (k, l, e) = (k, omega (arith, length-map xs g), λ d. get_or-map g xs k x d l ∙ ap g (e x))

same_map : {X Y : Type 0} (g : X → Y) (xs ys : List X) → Same xs ys → Same (map g xs) (map g ys)
same_map g xs ys s =
    record {
      sums = λ f. summed_map g f xs ∙ s.sums (λ x. f (g x)) ∙ sym (summed_map g f ys);
      there = All-map (Has (map g ys)) g xs (All-weaker (Has ys) (λ x. Has (map g ys) (g x)) (λ x h. has_map g ys x h) xs s.there);
      back = All-map (Has (map g xs)) g ys (All-weaker (Has xs) (λ x. Has (map g xs) (g x)) (λ x h. has_map g xs x h) ys s.back);
    }

-- as many
counted : {X : Type 0} (xs : List X) → summed (λ x. pos 1) xs ≡ pos (length xs)
counted [] = refl
counted (x ∷ xs) = omega (arith, lin, counted xs)

pub length_same : {X : Type 0} (xs ys : List X) → Same xs ys → length xs ≡ length ys
length_same xs ys s = omega (arith, lin, counted xs, counted ys, s.sums (λ x. pos 1))

-- as many that pass a test
pub kept_same : {X : Type 0} (t : X → Bool) (xs ys : List X) → Same xs ys → length (filter t xs) ≡ length (filter t ys)
kept_same t xs ys s =
    omega (arith, lin, counted (filter t xs), counted (filter t ys), summed_kept t (λ x. pos 1) xs, summed_kept t (λ x. pos 1) ys, s.sums (λ x. cond (t x) (pos 1) (pos 0)))

pub kept_map : {X Y : Type 0} (t : Y → Bool) (g : X → Y) (xs : List X) → length (filter t (map g xs)) ≡ length (filter (λ x. t (g x)) xs)
kept_map t g xs =
    omega (arith, lin, counted (filter t (map g xs)), counted (filter (λ x. t (g x)) xs), summed_kept t (λ x. pos 1) (map g xs), summed_kept (λ x. t (g x)) (λ x. pos 1) xs, summed_map g (λ x. cond (t x) (pos 1) (pos 0)) xs)

-- ---- what passes a test in a run and nowhere else

pub has_kept : {X : Type 0} (t : X → Bool) (xs : List X) (x : X) → Has xs x → t x ≡ true → Has (filter t xs) x
has_kept t [] x h p = absurd (omega (arith, h.1))
has_kept t (y ∷ xs) x h p = go h (λ k. has_kept t xs x k p)
  where
    first : (b : Bool) → t y ≡ b → y ≡ x → Has (cond b (y ∷ filter t xs) (filter t xs)) x
    first true e i = subst (λ z. Has (z ∷ filter t xs) x) (sym i) (has_get_or (x ∷ filter t xs) 0 x (omega arith))
    first false e i = absurd (both_ways (t x) (ap t (sym i) ∙ e) p)

    later : (b : Bool) → Has (filter t xs) x → Has (cond b (y ∷ filter t xs) (filter t xs)) x
    later true h = has_append_right (y ∷ []) (filter t xs) x h
    later false h = h

    go : Has (y ∷ xs) x → (Has xs x → Has (filter t xs) x) → Has (filter t (y ∷ xs)) x
    go (zero, l, e) rest = first (t y) refl (e y)
    go (suc k, l, e) rest = later (t y) (rest (k, omega arith, e))

-- the entries of all numbers
pub picked_all : (es : List Entry) → picked es (range_with_len 0 (length es)) ≡ es
picked_all es = sym (fill_by_all (λ i. entry_at es i) es (length es) nothing refl (λ k l. refl))

pub between_take : {X : Type 0} (d : X) (xs : List X) (from to n : ℕ) → to ≤ n → n ≤ length xs → between from to (take n xs) ≡ between from to xs
between_take d xs from to n l m =
    let long : length (take n xs) ≡ n = length-take-le n xs m in
    let a : length (between from to (take n xs)) ≡ to - from = length-between (take n xs) from to (omega arith) in
    let b : length (between from to xs) ≡ to - from = length-between xs from to (omega arith) in
    ext_get_or d _ _ (a ∙ sym b) (λ k h. let k' : from + k < to = omega arith in get_or-between (take n xs) from to k d k' ∙ get_or-take n xs (from + k) d (omega arith) ∙ sym (get_or-between xs from to k d k'))

-- the entries that pass a test, where those are the ones in a run of an order of all entries
module _ (es : List Entry) (order : List ℕ) (t : Entry → Bool) (from to : ℕ) (up : from ≤ to) (end : to ≤ length es) (long : length es ≤ length order)
    (All-there : IsPermutation (range_with_len 0 (length es)) (take (length es) order))
    (located : (j : ℕ) → j < length es → t (entry_at es (get_or order j 0)) ≡ (leb from j && ltb j to)) where
  pub order_below : (j : ℕ) → j < length es → get_or order j 0 < length es
  order_below j l =
      let own = has_get_or (take (length es) order) j 0 (omega (arith, length-take-le (length es) order long)) in
      let back = has_shuffled (take (length es) order) (range_with_len 0 (length es)) _ (IsPermutation-sym (range_with_len 0 (length es)) (take (length es) order) All-there) own in
      omega (arith, back.1, back.2 0, length-range_with_len 0 (length es), get_or-range_with_len 0 (length es) back.0 0 (omega (arith, back.1, length-range_with_len 0 (length es))), get_or-take (length es) order j 0 l)

  -- a place of the run, and one outside
  inside : (j : ℕ) → from ≤ j → j < to → t (entry_at es (get_or order j 0)) ≡ true
  inside j a b = located j (omega arith) ∙ and_from (leb from j) (ltb j to) (le-leb from j a) (lt-ltb j to b)

  before : (j : ℕ) → j < from → t (entry_at es (get_or order j 0)) ≡ false
  before j a = located j (omega arith) ∙ ap (λ x. x && ltb j to) (lt-leb from j a)

  after : (j : ℕ) → j < length es → to ≤ j → t (entry_at es (get_or order j 0)) ≡ false
  after j l a = located j l ∙ and_right (leb from j) (ltb j to) (le-ltb j to a)

  run_length : length (between from to order) ≡ to - from
  run_length = length-between order from to (omega arith)

  run_at : (k : ℕ) → k < to - from → get_or (between from to order) k 0 ≡ get_or order (from + k) 0
  run_at k l = get_or-between order from to k 0 (omega arith)

  pub same_run : Same (filter t es) (picked es (between from to order))
  same_run = record { sums = sums; there = there; back = back }
    where
      taken : length (take (length es) order) ≡ length es
      taken = length-take-le (length es) order long

      sums : (f : Entry → ℤ) → summed f (filter t es) ≡ summed f (picked es (between from to order))
      sums f =
          let h : ℕ → ℤ = λ i. cond (t (entry_at es i)) (f (entry_at es i)) (pos 0) in
          let g : ℕ → ℤ = λ i. f (entry_at es i) in
          let u : ℕ → Bool = λ i. t (entry_at es i) in
          let zs = take (length es) order in
          let a = summed_kept t f es ∙ ap (summed (λ e. cond (t e) (f e) (pos 0))) (sym (picked_all es)) ∙ summed_map (λ i. entry_at es i) (λ e. cond (t e) (f e) (pos 0)) (range_with_len 0 (length es)) ∙ summed_shuffled h (range_with_len 0 (length es)) zs All-there in
          let b = ap (summed h) (split_between zs from to up) ∙ summed_append h (take from zs) (between from to zs ++ drop to zs) in
          let c = summed_append h (between from to zs) (drop to zs) in
          let low = summed_no u g (take from zs) (All-from_get_or (λ i. u i ≡ false) (take from zs) 0 (λ i l. let l' : i < from = omega (arith, length-take-le from zs (omega (arith, taken))) in ap u (get_or-take from zs i 0 l' ∙ get_or-take (length es) order i 0 (omega arith)) ∙ before i l')) in
          let high = summed_no u g (drop to zs) (All-from_get_or (λ i. u i ≡ false) (drop to zs) 0 (λ i l. let l' : to + i < length es = omega (arith, length-drop to zs, taken) in ap u (get_or-drop to zs i 0 ∙ get_or-take (length es) order (to + i) 0 l') ∙ after (to + i) l' (omega arith))) in
          let mid = summed_all u g (between from to order) (All-from_get_or (λ i. u i ≡ true) (between from to order) 0 (λ i l. let l' : i < to - from = omega (arith, run_length) in ap u (run_at i l') ∙ inside (from + i) (omega arith) (omega arith))) in
          let m = ap (summed h) (between_take 0 order from to (length es) end long) ∙ mid ∙ sym (summed_map (λ i. entry_at es i) f (between from to order)) in
          omega (arith, lin)

      picked_length : length (picked es (between from to order)) ≡ to - from
      picked_length = length-map (between from to order) (λ i. entry_at es i) ∙ run_length

      picked_at : (k : ℕ) → k < to - from → get_or (picked es (between from to order)) k nothing ≡ entry_at es (get_or order (from + k) 0)
      picked_at k l = get_or-map (λ i. entry_at es i) (between from to order) k 0 nothing (omega (arith, run_length)) ∙ ap (entry_at es) (run_at k l)

      -- an entry that passes the test is in the run
      found : (i : ℕ) → i < length es → t (entry_at es i) ≡ true → Has (picked es (between from to order)) (entry_at es i)
      found i l h =
          let at = has_shuffled (range_with_len 0 (length es)) (take (length es) order) i All-there (subst (Has (range_with_len 0 (length es))) (get_or-range_with_len 0 (length es) i 0 l ∙ omega arith) (has_get_or (range_with_len 0 (length es)) i 0 (omega (arith, length-range_with_len 0 (length es))))) in
          let j = at.0 in
          let lj : j < length es = omega (arith, at.1, taken) in
          let is : get_or order j 0 ≡ i = sym (get_or-take (length es) order j 0 lj) ∙ at.2 0 in
          let in_run = and_parts (leb from j) (ltb j to) (sym (located j lj) ∙ ap (λ k. t (entry_at es k)) is ∙ h) in
          let low = leb-true from j in_run.0 in
          let high = ltb-true j to in_run.1 in
          let k : j - from < to - from = omega arith in
          let same : from + (j - from) ≡ j = omega arith in
          subst (Has (picked es (between from to order))) (picked_at (j - from) k ∙ ap (λ x. entry_at es (get_or order x 0)) same ∙ ap (entry_at es) is) (has_get_or (picked es (between from to order)) (j - from) nothing (omega (arith, picked_length)))

      there : AllByRecursion (Has (picked es (between from to order))) (filter t es)
      there =
          all_both (filter t es) (kept_by_passes t es)
          (all_kept_by t (λ e. t e ≡ true → Has (picked es (between from to order)) e) es (All-from_get_or (λ e. t e ≡ true → Has (picked es (between from to order)) e) es nothing found))
        where
          all_both : (fs : List Entry) → AllByRecursion (λ e. t e ≡ true) fs → AllByRecursion (λ e. t e ≡ true → Has (picked es (between from to order)) e) fs → AllByRecursion (Has (picked es (between from to order))) fs
          all_both [] a b = tt
          all_both (e ∷ fs) a b = (b.0 a.0, all_both fs a.1 b.1)

      back : AllByRecursion (Has (filter t es)) (picked es (between from to order))
      back =
          All-from_get_or (Has (filter t es)) (picked es (between from to order)) nothing
          (λ k l. let l' : k < to - from = omega (arith, picked_length) in subst (Has (filter t es)) (sym (picked_at k l')) (has_kept t es (entry_at es (get_or order (from + k) 0)) (has_get_or es (get_or order (from + k) 0) nothing (order_below (from + k) (omega arith))) (inside (from + k) (omega arith) (omega arith))))

-- ---- what a box tells

module _ (es fs : List Entry) (s : Same es fs) where
  on_axis : (axis : ℕ) → Same (numbers_on axis es) (numbers_on axis fs)
  on_axis axis = same_map (λ e. number e.place axis) es fs s

  pub bounds_same : (b : Bounds) → BoundsOf fs b → BoundsOf es b
  bounds_same b h =
      record {
        low = λ axis l. let z = h.low axis l in record { one_of = has_same _ _ _ (on_axis axis) z.one_of; below = all_same (λ x. number (position_place b.least) axis ≤ℤ x) _ _ (on_axis axis) z.below };
        high = λ axis l. let z = h.high axis l in record { one_of = has_same _ _ _ (on_axis axis) z.one_of; above = all_same (λ x. x ≤ℤ number (position_place b.greatest) axis) _ _ (on_axis axis) z.above };
      }

  pub tallies_same : (t : Tallies) → TalliesOf fs t → TalliesOf es t
  tallies_same t h =
      record {
        weight = h.weight ∙ sym (total_same (measured Weight) es fs s);
        sums = λ axis l. h.sums axis l ∙ sym (total_same (measured (Sum axis)) es fs s);
        squares = h.squares ∙ sym (total_same (measured Squares) es fs s);
      }
