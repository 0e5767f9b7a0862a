-- Quantities of records: how large they are, and their totals.
use Rattle.std.proofs.Common.{◌≡◌, ℕ, ◌+◌, ◌*◌, ◌<◌, ◌≤◌, List, [], ◌∷◌, ◌++◌, length, get_or, take, ℤ, pos, ◌+ℤ◌, ◌*ℤ◌, neg_ℤ, ◌≤ℤ◌, sym, refl, ap, ◌∙◌, subst, mul-le-mul_right, arith, w64, SFits, to_z, of_z}
use borrow.Author.Differences.{ints, fits_in}
use Rattle.std.specs.List.{AllByRecursion}
use Rattle.std.proofs.lemmas.List.{map_more}
use Rattle.std.proofs.lemmas.Int.{to_z-of_z, to_z_pos}
use Rattle.points.specs.Entries.{Entry}
use Rattle.numbers.specs.Sums.{summed}
use Rattle.numbers.proofs.Sums.{summed_append}
use Rattle.numbers.proofs.Quote.{solve, quotes}
use Rattle.numbers.proofs.Ring.{lin, *ℤ-rises, *ℤ-neg}
use Rattle.grouping.specs.Distance.{Place, dist}
use Rattle.grouping.specs.Expansion.{norm}
use Rattle.grouping.specs.Totals.{total}
use Rattle.boxes.specs.Runs.{entry_at, picked}

-- ---- the squared distance from zero

pub dist_zero : (p zs : Place) → length p ≤ length zs → AllByRecursion (λ z. z ≡ pos 0) zs → dist p zs ≡ norm p
dist_zero [] zs l a = refl
dist_zero (x ∷ p) [] l a = absurd (omega arith)
dist_zero (x ∷ p) (z ∷ zs) l a =
    rw (a.0, dist_zero p zs (omega arith) a.1) (solve (x ∷ norm p ∷ []) (search quotes depth 30 fits 20000) tt)

-- ---- hold times a number

pub times_high : (h n : ℕ) (x : ℤ) → h ≤ 65535 → x ≤ℤ pos n → (pos h *ℤ x) ≤ℤ pos (65535 * n)
times_high h n x s l =
    let e : pos h *ℤ pos n ≡ pos (h * n) = omega (arith, ints) in
    omega (arith, lin, *ℤ-rises (pos h) x (pos n) (omega (arith, ints)) l, mul-le-mul_right {m = h} {n = 65535} n s)

pub times_low : (h n : ℕ) (x : ℤ) → h ≤ 65535 → neg_ℤ (pos n) ≤ℤ x → neg_ℤ (pos (65535 * n)) ≤ℤ (pos h *ℤ x)
times_low h n x s l = omega (arith, lin, times_high h n (neg_ℤ x) s (omega (arith, lin)), *ℤ-neg (pos h) x)

-- the product as the code computes it
pub record Times (h : ℕ) (x : ℤ) : Type 0 where
  pub fits : SFits w64 (to_z w64 h *ℤ to_z w64 (of_z w64 x))
  pub is : to_z w64 (of_z w64 (to_z w64 h *ℤ to_z w64 (of_z w64 x))) ≡ pos h *ℤ x
  pub low : neg_ℤ (pos 1125848368021500) ≤ℤ to_z w64 (of_z w64 (to_z w64 h *ℤ to_z w64 (of_z w64 x)))
  pub high : to_z w64 (of_z w64 (to_z w64 h *ℤ to_z w64 (of_z w64 x))) ≤ℤ pos 1125848368021500

pub times_fits : (h : ℕ) (x : ℤ) → h ≤ 65535 → neg_ℤ (pos 17179344900) ≤ℤ x → x ≤ℤ pos 17179344900 → Times h x
times_fits h x s l u =
    let a : to_z w64 h ≡ pos h = to_z_pos w64 h (omega arith) in
    let b : to_z w64 (of_z w64 x) ≡ x = omega (arith, ints) in
    let e : to_z w64 h *ℤ to_z w64 (of_z w64 x) ≡ pos h *ℤ x = ap (λ z. z *ℤ to_z w64 (of_z w64 x)) a ∙ ap (λ z. pos h *ℤ z) b in
    let low = times_low h 17179344900 x s l in
    let high = times_high h 17179344900 x s u in
    let fits : SFits w64 (pos h *ℤ x) = omega (arith, lin, fits_in) in
    let is : to_z w64 (of_z w64 (to_z w64 h *ℤ to_z w64 (of_z w64 x))) ≡ pos h *ℤ x = ap (λ z. to_z w64 (of_z w64 z)) e ∙ to_z-of_z w64 (pos h *ℤ x) fits in
    record {
      fits = subst (SFits w64) (sym e) fits;
      is = is;
      low = subst (λ z. neg_ℤ (pos 1125848368021500) ≤ℤ z) (sym is) low;
      high = subst (λ z. z ≤ℤ pos 1125848368021500) (sym is) high;
    }

-- ---- totals

-- a total as a plain sum
pub total_is : (f : Place → ℤ) (es : List Entry) → total f es ≡ summed (λ e. pos e.hold *ℤ f e.place) es
total_is f [] = refl
total_is f (e ∷ es) = ap (λ z. pos e.hold *ℤ f e.place +ℤ z) (total_is f es)

pub total_append : (f : Place → ℤ) (es fs : List Entry) → total f (es ++ fs) ≡ total f es +ℤ total f fs
total_append f es fs = omega (arith, lin, total_is f (es ++ fs), total_is f es, total_is f fs, summed_append (λ e. pos e.hold *ℤ f e.place) es fs)

pub total_push : (f : Place → ℤ) (es : List Entry) (e : Entry) → total f (es ++ e ∷ []) ≡ total f es +ℤ pos e.hold *ℤ f e.place
total_push f es e = omega (arith, lin, total_append f es (e ∷ []))

-- one more of a run: as the code adds it up
module _ (f : Place → ℤ) (es : List Entry) (run : List ℕ) (i : ℕ) (here : i < length run) (few : length run ≤ 4096) (sum m : ℤ)
    (is : sum ≡ total f (picked es (take i run))) (low : neg_ℤ (pos (1125848368021500 * i)) ≤ℤ sum) (high : sum ≤ℤ pos (1125848368021500 * i))
    (e : Entry) (of : entry_at es (get_or run i 0) ≡ e) (m-is : m ≡ pos e.hold *ℤ f e.place) (m-low : neg_ℤ (pos 1125848368021500) ≤ℤ m) (m-high : m ≤ℤ pos 1125848368021500) where
  pub add_is : (to_z w64 (of_z w64 (sum +ℤ to_z w64 (of_z w64 m))) ≡ total f (picked es (take (i + 1) run)))
      × (neg_ℤ (pos (1125848368021500 * (i + 1))) ≤ℤ to_z w64 (of_z w64 (sum +ℤ to_z w64 (of_z w64 m))))
      × (to_z w64 (of_z w64 (sum +ℤ to_z w64 (of_z w64 m))) ≤ℤ pos (1125848368021500 * (i + 1)))
  add_is =
      let more : to_z w64 (of_z w64 (sum +ℤ to_z w64 (of_z w64 m))) ≡ sum +ℤ m = omega (arith, ints) in
      let next : picked es (take (i + 1) run) ≡ picked es (take i run) ++ e ∷ [] = map_more (λ n. entry_at es n) run i 0 here ∙ ap (λ x. picked es (take i run) ++ x ∷ []) of in
      (omega (arith, lin, ap (total f) next, total_push f (picked es (take i run)) e), omega (arith, ints), omega (arith, ints))
