-- Rounded means.
use Rattle.std.proofs.Common.{◌≡◌, ℕ, ◌*◌, ◌/◌, ◌%◌, ◌^◌, ◌<◌, ◌≤◌, Bool, true, false, cond, [], ◌∷◌, ℤ, pos, negsuc, ◌+ℤ◌, ◌-ℤ◌, ◌*ℤ◌, neg_ℤ, ◌≤ℤ◌, ◌<ℤ◌, sym, refl, ap, ◌∙◌, subst, ap₂, mul-le-mul_right, mod-lt, mul-suc, div-le_self, arith, w64, SFits, to_z, of_z}
use native.Mathlib.Nat.{div-add-mod}
use borrow.Author.Differences.{ints}
use lib.Signed.{le_z}
use Rattle.std.proofs.lemmas.Int.{by_lt_z, to_z-of_z, to_z_pos}
use Rattle.std.specs.Int.{int_div_euclid, int_rem_euclid}
use Rattle.grouping.specs.Rounding.{Rounded, rounded, axis_cost}
use Rattle.numbers.proofs.Quote.{solve, quotes}
use Rattle.numbers.proofs.Ring.{lin, square_low, *ℤ-natural, *ℤ-rises}

-- quotient and remainder
parts : (s : ℤ) (w : ℕ) → 0 < w → pos w *ℤ int_div_euclid s (pos w) +ℤ int_rem_euclid s (pos w) ≡ s
parts (pos a) w h = omega (arith, lin, div-add-mod a w)
parts (negsuc a) w h = omega (arith, lin, div-add-mod a w, mod-lt a h, mul-suc w (a / w))

rest_low : (s : ℤ) (w : ℕ) → pos 0 ≤ℤ int_rem_euclid s (pos w)
rest_low (pos a) w = omega (arith, lin)
rest_low (negsuc a) w = omega (arith, lin)

rest_high : (s : ℤ) (w : ℕ) → 0 < w → int_rem_euclid s (pos w) <ℤ pos w
rest_high (pos a) w h = omega (arith, lin, mod-lt a h)
rest_high (negsuc a) w h = omega (arith, lin)

twice : (w : ℕ) (m : ℤ) → pos 2 *ℤ pos w *ℤ m ≡ pos w *ℤ m +ℤ pos w *ℤ m
twice w m = solve (pos w ∷ m ∷ []) (search quotes depth 30 fits 20000) tt

double : (s : ℤ) → pos 2 *ℤ s ≡ s +ℤ s
double s = omega (arith, ints)

pub rounds_down : (s : ℤ) (w : ℕ) → 0 < w → (int_rem_euclid s (pos w) +ℤ int_rem_euclid s (pos w)) ≤ℤ pos w → Rounded s (pos w) (int_div_euclid s (pos w))
rounds_down s w h half =
    let q = int_div_euclid s (pos w) in
    let p = parts s w h in
    let l = rest_low s w in
    let t = twice w q in
    let d = double s in
    record { low = omega (arith, lin); high = omega (arith, lin) }

pub rounds_up : (s : ℤ) (w : ℕ) → 0 < w → pos w <ℤ (int_rem_euclid s (pos w) +ℤ int_rem_euclid s (pos w)) → Rounded s (pos w) (int_div_euclid s (pos w) +ℤ pos 1)
rounds_up s w h half =
    let q = int_div_euclid s (pos w) in
    let p = parts s w h in
    let l = rest_high s w h in
    let t : pos 2 *ℤ pos w *ℤ (q +ℤ pos 1) ≡ pos w *ℤ q +ℤ pos w *ℤ q +ℤ (pos w +ℤ pos w) = solve (pos w ∷ q ∷ []) (search quotes depth 30 fits 20000) tt in
    let d = double s in
    record { low = omega (arith, lin); high = omega (arith, lin) }

-- there is one rounded mean
pub rounded_is : (s w : ℤ) → pos 0 <ℤ w → Rounded s w (rounded s w)
rounded_is s (negsuc w) h = absurd (omega (arith, lin))
rounded_is s (pos w) h = by (le_z (int_rem_euclid s (pos w) +ℤ int_rem_euclid s (pos w)) (pos w)) refl
  where
    by : (b : Bool) → le_z (int_rem_euclid s (pos w) +ℤ int_rem_euclid s (pos w)) (pos w) ≡ b → Rounded s (pos w) (cond b (int_div_euclid s (pos w)) (int_div_euclid s (pos w) +ℤ pos 1))
    by true e = rounds_down s w (omega (arith, lin)) (omega (arith, ints))
    by false e = rounds_up s w (omega (arith, lin)) (omega (arith, ints))

not_above : (s w m n : ℤ) → pos 0 <ℤ w → Rounded s w m → Rounded s w n → m <ℤ n → ⊥
not_above s w m n h a b l =
    let p = *ℤ-natural w (n -ℤ m -ℤ pos 1) (omega (arith, lin)) (omega (arith, lin)) in
    let e : pos 2 *ℤ w *ℤ n ≡ pos 2 *ℤ w *ℤ m +ℤ (w +ℤ w) +ℤ (w *ℤ (n -ℤ m -ℤ pos 1) +ℤ w *ℤ (n -ℤ m -ℤ pos 1)) = solve (w ∷ m ∷ n ∷ []) (search quotes depth 30 fits 20000) tt in
    omega (arith, lin, a.low, b.high)

pub one_mean : (s w m n : ℤ) → pos 0 <ℤ w → Rounded s w m → Rounded s w n → m ≡ n
one_mean s w m n h a b = by_lt_z m n (λ l. absurd (not_above s w m n h a b l)) (λ l. by_lt_z n m (λ k. absurd (not_above s w n m h b a k)) (λ k. omega (arith, lin)))

pub the_mean : {s m : ℤ} {w : ℕ} → 0 < w → Rounded s (pos w) m → m ≡ rounded s (pos w)
the_mean {s = s} {m = m} {w = w} h r = let some : pos 0 <ℤ pos w = omega (arith, lin) in one_mean s (pos w) m (rounded s (pos w)) some r (rounded_is s (pos w) some)

-- it costs its axis least, and the lower of two that do
module _ (s w m : ℤ) (positive : pos 0 <ℤ w) (r : Rounded s w m) where
  later : (x : ℤ) → m <ℤ x → (axis_cost s w m +ℤ (x -ℤ m -ℤ pos 1)) ≤ℤ axis_cost s w x
  later x after =
      let k = x -ℤ m -ℤ pos 1 in
      let d = pos 2 *ℤ w *ℤ m +ℤ w -ℤ pos 2 *ℤ s in
      let p1 = *ℤ-natural (k +ℤ pos 1) d (omega (arith, lin)) (omega (arith, lin, r.low)) in
      let p2 = *ℤ-natural w (k *ℤ k) (omega (arith, lin)) (square_low k) in
      let p3 = *ℤ-natural (w -ℤ pos 1) k (omega (arith, lin)) (omega (arith, lin)) in
      let e : axis_cost s w x ≡ axis_cost s w m +ℤ k +ℤ (k +ℤ pos 1) *ℤ d +ℤ w *ℤ (k *ℤ k) +ℤ (w -ℤ pos 1) *ℤ k = solve (w ∷ x ∷ s ∷ m ∷ []) (search quotes depth 30 fits 20000) tt in
      omega (arith, lin)

  earlier : (x : ℤ) → x <ℤ m → axis_cost s w m <ℤ axis_cost s w x
  earlier x before =
      let k = m -ℤ pos 1 -ℤ x in
      let d = pos 2 *ℤ s +ℤ w -ℤ pos 2 *ℤ w *ℤ m in
      let d1 : pos 1 ≤ℤ d = omega (arith, lin, r.high) in
      let p1 = *ℤ-natural k d (omega (arith, lin)) (omega (arith, lin)) in
      let p2 = *ℤ-natural w (k *ℤ k) (omega (arith, lin)) (square_low k) in
      let p3 = *ℤ-natural w k (omega (arith, lin)) (omega (arith, lin)) in
      let e : axis_cost s w x ≡ axis_cost s w m +ℤ d +ℤ k *ℤ d +ℤ w *ℤ (k *ℤ k) +ℤ w *ℤ k = solve (w ∷ x ∷ s ∷ m ∷ []) (search quotes depth 30 fits 20000) tt in
      omega (arith, lin)

  pub mean_best : (x : ℤ) → axis_cost s w m ≤ℤ axis_cost s w x
  mean_best x =
      by_lt_z x m
      (λ before. omega (arith, lin, earlier x before))
      (λ most. by_lt_z m x (λ after. omega (arith, lin, later x after)) (λ least. let e : x ≡ m = omega (arith, lin) in rw e (omega (arith, lin))))

  pub mean_lower : (x : ℤ) → axis_cost s w x ≡ axis_cost s w m → (x ≡ m → ⊥) → x ≡ m +ℤ pos 1
  mean_lower x same other =
      by_lt_z x m
      (λ before. absurd (omega (arith, lin, earlier x before)))
      (λ most. by_lt_z m x (λ after. omega (arith, lin, later x after)) (λ least. absurd (other (omega (arith, lin)))))

-- the mean of numbers of 16 bits is of 16 bits
pub mean_low : (s : ℤ) (w : ℕ) (m : ℤ) → 0 < w → Rounded s (pos w) m → neg_ℤ (pos 32768 *ℤ pos w) ≤ℤ s → negsuc 32767 ≤ℤ m
mean_low s w m h r b = by_lt_z m (negsuc 32767) (λ l. absurd (below l)) (λ l. l)
  where
    below : m <ℤ negsuc 32767 → ⊥
    below l =
        let rise = *ℤ-rises (pos 2 *ℤ pos w) m (negsuc 32768) (omega (arith, ints)) (omega (arith, ints)) in
        let end : (pos 2 *ℤ pos w) *ℤ negsuc 32768 ≡ neg_ℤ (pos (65538 * w)) = omega (arith, ints) in
        omega (arith, ints, r.low)

pub mean_high : (s : ℤ) (w : ℕ) (m : ℤ) → 0 < w → Rounded s (pos w) m → s ≤ℤ (pos 32767 *ℤ pos w) → m ≤ℤ pos 32767
mean_high s w m h r b = by_lt_z (pos 32767) m (λ l. absurd (above l)) (λ l. l)
  where
    above : pos 32767 <ℤ m → ⊥
    above l =
        let rise = *ℤ-rises (pos 2 *ℤ pos w) (pos 32768) m (omega (arith, ints)) (omega (arith, ints)) in
        let end : (pos 2 *ℤ pos w) *ℤ pos 32768 ≡ pos (65536 * w) = omega (arith, ints) in
        omega (arith, ints, r.high)

-- a quotient that is rounded up fits where the dividend does
pub up_fits : (s : ℤ) (w : ℕ) → SFits w64 s → 0 < w → pos w <ℤ (int_rem_euclid s (pos w) +ℤ int_rem_euclid s (pos w)) → SFits w64 (int_div_euclid s (pos w) +ℤ pos 1)
up_fits (pos a) w f h half =
    let two : 2 ≤ w = omega (arith, ints, mod-lt a h) in
    let some : 1 ≤ a % w = omega (arith, ints) in
    let many = mul-le-mul_right (a / w) two in
    omega (arith, ints, div-add-mod a w)
up_fits (negsuc a) w f h half = omega (arith, ints, div-le_self a w)

-- the code's operands
pub operands : (f : ℤ → ℤ → ℤ) (r s : ℤ) (w : ℕ) → SFits w64 s → w < 2 ^ 32 → r ≡ f (to_z w64 (of_z w64 s)) (to_z w64 w) → r ≡ f s (pos w)
operands f r s w h small e = e ∙ ap₂ f (to_z-of_z w64 s h) (to_z_pos w64 w (omega arith))

-- the code's test of the remainder
module _ (s : ℤ) (w : ℕ) (r : ℤ) (some : 0 < w) (small : w < 2 ^ 32) (is : r ≡ int_rem_euclid s (pos w)) where
  low_rest : pos 0 ≤ℤ r
  low_rest = subst (λ x. pos 0 ≤ℤ x) (sym is) (rest_low s w)

  high_rest : r <ℤ pos w
  high_rest = subst (λ x. x <ℤ pos w) (sym is) (rest_high s w some)

  pub test_down : le_z (to_z w64 (of_z w64 (pos 2 *ℤ to_z w64 (of_z w64 r)))) (to_z w64 w) ≡ true → (int_rem_euclid s (pos w) +ℤ int_rem_euclid s (pos w)) ≤ℤ pos w
  test_down t = subst (λ x. (x +ℤ x) ≤ℤ pos w) is (let a = low_rest in let b = high_rest in omega (arith, ints))

  pub test_up : le_z (to_z w64 (of_z w64 (pos 2 *ℤ to_z w64 (of_z w64 r)))) (to_z w64 w) ≡ false → pos w <ℤ (int_rem_euclid s (pos w) +ℤ int_rem_euclid s (pos w))
  test_up t = subst (λ x. pos w <ℤ (x +ℤ x)) is (let a = low_rest in let b = high_rest in omega (arith, ints))

-- the code's next number
pub next_is : (x y : ℤ) → SFits w64 x → SFits w64 (x +ℤ pos 1) → x ≡ y → to_z w64 (of_z w64 (to_z w64 (of_z w64 x) +ℤ pos 1)) ≡ y +ℤ pos 1
next_is x y f h e = ap (λ z. to_z w64 (of_z w64 (z +ℤ pos 1))) (to_z-of_z w64 x f) ∙ to_z-of_z w64 (x +ℤ pos 1) h ∙ ap (λ z. z +ℤ pos 1) e
