-- Laws of products, and of their order.
use Rattle.std.proofs.Common.{◌≡◌, ℕ, zero, suc, ◌*◌, ◌≤◌, ℤ, pos, negsuc, ◌+ℤ◌, ◌-ℤ◌, ◌*ℤ◌, neg_ℤ, nat_abs, ◌≤ℤ◌, ap, ◌∙◌, mul-le-mul, arith}
use borrow.Author.Differences.{same_out, same_in, Apart-out, lt_out, le_out, below_in, at_most_in, sum_is_lem, neg_is}
use lib.IntN.{suc_ℤ, pred_ℤ, +ℤ_idr, +ℤ_invl, +ℤ-suc_ℤ, +ℤ-pred_ℤ, suc_ℤ-*ℤ, pred_ℤ-*ℤ, zero-*ℤ, *ℤ_comm, *ℤ-one, one}

-- linear arithmetic over ℤ, each product an unknown
pub ruleset lin = (same_out, same_in, Apart-out, lt_out, le_out, below_in, at_most_in, sum_is_lem, neg_is)

-- from 0, up and down
by_steps : (P : ℤ → Type 0) → P (pos 0) → ((m : ℤ) → P m → P (suc_ℤ m)) → ((m : ℤ) → P m → P (pred_ℤ m)) → (k : ℤ) → P k
by_steps P z s p (pos zero) = z
by_steps P z s p (pos (suc n)) = s (pos n) (by_steps P z s p (pos n))
by_steps P z s p (negsuc zero) = p (pos 0) z
by_steps P z s p (negsuc (suc n)) = p (negsuc n) (by_steps P z s p (negsuc n))

pub add_times : (a b k : ℤ) → (a +ℤ b) *ℤ k ≡ a *ℤ k +ℤ b *ℤ k
add_times a b k = by_steps (λ x. (a +ℤ x) *ℤ k ≡ a *ℤ k +ℤ x *ℤ k)
    (rw (+ℤ_idr a, zero-*ℤ k, +ℤ_idr (a *ℤ k)))
    (λ m h. rw (+ℤ-suc_ℤ a m, suc_ℤ-*ℤ (a +ℤ m) k, suc_ℤ-*ℤ m k) (omega (arith, lin)))
    (λ m h. rw (+ℤ-pred_ℤ a m, pred_ℤ-*ℤ (a +ℤ m) k, pred_ℤ-*ℤ m k) (omega (arith, lin)))
    b

pub *ℤ-add : (k a b : ℤ) → k *ℤ (a +ℤ b) ≡ k *ℤ a +ℤ k *ℤ b
*ℤ-add k a b = *ℤ_comm k (a +ℤ b) ∙ add_times a b k ∙ rw (*ℤ_comm a k, *ℤ_comm b k)

pub neg_times : (a b : ℤ) → neg_ℤ a *ℤ b ≡ neg_ℤ (a *ℤ b)
neg_times a b = let e : (neg_ℤ a +ℤ a) *ℤ b ≡ pos 0 = rw (+ℤ_invl a) (zero-*ℤ b) in omega (arith, lin, add_times (neg_ℤ a) a b)

pub *ℤ-neg : (a b : ℤ) → a *ℤ neg_ℤ b ≡ neg_ℤ (a *ℤ b)
*ℤ-neg a b = *ℤ_comm a (neg_ℤ b) ∙ neg_times b a ∙ ap neg_ℤ (*ℤ_comm b a)

pub *ℤ-assoc : (a b c : ℤ) → (a *ℤ b) *ℤ c ≡ a *ℤ (b *ℤ c)
*ℤ-assoc a b c = by_steps (λ x. (x *ℤ b) *ℤ c ≡ x *ℤ (b *ℤ c))
    (rw (zero-*ℤ b, zero-*ℤ c, zero-*ℤ (b *ℤ c)))
    (λ m h. rw (suc_ℤ-*ℤ m b, suc_ℤ-*ℤ m (b *ℤ c), add_times (m *ℤ b) b c) (omega (arith, lin)))
    (λ m h. rw (pred_ℤ-*ℤ m b, pred_ℤ-*ℤ m (b *ℤ c), add_times (m *ℤ b) (neg_ℤ b) c, neg_times b c) (omega (arith, lin)))
    a

pub *ℤ-unit : (a : ℤ) → a *ℤ pos 1 ≡ a
unfolding one
*ℤ-unit a = *ℤ-one a

pub square_low : (a : ℤ) → pos 0 ≤ℤ (a *ℤ a)
square_low (pos n) = omega (arith, lin)
square_low (negsuc n) = omega (arith, lin)

pub square_high : (z : ℤ) (n : ℕ) → nat_abs z ≤ n → (z *ℤ z) ≤ℤ pos (n * n)
square_high (pos a) n h = omega (arith, lin, mul-le-mul h h)
square_high (negsuc a) n h = omega (arith, lin, mul-le-mul h h)

pub *ℤ-natural : (a b : ℤ) → pos 0 ≤ℤ a → pos 0 ≤ℤ b → pos 0 ≤ℤ (a *ℤ b)
*ℤ-natural (pos a) (pos b) h k = omega (arith, lin)
*ℤ-natural (pos a) (negsuc b) h k = absurd (omega (arith, lin))
*ℤ-natural (negsuc a) b h k = absurd (omega (arith, lin))

-- a product rises with its second factor
pub *ℤ-rises : (z x y : ℤ) → pos 0 ≤ℤ z → x ≤ℤ y → (z *ℤ x) ≤ℤ (z *ℤ y)
*ℤ-rises z x y k h = omega (arith, lin, *ℤ-natural z (y -ℤ x) k (omega (arith, lin)), *ℤ-add z y (neg_ℤ x), *ℤ-neg z x)
