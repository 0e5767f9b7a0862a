-- The normal form of an expression is worth what the expression is.
use Rattle.std.proofs.Common.{◌≡◌, ℕ, zero, suc, Bool, true, false, T, List, ℤ, pos, negsuc, ◌+ℤ◌, ◌*ℤ◌, neg_ℤ, sym, refl, ap, ◌∙◌, ap₂, arith}
use lib.IntN.{+ℤ_idr, +ℤ_idl, zero-*ℤ, *ℤ-zero, *ℤ_comm}
use Rattle.numbers.proofs.Polynomials.{Expr, var, con, add, mul, neg, first, rest, nth, value, Horner, flat, step, at, plus, minus, scale, scaled, each, times, variable, normal, both, is_zero, vanishes}
use Rattle.numbers.proofs.Ring.{lin, add_times, *ℤ-add, *ℤ-neg, *ℤ-assoc, *ℤ-unit}

plus_at : (p q : Horner) (xs : List ℤ) → at (plus p q) xs ≡ at p xs +ℤ at q xs
plus_at (flat a) (flat b) xs = refl
plus_at (flat a) (step p q) xs = rw (plus_at (flat a) q (rest xs)) (omega (arith, lin))
plus_at (step p q) (flat b) xs = rw (plus_at q (flat b) (rest xs)) (omega (arith, lin))
plus_at (step p q) (step r s) xs =
    rw (plus_at p r xs, plus_at q s (rest xs)) (omega (arith, lin, *ℤ-add (first xs) (at p xs) (at r xs)))

minus_at : (p : Horner) (xs : List ℤ) → at (minus p) xs ≡ neg_ℤ (at p xs)
minus_at (flat a) xs = refl
minus_at (step p q) xs = rw (minus_at p xs, minus_at q (rest xs)) (omega (arith, lin, *ℤ-neg (first xs) (at p xs)))

-- a common factor
moved : (x a p q : ℤ) → x *ℤ (a *ℤ p) +ℤ a *ℤ q ≡ a *ℤ (x *ℤ p +ℤ q)
moved x a p q = rw (*ℤ-add a (x *ℤ p) q, ← *ℤ-assoc x a p, ← *ℤ-assoc a x p, *ℤ_comm x a)

scale_at : (a : ℤ) (p : Horner) (xs : List ℤ) → at (scale a p) xs ≡ a *ℤ at p xs
scale_at a (flat b) xs = refl
scale_at a (step p q) xs = rw (scale_at a p xs, scale_at a q (rest xs)) (moved (first xs) a (at p xs) (at q (rest xs)))

scaled_at : (a : ℤ) (p : Horner) (xs : List ℤ) → at (scaled a p) xs ≡ a *ℤ at p xs
scaled_at (pos zero) p xs = sym (zero-*ℤ (at p xs))
scaled_at (pos (suc n)) p xs = scale_at (pos (suc n)) p xs
scaled_at (negsuc n) p xs = scale_at (negsuc n) p xs

each_at : (f : Horner → Horner) (c : ℤ) (xs : List ℤ) → ((r : Horner) → at (f r) (rest xs) ≡ c *ℤ at r (rest xs)) → (r : Horner) → at (each f r) xs ≡ c *ℤ at r xs
each_at f c xs h (flat a) = rw (h (flat a), *ℤ-zero (first xs), +ℤ_idl (c *ℤ a))
each_at f c xs h (step p q) = rw (each_at f c xs h p, h q) (moved (first xs) c (at p xs) (at q (rest xs)))

times_at : (p r : Horner) (xs : List ℤ) → at (times p r) xs ≡ at p xs *ℤ at r xs
times_at (flat a) r xs = scaled_at a r xs
times_at (step p q) r xs =
    plus_at (step (times p r) (flat (pos 0))) (each (times q) r) xs
    ∙ (rw (times_at p r xs, each_at (times q) (at q (rest xs)) xs (λ s. times_at q s (rest xs)) r, add_times (first xs *ℤ at p xs) (at q (rest xs)) (at r xs), *ℤ-assoc (first xs) (at p xs) (at r xs)) (omega (arith, lin)))

variable_at : (n : ℕ) (xs : List ℤ) → at (variable n) xs ≡ nth n xs
variable_at zero xs = +ℤ_idr (first xs *ℤ pos 1) ∙ *ℤ-unit (first xs)
variable_at (suc n) xs = rw (variable_at n (rest xs), *ℤ-zero (first xs), +ℤ_idl (nth n (rest xs)))

normal_at : (e : Expr) (xs : List ℤ) → at (normal e) xs ≡ value e xs
normal_at (var n) xs = variable_at n xs
normal_at (con z) xs = refl
normal_at (add a b) xs = plus_at (normal a) (normal b) xs ∙ ap₂ ◌+ℤ◌ (normal_at a xs) (normal_at b xs)
normal_at (mul a b) xs = times_at (normal a) (normal b) xs ∙ ap₂ ◌*ℤ◌ (normal_at a xs) (normal_at b xs)
normal_at (neg a) xs = minus_at (normal a) xs ∙ ap neg_ℤ (normal_at a xs)

both_left : (a b : Bool) → T (both a b) → T a
both_left true b t = tt
both_left false b t = t

both_right : (a b : Bool) → T (both a b) → T b
both_right true b t = t
both_right false b t = absurd t

is_zero_is : (z : ℤ) → T (is_zero z) → z ≡ pos 0
is_zero_is (pos zero) t = refl
is_zero_is (pos (suc n)) t = absurd t
is_zero_is (negsuc n) t = absurd t

vanishes_at : (p : Horner) (xs : List ℤ) → T (vanishes p) → at p xs ≡ pos 0
vanishes_at (flat z) xs t = is_zero_is z t
vanishes_at (step p q) xs t =
    rw (vanishes_at p xs (both_left (vanishes p) (vanishes q) t), vanishes_at q (rest xs) (both_right (vanishes p) (vanishes q) t), *ℤ-zero (first xs))

-- expressions whose difference vanishes are worth the same
pub ring : (e f : Expr) (xs : List ℤ) → T (vanishes (normal (add e (neg f)))) → value e xs ≡ value f xs
ring e f xs t =
    let z : value e xs +ℤ neg_ℤ (value f xs) ≡ pos 0 = sym (normal_at (add e (neg f)) xs) ∙ vanishes_at (normal (add e (neg f))) xs t in
    omega (arith, lin)
