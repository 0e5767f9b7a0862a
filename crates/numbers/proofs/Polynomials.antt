-- Expressions of polynomials over ℤ, with their variables by number, what they are worth, and their normal form.
use Rattle.std.proofs.Common.{ℕ, zero, suc, Bool, true, false, List, [], ◌∷◌, ℤ, pos, negsuc, ◌+ℤ◌, ◌*ℤ◌, neg_ℤ}

-- an expression
pub data Expr : Type 0 where
  var : ℕ → Expr
  con : ℤ → Expr
  add : Expr → Expr → Expr
  mul : Expr → Expr → Expr
  neg : Expr → Expr

-- the values of the variables are a list, with 0 for those past its end
abbrev pub first : List ℤ → ℤ
first [] = pos 0
first (x ∷ xs) = x

abbrev pub rest : List ℤ → List ℤ
rest [] = []
rest (x ∷ xs) = xs

abbrev pub nth : ℕ → List ℤ → ℤ
nth zero xs = first xs
nth (suc n) xs = nth n (rest xs)

-- what an expression is worth
abbrev pub value : Expr → List ℤ → ℤ
value (var n) xs = nth n xs
value (con z) xs = z
value (add a b) xs = value a xs +ℤ value b xs
value (mul a b) xs = value a xs *ℤ value b xs
value (neg a) xs = neg_ℤ (value a xs)

-- the normal form: step p q is worth, at x ∷ xs, x times p at x ∷ xs and q at xs
pub data Horner : Type 0 where
  flat : ℤ → Horner
  step : Horner → Horner → Horner

abbrev pub at : Horner → List ℤ → ℤ
at (flat z) xs = z
at (step p q) xs = first xs *ℤ at p xs +ℤ at q (rest xs)

abbrev pub plus : Horner → Horner → Horner
plus (flat a) (flat b) = flat (a +ℤ b)
plus (flat a) (step p q) = step p (plus (flat a) q)
plus (step p q) (flat b) = step p (plus q (flat b))
plus (step p q) (step r s) = step (plus p r) (plus q s)

abbrev pub minus : Horner → Horner
minus (flat a) = flat (neg_ℤ a)
minus (step p q) = step (minus p) (minus q)

abbrev pub scale : ℤ → Horner → Horner
scale a (flat b) = flat (a *ℤ b)
scale a (step p q) = step (scale a p) (scale a q)

-- 0 times anything is the short 0
abbrev pub scaled : ℤ → Horner → Horner
scaled (pos zero) p = flat (pos 0)
scaled (pos (suc n)) p = scale (pos (suc n)) p
scaled (negsuc n) p = scale (negsuc n) p

-- f is the product by a polynomial in the variables past the first
abbrev pub each : (Horner → Horner) → Horner → Horner
each f (flat a) = step (flat (pos 0)) (f (flat a))
each f (step p q) = step (each f p) (f q)

abbrev pub times : Horner → Horner → Horner
times (flat a) r = scaled a r
times (step p q) r = plus (step (times p r) (flat (pos 0))) (each (times q) r)

abbrev pub variable : ℕ → Horner
variable zero = step (flat (pos 1)) (flat (pos 0))
variable (suc n) = step (flat (pos 0)) (variable n)

-- the normal form of an expression
abbrev pub normal : Expr → Horner
normal (var n) = variable n
normal (con z) = flat z
normal (add a b) = plus (normal a) (normal b)
normal (mul a b) = times (normal a) (normal b)
normal (neg a) = minus (normal a)

abbrev pub both : Bool → Bool → Bool
both true b = b
both false b = false

abbrev pub is_zero : ℤ → Bool
is_zero (pos zero) = true
is_zero (pos (suc n)) = false
is_zero (negsuc n) = false

-- no number in it is other than 0
abbrev pub vanishes : Horner → Bool
vanishes (flat z) = is_zero z
vanishes (step p q) = both (vanishes p) (vanishes q)
