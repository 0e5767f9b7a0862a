-- Identities of polynomials in one line: `search` finds the expression that a term spells, and the normal form decides.
use Rattle.std.proofs.Common.{◌≡◌, ℕ, suc, ◌+◌, ◌*◌, T, leb, List, ◌∷◌, ℤ, pos, negsuc, ◌+ℤ◌, ◌*ℤ◌, neg_ℤ, sym, refl, ap, ◌∙◌, ap₂}
use Rattle.numbers.proofs.Polynomials.{Expr, var, con, add, mul, neg, nth, value, normal, vanishes}
use Rattle.numbers.proofs.NormalForms.{ring}

-- z is one of the unknowns
pub record Seen (xs : List ℤ) (z : ℤ) : Type 0 where
  pub place : ℕ
  pub is : nth place xs ≡ z

abbrev pub here : {x : ℤ} {xs : List ℤ} → Seen (x ∷ xs) x
here = record { place = 0; is = refl }

abbrev pub there : {x z : ℤ} {xs : List ℤ} → Seen xs z → Seen (x ∷ xs) z
there s = record { place = suc s.place; is = s.is }

-- the expression that z spells
pub record Quoted (xs : List ℤ) (z : ℤ) : Type 0 where
  pub expr : Expr
  pub is : value expr xs ≡ z

abbrev pub q_add : {xs : List ℤ} {a b : ℤ} → Quoted xs a → Quoted xs b → Quoted xs (a +ℤ b)
q_add p q = record { expr = add p.expr q.expr; is = ap₂ ◌+ℤ◌ p.is q.is }

abbrev pub q_mul : {xs : List ℤ} {a b : ℤ} → Quoted xs a → Quoted xs b → Quoted xs (a *ℤ b)
q_mul p q = record { expr = mul p.expr q.expr; is = ap₂ ◌*ℤ◌ p.is q.is }

abbrev pub q_neg : {xs : List ℤ} {a : ℤ} → Quoted xs a → Quoted xs (neg_ℤ a)
q_neg p = record { expr = neg p.expr; is = ap neg_ℤ p.is }

-- a literal: the test computes at no other number, so that `pos w` can be an unknown
abbrev pub q_pos : {xs : List ℤ} {n : ℕ} → T (leb n n) → Quoted xs (pos n)
q_pos {n = n} t = record { expr = con (pos n); is = refl }

abbrev pub q_negsuc : {xs : List ℤ} {n : ℕ} → T (leb n n) → Quoted xs (negsuc n)
q_negsuc {n = n} t = record { expr = con (negsuc n); is = refl }

-- a product and a sum of naturals, as `pos 2 *ℤ pos w` computes to
abbrev pub q_pos_mul : {xs : List ℤ} {m n : ℕ} → Quoted xs (pos m) → Quoted xs (pos n) → Quoted xs (pos (m * n))
q_pos_mul p q = record { expr = mul p.expr q.expr; is = ap₂ ◌*ℤ◌ p.is q.is }

abbrev pub q_pos_add : {xs : List ℤ} {m n : ℕ} → Quoted xs (pos m) → Quoted xs (pos n) → Quoted xs (pos (m + n))
q_pos_add p q = record { expr = add p.expr q.expr; is = ap₂ ◌+ℤ◌ p.is q.is }

abbrev pub q_var : {xs : List ℤ} {z : ℤ} → Seen xs z → Quoted xs z
q_var s = record { expr = var s.place; is = s.is }

-- both sides of an equation
pub record Sides (xs : List ℤ) (a b : ℤ) : Type 0 where
  pub left : Quoted xs a
  pub right : Quoted xs b

abbrev pub q_sides : {xs : List ℤ} {a b : ℤ} → Quoted xs a → Quoted xs b → Sides xs a b
q_sides p q = record { left = p; right = q }

pub ruleset quotes = (here, there, q_sides, q_var, q_add, q_mul, q_neg, q_pos, q_negsuc, q_pos_mul, q_pos_add)

-- `solve (a ∷ b ∷ []) (search quotes depth 30 fits 20000) tt` proves an identity of polynomials in a and b
pub solve : (xs : List ℤ) {a b : ℤ} (p : Sides xs a b) → T (vanishes (normal (add p.left.expr (neg p.right.expr)))) → a ≡ b
solve xs p t = sym p.left.is ∙ ring p.left.expr p.right.expr xs t ∙ p.right.is
