-- Tallies, one number at a time.
use Rattle.std.proofs.Common.{◌≡◌, ℕ, zero, suc, ◌<◌, List, [], length, replicate, ℤ, pos, ◌+ℤ◌, sym, refl, ap, ◌∙◌, inl, inr, arith, w64}
use Rattle.std.specs.Int.{int_wrap}
use Rattle.std.proofs.lemmas.List.{get_or_past}
use Rattle.std.proofs.lemmas.Int.{int_wrap_fits, SFits-int_wrap}
use Rattle.std.proofs.lemmas.Bool.{cases_lt}
use Rattle.grouping.specs.Distance.{number}
use Rattle.boxes.specs.declared.node.Tallies.{Tallies}
use Rattle.boxes.specs.declared.run.Quantity.{Quantity}
use Rattle.boxes.specs.declared.run.Quantity.TheVariants.{Weight, Sum, Squares}
use Rattle.walk.specs.Told.{told, Tells, tallies_at}

-- a number that is wrapped already
pub wrapped_twice : (z : ℤ) → int_wrap w64 z ≡ int_wrap w64 (int_wrap w64 z)
wrapped_twice z = sym (int_wrap_fits w64 (int_wrap w64 z) (SFits-int_wrap w64 z))

pub zero_wrapped : pos 0 ≡ int_wrap w64 (pos 0)
zero_wrapped = sym (int_wrap_fits w64 (pos 0) (omega arith))

-- ---- tallies whose numbers are wrapped

pub wrapped_numbers : (zs : List ℤ) → length zs ≡ 4 → ((a : ℕ) → a < 4 → number zs a ≡ int_wrap w64 (number zs a)) → (a : ℕ) → number zs a ≡ int_wrap w64 (number zs a)
wrapped_numbers zs long h a = elim (cases_lt a 4) [
  | inl l ↦ h a l
  | inr l ↦ let z = get_or_past zs a (pos 0) (omega arith) in z ∙ zero_wrapped ∙ ap (int_wrap w64) (sym z)
]

-- the sum of two tallies, as the code makes it
module _ (a b t : Tallies) (weight : t.weight ≡ int_wrap w64 (a.weight +ℤ b.weight)) (squares : t.squares ≡ int_wrap w64 (a.squares +ℤ b.squares))
    (sums : (i : ℕ) → i < 4 → number t.sums i ≡ int_wrap w64 (number a.sums i +ℤ number b.sums i)) where
  pub plus_told : (q : Quantity) → Tells q → told q t ≡ int_wrap w64 (told q a +ℤ told q b)
  plus_told Weight h = weight
  plus_told (Sum axis) h = sums axis h
  plus_told Squares h = squares

  again : (z x : ℤ) → z ≡ int_wrap w64 x → z ≡ int_wrap w64 z
  again z x e = e ∙ wrapped_twice x ∙ ap (int_wrap w64) (sym e)

  pub plus_fits : length t.sums ≡ 4 → (q : Quantity) → told q t ≡ int_wrap w64 (told q t)
  plus_fits long Weight = again _ _ weight
  plus_fits long (Sum axis) = wrapped_numbers t.sums long (λ i l. again _ _ (sums i l)) axis
  plus_fits long Squares = again _ _ squares

-- ---- empty tallies

-- what holds of each of a list of equals, and past its end
pub at_equal : (P : Tallies → Type 0) (t : Tallies) → P t → P (record { weight = pos 0; sums = []; squares = pos 0 }) → (n k : ℕ) → P (tallies_at (replicate n t) k)
at_equal P t h e zero k = e
at_equal P t h e (suc n) zero = h
at_equal P t h e (suc n) (suc k) = at_equal P t h e n k

pub rows_equal : (t : Tallies) → length t.sums ≡ 4 → (n k : ℕ) → k < n → length (tallies_at (replicate n t) k).sums ≡ 4
rows_equal t h zero k l = absurd (omega arith)
rows_equal t h (suc n) zero l = h
rows_equal t h (suc n) (suc k) l = rows_equal t h n k (omega arith)

pub empty_told : (t : Tallies) → t.weight ≡ pos 0 → length t.sums ≡ 4 → ((i : ℕ) → i < 4 → number t.sums i ≡ pos 0) → t.squares ≡ pos 0 → (q : Quantity) → told q t ≡ pos 0
empty_told t w long each s Weight = w
empty_told t w long each s (Sum axis) = elim (cases_lt axis 4) [ inl l ↦ each axis l | inr l ↦ get_or_past t.sums axis (pos 0) (omega arith) ]
empty_told t w long each s Squares = s

pub blank_told : (q : Quantity) → told q (record { weight = pos 0; sums = []; squares = pos 0 }) ≡ pos 0
blank_told Weight = refl
blank_told (Sum axis) = refl
blank_told Squares = refl

pub zero_fits : (q : Quantity) (t : Tallies) → told q t ≡ pos 0 → told q t ≡ int_wrap w64 (told q t)
zero_fits q t e = e ∙ zero_wrapped ∙ ap (int_wrap w64) (sym e)
