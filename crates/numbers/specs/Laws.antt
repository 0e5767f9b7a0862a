-- The laws of whole numbers.
use Rattle.std.specs.Prelude.{◌≡◌, ℕ, List, ◌++◌, replicate, ℤ, pos, ◌+ℤ◌, ◌*ℤ◌, neg_ℤ, ◌≤ℤ◌}
use Rattle.std.specs.List.Sorted.{IsPermutation}
use Rattle.numbers.specs.Sums.{summed}

-- products
pub record RingLaws : Type 0 where
  pub distributes : (k a b : ℤ) → k *ℤ (a +ℤ b) ≡ k *ℤ a +ℤ k *ℤ b
  pub negates : (a b : ℤ) → a *ℤ neg_ℤ b ≡ neg_ℤ (a *ℤ b)
  pub associates : (a b c : ℤ) → (a *ℤ b) *ℤ c ≡ a *ℤ (b *ℤ c)
  pub unit : (a : ℤ) → a *ℤ pos 1 ≡ a

-- products and order
pub record OrderLaws : Type 0 where
  pub squares : (a : ℤ) → pos 0 ≤ℤ (a *ℤ a)
  pub products : (a b : ℤ) → pos 0 ≤ℤ a → pos 0 ≤ℤ b → pos 0 ≤ℤ (a *ℤ b)
  pub rises : (z x y : ℤ) → pos 0 ≤ℤ z → x ≤ℤ y → (z *ℤ x) ≤ℤ (z *ℤ y)

-- sums over lists with elements of one kind
pub record SumLaws (X : Type 0) : Type 0 where
  pub appended : (f : X → ℤ) (xs ys : List X) → summed f (xs ++ ys) ≡ summed f xs +ℤ summed f ys
  pub repeated : (f : X → ℤ) (n : ℕ) (x : X) → summed f (replicate n x) ≡ pos n *ℤ f x
  pub shuffled : (f : X → ℤ) (xs ys : List X) → IsPermutation xs ys → summed f xs ≡ summed f ys
