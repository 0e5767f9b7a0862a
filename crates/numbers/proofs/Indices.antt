-- A test of every index of a range.
use Rattle.std.proofs.Common.{ℕ, ◌<◌, Bool, true, false, length, ◌∙◌, subst, arith}
use Rattle.std.specs.Bool.{MatchBool}
use Rattle.std.specs.List.{AllWithin, HoldsAt, range_with_len}
use Rattle.std.proofs.lemmas.List.FromFn.{length-range_with_len, get_or-range_with_len}

-- what `all` answers over the first n indices, said of the indices and not of their list
pub each_index : (n : ℕ) (r : Bool) (Yes No : ℕ → Type 0) → MatchBool r (AllWithin Yes (range_with_len 0 n) 0 (length (range_with_len 0 n))) ((k : ℕ) × (k < length (range_with_len 0 n)) × HoldsAt No (range_with_len 0 n) k) →
    MatchBool r ((k : ℕ) → k < n → Yes k) ((k : ℕ) × (k < n) × No k)
each_index n true Yes No h = λ k l. subst Yes (get_or-range_with_len 0 n k 0 l ∙ omega arith) (h k 0 (omega arith) (omega (arith, length-range_with_len 0 n)))
each_index n false Yes No (k, l, h) = let m : k < n = omega (arith, length-range_with_len 0 n) in (k, m, subst No (get_or-range_with_len 0 n k 0 m ∙ omega arith) (h 0))
