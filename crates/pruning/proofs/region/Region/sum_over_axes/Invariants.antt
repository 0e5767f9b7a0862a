use Rattle.std.proofs.Common.{◌≡◌, ℕ, ◌*◌, ◌<◌, ℤ, pos, ◌≤ℤ◌}
use Rattle.numbers.specs.Sums.{summed}
use Rattle.pruning.specs.Axes.{axes_of}
use Rattle.pruning.proofs.region.Region.sum_over_axes.Given as goal

abbrev pub invariant-loop-a : goal.invariant-loop-a
invariant-loop-a g l =
    record {
      is : (f : ℕ → ℤ) → ((a : ℕ) (x : ℤ) → a < 4 → g.F.Fn.post l.summand (a, tt) x → x ≡ f a) → l.d ≡ summed f (axes_of l.a);
      low : pos 0 ≤ℤ l.d;
      high : l.d ≤ℤ pos (l.a * (65535 * 65535));
    }
