-- The cost of many places at one position, from their weight, their sums and their squares alone.
use Rattle.std.specs.Prelude.{◌≡◌, ℕ, List, length, ℤ, pos, ◌+ℤ◌, ◌-ℤ◌, ◌*ℤ◌}
use Rattle.std.specs.List.{AllByRecursion}
use Rattle.numbers.specs.Sums.{summed, summed_from}
use Rattle.points.specs.Entries.{Entry}
use Rattle.grouping.specs.Distance.{Place, number, dist}
use Rattle.grouping.specs.Totals.{total, within, weight, sum}
use Rattle.grouping.specs.Costs.{group_cost}

-- the sum of the squares of the numbers of a place
abbrev pub norm : Place → ℤ
norm p = summed (λ x. x *ℤ x) p

-- the numbers of c times those that s has on the same axes, summed
abbrev pub along : Place → (ℕ → ℤ) → ℤ
along c s = summed_from (λ axis x. x *ℤ s axis) 0 c

-- entries cost, at c, their squares, less twice c along their sums, and their weight times the square of c
abbrev pub Expands : Type 0
Expands = (es : List Entry) (c : Place) → AllByRecursion (λ e. length e.place ≡ length c) es →
    total (λ p. dist p c) es ≡ total norm es -ℤ pos 2 *ℤ along c (λ axis. total (λ p. number p axis) es) +ℤ total (λ p. pos 1) es *ℤ norm c

-- and so does a group
abbrev pub GroupExpands : Type 0
GroupExpands = (es : List Entry) (cs : List Place) (k : ℕ) (c : Place) → AllByRecursion (λ e. length e.place ≡ length c) es →
    group_cost es cs k c ≡ total (within cs k norm) es -ℤ pos 2 *ℤ along c (sum es cs k) +ℤ weight es cs k *ℤ norm c
