-- How large weights, sums and the distortion can be within the limits of a recording.
use Rattle.std.specs.Prelude.{ℕ, ◌^◌, List, pos, neg_ℤ, ◌≤ℤ◌, ◌<ℤ◌}
use Rattle.std.specs.List.{AllByRecursion}
use Rattle.points.specs.Entries.{Entry}
use Rattle.grouping.specs.Distance.{Place}
use Rattle.grouping.specs.Totals.{weight, sum}
use Rattle.grouping.specs.Costs.{distortion}
use Rattle.grouping.specs.Ranges.{Fits, Limited}

-- a weight has 28 bits
abbrev pub WeightBound : Type 0
WeightBound = (axes : ℕ) (es : List Entry) (cs : List Place) (k : ℕ) → Limited axes es →
    (pos 0 ≤ℤ weight es cs k) × (weight es cs k <ℤ pos (2 ^ 28))

-- a sum has 43 bits and a sign
abbrev pub SumBound : Type 0
SumBound = (axes : ℕ) (es : List Entry) (cs : List Place) (k axis : ℕ) → Limited axes es →
    (neg_ℤ (pos (2 ^ 43)) <ℤ sum es cs k axis) × (sum es cs k axis <ℤ pos (2 ^ 43))

-- the distortion has 62 bits, where the centers fit as the places do
abbrev pub DistortionBound : Type 0
DistortionBound = (axes : ℕ) (es : List Entry) (cs : List Place) → Limited axes es → AllByRecursion (Fits axes) cs →
    (pos 0 ≤ℤ distortion es cs) × (distortion es cs <ℤ pos (2 ^ 62))
