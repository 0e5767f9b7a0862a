-- Why a cut is refused.
use Rattle.std.specs.Prelude.{◌≡◌, ℕ, ◌<◌, ◌≤◌, not, ◌⊎◌, List, [], length, filter}
use Rattle.points.specs.Entries.{Entry}
use Rattle.boxes.specs.declared.cut.Cut.{Cut}
use Rattle.boxes.specs.declared.fault.CutFault.{CutFault}
use Rattle.boxes.specs.declared.fault.CutFault.TheVariants.{NoUncutBox, NoAxis, Full, OneSided}
use Rattle.boxes.specs.Regions.{boxes_after, below, contents, Uncut}

-- the number under which each fault is reported
abbrev pub number_of : CutFault → ℕ
number_of NoUncutBox = 4
number_of NoAxis = 5
number_of Full = 6
number_of OneSided = 7

-- the entries of the cut's box that lie below its value, and those that do not
abbrev pub lower_side : List Cut → Cut → List Entry → List Entry
lower_side cuts c es = filter (λ e. below c e.place) (contents cuts c.parent es)

abbrev pub upper_side : List Cut → Cut → List Entry → List Entry
upper_side cuts c es = filter (λ e. not (below c e.place)) (contents cuts c.parent es)

-- what stands against the cut, over entries with so many axes
abbrev pub Against : ℕ → List Entry → List Cut → Cut → CutFault → Type 0
Against axes es cuts c NoUncutBox = (boxes_after cuts ≤ c.parent) ⊎ (Uncut cuts c.parent → ⊥)
Against axes es cuts c NoAxis = axes ≤ c.axis
Against axes es cuts c Full = length cuts ≡ 127
Against axes es cuts c OneSided = (lower_side cuts c es ≡ []) ⊎ (upper_side cuts c es ≡ [])

-- a fault is reported if nothing of a lower number stands against the cut
pub record Refused (axes : ℕ) (es : List Entry) (cuts : List Cut) (c : Cut) (fault : CutFault) : Type 0 where
  pub reason : Against axes es cuts c fault
  pub first : (other : CutFault) → number_of other < number_of fault → Against axes es cuts c other → ⊥

-- nothing stands against the cut
abbrev pub Accepted : ℕ → List Entry → List Cut → Cut → Type 0
Accepted axes es cuts c = (fault : CutFault) → Against axes es cuts c fault → ⊥
