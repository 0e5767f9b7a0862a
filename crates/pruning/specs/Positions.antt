-- Positions in a list, and bounds and regions as places.
use Rattle.std.specs.Prelude.{ℕ, List, [], slice_index_or}
use Rattle.points.specs.declared.bounds.Bounds.{Bounds}
use Rattle.points.specs.declared.position.Position.{Position}
use Rattle.grouping.specs.Distance.{Place}
use Rattle.grouping.specs.Groups.{place_of}
use Rattle.pruning.specs.declared.region.Region.{Region}

-- the position of number k; past the last, one with no numbers
abbrev pub position_at : List Position → ℕ → Position
position_at ps k = slice_index_or ps k (record { at = [] })

-- the least and the greatest numbers within the bounds, for points with so many axes
abbrev pub lows : ℕ → Bounds → Place
lows axes b = place_of axes b.least

abbrev pub highs : ℕ → Bounds → Place
highs axes b = place_of axes b.greatest

-- those of a region
abbrev pub lows_of : Region → Place
lows_of r = lows r.axes r.bounds

abbrev pub highs_of : Region → Place
highs_of r = highs r.axes r.bounds
