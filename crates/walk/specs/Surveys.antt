-- What a survey of a recording tells.
use Rattle.std.specs.Prelude.{◌≡◌, ℕ, ◌<◌, List, length}
use Rattle.points.specs.Entries.{Entry}
use Rattle.grouping.specs.Costs.{distortion}
use Rattle.grouping.specs.Groups.{group_at, Tallied}
use Rattle.boxes.specs.declared.cut.Cut.{Cut}
use Rattle.pruning.specs.declared.centers.Centers.{Centers}
use Rattle.pruning.specs.Centers.{positions_of, centers_of}
use Rattle.pruning.specs.Positions.{position_at}
use Rattle.pruning.specs.Pruning.{numbers_of}
use Rattle.pruning.specs.Rules.{Test}
use Rattle.walk.specs.declared.found.Survey.{Survey}
use Rattle.walk.specs.Costs.{Costs}

-- the survey of these entries around these centers: each center with the weight and the sums of its group, the distortion, and the
-- distances and queries of a walk from box 0 with all centers
pub record Surveyed (prunes : Test) (axes : ℕ) (es : List Entry) (cuts : List Cut) (centers : Centers) (s : Survey) : Type 0 where
  pub center : (k : ℕ) → k < length (positions_of centers) → (group_at s.groups k).center ≡ position_at (positions_of centers) k
  pub tallied : Tallied es (centers_of axes centers) s.groups
  pub cost : s.distortion ≡ distortion es (centers_of axes centers)
  pub work : Costs prunes axes es (centers_of axes centers) cuts 0 (numbers_of (centers_of axes centers)) s.distances s.queries
