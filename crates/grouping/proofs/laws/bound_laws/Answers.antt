use Rattle.grouping.proofs.Bounds.{weight_bound, sum_bound, distortion_bound}
use Rattle.grouping.proofs.laws.bound_laws.Goals as goal

pub returns : goal.returns
returns c = record { weight = weight_bound; sums = sum_bound; distortion = distortion_bound }
