use Rattle.grouping.proofs.Means.{rounded_is, one_mean, mean_best, mean_lower}
use Rattle.grouping.specs.Rounding.{rounded}
use Rattle.grouping.proofs.laws.mean_laws.Goals as goal

pub returns : goal.returns
returns c = record { one = λ s w h. (rounded_is s w h, λ m r. one_mean s w m (rounded s w) h r (rounded_is s w h)); best = mean_best; lower = mean_lower }
