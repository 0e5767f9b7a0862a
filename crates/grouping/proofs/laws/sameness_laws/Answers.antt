use Rattle.grouping.proofs.Outcomes.{same_weights, same_sums, same_distortion, same_moves, same_settled, same_choices}
use Rattle.grouping.proofs.laws.sameness_laws.Goals as goal

pub returns : goal.returns
returns c = record { weights = same_weights; sums = same_sums; distortion = same_distortion; moves = same_moves; settled = same_settled; choices = same_choices }
