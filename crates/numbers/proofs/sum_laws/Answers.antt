use Rattle.numbers.proofs.Sums.{summed_append, summed_replicate, summed_shuffled}
use Rattle.numbers.proofs.sum_laws.Goals as goal

pub returns : goal.returns
returns g c = record { appended = summed_append; repeated = summed_replicate; shuffled = summed_shuffled }
