use Rattle.grouping.proofs.Descents.{never_rises, descends}
use Rattle.grouping.proofs.laws.descent_laws.Goals as goal

pub returns : goal.returns
returns c = record { never = never_rises; lowers = descends }
