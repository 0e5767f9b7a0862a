use Rattle.grouping.proofs.Endings.{stays_fitting, ends, comes_to_rest, settles_at}
use Rattle.grouping.proofs.laws.ending_laws.Goals as goal

pub returns : goal.returns
returns c = record { range = stays_fitting; ends = ends; rests = comes_to_rest; settles = settles_at }
