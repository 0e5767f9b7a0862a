use Rattle.boxes.proofs.Regions.{one_smallest_each}
use Rattle.boxes.proofs.laws.box_laws.Goals as goal

pub returns : goal.returns
returns c = one_smallest_each
