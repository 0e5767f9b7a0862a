use Rattle.grouping.proofs.Boxes.{corner_decides, far_below_near, far_and_near, far_and_near_reached}
use Rattle.grouping.proofs.laws.box_laws.Goals as goal

pub returns : goal.returns
returns c = record { corner = corner_decides; distances = far_below_near; range = far_and_near; reached = far_and_near_reached }
