use Rattle.boxes.proofs.Examples.{worked_figures, worked_boxes}
use Rattle.boxes.proofs.laws.worked_figures.Goals as goal

pub returns : goal.returns
returns c = record { cuts = worked_figures; boxes = worked_boxes }
