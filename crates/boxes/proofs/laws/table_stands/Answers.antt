use Rattle.boxes.proofs.Tables.{stands}
use Rattle.boxes.proofs.laws.table_stands.Goals as goal

pub returns : goal.returns
returns g c = stands c.args.table.now
