use Rattle.files.proofs.Outcomes.{no_other}
use Rattle.files.proofs.table.read_table.Goals as goal

pub returns : goal.returns
returns g c = record { read = c.read_parts.ensures; only = no_other _ _ _ _ _ c.read_parts.auto.table _ c.read_parts.ensures }
