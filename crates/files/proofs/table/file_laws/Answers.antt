use Rattle.files.proofs.Outcomes.{accepted, one_outcome}
use Rattle.files.proofs.table.file_laws.Goals as goal

pub returns : goal.returns
returns c = record { one = one_outcome; accepted = accepted }
