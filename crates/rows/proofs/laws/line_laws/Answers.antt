use Rattle.rows.proofs.Exact.{right_passes, one_fault, one_row, one_order}
use Rattle.rows.proofs.laws.line_laws.Goals as goal

pub returns : goal.returns
returns c = record { right = right_passes; first = one_fault; rows = one_row; names = one_order }
