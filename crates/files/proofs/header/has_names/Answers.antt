use Rattle.files.proofs.Headers.{names_decide}
use Rattle.files.proofs.header.has_names.Goals as goal

pub returns : goal.returns
returns c = rw c.is_some.ensures (names_decide c.args.kind _ _ c.read_header.result (rw c.new.ensures.bytes at c.read_header.ensures.header))
