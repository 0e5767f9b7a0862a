use Rattle.files.proofs.Headers.{header_read, line_taken}
use Rattle.files.proofs.header.read_header.Goals as goal

pub returns-clause-header : goal.returns-clause-header
returns-clause-header c = header_read _ _ _ _ _ (line_taken _ _ _ c.next_line.ensures c.in_ok-ok.ensures.variant) c.read_names.ensures.names c.read_names.ensures.rest
