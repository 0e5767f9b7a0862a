use Rattle.std.proofs.Common.{◌≡◌, ◌+◌, length}
use Rattle.reader.specs.Steps.{line_number, next_bytes}
use Rattle.rows.specs.Lines.{columns_in}
use Rattle.files.specs.Reads.{Filled}
use Rattle.files.proofs.table.read_rows.Given as goal

abbrev pub invariant-loop-lines : goal.invariant-loop-lines
invariant-loop-lines g l = record {
  filled : Filled g.R.Row.KIND g.R.Row.fields (columns_in l.initial.lines.order) (next_bytes l.initial.lines.reader) (next_bytes l.lines.reader) l.initial.table l.table l.n;
  line : line_number l.lines.reader ≡ l.n + 1;
  order : l.lines.order ≡ l.initial.lines.order;
}

abbrev pub decreases-loop-lines : goal.decreases-loop-lines
decreases-loop-lines g l = length (next_bytes l.lines.reader)
