use Rattle.std.proofs.Common.{◌≡◌, ◌+◌, length, drop}
use Rattle.reader.specs.Steps.{column_number, fields_left, next_bytes, line_number}
use Rattle.rows.specs.Lines.{columns_in}
use Rattle.rows.proofs.Spelled.{ReadSofar}
use Rattle.rows.proofs.values.read_values.Given as goal

abbrev pub invariant-loop-c : goal.invariant-loop-c
invariant-loop-c l = record {
  read : ReadSofar l.order.kind (columns_in l.order) (fields_left l.initial.reader) l.c-index l.values;
  left : drop l.c-index (fields_left l.initial.reader) ≡ fields_left l.reader;
  four : length l.values ≡ 4;
  place : column_number l.reader ≡ column_number l.initial.reader + l.c-index;
  rest : next_bytes l.reader ≡ next_bytes l.initial.reader;
  line : line_number l.reader ≡ line_number l.initial.reader;
}
