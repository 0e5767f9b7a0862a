use Rattle.std.proofs.Common.{◌≡◌, length, drop}
use Rattle.reader.specs.Steps.{fields_left, next_bytes, line_number}
use Rattle.rows.proofs.Named.{NamedSofar}
use Rattle.rows.proofs.names.read_names.Given as goal

abbrev pub invariant-loop-k : goal.invariant-loop-k
invariant-loop-k l = record {
  named : NamedSofar l.kind (fields_left l.initial.reader) l.k l.at;
  left : drop l.k (fields_left l.initial.reader) ≡ fields_left l.reader;
  four : length l.at ≡ 4;
  rest : next_bytes l.reader ≡ next_bytes l.initial.reader;
  line : line_number l.reader ≡ line_number l.initial.reader;
}
