use Rattle.std.proofs.Common.{◌≤◌, length, take, sym, ap, ◌∙◌, arith}
use native.Mathlib.Nat.{sub-zero}
use Rattle.std.proofs.lemmas.List.{length-map}
use Rattle.std.proofs.lemmas.Result.{MatchResult-at_ok}
use Rattle.points.specs.Entries.{entries}
use Rattle.grouping.specs.Groups.{places}
use Rattle.program.proofs.Starts.{in_front, same_centers, same_tallies}
use Rattle.program.proofs.start.group_rows.Goals as goal

pub returns : goal.returns
returns g c =
    let axes = g.R.Point.AXES in
    let old = c.start_groups.new.groups in
    let new = c.group.new.groups in
    let n = length c.args.rows.now in
    let fits : n ≤ length old = omega (arith, c.start_groups.auto.groups, c.requires.centers) in
    let front = in_front old new n fits c.group.auto.groups in
    let es = ap (entries g.R.Point g.R.Record) (MatchResult-at_ok _ _ c.unwrap-recording.result c.unwrap-recording.ensures c.check.ensures) in
    record {
      kind_is = c.KIND.ensures;
      count_is = sym (length-map c.args.rows.now _);
      centers_are = same_centers _ _ _ _ _ _ es (ap (λ k. places axes (take k old)) (sub-zero n) ∙ c.start_groups.ensures axes) (ap (places axes) (sym front)) c.group.ensures.centers;
      tallied = same_tallies _ _ axes _ _ es (sym front) c.group.ensures.tallied;
    }
