use Rattle.std.proofs.Common.{◌≡◌, sym, subst}
use Rattle.points.specs.Entries.{recorded}
use Rattle.grouping.specs.Groups.{places, Tallied}
use Rattle.grouping.proofs.Grouped.{places_same, flat_same}
use Rattle.direct.specs.Answers.{RoundsTo}
use Rattle.direct.proofs.Settling.{answered_centers}
use Rattle.direct.proofs.group.group.Goals as goal

pub returns : goal.returns
returns g c =
    let axes = g.R.Point.AXES in
    let es = recorded g.R.Point g.R.Record c.args.recording.now in
    let cs = places axes c.args.groups.now in
    let gs = c.settle-rounds.new.groups in
    let hs = c.tally.new.groups in
    let stay : places axes hs ≡ places axes gs = places_same axes hs gs c.tally.ensures.centers in
    let rounds = subst (λ ds. RoundsTo es cs ds c.settle-rounds.result) (sym stay) c.settle-rounds.ensures.rounds in
    record {
      rounds = rounds;
      centers = answered_centers es cs (places axes hs) c.settle-rounds.result rounds;
      flat = flat_same axes hs gs c.tally.ensures.centers c.settle-rounds.ensures.flat;
      tallied = subst (λ ds. Tallied es ds hs) (sym stay) c.tally.ensures.tallied;
    }
