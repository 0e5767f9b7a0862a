use Rattle.std.proofs.Common.{◌≤◌, length, sym, refl, subst}
use Rattle.std.proofs.lemmas.List.{length-map}
use Rattle.grouping.specs.Groups.{places, place_of}
use Rattle.direct.proofs.Assigning.{tallied_none, record_room, record_joins, record_none}
use Rattle.direct.proofs.tally.assign.Goals as goal
use Rattle.direct.proofs.tally.assign.Goals.{in-Some, in_default}

pub loop-r-init : goal.loop-r-init
loop-r-init g c = (tallied_none (places g.R.Point.AXES c.args.groups.now) c.args.groups.now (length-map c.args.groups.now (λ h. place_of g.R.Point.AXES h.center)) c.requires, refl)

pub with_record-requires : goal.with_record-requires
with_record-requires g c =
    let few : length c.records-r-items.result.now ≤ 4096 = subst (λ xs. length xs ≤ 4096) (sym c.records-r-items.ensures) c.args.recording.now.few in
    record_room g.R.Point g.R.Record g.met.R.Point.ranged g.met.R.Record.held c.records-r-items.result.now c.loop-r.r-index c.r-item.result c.loop-r-test.true c.r-item.is c.args.groups.now c.loop-r.groups c.loop-r.auto.groups c.loop-r.invariant.0 few c.in-Some.k c.in-Some.ensures.0

pub loop-r-preserved : goal.loop-r-preserved
loop-r-preserved g c =
    let rs = c.records-r-items.result.now in
    let i = c.loop-r.r-index in
    let old = c.args.groups.now in
    let gs = c.loop-r.groups in
    elim c.match-nearest.branch [
      | in-Some w ↦ record_joins g.R.Point g.R.Record g.met.R.Point.ranged g.met.R.Record.held rs i c.r-item.result c.loop-r-test.true c.r-item.is old gs c.loop-r.auto.groups c.loop-r.invariant.0 c.loop-r.invariant.1 w.in-Some.k w.with_record.result c.match-nearest.groups w.in-Some.ensures.0 w.in-Some.ensures.1.1 w.with_record.ensures w.groups-is
      | in_default w ↦ record_none g.R.Point g.R.Record g.met.R.Point.ranged g.met.R.Record.held rs i c.r-item.result c.loop-r-test.true c.r-item.is old gs c.loop-r.auto.groups c.loop-r.invariant.0 c.loop-r.invariant.1 c.match-nearest.groups w.in_default.ensures w.groups-is
    ]
