use Rattle.std.proofs.Common.{◌≡◌, sym, subst}
use Rattle.std.proofs.lemmas.List.{length-map}
use Rattle.points.specs.Entries.{recorded}
use Rattle.grouping.specs.Groups.{place_of, places, Tallied}
use Rattle.grouping.specs.Rounds.{Moved, Changes}
use Rattle.grouping.proofs.Advancing.{moved_of, changes_of, flat_of, tallied_of}
use Rattle.grouping.proofs.Chains.{unchanged, no_changes}
use Rattle.grouping.proofs.Grouped.{places_same}
use Rattle.grouping.proofs.Totaled.{modest_entries}
use Rattle.direct.proofs.round.round.Goals as goal

pub returns : goal.returns
returns g c =
    let axes = g.R.Point.AXES in
    let es = recorded g.R.Point g.R.Record c.args.recording.now in
    let gs = c.tally.new.groups in
    let hs = c.move_centers.new.groups in
    let stay : places axes gs ≡ places axes c.args.groups.now = places_same axes gs c.args.groups.now c.tally.ensures.centers in
    let told : Tallied es (places axes gs) gs = subst (λ cs. Tallied es cs gs) (sym stay) c.tally.ensures.tallied in
    let modest = modest_entries g.R.Point g.R.Record g.met.R.Point.ranged g.met.R.Record.held c.args.recording.now.records.now in
    let moves = moved_of g.met.R.Point.few.1 modest told c.move_centers.ensures in
    let changes : Changes (places axes c.args.groups.now) (places axes hs) c.move_centers.result = subst (λ cs. Changes cs (places axes hs) c.move_centers.result) stay (changes_of c.move_centers.ensures) in
    record {
      moved = subst (λ cs. Moved es cs (places axes hs)) stay moves;
      changed = changes;
      idle = unchanged changes;
      busy = no_changes changes;
      flat = flat_of c.move_centers.ensures;
      tallied = subst (λ cs. Tallied es cs hs) stay (tallied_of (length-map gs (λ x. place_of axes x.center)) c.move_centers.ensures told);
    }
