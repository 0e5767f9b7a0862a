use Rattle.std.proofs.Common.{◌≡◌, length, sym, ap, ◌∙◌, subst, arith}
use Rattle.std.proofs.lemmas.List.{length-map}
use Rattle.points.specs.Entries.{entry}
use Rattle.boxes.specs.Standing.{cuts_of, entries_of}
use Rattle.boxes.proofs.Regions.{holds_root}
use Rattle.pruning.specs.Centers.{centers_of}
use Rattle.walk.specs.Assignments.{AssignedIn}
use Rattle.walk.specs.Visits.{box_of, cuts_in, all_entries}
use Rattle.walk.proofs.assign.assign.Goals as goal

pub returns-clause-assigned : goal.returns-clause-assigned
returns-clause-assigned g c =
    let axes = g.R.Point.AXES in
    let t = c.args.table.now in
    let r = c.root.result in
    let cs = centers_of axes c.args.centers.now in
    let old = c.args.out.now in
    let new = c.assign.new.out in
    let rs = t.recording.records.now in
    let long : length old ≡ length rs = omega (arith, ap length (c.records.ensures ∙ ap (λ x. x.records.now) c.recording.ensures), c.if-out-records.false) in
    let many : length (entries_of t) ≡ length rs = length-map rs (λ x. entry g.R.Point g.R.Record x) in
    let done : AssignedIn cs (entries_of t) (cuts_of t) 0 old new = subst (λ b. AssignedIn cs (entries_of t) (cuts_of t) b old new) c.root.ensures.box_is
    (subst (λ u. AssignedIn cs (entries_of u) (cuts_of u) (box_of r) old new) c.root.ensures.table (subst (λ s. AssignedIn (centers_of axes s) (all_entries r) (cuts_in r) (box_of r) old new) c.root.ensures.centers c.assign.ensures)) in
    (c.assign.auto.out ∙ long ∙ sym many, λ i l. done.inside i l (holds_root (cuts_of t) _))
