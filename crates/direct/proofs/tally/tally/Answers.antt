use Rattle.std.proofs.Common.{◌∙◌, subst}
use Rattle.points.specs.Entries.{recorded}
use Rattle.grouping.specs.Groups.{Tallied}
use Rattle.grouping.proofs.Grouped.{places_same}
use Rattle.direct.proofs.tally.tally.Goals as goal

pub returns : goal.returns
returns g c =
    record {
      tallied = subst (λ cs. Tallied (recorded g.R.Point g.R.Record c.args.recording.now) cs c.assign.new.groups) (places_same g.R.Point.AXES c.clear.new.groups c.args.groups.now c.clear.ensures.centers) c.assign.ensures.tallied;
      centers = c.assign.ensures.centers ∙ c.clear.ensures.centers;
    }
