use Rattle.grouping.proofs.Bounds.{limited_entries}
use Rattle.grouping.proofs.laws.recording_limits.Goals as goal

pub returns : goal.returns
returns g c =
    limited_entries g.R.Point g.R.Record g.met.R.Point.few.1 g.met.R.Point.sized g.met.R.Point.ranged g.met.R.Record.held c.args.recording.now.records.now c.args.recording.now.few
