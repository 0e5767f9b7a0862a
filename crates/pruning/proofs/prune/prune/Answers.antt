use Rattle.pruning.specs.Candidates.{listed, among}
use Rattle.pruning.specs.Positions.{lows_of, highs_of}
use Rattle.pruning.proofs.Leading.{prunes_none}
use Rattle.pruning.proofs.Listed.{candidates_fit, centers_sized}
use Rattle.pruning.proofs.prune.prune.Goals as goal

pub returns-clause-covers : goal.returns-clause-covers
returns-clause-covers g c =
    let r = c.args.region.now in
    let s = c.args.candidates.now in
    let rule = c.args.rule.now in
    prunes_none (g.T.Rule.prunes rule) (g.met.T.Rule.safe rule) (lows_of r) (highs_of r) (among r.axes s) (listed s) (listed c.left_by.result) (centers_sized r.axes s.centers.now r.bounds.least) (candidates_fit r.axes s).known c.left_by.ensures.left
