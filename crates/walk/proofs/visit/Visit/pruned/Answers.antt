use Rattle.std.proofs.Common.{refl, ap, sym, subst}
use Rattle.std.specs.List.{ContainsAt as Has}
use Rattle.grouping.specs.Boxes.{Inside}
use Rattle.grouping.specs.Choice.{choose}
use Rattle.grouping.specs.Distance.{Place}
use Rattle.boxes.specs.Table.{node_at}
use Rattle.pruning.specs.Candidates.{listed, among}
use Rattle.pruning.specs.Centers.{centers_of}
use Rattle.pruning.specs.Positions.{lows, highs}
use Rattle.pruning.specs.Pruning.{Left}
use Rattle.walk.specs.Growth.{Covered}
use Rattle.walk.specs.Visits.{box_of, entries_in, centers_in, candidates_in}
use Rattle.walk.proofs.Steps.{still}
use Rattle.walk.proofs.Visits.{there, table_stands}
use Rattle.walk.proofs.visit.Visit.pruned.Goals as goal

pub invariant_of-result : goal.invariant_of-result
invariant_of-result g c =
    let v = c.args.self.now in
    let s = v.candidates in
    let r = c.prune.result in
    let n = c.node.result.bounds in
    let is = ap (λ m. m.bounds) c.node.ensures in
    let keeps = subst (λ x. (p : Place) → Inside (lows g.R.Point.AXES x) (highs g.R.Point.AXES x) p → Has (listed s) (choose (centers_in v) p) → Has (listed r) (choose (centers_in v) p)) is
    (subst (λ m. (p : Place) → Inside (lows m n) (highs m n) p → Has (listed s) (choose (among m s) p) → Has (listed r) (choose (among m s) p)) c.AXES.ensures c.prune.ensures.covers) in
    record { covered = ∣ subst (λ cs. Covered (centers_of g.R.Point.AXES cs) (listed r) (entries_in v)) (sym c.prune.ensures.among) (still g.met.R.Point.few.1 g.met.R.Point.sized v (listed r) keeps) ∣₁ }

pub returns : goal.returns
returns g c =
    let v = c.args.self.now in
    let r = c.prune.result in
    let n = c.node.result.bounds in
    let prunes = g.T.Rule.prunes c.args.rule.now in
    let b = (node_at v.at.table.now.nodes (box_of v)).bounds in
    let left : Left prunes (lows g.R.Point.AXES b) (highs g.R.Point.AXES b) (centers_in v) (candidates_in v) (listed r) =
    subst (λ x. Left prunes (lows g.R.Point.AXES x) (highs g.R.Point.AXES x) (centers_in v) (candidates_in v) (listed r)) (ap (λ m. m.bounds) c.node.ensures)
    (subst (λ m. Left prunes (lows m n) (highs m n) (among m v.candidates) (candidates_in v) (listed r)) c.AXES.ensures c.prune.ensures.left) in
    record { table = refl; same_box = refl; centers = c.prune.ensures.among; left = record { bounds = b; of_box = (table_stands v).bounds (box_of v) (there v); left = left } }
