use Rattle.std.proofs.Common.{◌≡◌, ◌+◌, ◌/◌, ◌<◌, pos, ◌+ℤ◌, ◌∙◌, subst, w16, SFits, rules}
use Rattle.std.proofs.lemmas.Int.{to_z-of_z}
use Rattle.boxes.specs.Table.{node_at}
use Rattle.points.specs.Kinds.{position_place}
use Rattle.grouping.specs.Distance.{number}
use Rattle.boxes.specs.Widths.{width_on, WidestOf}
use Rattle.boxes.proofs.Halvings.{halves}
use Rattle.boxes.proofs.Tables.{box_there}
use Rattle.boxes.proofs.at.BoxAt.middle_cut.Goals as goal

pub returns : goal.returns
returns g c largest =
    let t = c.args.self.table.now in
    let b = c.args.self.number in
    let axis = c.widest_axis-axis.result in
    let fits : SFits w16 c.middle_at.result = search rules in
    let w = subst (λ n. WidestOf (node_at t.nodes b).bounds n axis) c.AXES.ensures (subst (λ n. WidestOf n.bounds c.AXES.result axis) c.node.ensures c.widest_axis-axis.ensures) in
    let middle = subst (λ n. 0 < width_on n.bounds axis → c.middle_at.result ≡ number (position_place n.bounds.least) axis +ℤ pos (width_on n.bounds axis / 2 + 1)) c.node.ensures c.middle_at.ensures in
    halves t g.R.Point.AXES g.met.R.Point.few.1 b (box_there t b c.args.self.there) axis w _ largest (λ some. to_z-of_z w16 c.middle_at.result fits ∙ middle some)
