use Rattle.std.proofs.Common.{ap, ◌∙◌, subst, arith, rules}
use Rattle.std.proofs.lemmas.Bool.{ltb-true, ltb-false}
use Rattle.boxes.specs.Table.{node_at}
use Rattle.boxes.specs.Widths.{width_on, WidestOf}
use Rattle.boxes.proofs.Halvings.{halvable, halvable_wide}
use Rattle.boxes.proofs.Tables.{box_there}
use Rattle.boxes.proofs.at.BoxAt.is_halvable.Goals as goal

pub returns : goal.returns
returns g c =
    let t = c.args.self.table.now in
    let b = c.args.self.number in
    let there = box_there t b c.args.self.there in
    let few = g.met.R.Point.few.1 in
    let axis = c.widest_axis.result in
    let w = subst (λ n. WidestOf (node_at t.nodes b).bounds n axis) c.AXES.ensures (subst (λ n. WidestOf n.bounds c.AXES.result axis) c.node.ensures c.widest_axis.ensures) in
    let is = c.width_at.ensures.is ∙ ap (λ n. width_on n.bounds axis) c.node.ensures in
    record {
      yes = λ e. halvable t g.R.Point.AXES few b there axis w (search rules) (omega (arith, c.if-size-le-FEW_RECORDS.false, c.size.ensures)) (omega (arith, is, ltb-true 0 c.width_at.result e));
      no = λ e h. omega (arith, is, ltb-false 0 c.width_at.result e, halvable_wide t g.R.Point.AXES few b there axis w h);
    }
