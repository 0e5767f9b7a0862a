use Rattle.std.proofs.Common.{sym, ap, ◌-◌, ◌∙◌}
use Rattle.boxes.proofs.Sides.{box_length}
use Rattle.boxes.proofs.Tables.{box_there}
use Rattle.boxes.proofs.at.BoxAt.size.Goals as goal

pub returns : goal.returns
returns g c =
    let t = c.args.self.table.now in
    ap (λ n. n.to - n.from) c.node-node.ensures ∙ sym (box_length t c.args.self.number (box_there t c.args.self.number c.args.self.there))
