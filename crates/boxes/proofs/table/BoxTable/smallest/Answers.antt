use Rattle.std.proofs.Common.{◌≡◌, true, ap, ◌∙◌, subst}
use Rattle.boxes.specs.Regions.{holds, Smallest}
use Rattle.boxes.specs.Standing.{cuts_of}
use Rattle.boxes.proofs.Regions.{holds_root}
use Rattle.boxes.proofs.table.BoxTable.smallest.Goals as goal

pub returns : goal.returns
returns g c =
    let p = g.P.Point.place c.args.point.now in
    subst (λ t. holds (cuts_of t) c.root.result.number p ≡ true → Smallest (cuts_of t) p c.descend.result) c.root.ensures.table c.descend.ensures (ap (λ b. holds (cuts_of c.args.self.now) b p) c.root.ensures.is ∙ holds_root (cuts_of c.args.self.now) p)
