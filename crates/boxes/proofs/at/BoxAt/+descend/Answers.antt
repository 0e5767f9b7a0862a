use Rattle.std.proofs.Common.{◌≡◌, true, false, sym, ◌∙◌, subst, ap₂, w16, SFits, rules}
use lib.Signed.{lt_z}
use Rattle.std.proofs.lemmas.Int.{to_z-of_z}
use Rattle.boxes.specs.Regions.{below, holds, Smallest}
use Rattle.boxes.specs.Standing.{cuts_of}
use Rattle.boxes.proofs.Regions.{in_first, in_second}
use Rattle.boxes.proofs.Tables.{stands}
use Rattle.boxes.proofs.at.BoxAt.+descend.Goals as goal

pub returns-then-axis-cut : goal.returns-then-axis-cut
returns-then-axis-cut g t c h =
    let self = c.args.self.table.now in
    let p = g.P.Point.place c.args.point.now in
    let s = c.in-Some.split in
    let fits : SFits w16 c.axis.result = search rules in
    let fits-value : SFits w16 s.cut.value = search rules in
    let side : below s.cut p ≡ true = ap₂ lt_z (sym (to_z-of_z w16 c.axis.result fits ∙ c.axis.ensures)) (sym (to_z-of_z w16 s.cut.value fits-value)) ∙ c.if-axis-cut.true in
    let has = in_first (cuts_of self) (stands self).log c.args.self.number s.cut s.first.number s.second.number c.in-Some.ensures.is p h side in
    subst (λ u. holds (cuts_of u) s.first.number p ≡ true → Smallest (cuts_of u) p c.descend.result) c.in-Some.ensures.tables.0 c.descend.ensures has

pub returns-else-axis-cut : goal.returns-else-axis-cut
returns-else-axis-cut g t c h =
    let self = c.args.self.table.now in
    let p = g.P.Point.place c.args.point.now in
    let s = c.in-Some.split in
    let fits : SFits w16 c.axis.result = search rules in
    let fits-value : SFits w16 s.cut.value = search rules in
    let side : below s.cut p ≡ false = ap₂ lt_z (sym (to_z-of_z w16 c.axis.result fits ∙ c.axis.ensures)) (sym (to_z-of_z w16 s.cut.value fits-value)) ∙ c.if-axis-cut.false in
    let has = in_second (cuts_of self) (stands self).log c.args.self.number s.cut s.first.number s.second.number c.in-Some.ensures.is p h side in
    subst (λ u. holds (cuts_of u) s.second.number p ≡ true → Smallest (cuts_of u) p c.descend-else-axis-cut.result) c.in-Some.ensures.tables.1 c.descend-else-axis-cut.ensures has
