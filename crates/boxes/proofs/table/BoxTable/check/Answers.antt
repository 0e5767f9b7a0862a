use Rattle.std.proofs.Common.{◌<◌, subst, arith}
use Rattle.std.proofs.lemmas.Option.{MatchOption-at_some}
use Rattle.boxes.specs.declared.fault.CutFault.TheVariants.{OneSided}
use Rattle.boxes.specs.Faults.{Against}
use Rattle.boxes.specs.Regions.{boxes_after, cut_by}
use Rattle.boxes.specs.Standing.{cuts_of, entries_of}
use Rattle.boxes.proofs.Sides.{refused, is_free, accepted}
use Rattle.boxes.proofs.Tables.{count_is, box_there}
use Rattle.boxes.proofs.table.BoxTable.check.Goals as goal

pub returns : goal.returns
returns g c =
    let t = c.args.self.now in
    let axes = g.R.Point.AXES in
    let cut = c.args.cut.now in
    let at = c.in_ok-at.at in
    let q = MatchOption-at_some _ _ at c.in_ok-at.ensures.ok_part c.uncut_at.ensures in
    let there = subst (λ b. b < boxes_after (cuts_of t)) q.0 (subst (λ u. at.number < boxes_after (cuts_of u)) q.1 (box_there at.table.now at.number at.there)) in
    let no = subst (λ b. Against axes (entries_of t) (cuts_of t) (cut_by b cut.axis cut.value) OneSided → ⊥) q.0 (subst (λ u. Against axes (entries_of u) (cuts_of u) (cut_by at.number cut.axis cut.value) OneSided → ⊥) q.1 (c.is_one_sided.ensures.no c.if-is_one_sided.false)) in
    accepted axes (entries_of t) (cuts_of t) cut (is_free axes (entries_of t) (cuts_of t) cut there q.2) (λ h. omega (arith, h, c.if-cut-AXES.false, c.AXES.ensures)) (λ h. omega (arith, h, c.if-self-eq-MOST_CUTS.false, count_is t)) no

pub returns-then-is_one_sided : goal.returns-then-is_one_sided
returns-then-is_one_sided g c =
    let t = c.args.self.now in
    let axes = g.R.Point.AXES in
    let cut = c.args.cut.now in
    let at = c.in_ok-at.at in
    let q = MatchOption-at_some _ _ at c.in_ok-at.ensures.ok_part c.uncut_at.ensures in
    let there = subst (λ b. b < boxes_after (cuts_of t)) q.0 (subst (λ u. at.number < boxes_after (cuts_of u)) q.1 (box_there at.table.now at.number at.there)) in
    let yes = subst (λ b. Against axes (entries_of t) (cuts_of t) (cut_by b cut.axis cut.value) OneSided) q.0 (subst (λ u. Against axes (entries_of u) (cuts_of u) (cut_by at.number cut.axis cut.value) OneSided) q.1 (c.is_one_sided.ensures.yes c.if-is_one_sided.true)) in
    refused axes (entries_of t) (cuts_of t) cut OneSided yes (λ l. is_free axes (entries_of t) (cuts_of t) cut there q.2) (λ l h. omega (arith, h, c.if-cut-AXES.false, c.AXES.ensures)) (λ l h. omega (arith, h, c.if-self-eq-MOST_CUTS.false, count_is t))
