use Rattle.std.proofs.Common.{◌≡◌, Some, sym, refl, ap, ◌∙◌, arith, rules}
use Rattle.std.proofs.lemmas.List.{get_or-take}
use Rattle.boxes.specs.Regions.{Uncut}
use Rattle.boxes.specs.Standing.{cuts_of}
use Rattle.boxes.specs.Table.{node_at}
use Rattle.boxes.proofs.Tables.{count_is, box_there, stands}
use Rattle.boxes.proofs.at.BoxAt.split.Goals as goal

pub returns-clause-is : goal.returns-clause-is
returns-clause-is g c =
    let t = c.args.self.table.now in
    let b = c.args.self.number in
    let i = c.in_ok-i.i in
    let e : (node_at t.nodes b).cut ≡ Some i = ap (λ n. n.cut) (sym c.node.ensures) ∙ c.in_ok-i.was in
    let l = t.links b i c.args.self.there e in
    record {
      number = i;
      made = omega (arith, l, count_is t);
      is = sym (get_or-take t.count t.cuts i _ l);
      of = (stands t).cut_by b i (box_there t b c.args.self.there) e;
      first_is = refl;
      second_is = refl;
      above = t.rising b i c.args.self.there e;
    }

pub returns-in_err-i-clause-is : goal.returns-in_err-i-clause-is
returns-in_err-i-clause-is g c =
    let t = c.args.self.table.now in
    let b = c.args.self.number in
    let u : Uncut (cuts_of t) b = (stands t).uncut b (box_there t b c.args.self.there) (ap (λ n. n.cut) (sym c.node.ensures) ∙ c.in_err-i.was) in
    search rules
