use Rattle.std.proofs.Common.{◌+◌, ◌-◌, ◌%◌, ◌^◌, length, ap, ◌∙◌, subst}
use Rattle.boxes.specs.Table.{node_at}
use Rattle.walk.specs.Growth.{Credited, Grown}
use Rattle.walk.specs.Visits.{box_of, entries_in, centers_in}
use Rattle.walk.proofs.Steps.{grown_one, grown_left, grown_parts, counted_one, counted_cut, counted_read}
use Rattle.walk.proofs.visit.Visit.+tally.Goals as goal

pub returns-in-Some : goal.returns-in-Some
returns-in-Some g t c =
    let v = c.args.self.now in
    let w = c.pruned-left.result in
    let prunes = g.T.Rule.prunes c.args.rule.now in
    let k = c.in-Some.only in
    let one = c.in-Some.ensures.is in
    let credited : Credited k (node_at v.at.table.now.nodes (box_of v)).tallies c.args.out.now.groups c.credit.new.self.groups =
    subst (λ ts. Credited k (node_at v.at.table.now.nodes (box_of v)).tallies ts c.credit.new.self.groups) c.note.ensures.groups (subst (λ m. Credited k m c.note.new.self.groups c.credit.new.self.groups) (ap (λ n. n.tallies) c.node.ensures) c.credit.ensures.credited) in
    let asked = c.note.ensures.queries ∙ ap (λ n. (c.args.out.now.queries + (n - 1)) % 2 ^ 64) c.count.ensures.is in
    record {
      grown = grown_one prunes v w c.pruned-left.ensures k c.args.out.now.groups c.credit.new.self.groups one credited;
      counted = counted_one prunes v w c.pruned-left.ensures c.args.out.now c.note.new.self c.note.ensures.distances asked c.credit.new.self (ap length one) c.credit.ensures.distances c.credit.ensures.queries;
    }

pub returns-in-Some-split : goal.returns-in-Some-split
returns-in-Some-split g t c =
    let v = c.args.self.now in
    let w = c.pruned-left.result in
    let prunes = g.T.Rule.prunes c.args.rule.now in
    let first = c.in-Some-split.first in
    let second = c.in-Some-split.second in
    let parts = c.in-Some-split.ensures in
    let old = c.args.out.now in
    let noted = c.note.new.self in
    let mid = c.tally.new.out in
    let new = c.tally-in-Some-split.new.out in
    let asked = c.note.ensures.queries ∙ ap (λ n. (old.queries + (n - 1)) % 2 ^ 64) c.count.ensures.is in
    let both = grown_parts w first second parts noted.groups mid.groups new.groups c.tally.ensures.grown c.tally-in-Some-split.ensures.grown in
    record {
      grown = grown_left prunes v w c.pruned-left.ensures old.groups new.groups (subst (λ ts. Grown (centers_in w) (entries_in w) ts new.groups) c.note.ensures.groups both);
      counted = counted_cut prunes v w c.pruned-left.ensures old noted c.note.ensures.distances asked first second parts mid new c.in_default.ensures.is c.tally.ensures.counted c.tally-in-Some-split.ensures.counted;
    }

pub returns-in-None : goal.returns-in-None
returns-in-None g t c =
    let v = c.args.self.now in
    let w = c.pruned-left.result in
    let prunes = g.T.Rule.prunes c.args.rule.now in
    let old = c.args.out.now in
    let new = c.read.new.out in
    let asked = c.note.ensures.queries ∙ ap (λ n. (old.queries + (n - 1)) % 2 ^ 64) c.count.ensures.is in
    record {
      grown = grown_left prunes v w c.pruned-left.ensures old.groups new.groups (subst (λ ts. Grown (centers_in w) (entries_in w) ts new.groups) c.note.ensures.groups c.read.ensures.grown);
      counted = counted_read prunes v w c.pruned-left.ensures old c.note.new.self c.note.ensures.distances asked new c.in_default.ensures.is c.in-None.ensures c.read.ensures.distances c.read.ensures.queries;
    }
