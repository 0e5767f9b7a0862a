use Rattle.std.proofs.Common.{◌≡◌, ℕ, ap, sym}
use Rattle.std.proofs.ByRecursion.{All-weaker}
use Rattle.grouping.specs.Choice.{choose}
use Rattle.grouping.proofs.Totals.{all_of}
use Rattle.boxes.specs.Runs.{entry_at}
use Rattle.walk.specs.Assignments.{chosen_by}
use Rattle.walk.specs.Visits.{all_entries, entries_in, centers_in}
use Rattle.walk.proofs.Steps.{all_to, assigned_run, assigned_parts, assigned_left}
use Rattle.walk.proofs.visit.Visit.+assign.Goals as goal

pub returns-in-Some : goal.returns-in-Some
returns-in-Some g t c =
    let v = c.args.self.now in
    let k = c.in-Some.only in
    assigned_run v (λ _. k) c.args.out.now c.give.new.out
    (All-weaker (λ e. k ≡ choose (centers_in v) e.place) (λ e. (i : ℕ) → e ≡ entry_at (all_entries v) i → k ≡ choose (centers_in v) e.place) (λ e x i q. x) (entries_in v) (all_to (g.T.Rule.prunes c.args.rule.now) v c.pruned-left.result c.pruned-left.ensures k c.in-Some.ensures.is)) c.give.ensures

pub returns-in-Some-split : goal.returns-in-Some-split
returns-in-Some-split g t c =
    let old = c.args.out.now in
    let new = c.assign-in-Some-split.new.out in
    assigned_left (g.T.Rule.prunes c.args.rule.now) c.args.self.now c.pruned-left.result c.pruned-left.ensures old new
    (assigned_parts c.pruned-left.result c.in-Some-split.first c.in-Some-split.second c.in-Some-split.ensures old c.assign.new.out new c.assign.ensures c.assign-in-Some-split.ensures)

pub returns-in-None : goal.returns-in-None
returns-in-None g t c =
    let w = c.pruned-left.result in
    assigned_left (g.T.Rule.prunes c.args.rule.now) c.args.self.now w c.pruned-left.ensures c.args.out.now c.look.new.out
    (assigned_run w (chosen_by (centers_in w) (all_entries w)) c.args.out.now c.look.new.out
    (all_of {P = λ e. (i : ℕ) → e ≡ entry_at (all_entries w) i → chosen_by (centers_in w) (all_entries w) i ≡ choose (centers_in w) e.place} (λ e i q. ap (λ x. choose (centers_in w) x.place) (sym q)) (entries_in w)) c.look.ensures)
