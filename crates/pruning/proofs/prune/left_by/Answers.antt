use Rattle.std.proofs.Common.{◌≡◌, ℕ, ◌<◌, ◌≤◌, Bool, not, ◌||◌, eqb, length, get_or, take, sym, ap, ◌∙◌, ap₂, arith}
use Rattle.std.proofs.lemmas.List.{length-set}
use Rattle.pruning.specs.Candidates.{listed, among}
use Rattle.pruning.specs.Positions.{lows_of, highs_of}
use Rattle.pruning.specs.Pruning.{keeps}
use Rattle.pruning.proofs.Leading.{left_all, left_fit}
use Rattle.pruning.proofs.Listed.{length_listed, candidates_fit, fit_some, fit_known, fit_rises, copy_yes, copy_no}
use Rattle.pruning.proofs.prune.left_by.Goals as goal
use Rattle.pruning.proofs.prune.left_by.Goals.{then-leaves, else-leaves}

pub loop-number-preserved : goal.loop-number-preserved
loop-number-preserved g c =
    let r = c.args.region.now in
    let s = c.args.candidates.now in
    let l = c.args.leader.now.number in
    let inv = c.loop-number.invariant in
    let i = c.loop-number.number-index in
    let k = c.contender-candidate.result.number in
    let prunes = g.T.Rule.prunes c.args.rule.now in
    let test : ℕ → Bool = keeps prunes (lows_of r) (highs_of r) (among r.axes s) l in
    let il : i < length (listed s) = omega (arith, ap length c.numbers-number-items.ensures) in
    let room : c.loop-number.count < length c.loop-number.numbers = omega (arith, length_listed s, s.few) in
    let at = c.contender-candidate.ensures.number ∙ ap (λ xs. get_or xs i 0) c.numbers-number-items.ensures in
    let tells : test k ≡ c.leaves.result = sym (c.leaves.ensures ∙ ap₂ (λ x y. eqb k l || not (prunes (lows_of r) (highs_of r) l x k y)) c.requires.stands (c.contender-candidate.ensures.stands r.axes)) in
    elim c.if-leaves.branch [
      | then-leaves w ↦
          simp (w.count-is, w.numbers-is) (record {
            left = copy_yes test (listed s) c.loop-number.numbers i c.loop-number.count k il at inv.left room (tells ∙ w.if-leaves.true);
            few = omega arith;
            long = simp length-set inv.long;
          })
      | else-leaves w ↦
          simp (w.count-is, w.numbers-is) (record {
            left = copy_no test (listed s) c.loop-number.numbers i c.loop-number.count k il at inv.left (tells ∙ w.if-leaves.false);
            few = omega arith;
            long = inv.long;
          })
    ]

pub invariant_of-result : goal.invariant_of-result
invariant_of-result g c =
    let r = c.args.region.now in
    let s = c.args.candidates.now in
    let centers = s.centers.now in
    let numbers = c.loop-number.numbers in
    let count = c.loop-number.count in
    let inv = c.loop-number.invariant in
    let prunes = g.T.Rule.prunes c.args.rule.now in
    let all : length (listed s) ≤ c.loop-number.number-index = omega (arith, ap length c.numbers-number-items.ensures) in
    let left = left_all prunes (lows_of r) (highs_of r) (among r.axes s) (listed s) (take count numbers) c.loop-number.number-index c.args.leader.now.number all c.requires.leads inv.left in
    let fit = left_fit prunes (lows_of r) (highs_of r) (among r.axes s) (listed s) (take count numbers) left (candidates_fit r.axes s) in
    let few : count ≤ 32 = omega (arith, ap length c.numbers-number-items.ensures, length_listed s, s.few) in
    record {
      long = inv.long;
      some = fit_some r.axes centers numbers count inv.long few fit;
      few = few;
      known = fit_known r.axes centers numbers count inv.long few fit;
      rises = fit_rises r.axes centers numbers count inv.long few fit;
    }
