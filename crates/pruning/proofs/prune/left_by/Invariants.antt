use Rattle.std.proofs.Common.{◌≡◌, ◌≤◌, length, take, filter}
use Rattle.pruning.specs.Candidates.{listed, among}
use Rattle.pruning.specs.Positions.{lows_of, highs_of}
use Rattle.pruning.specs.Pruning.{keeps}
use Rattle.pruning.proofs.prune.left_by.Given as goal

abbrev pub invariant-loop-number : goal.invariant-loop-number
invariant-loop-number g l =
    record {
      left : take l.count l.numbers ≡ filter (keeps (g.T.Rule.prunes l.rule) (lows_of l.region) (highs_of l.region) (among l.region.axes l.candidates) l.leader.number) (take l.number-index (listed l.candidates));
      few : l.count ≤ l.number-index;
      long : length l.numbers ≡ 32;
    }
