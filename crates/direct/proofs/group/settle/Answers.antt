use Rattle.std.proofs.Common.{◌≡◌, false, refl, subst, add-one, arith}
use Rattle.points.specs.Entries.{recorded}
use Rattle.grouping.specs.Groups.{places}
use Rattle.grouping.specs.Rounds.{Rounds, start}
use Rattle.grouping.proofs.Chains.{rounds_on, rounds_end}
use Rattle.direct.proofs.group.settle.Goals as goal

pub loop-n-init : goal.loop-n-init
loop-n-init g c = (start, λ z. absurd (omega arith))

pub loop-n-preserved : goal.loop-n-preserved
loop-n-preserved g c = (
  rw (add-one c.loop-n.n) (rounds_on c.loop-n.invariant.0 refl c.round.ensures.moved (λ e. c.if-round-eq0.false (c.round.ensures.busy e))),
  λ _. c.round.ensures.flat,
)

pub returns-then-round-eq0 : goal.returns-then-round-eq0
returns-then-round-eq0 g c =
    record {
      rounds = (omega arith, rw (add-one c.loop-n.n) (rounds_end c.loop-n.invariant.0 refl c.round.ensures.moved (c.round.ensures.idle c.if-round-eq0.true)));
      flat = c.round.ensures.flat;
    }

pub returns : goal.returns
returns g c =
    let all : c.loop-n.n ≡ 100 = omega arith in
    record {
      rounds = subst (λ n. Rounds (recorded g.R.Point g.R.Record c.args.recording.now) (places g.R.Point.AXES c.args.groups.now) n false (places g.R.Point.AXES c.loop-n.groups)) all c.loop-n.invariant.0;
      flat = c.loop-n.invariant.1 (omega arith);
    }
