use Rattle.std.proofs.Common.{ℕ, ◌<◌, length, arith, rules}
use Rattle.std.proofs.lemmas.List.{length-take-le}
use Rattle.numbers.proofs.Made.{made_at}
use Rattle.grouping.specs.declared.group.Group.{Group}
use Rattle.grouping.specs.Groups.{no_group}
use Rattle.pruning.specs.Centers.{positions_of}
use Rattle.pruning.specs.Positions.{position_at}
use Rattle.walk.specs.Told.{tallies_at, TellsGroup}
use Rattle.walk.proofs.found.groups_of.Goals as goal

pub returns : goal.returns
returns c k l =
    let centers = c.args.centers.now in
    let ps = positions_of centers in
    let few : k < 32 = omega (arith, l, length-take-le centers.count centers.positions (omega (arith, centers.long, centers.few)), centers.few) in
    made_at _ _ (λ (i : ℕ) (x : Group). i < length ps → TellsGroup (tallies_at c.args.found.now.groups i) (position_at ps i) x) (λ i x q h. search rules) c.from_fn.result 32 k no_group c.from_fn.ensures.items few l
