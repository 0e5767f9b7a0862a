-- What the rules prune, worked by hand.
use Rattle.std.specs.Prelude.{◌≡◌, ℕ, Bool, true, false, [], ◌∷◌}
use Rattle.std.specs.List.{AllByRecursion}
use Rattle.grouping.specs.Distance.{Place}
use Rattle.grouping.specs.Examples.{pair}
use Rattle.pruning.specs.Rules.{corner_prunes, min_max_prunes}

-- the bounds of a box, two numbered places of which the first leads, and which of the rules prune the second
pub record Figure : Type 0 where
  pub least : Place
  pub greatest : Place
  pub leader_number : ℕ
  pub leader : Place
  pub candidate_number : ℕ
  pub candidate : Place
  pub by_corner : Bool
  pub by_distances : Bool

-- the rules answer so
abbrev pub Right : Figure → Type 0
Right f =
    (corner_prunes f.least f.greatest f.leader_number f.leader f.candidate_number f.candidate ≡ f.by_corner)
    × (min_max_prunes f.least f.greatest f.leader_number f.leader f.candidate_number f.candidate ≡ f.by_distances)

-- at the corner (105, 10) both are 5 away, and the leader has the lower number; its greatest distance is not below the candidate's least
abbrev pub tie : Figure
tie =
    record {
      least = pair 100 10;
      greatest = pair 105 10;
      leader_number = 0;
      leader = pair 100 10;
      candidate_number = 1;
      candidate = pair 110 10;
      by_corner = true;
      by_distances = false;
    }

-- one farther, and the candidate is pruned by its distance too
abbrev pub beyond : Figure
beyond =
    record {
      least = pair 100 10;
      greatest = pair 105 10;
      leader_number = 0;
      leader = pair 100 10;
      candidate_number = 1;
      candidate = pair 111 10;
      by_corner = true;
      by_distances = true;
    }

-- of two centers at one position the higher number prunes nothing
abbrev pub same_position : Figure
same_position =
    record {
      least = pair 100 10;
      greatest = pair 105 10;
      leader_number = 1;
      leader = pair 110 10;
      candidate_number = 0;
      candidate = pair 110 10;
      by_corner = false;
      by_distances = false;
    }

abbrev pub WorkedFigures : Type 0
WorkedFigures = AllByRecursion Right (tie ∷ beyond ∷ same_position ∷ [])
