-- What is answered for rounds.
use Rattle.std.specs.Prelude.{ℕ, ◌≤◌, true, false, List, Option, MatchOption}
use Rattle.points.specs.Entries.{Entry}
use Rattle.grouping.specs.Distance.{Place}
use Rattle.grouping.specs.Rounds.{Rounds}

-- Rounds lead from the centers cs to ds: n of them, at most 100, of which the last and no other moved nothing; or, where no number is
-- answered, 100 of which each moved a center.
abbrev pub RoundsTo : List Entry → List Place → List Place → Option ℕ → Type 0
RoundsTo es cs ds answer = MatchOption answer (Rounds es cs 100 false ds) (λ n. (n ≤ 100) × Rounds es cs n true ds)
