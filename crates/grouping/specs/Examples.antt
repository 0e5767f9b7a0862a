-- Rounds worked by hand.
use Rattle.std.specs.Prelude.{◌≡◌, ℕ, suc, cond, List, [], ◌∷◌, map, ℤ, pos, negsuc, int_lt}
use Rattle.std.specs.List.{AllByRecursion}
use Rattle.numbers.specs.Sums.{mapped_from}
use Rattle.points.specs.Entries.{Entry}
use Rattle.grouping.specs.Distance.{Place, dist}
use Rattle.grouping.specs.Choice.{choose}
use Rattle.grouping.specs.Totals.{weight, sum}
use Rattle.grouping.specs.Costs.{distortion}
use Rattle.grouping.specs.Moving.{move}

-- entries and centers, and what a round makes of them
pub record Figure : Type 0 where
  pub entries : List Entry
  pub centers : List Place
  pub groups : List ℕ
  pub weights : List ℤ
  pub sums : List Place
  pub cost : ℤ
  pub after : List Place
  pub moved : ℕ
  pub cost_after : ℤ

-- how many centers stand elsewhere than before: at a squared distance above 0
abbrev pub elsewhere : List Place → List Place → ℕ
elsewhere [] ds = 0
elsewhere (c ∷ cs) [] = 0
elsewhere (c ∷ cs) (d ∷ ds) = cond (int_lt (pos 0) (dist c d)) (suc (elsewhere cs ds)) (elsewhere cs ds)

-- what the definitions make of entries and centers: the center that each entry belongs to; the weight and the sums of each center; the
-- distortion; the centers after the round, how many of them moved, and their distortion
abbrev pub worked : List Entry → List Place → Figure
worked es cs =
    record {
      entries = es;
      centers = cs;
      groups = map (λ e. choose cs e.place) es;
      weights = mapped_from (λ k c. weight es cs k) 0 cs;
      sums = mapped_from (λ k c. mapped_from (λ axis x. sum es cs k axis) 0 c) 0 cs;
      cost = distortion es cs;
      after = move es cs;
      moved = elsewhere cs (move es cs);
      cost_after = distortion es (move es cs);
    }

-- the figures are those that the definitions make
abbrev pub Right : Figure → Type 0
Right f = worked f.entries f.centers ≡ f

-- a place of two numbers
abbrev pub pair : ℕ → ℕ → Place
pair x y = pos x ∷ pos y ∷ []

-- a place that is held so often
abbrev pub entry_of : Place → ℕ → Entry
entry_of p n = record { place = p; hold = n }

-- two groups: both sums are divided by the weight, and 442 / 4 is rounded to 110
abbrev pub two_groups : Figure
two_groups =
    record {
      entries = entry_of (pair 100 10) 1 ∷ entry_of (pair 102 10) 1 ∷ entry_of (pair 110 20) 3 ∷ entry_of (pair 112 20) 1 ∷ [];
      centers = pair 100 10 ∷ pair 110 20 ∷ [];
      groups = 0 ∷ 0 ∷ 1 ∷ 1 ∷ [];
      weights = pos 2 ∷ pos 4 ∷ [];
      sums = pair 202 20 ∷ pair 442 80 ∷ [];
      cost = pos 8;
      after = pair 101 10 ∷ pair 110 20 ∷ [];
      moved = 1;
      cost_after = pos 6;
    }

-- a half is rounded to the lower number: the distortion stays, and the coordinate total falls
abbrev pub half : Figure
half =
    record {
      entries = entry_of (pair 110 0) 1 ∷ entry_of (pair 111 0) 1 ∷ [];
      centers = pair 111 0 ∷ [];
      groups = 0 ∷ 0 ∷ [];
      weights = pos 2 ∷ [];
      sums = pair 221 0 ∷ [];
      cost = pos 1;
      after = pair 110 0 ∷ [];
      moved = 1;
      cost_after = pos 1;
    }

-- below zero the lower number is the one farther from zero: -1 and -2 give -2
abbrev pub below_zero : Figure
below_zero =
    record {
      entries = entry_of (negsuc 0 ∷ []) 1 ∷ entry_of (negsuc 1 ∷ []) 1 ∷ [];
      centers = (pos 0 ∷ []) ∷ [];
      groups = 0 ∷ 0 ∷ [];
      weights = pos 2 ∷ [];
      sums = (negsuc 2 ∷ []) ∷ [];
      cost = pos 5;
      after = (negsuc 1 ∷ []) ∷ [];
      moved = 1;
      cost_after = pos 1;
    }

-- -1 and 0 give -1
abbrev pub around_zero : Figure
around_zero =
    record {
      entries = entry_of (negsuc 0 ∷ []) 1 ∷ entry_of (pos 0 ∷ []) 1 ∷ [];
      centers = (pos 0 ∷ []) ∷ [];
      groups = 0 ∷ 0 ∷ [];
      weights = pos 2 ∷ [];
      sums = (negsuc 0 ∷ []) ∷ [];
      cost = pos 1;
      after = (negsuc 0 ∷ []) ∷ [];
      moved = 1;
      cost_after = pos 1;
    }

abbrev pub WorkedFigures : Type 0
WorkedFigures = AllByRecursion Right (two_groups ∷ half ∷ below_zero ∷ around_zero ∷ [])
