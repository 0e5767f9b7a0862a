-- Cuts worked by hand.
use Rattle.std.specs.Prelude.{◌≡◌, ℕ, List, [], ◌∷◌, pos, Some, None, Option}
use Rattle.std.specs.List.{AllByRecursion}
use Rattle.points.specs.Entries.{Entry}
use Rattle.grouping.specs.Examples.{pair, entry_of}
use Rattle.boxes.specs.declared.cut.Cut.{Cut}
use Rattle.boxes.specs.declared.fault.CutFault.{CutFault}
use Rattle.boxes.specs.declared.fault.CutFault.TheVariants.{NoUncutBox, NoAxis, OneSided}
use Rattle.boxes.specs.Faults.{Refused, Accepted}
use Rattle.boxes.specs.Regions.{contents, cut_by}

-- a cut of a table of these entries, and what it is refused for, if it is
pub record Figure : Type 0 where
  pub cuts : List Cut
  pub cut : Cut
  pub refused : Option CutFault

-- four places on two axes, of which one is held three times
abbrev pub four : List Entry
four = entry_of (pair 100 10) 1 ∷ entry_of (pair 102 10) 1 ∷ entry_of (pair 110 20) 3 ∷ entry_of (pair 112 20) 1 ∷ []

abbrev pub Judged : List Cut → Cut → Option CutFault → Type 0
Judged cuts c None = Accepted 2 four cuts c
Judged cuts c (Some fault) = Refused 2 four cuts c fault

abbrev pub Right : Figure → Type 0
Right f = Judged f.cuts f.cut f.refused

-- the box of all entries, cut on the first axis
abbrev pub at_first : ℕ → Option CutFault → Figure
at_first value refused = record { cuts = []; cut = cut_by 0 0 (pos value); refused = refused }

-- from 101 to 112 there is an entry on both sides; there is no third axis; and what is cut is not cut again
abbrev pub WorkedFigures : Type 0
WorkedFigures =
    AllByRecursion Right
    (at_first 101 None
    ∷ at_first 112 None
    ∷ at_first 100 (Some OneSided)
    ∷ at_first 113 (Some OneSided)
    ∷ record { cuts = []; cut = cut_by 0 2 (pos 101); refused = Some NoAxis }
    ∷ record { cuts = cut_by 0 0 (pos 101) ∷ []; cut = cut_by 0 1 (pos 20); refused = Some NoUncutBox }
    ∷ [])

-- the boxes that the first of these cuts makes
abbrev pub WorkedBoxes : Type 0
WorkedBoxes =
    (contents (cut_by 0 0 (pos 101) ∷ []) 1 four ≡ entry_of (pair 100 10) 1 ∷ [])
    × (contents (cut_by 0 0 (pos 101) ∷ []) 2 four ≡ entry_of (pair 102 10) 1 ∷ entry_of (pair 110 20) 3 ∷ entry_of (pair 112 20) 1 ∷ [])
