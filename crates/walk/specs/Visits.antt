-- The visits of a walk: boxes with candidates.
use Rattle.std.specs.Prelude.{◌≡◌, ℕ, List, length}
use Rattle.points.specs.declared.point.Point.{Ghosts as PointGhosts}
use Rattle.points.specs.declared.record.Record.{Ghosts as RecordGhosts}
use Rattle.points.specs.Entries.{Entry}
use Rattle.grouping.specs.Distance.{Place}
use Rattle.boxes.specs.declared.cut.Cut.{Cut}
use Rattle.boxes.specs.Regions.{contents, SplitInto}
use Rattle.boxes.specs.Standing.{cuts_of, entries_of, run_of}
use Rattle.pruning.specs.Candidates.{listed, among}
use Rattle.pruning.specs.Rules.{Test}
use Rattle.walk.specs.declared.tally.Tally.{Tally}
use Rattle.walk.specs.declared.visit.Visit.{Visit}
use Rattle.walk.specs.Costs.{LeftAt, Counted}

module _ {R : Type 0} {kindP : PointGhosts R} {kindR : RecordGhosts R} where
  -- the number of the box
  abbrev pub box_of : Visit R kindR kindP → ℕ
  box_of v = v.at.number

  -- the cuts of its table, and the entries of the recording
  abbrev pub cuts_in : Visit R kindR kindP → List Cut
  cuts_in v = cuts_of v.at.table.now

  abbrev pub all_entries : Visit R kindR kindP → List Entry
  all_entries v = entries_of v.at.table.now

  -- the entries of the box
  abbrev pub entries_in : Visit R kindR kindP → List Entry
  entries_in v = contents (cuts_in v) (box_of v) (all_entries v)

  -- the numbers of its records, as the table keeps them
  abbrev pub run_in : Visit R kindR kindP → List ℕ
  run_in v = run_of v.at.table.now (box_of v)

  -- as many places as the recording has records
  abbrev pub OneForEach : Visit R kindR kindP → List ℕ → Type 0
  OneForEach v out = length out ≡ length v.at.table.now.recording.records.now

  -- the places of all centers, and the numbers of those that are candidates
  abbrev pub centers_in : Visit R kindR kindP → List Place
  centers_in v = among kindP.AXES v.candidates

  abbrev pub candidates_in : Visit R kindR kindP → List ℕ
  candidates_in v = listed v.candidates

  -- the second visit is of the same box of the same table, with those of the same centers that are left of the candidates
  pub record Pruned (prunes : Test) (v w : Visit R kindR kindP) : Type 0 where
    pub table : w.at.table.now ≡ v.at.table.now
    pub same_box : box_of w ≡ box_of v
    pub centers : w.candidates.centers.now ≡ v.candidates.centers.now
    pub left : LeftAt prunes kindP.AXES (all_entries v) (centers_in v) (cuts_in v) (box_of v) (candidates_in v) (candidates_in w)

  -- a cut made the boxes of two visits of the box of the first, with the same candidates
  pub record Parts (v first second : Visit R kindR kindP) : Type 0 where
    pub cut : Cut
    pub split : SplitInto (cuts_in v) (box_of v) cut (box_of first) (box_of second)
    pub first_table : first.at.table.now ≡ v.at.table.now
    pub second_table : second.at.table.now ≡ v.at.table.now
    pub first_candidates : first.candidates ≡ v.candidates
    pub second_candidates : second.candidates ≡ v.candidates

  -- the counts have grown by what a walk from this visit takes
  abbrev pub CountedFrom : Test → Visit R kindR kindP → Tally → Tally → Type 0
  CountedFrom prunes v old new = Counted prunes kindP.AXES (all_entries v) (centers_in v) (cuts_in v) (box_of v) (candidates_in v) old new
