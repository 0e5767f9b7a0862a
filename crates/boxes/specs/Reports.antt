-- What is told of a box.
use Rattle.std.specs.Prelude.{◌≡◌, ℕ, ◌+◌, ◌*◌, ◌<◌, List, length, Some, None, Option}
use Rattle.points.specs.Entries.{Entry}
use Rattle.boxes.specs.declared.cut.Cut.{Cut}
use Rattle.boxes.specs.declared.report.BoxReport.{BoxReport}
use Rattle.boxes.specs.declared.report.CutReport.{CutReport}
use Rattle.boxes.specs.Regions.{boxes_after, contents, cut_at, Uncut}
use Rattle.boxes.specs.Tells.{BoundsOf, TalliesOf}

-- the cut of number i
abbrev pub told_cut : List Cut → ℕ → CutReport
told_cut cuts i = record { axis = (cut_at cuts i).axis; value = (cut_at cuts i).value; first = 2 * i + 1; second = 2 * i + 2 }

-- the one cut that divided the box, if one did
abbrev pub CutTold : List Cut → ℕ → Option CutReport → Type 0
CutTold cuts b None = Uncut cuts b
CutTold cuts b (Some c) = (i : ℕ) × (i < length cuts) × ((cut_at cuts i).parent ≡ b) × (c ≡ told_cut cuts i)

-- the report tells of box b over these entries
pub record Reports (es : List Entry) (cuts : List Cut) (b : ℕ) (r : BoxReport) : Type 0 where
  pub there : b < boxes_after cuts
  pub bounds : BoundsOf (contents cuts b es) r.bounds
  pub records : r.records ≡ length (contents cuts b es)
  pub tallies : TalliesOf (contents cuts b es) r.tallies
  pub cut : CutTold cuts b r.cut
