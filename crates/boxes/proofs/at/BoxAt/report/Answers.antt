use Rattle.std.proofs.Common.{◌≡◌, ℕ, List, Some, None, Option, sym, refl, subst, rules}
use Rattle.std.specs.Option.{MatchOption}
use Rattle.points.specs.declared.point.Point.{Ghosts as PointGhosts}
use Rattle.points.specs.declared.record.Record.{Ghosts as RecordGhosts}
use Rattle.boxes.specs.declared.at.Split.{Split}
use Rattle.boxes.specs.declared.cut.Cut.{Cut}
use Rattle.boxes.specs.declared.report.CutReport.{CutReport}
use Rattle.boxes.specs.Regions.{contents, Uncut, SplitInto}
use Rattle.boxes.specs.Reports.{CutTold}
use Rattle.boxes.specs.Standing.{cuts_of, entries_of}
use Rattle.boxes.specs.Tells.{BoundsOf, TalliesOf}
use Rattle.boxes.proofs.Tables.{box_there, stands}
use Rattle.boxes.proofs.at.BoxAt.report.Goals as goal

-- what is told of a split is told of its cut
module _ {R : Type 0} {kindP : PointGhosts R} {kindR : RecordGhosts R} (cuts : List Cut) (b : ℕ) where
  abbrev told : Split R kindR kindP → CutReport
  told s = record { axis = s.cut.axis; value = s.cut.value; first = s.first.number; second = s.second.number }

  cut_told : (o : Option (Split R kindR kindP)) (r : Option CutReport) → MatchOption o (Uncut cuts b) (λ s. SplitInto cuts b s.cut s.first.number s.second.number) → MatchOption o (r ≡ None) (λ s. r ≡ Some (told s)) → CutTold cuts b r
  cut_told None r u e = subst (CutTold cuts b) (sym e) u
  cut_told (Some s) r u e = subst (CutTold cuts b) (sym e) (u.number, u.made, u.of, rw (u.first_is, u.second_is, u.is) refl)

pub returns : goal.returns
returns g c =
    let t = c.args.self.table.now in
    let b = c.args.self.number in
    let there = box_there t b c.args.self.there in
    let is : MatchOption c.split.result (c.map.result ≡ None) (λ s. c.map.result ≡ Some (told (cuts_of t) b s)) = search rules in
    record {
      there = there;
      bounds = subst (λ n. BoundsOf (contents (cuts_of t) b (entries_of t)) n.bounds) (sym c.node-node.ensures) ((stands t).bounds b there);
      records = c.size.ensures;
      tallies = subst (λ n. TalliesOf (contents (cuts_of t) b (entries_of t)) n.tallies) (sym c.node-node.ensures) ((stands t).tallies b there);
      cut = cut_told (cuts_of t) b c.split.result c.map.result c.split.ensures.is is;
    }
