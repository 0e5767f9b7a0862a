use Rattle.std.proofs.Common.{get_or, pos, w16, SFits, rules}
use Rattle.points.specs.Entries.{entries}
use Rattle.boxes.specs.Runs.{picked}
use Rattle.boxes.specs.Tells.{Highest}
use Rattle.boxes.proofs.Extremes.{told_at, from_fn_all}
use Rattle.boxes.proofs.run.Run.greatest.Goals as goal

pub returns : goal.returns
returns g c axis l =
    let es = picked (entries g.R.Point g.R.Record c.args.self.records.now) c.args.self.numbers.now in
    let z = get_or c.from_fn.result axis (pos 0) in
    let fits : SFits w16 z = search rules in
    told_at (Highest axis es) c.from_fn.result axis l fits (from_fn_all _ _ c.from_fn.result (λ a x. Highest a es x) (λ i y q e. search rules) 4 c.from_fn.ensures.items axis (pos 0) l)
