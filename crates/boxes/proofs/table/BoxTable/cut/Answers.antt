use Rattle.std.proofs.Common.{arith}
use Rattle.boxes.proofs.Sides.{stood_of, room_of}
use Rattle.boxes.proofs.Tables.{count_is}
use Rattle.boxes.proofs.table.BoxTable.cut.Goals as goal

pub divide-requires-clause-stood : goal.divide-requires-clause-stood
divide-requires-clause-stood g c = let t = c.args.self.now in omega (arith, stood_of t g.R.Point.AXES _ c.in_ok-check.ensures, count_is t)

pub divide-requires-clause-room : goal.divide-requires-clause-room
divide-requires-clause-room g c = room_of c.args.self.now g.R.Point.AXES _ c.in_ok-check.ensures
