-- Tables in memory.
use Rattle.std.specs.Prelude.{◌*◌, ◌^◌, ◌<◌}
use Rattle.std.specs.Borrow.{RattleType}
use prog.Memory.{size}
use denote.Param.{layout}

-- a table of 4,096 values of the type takes fewer than 2 ^ 63 bytes
abbrev pub TableFits : RattleType → Type 0
TableFits T = 4096 * size (layout T) < 2 ^ 63
