-- Why a center is refused.
use Rattle.std.specs.Prelude.{ℕ}
use Rattle.pruning.specs.declared.fault.CenterFault.{CenterFault}
use Rattle.pruning.specs.declared.fault.CenterFault.TheVariants.{TooMany}

-- the number under which each fault is reported
abbrev pub number_of : CenterFault → ℕ
number_of TooMany = 3
