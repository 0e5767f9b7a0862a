use Rattle.std.proofs.Common.{◌≡◌, false, Decides, MatchOption, rules}
use Rattle.rows.specs.declared.kind.FileKind.TheVariants.{DriveRecords}
use Rattle.files.specs.Format.{Named}
use Rattle.program.proofs.Settling.{kind_settles}
use Rattle.program.proofs.run.is_drive.Goals as goal

pub returns : goal.returns
returns c =
    let h : MatchOption c.args.recording (c.is_some_and.result ≡ false) (λ bytes. Decides c.is_some_and.result (Named DriveRecords bytes.now)) = search rules in
    let k = kind_settles c.args.recording c.is_some_and.result h in
    record { drive = k.0; telegram = k.1 }
