use Rattle.std.proofs.Common.{refl}
use Rattle.rows.specs.declared.kind.FileKind.TheVariants.{DriveRecords, TelegramRecords}
use Rattle.program.proofs.Concluding.{conclude}
use Rattle.program.proofs.run.run.Goals as goal

pub returns-then-is_drive : goal.returns-then-is_drive
returns-then-is_drive c = conclude _ _ DriveRecords _ _ _ _ _ _ refl refl (λ r. refl) (λ x. refl) (c.is_drive.ensures.drive c.if-is_drive.true) c.run_kind.ensures

pub returns-else-is_drive : goal.returns-else-is_drive
returns-else-is_drive c = conclude _ _ TelegramRecords _ _ _ _ _ _ refl refl (λ r. refl) (λ x. refl) (c.is_drive.ensures.telegram c.if-is_drive.false) c.run_kind-else-is_drive.ensures
