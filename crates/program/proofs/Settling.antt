-- The kind of a recording.
use Rattle.std.proofs.Common.{◌≡◌, ℕ, Bool, true, false, List, Option, Some, None, MatchOption, Decides, Bor, sym, refl, ◌∙◌, subst}
use borrow.Author.Tests.{clash}
use Rattle.std.proofs.lemmas.Option.{none-some}
use Rattle.rows.specs.declared.kind.FileKind.TheVariants.{DriveRecords, TelegramRecords}
use Rattle.files.specs.Format.{Named}
use Rattle.program.specs.Answers.{Settles}
use Rattle.program.specs.Inputs.{bytes_of}

-- whether there are bytes with the names of drive records settles the kind
pub kind_settles : (input : Option (Bor (List ℕ))) (r : Bool) → MatchOption input (r ≡ false) (λ bytes. Decides r (Named DriveRecords bytes.now)) →
    (r ≡ true → Settles (bytes_of input) DriveRecords) × (r ≡ false → Settles (bytes_of input) TelegramRecords)
kind_settles None r h = (λ e. absurd (clash (sym h ∙ e)), λ e bytes is. absurd (none-some bytes is))
kind_settles (Some bytes) r h =
    (λ e. (bytes.now, refl, h.0 e), λ e others is n. let same : others ≡ bytes.now = cc in clash (sym e ∙ h.1 (subst (Named DriveRecords) same n)))
