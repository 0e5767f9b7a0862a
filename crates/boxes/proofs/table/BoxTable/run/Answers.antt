use Rattle.std.proofs.Common.{◌<◌, length, ap, ◌∙◌, subst}
use Rattle.std.specs.List.{AllByRecursion}
use Rattle.std.proofs.ByRecursion.{All-from_get_or}
use Rattle.boxes.proofs.table.BoxTable.run.Goals as goal

pub returns-clause-known : goal.returns-clause-known
returns-clause-known g c =
    let run = c.run.result in
    let same = c.run.ensures.records ∙ ap (λ t. t.recording.records.now) c.at_or_root.ensures.table in
    subst (λ rs. AllByRecursion (λ i. i < length rs) run.numbers.now) same (All-from_get_or (λ i. i < length run.records.now) run.numbers.now 0 (λ k l. run.known k 0 l))
