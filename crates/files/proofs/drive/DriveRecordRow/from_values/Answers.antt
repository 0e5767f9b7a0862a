use Rattle.std.proofs.Common.{◌≡◌, ℕ, ◌<◌, [], ◌∷◌, get_or, pos, ap, ◌∙◌, arith, w16, to_z, of_z}
use Rattle.std.proofs.lemmas.List.{get_or-map}
use Rattle.points.specs.Kinds.{told}
use Rattle.files.proofs.Axes.{told_again}
use Rattle.files.proofs.drive.DriveRecordRow.from_values.Goals as goal

pub returns : goal.returns
returns c =
    let at : (k : ℕ) → k < 4 → told (to_z w16 (of_z w16 (get_or c.nearest_axes.result k (pos 0)))) ≡ told (get_or c.args.values.now k (pos 0)) =
    λ k l. told_again _ (get_or c.args.values.now k (pos 0)) (ap (λ xs. get_or xs k (pos 0)) c.nearest_axes.ensures ∙ get_or-map told c.args.values.now k (pos 0) (pos 0) (omega (arith, c.told-values))) in
    λ i. at 0 (omega arith) i ∷ at 1 (omega arith) i ∷ at 2 (omega arith) i ∷ at 3 (omega arith) i ∷ []
