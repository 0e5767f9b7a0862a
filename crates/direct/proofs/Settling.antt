-- What rounds come to.
use Rattle.std.proofs.Common.{◌≡◌, ℕ, Option, Some, None, List, refl, inl, inr, arith}
use Rattle.points.specs.Entries.{Entry}
use Rattle.grouping.specs.Distance.{Place}
use Rattle.grouping.specs.Moving.{settled_centers}
use Rattle.direct.specs.Answers.{RoundsTo}
use Rattle.grouping.proofs.Endings.{settles_at}

-- they end at the centers of 100 rounds
pub answered_centers : (es : List Entry) (cs ds : List Place) (r : Option ℕ) → RoundsTo es cs ds r → ds ≡ settled_centers es 100 cs
answered_centers es cs ds None h = settles_at es _ _ _ 100 _ h (omega arith) (inr refl)
answered_centers es cs ds (Some n) h = settles_at es _ _ _ 100 _ h.1 h.0 (inl refl)
