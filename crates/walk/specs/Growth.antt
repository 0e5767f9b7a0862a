-- What a walk adds to the tallies of groups.
use Rattle.std.specs.Prelude.{◌≡◌, ℕ, ◌<◌, cond, List, pos, ◌+ℤ◌, ◌==◌}
use Rattle.std.specs.Int.{int_wrap, w64}
use Rattle.std.specs.List.{ContainsAt as Has, AllByRecursion}
use Rattle.points.specs.Entries.{Entry}
use Rattle.grouping.specs.Choice.{choose}
use Rattle.grouping.specs.Distance.{Place}
use Rattle.grouping.specs.Totals.{total, within}
use Rattle.boxes.specs.declared.node.Tallies.{Tallies}
use Rattle.boxes.specs.declared.run.Quantity.{Quantity}
use Rattle.boxes.specs.Tells.{measured}
use Rattle.walk.specs.Told.{told, Tells, tallies_at}

-- center k has got these tallies more, and no other center anything: in 64 bits
abbrev pub Credited : ℕ → Tallies → List Tallies → List Tallies → Type 0
Credited k more ts us =
    (q : Quantity) (j : ℕ) → Tells q → j < 32 → int_wrap w64 (told q (tallies_at us j)) ≡ int_wrap w64 (told q (tallies_at ts j) +ℤ cond (k == j) (told q more) (pos 0))

-- every center has got the totals of those entries that belong to it: in 64 bits
abbrev pub Grown : List Place → List Entry → List Tallies → List Tallies → Type 0
Grown cs es ts us =
    (q : Quantity) (j : ℕ) → Tells q → j < 32 → int_wrap w64 (told q (tallies_at us j)) ≡ int_wrap w64 (told q (tallies_at ts j) +ℤ total (within cs j (measured q)) es)

-- every entry belongs to one of the candidates
abbrev pub Covered : List Place → List ℕ → List Entry → Type 0
Covered cs ks es = AllByRecursion (λ e. Has ks (choose cs e.place)) es
