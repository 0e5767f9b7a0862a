-- Changes and chains of rounds.
use Rattle.std.proofs.Common.{◌≡◌, ℕ, suc, Bool, true, false, List, refl, arith}
use Rattle.std.proofs.lemmas.Bool.{true≢false}
use Rattle.points.specs.Entries.{Entry}
use Rattle.grouping.specs.Distance.{Place}
use Rattle.grouping.specs.Rounds.{Moved, Changes, none, same, other, Rounds, start, last, more}

pub unchanged : {cs ds : List Place} {n : ℕ} → Changes cs ds n → n ≡ 0 → ds ≡ cs
unchanged none z = refl
unchanged (same e rest) z = let r = unchanged rest z in cc
unchanged (other e rest) z = absurd (omega arith)

pub no_changes : {cs ds : List Place} {n : ℕ} → Changes cs ds n → ds ≡ cs → n ≡ 0
no_changes none z = refl
no_changes (same {cs = cs} {ds = ds} e rest) z = let t : ds ≡ cs = cc in no_changes rest t
no_changes (other {c = c} {d = d} e rest) z = let h : d ≡ c = cc in absurd (e h)

-- one round more at the end
pub rounds_on : {es : List Entry} {cs ds ds' : List Place} {n : ℕ} {b : Bool} → Rounds es cs n b ds → b ≡ false → Moved es ds ds' → (ds' ≡ ds → ⊥) → Rounds es cs (suc n) false ds'
rounds_on start e m h = more m h start
rounds_on (last p q) e m h = absurd (true≢false e)
rounds_on (more p q rest) e m h = more p q (rounds_on rest e m h)

pub rounds_end : {es : List Entry} {cs ds ds' : List Place} {n : ℕ} {b : Bool} → Rounds es cs n b ds → b ≡ false → Moved es ds ds' → ds' ≡ ds → Rounds es cs (suc n) true ds'
rounds_end start e m h = last m h
rounds_end (last p q) e m h = absurd (true≢false e)
rounds_end (more p q rest) e m h = more p q (rounds_end rest e m h)
