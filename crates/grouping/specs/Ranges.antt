-- Places of one length, and numbers of 16 bits.
use Rattle.std.specs.Prelude.{◌≡◌, ℕ, ◌≤◌, List, length, ℤ, pos, negsuc, ◌≤ℤ◌}
use Rattle.std.specs.List.{AllByRecursion}
use Rattle.points.specs.Entries.{Entry}
use Rattle.grouping.specs.Distance.{Place}

-- every place has so many numbers
pub record Sized (axes : ℕ) (es : List Entry) (cs : List Place) : Type 0 where
  pub held : AllByRecursion (λ e. length e.place ≡ axes) es
  pub centers : AllByRecursion (λ c. length c ≡ axes) cs

-- from -32,768 to 32,767
abbrev pub InRange : ℤ → Type 0
InRange x = (negsuc 32767 ≤ℤ x) × (x ≤ℤ pos 32767)

-- so many numbers, all of them in that range
abbrev pub Fits : ℕ → Place → Type 0
Fits axes p = (length p ≡ axes) × AllByRecursion InRange p

-- every place fits
pub record Fitting (axes : ℕ) (es : List Entry) (cs : List Place) : Type 0 where
  pub held : AllByRecursion (λ e. Fits axes e.place) es
  pub centers : AllByRecursion (Fits axes) cs

-- within the limits of a recording: no more entries, none held more often, and places of at most four numbers that fit
pub record Limited (axes : ℕ) (es : List Entry) : Type 0 where
  pub short : axes ≤ 4
  pub few : length es ≤ 4096
  pub held : AllByRecursion (λ e. e.hold ≤ 65535) es
  pub fit : AllByRecursion (λ e. Fits axes e.place) es
