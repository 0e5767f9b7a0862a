-- Halving: a table is cut, box after box, at the middle of what is widest, while a box has many records that differ.
use Rattle.std.specs.Prelude.{◌≡◌, ℕ, ◌+◌, ◌/◌, ◌<◌, ◌≤◌, Bool, true, false, ◌⊎◌, List, [], ◌∷◌, ◌++◌, length, ℤ, pos, ◌+ℤ◌}
use Rattle.points.specs.Entries.{Entry}
use Rattle.boxes.specs.declared.cut.Cut.{Cut}
use Rattle.boxes.specs.Regions.{boxes_after, contents, Uncut}
use Rattle.boxes.specs.Tells.{Lowest, Highest}

-- on the axis the entries begin at low, and are so wide
pub record Spread (axis : ℕ) (es : List Entry) (low : ℤ) (width : ℕ) : Type 0 where
  pub lowest : Lowest axis es low
  pub highest : Highest axis es (low +ℤ pos width)

-- there is none among so many axes on which they are wider, and no lower one on which they are as wide
pub record Widest (axes : ℕ) (es : List Entry) (axis : ℕ) (low : ℤ) (width : ℕ) : Type 0 where
  pub within : axis < axes
  pub spread : Spread axis es low width
  pub most : (k w : ℕ) (z : ℤ) → k < axes → Spread k es z w → w ≤ width
  pub first : (k w : ℕ) (z : ℤ) → k < axis → Spread k es z w → w < width

-- an uncut box with more than 16 entries that are not all at one place
pub record Halvable (axes : ℕ) (es : List Entry) (cuts : List Cut) (b : ℕ) : Type 0 where
  pub there : b < boxes_after cuts
  pub uncut : Uncut cuts b
  pub many : 16 < length (contents cuts b es)
  pub wide : (axis width : ℕ) × (low : ℤ) × (axis < axes) × (0 < width) × Spread axis (contents cuts b es) low width

-- there is none with more entries, and no lower one with as many
pub record Largest (axes : ℕ) (es : List Entry) (cuts : List Cut) (b : ℕ) : Type 0 where
  pub halvable : Halvable axes es cuts b
  pub most : (d : ℕ) → Halvable axes es cuts d → length (contents cuts d es) ≤ length (contents cuts b es)
  pub first : (d : ℕ) → d < b → Halvable axes es cuts d → length (contents cuts d es) < length (contents cuts b es)

-- the cut that halves next
pub record Halves (axes : ℕ) (es : List Entry) (cuts : List Cut) (c : Cut) : Type 0 where
  pub largest : Largest axes es cuts c.parent
  pub low : ℤ
  pub width : ℕ
  pub widest : Widest axes (contents cuts c.parent es) c.axis low width
  pub middle : c.value ≡ low +ℤ pos (width / 2 + 1)

-- so many halvings lead from the first list of cuts to the second
pub data Halvings (axes : ℕ) (es : List Entry) (cuts : List Cut) : ℕ → List Cut → Type 0 where
  none : Halvings axes es cuts 0 cuts
  more : (n : ℕ) (made : List Cut) (c : Cut) → Halvings axes es cuts n made → length made < 127 → Halves axes es made c → Halvings axes es cuts (n + 1) (made ++ c ∷ [])

-- nothing is left to halve, or all boxes are there
abbrev pub Rests : ℕ → List Entry → List Cut → Type 0
Rests axes es cuts = (length cuts ≡ 127) ⊎ ((b : ℕ) → Halvable axes es cuts b → ⊥)

-- ---- the steps of halving

-- of the boxes below i, b is the largest that can be halved, and the first of those
pub record LargestBelow (axes : ℕ) (es : List Entry) (cuts : List Cut) (i b : ℕ) : Type 0 where
  pub halvable : Halvable axes es cuts b
  pub most : (d : ℕ) → d < i → Halvable axes es cuts d → length (contents cuts d es) ≤ length (contents cuts b es)
  pub first : (d : ℕ) → d < b → Halvable axes es cuts d → length (contents cuts d es) < length (contents cuts b es)

-- the next halving was done, or none is left
abbrev pub Stepped : ℕ → List Entry → List Cut → Bool → List Cut → Type 0
Stepped axes es cuts true made = (length cuts < 127) × ((c : Cut) × Halves axes es cuts c × (made ≡ cuts ++ c ∷ []))
Stepped axes es cuts false made = Rests axes es cuts × (made ≡ cuts)
