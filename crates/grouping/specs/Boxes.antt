-- Boxes of places, and which of two centers is nearer to all of a box.
use Rattle.std.specs.Prelude.{◌≡◌, ℕ, cond, List, [], ◌∷◌, length, ℤ, pos, ◌+ℤ◌, ◌-ℤ◌, ◌*ℤ◌, ◌≤ℤ◌, ◌<ℤ◌, int_lt}
use Rattle.grouping.specs.Distance.{Place, dist}
use Rattle.grouping.specs.Choice.{center, Beats}

-- a place of the box with the lowest numbers los and the highest numbers his
pub data Inside : Place → Place → Place → Type 0 where
  none : Inside [] [] []
  more : {lo hi x : ℤ} {los his xs : List ℤ} → lo ≤ℤ x → x ≤ℤ hi → Inside los his xs → Inside (lo ∷ los) (hi ∷ his) (x ∷ xs)

-- the corner of the box that is best for the candidate against the leader: on each axis the end that lies on the candidate's side
abbrev pub corner : Place → Place → Place → Place → Place
corner [] his leader candidate = []
corner (lo ∷ los) [] leader candidate = []
corner (lo ∷ los) (hi ∷ his) [] candidate = []
corner (lo ∷ los) (hi ∷ his) (l ∷ leader) [] = []
corner (lo ∷ los) (hi ∷ his) (l ∷ leader) (c ∷ candidate) = cond (int_lt l c) hi lo ∷ corner los his leader candidate

-- a squared difference
abbrev pub apart : ℤ → ℤ → ℤ
apart x y = (x -ℤ y) *ℤ (x -ℤ y)

-- the greatest squared distance of a place of the box to c
abbrev pub far : Place → Place → Place → ℤ
far [] his c = pos 0
far (lo ∷ los) [] c = pos 0
far (lo ∷ los) (hi ∷ his) [] = pos 0
far (lo ∷ los) (hi ∷ his) (y ∷ c) = cond (int_lt (apart hi y) (apart lo y)) (apart lo y) (apart hi y) +ℤ far los his c

-- the least
abbrev pub near : Place → Place → Place → ℤ
near [] his c = pos 0
near (lo ∷ los) [] c = pos 0
near (lo ∷ los) (hi ∷ his) [] = pos 0
near (lo ∷ los) (hi ∷ his) (y ∷ c) = cond (int_lt y lo) (apart lo y) (cond (int_lt hi y) (apart hi y) (pos 0)) +ℤ near los his c

-- a leader that beats a candidate at this corner beats it at every place of the box
abbrev pub CornerDecides : Type 0
CornerDecides = (los his : Place) (cs : List Place) (leader candidate : ℕ) →
    length (center cs leader) ≡ length los → length (center cs candidate) ≡ length los →
    Beats cs (corner los his (center cs leader) (center cs candidate)) leader candidate →
    (p : Place) → Inside los his p → Beats cs p leader candidate

-- a leader whose greatest squared distance is below the candidate's least is nearer to every place of the box
abbrev pub FarBelowNear : Type 0
FarBelowNear = (los his leader candidate : Place) → far los his leader <ℤ near los his candidate →
    (p : Place) → Inside los his p → dist p leader <ℤ dist p candidate

-- no place of the box is farther than the greatest squared distance, or nearer than the least
abbrev pub FarAndNear : Type 0
FarAndNear = (los his c p : Place) → Inside los his p → (near los his c ≤ℤ dist p c) × (dist p c ≤ℤ far los his c)

-- a place of the box is at the squared distance d of c
pub record Reached (los his c : Place) (d : ℤ) : Type 0 where
  pub place : Place
  pub inside : Inside los his place
  pub there : dist place c ≡ d

-- and a box that has a place has one at each of the two
abbrev pub FarAndNearReached : Type 0
FarAndNearReached = (los his c p : Place) → Inside los his p → Reached los his c (far los his c) × Reached los his c (near los his c)
