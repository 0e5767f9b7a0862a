-- A round has exactly one outcome, and entries that hold the same have the same.
use Rattle.std.proofs.Common.{◌≡◌, ℕ, zero, suc, ◌<◌, Bool, true, false, cond, List, [], length, ℤ, pos, ◌≤ℤ◌, ◌<ℤ◌, sym, refl, ap, ◌∙◌, arith}
use borrow.Author.Differences.{ints}
use lib.IntN.{ℤ_discrete}
use lib.Signed.{lt_z}
use Rattle.std.proofs.lemmas.List.{ext_get_or}
use Rattle.numbers.specs.Sums.{mapped_from}
use Rattle.numbers.proofs.Ring.{lin}
use Rattle.numbers.proofs.Sums.{length_mapped, slice_index_mapped, mapped_same}
use Rattle.points.specs.Entries.{Entry}
use Rattle.grouping.specs.Distance.{Place, number, dist}
use Rattle.grouping.specs.Choice.{center, choose}
use Rattle.grouping.specs.Costs.{distortion}
use Rattle.grouping.specs.Moving.{renewed, move, settled_centers}
use Rattle.grouping.specs.RoundLaws.{Moves, MovesOnly, SameWeights, SameSums, SameDistortion, SameMoves, SameSettled, SameChoices}
use Rattle.grouping.specs.Rounding.{Rounded, rounded}
use Rattle.grouping.specs.Rounds.{Moved}
use Rattle.grouping.specs.Totals.{within, weight, sum}
use Rattle.grouping.proofs.Means.{rounded_is, one_mean}
use Rattle.grouping.proofs.Totaled.{weight_low}
use Rattle.grouping.proofs.Totals.{same_totals}

-- ---- the centers after a round

pub length_renewed : (w : ℤ) (s : ℕ → ℤ) (c : Place) → length (renewed w s c) ≡ length c
length_renewed w s c = by (lt_z (pos 0) w)
  where
    by : (b : Bool) → length (cond b (mapped_from (λ axis x. rounded (s axis) w) 0 c) c) ≡ length c
    by true = length_mapped (λ axis x. rounded (s axis) w) 0 c
    by false = refl

pub center_moved : (es : List Entry) (cs : List Place) (k : ℕ) → k < length cs → center (move es cs) k ≡ renewed (weight es cs k) (sum es cs k) (center cs k)
unfolding move
center_moved es cs k h = slice_index_mapped (λ j c. renewed (weight es cs j) (sum es cs j) c) [] [] k cs h

pub length_move : (es : List Entry) (cs : List Place) → length (move es cs) ≡ length cs
unfolding move
length_move es cs = length_mapped (λ k c. renewed (weight es cs k) (sum es cs k) c) 0 cs

pub moves : Moves
moves es cs =
    record {
      as_many = length_move es cs;
      as_long = λ k h. rw (center_moved es cs k h) (length_renewed (weight es cs k) (sum es cs k) (center cs k));
      stays = λ k h e. rw (center_moved es cs k h, e);
      goes = λ k h n axis l. rw (center_moved es cs k h) (at (weight es cs k) (sum es cs k) (center cs k) (weight_low cs k es) n axis l (lt_z (pos 0) (weight es cs k)) refl);
    }
  where
    at : (w : ℤ) (s : ℕ → ℤ) (c : Place) → pos 0 ≤ℤ w → (w ≡ pos 0 → ⊥) → (axis : ℕ) → axis < length c → (b : Bool) → lt_z (pos 0) w ≡ b →
        Rounded (s axis) w (number (cond b (mapped_from (λ j x. rounded (s j) w) 0 c) c) axis)
    at w s c h n axis l true e = rw (slice_index_mapped (λ j x. rounded (s j) w) (pos 0) (pos 0) axis c l) (rounded_is (s axis) w (omega (arith, ints)))
    at w s c h n axis l false e = absurd (n (omega (arith, ints)))

-- two outcomes are one
moved_once : (es : List Entry) (cs ds ds' : List Place) → Moved es cs ds → Moved es cs ds' → ds ≡ ds'
moved_once es cs ds ds' p q =
    ext_get_or [] ds ds' (p.as_many ∙ sym q.as_many) (λ k h. let l : k < length cs = omega (arith, p.as_many) in here k l (ℤ_discrete (weight es cs k) (pos 0)))
  where
    here : (k : ℕ) → k < length cs → Dec (weight es cs k ≡ pos 0) → center ds k ≡ center ds' k
    here k h (yes e) = p.stays k h e ∙ sym (q.stays k h e)
    here k h (no n) =
        let some : pos 0 <ℤ weight es cs k = omega (arith, lin, weight_low cs k es) in
        ext_get_or (pos 0) (center ds k) (center ds' k) (p.as_long k h ∙ sym (q.as_long k h)) (λ axis g.
        let l : axis < length (center cs k) = omega (arith, p.as_long k h) in
        one_mean (sum es cs k axis) (weight es cs k) (number (center ds k) axis) (number (center ds' k) axis) some (p.goes k h n axis l) (q.goes k h n axis l))

pub moves_only : MovesOnly
moves_only es cs cs' m = moved_once es cs cs' (move es cs) m (moves es cs)

-- ---- entries that hold the same

pub same_weights : SameWeights
unfolding weight
same_weights es es' h cs k = same_totals es es' h (within cs k (λ p. pos 1))

pub same_sums : SameSums
unfolding sum
same_sums es es' h cs k axis = same_totals es es' h (within cs k (λ p. number p axis))

pub same_distortion : SameDistortion
unfolding distortion
same_distortion es es' h cs = same_totals es es' h (λ p. dist p (center cs (choose cs p)))

renewed_same : (w w' : ℤ) (s s' : ℕ → ℤ) (c : Place) → w ≡ w' → ((axis : ℕ) → s axis ≡ s' axis) → renewed w s c ≡ renewed w' s' c
renewed_same w w' s s' c e h =
    ap (λ (ds : Place). cond (lt_z (pos 0) w) ds c) (mapped_same (λ axis x. rounded (s axis) w) (λ axis x. rounded (s' axis) w) (λ axis x. ap (λ (z : ℤ). rounded z w) (h axis)) 0 c)
    ∙ ap (λ (z : ℤ). renewed z s' c) e

pub same_moves : SameMoves
unfolding move
same_moves es es' h cs =
    mapped_same (λ k c. renewed (weight es cs k) (sum es cs k) c) (λ k c. renewed (weight es' cs k) (sum es' cs k) c) (λ k c. renewed_same (weight es cs k) (weight es' cs k) (sum es cs k) (sum es' cs k) c (same_weights es es' h cs k) (same_sums es es' h cs k)) 0 cs

pub same_settled : SameSettled
same_settled es es' h zero cs = refl
same_settled es es' h (suc n) cs = ap (settled_centers es n) (same_moves es es' h cs) ∙ same_settled es es' h n (move es' cs)

pub same_choices : SameChoices
same_choices cs e e' h = ap (choose cs) h
