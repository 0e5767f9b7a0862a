-- What leaders leave, and what the candidates that are left are good for.
use Rattle.std.proofs.Common.{◌≡◌, ℕ, suc, ◌<◌, ◌≤◌, Bool, true, List, [], length, get_or, take, filter, sym, refl, ap, ◌∙◌, subst, inl, inr, arith, take_all}
use Rattle.std.specs.List.{ContainsAt as Has, AllByRecursion}
use Rattle.std.proofs.ByRecursion.{All-get_or, All-from_get_or, all-has, all_kept_by, has_get_or}
use Rattle.std.proofs.lemmas.Int.{by_lt_z}
use Rattle.std.proofs.lemmas.Bool.{cases_Bool, cases_eq, eq-eqb, or_left, or_right, not_from_false}
use Rattle.numbers.proofs.Ring.{lin}
use Rattle.numbers.proofs.Sums.{length_mapped, slice_index_mapped}
use Rattle.grouping.specs.Boxes.{Inside, none, more, near}
use Rattle.grouping.specs.Choice.{Beats, center, choose}
use Rattle.grouping.specs.Distance.{Place, dist}
use Rattle.grouping.proofs.Boxes.{far_and_near, far_and_near_reached}
use Rattle.grouping.proofs.Choosing.{chosen}
use Rattle.pruning.specs.Pruning.{numbers_of, Fit, Nearer, Leader, keeps, Left, Covers, Reached, from_all, pruned, inner, PrunesNone, ReachedCovers, LeadsAll}
use Rattle.pruning.specs.Rules.{Test}
use Rattle.pruning.proofs.Lists.{has_some, has_kept, rises_kept}

pub inside_length : {los his p : Place} → Inside los his p → length p ≡ length los
inside_length none = refl
inside_length (more q r i) = ap suc (inside_length i)

-- ---- the numbers of all centers

pub numbers_has : (cs : List Place) (k : ℕ) → k < length cs → Has (numbers_of cs) k
numbers_has cs k h = subst (Has (numbers_of cs)) (slice_index_mapped (λ i c. i) [] 0 k cs h) (has_get_or (numbers_of cs) k 0 (omega (arith, length_mapped (λ i c. i) 0 cs)))

pub numbers_known : (cs : List Place) → AllByRecursion (λ k. k < length cs) (numbers_of cs)
numbers_known cs = All-from_get_or (λ k. k < length cs) (numbers_of cs) 0 (λ i l. let h : i < length cs = omega (arith, length_mapped (λ j c. j) 0 cs) in rw (slice_index_mapped (λ j c. j) [] 0 i cs h) h)

-- ---- what is left

-- a loop that went over all candidates
pub left_all : (prunes : Test) (los his : Place) (cs : List Place) (ks ls : List ℕ) (i l : ℕ) → length ks ≤ i → Leader los his cs ks l →
    ls ≡ filter (keeps prunes los his cs l) (take i ks) → Left prunes los his cs ks ls
left_all prunes los his cs ks ls i l done leads e = record { leader = l; leads = leads; left = e ∙ ap (filter (keeps prunes los his cs l)) (take_all i ks done) }

-- the candidates that are left are candidates again, and their leader is one of them
pub left_fit : (prunes : Test) (los his : Place) (cs : List Place) (ks ls : List ℕ) → Left prunes los his cs ks ls → Fit cs ks → Fit cs ls
left_fit prunes los his cs ks ls h f =
    let test : ℕ → Bool = keeps prunes los his cs h.leader in
    let itself : test h.leader ≡ true = or_left _ _ (eq-eqb h.leader h.leader refl) in
    rw h.left (record {
      some = has_some (filter test ks) h.leader (has_kept test ks h.leader itself h.leads.one_of);
      known = all_kept_by test (λ k. k < length cs) ks f.known;
      rises = rises_kept test ks f.rises;
    })

-- no center beats the one that p belongs to
unbeaten : (cs : List Place) (p : Place) (l : ℕ) → l < length cs → Beats cs p l (choose cs p) → ⊥
unbeaten cs p l ll b = elim (cases_eq l (choose cs p)) [
  | inl e ↦ let z : dist p (center cs l) ≡ dist p (center cs (choose cs p)) = ap (λ i. dist p (center cs i)) e in omega (arith, lin)
  | inr n ↦ let c = (chosen cs p (omega arith)).beats l ll n in omega (arith, lin)
]

pub prunes_none : PrunesNone
prunes_none prunes safe los his cs ks ls sized known h p r has =
    let l = h.leader in
    let k = choose cs p in
    let kl : k < length cs = all-has (λ i. i < length cs) ks k known has in
    let ll : l < length cs = all-has (λ i. i < length cs) ks l known h.leads.one_of in
    let wide : length (center cs k) ≡ length los = All-get_or (λ c. length c ≡ length los) cs k [] kl sized in
    let wide' : length (center cs l) ≡ length los = All-get_or (λ c. length c ≡ length los) cs l [] ll sized in
    let stays : keeps prunes los his cs l k ≡ true = elim (cases_Bool (prunes los his l (center cs l) k (center cs k))) [
      | inl t ↦ absurd (unbeaten cs p l ll (safe los his l (center cs l) k (center cs k) wide' wide t p r))
      | inr t ↦ or_right _ _ (not_from_false _ t)
    ] in
    rw h.left (has_kept (keeps prunes los his cs l) ks k stays has)

-- ---- the candidates that a box is reached with

pub reached_known : {cs : List Place} {los his : Place} {ks : List ℕ} → Reached cs los his ks → AllByRecursion (λ k. k < length cs) ks
reached_known {cs = cs} from_all = numbers_known cs
reached_known {cs = cs} {los = los} {his = his} (pruned {ks = ks} prunes safe left h) =
    rw left.left (all_kept_by (keeps prunes los his cs left.leader) (λ k. k < length cs) ks (reached_known h))
reached_known (inner within h) = reached_known h

-- place by place: a place of the box is one of the boxes around it
reached_has : {cs : List Place} {los his : Place} {ks : List ℕ} → Reached cs los his ks → (p : Place) → Inside los his p →
    0 < length cs → AllByRecursion (λ c. length c ≡ length p) cs → Has ks (choose cs p)
reached_has {cs = cs} from_all p r some sized = numbers_has cs (choose cs p) (chosen cs p some).one_of
reached_has {cs = cs} {los = los} {his = his} (pruned {ks = ks} {ls = ls} prunes safe left h) p r some sized =
    prunes_none prunes safe los his cs ks ls (rw (sym (inside_length r)) sized) (reached_known h) left p r (reached_has h p r some sized)
reached_has (inner within h) p r some sized = reached_has h p (within p r) some sized

pub reached_covers : ReachedCovers
reached_covers los his cs ks some sized h p r = reached_has h p r some (rw (inside_length r) sized)

-- ---- the leader of all

module _ (los his : Place) (cs : List Place) where
  -- where j is reached at p, one that beats it there is nearer to the box
  nearer_from : (k j : ℕ) (p : Place) → Inside los his p → dist p (center cs j) ≡ near los his (center cs j) → Beats cs p k j → Nearer los his cs k j
  nearer_from k j p r there b =
      let low = (far_and_near los his (center cs k) p r).0 in
      by_lt_z (near los his (center cs k)) (near los his (center cs j)) (λ less. inl less) (λ most. elim b [ inl d ↦ absurd (omega (arith, lin)) | inr d ↦ inr (omega (arith, lin, d.0), d.1) ])

  nearer_on : (l k j : ℕ) → Nearer los his cs l k → Nearer los his cs k j → Nearer los his cs l j
  nearer_on l k j (inl a) (inl b) = inl (omega (arith, lin))
  nearer_on l k j (inl a) (inr b) = inl (omega (arith, lin, b.0))
  nearer_on l k j (inr a) (inl b) = inl (omega (arith, lin, a.0))
  nearer_on l k j (inr a) (inr b) = inr (a.0 ∙ b.0, omega (arith, a.1, b.1))

  -- the leader of candidates that cover a box with a place is the nearest of all centers
  pub covers_leads : (ks : List ℕ) (l : ℕ) → Covers los his cs ks → (p : Place) → Inside los his p → AllByRecursion (λ k. k < length cs) ks → Leader los his cs ks l → Leader los his cs (numbers_of cs) l
  covers_leads ks l covers p r known leads = record { one_of = numbers_has cs l ll; nearest = λ j h n. nearest_at j (all-has (λ k. k < length cs) (numbers_of cs) j (numbers_known cs) h) n }
    where
      ll : l < length cs
      ll = all-has (λ k. k < length cs) ks l known leads.one_of

      leads_to : (k j : ℕ) → Has ks k → Nearer los his cs k j → Nearer los his cs l j
      leads_to k j h b = elim (cases_eq k l) [ inl e ↦ subst (λ i. Nearer los his cs i j) e b | inr n ↦ nearer_on l k j (leads.nearest k h n) b ]

      nearest_at : (j : ℕ) → j < length cs → (j ≡ l → ⊥) → Nearer los his cs l j
      nearest_at j jl n =
          let at = (far_and_near_reached los his (center cs j) p r).1 in
          let k = choose cs at.place in
          let has = covers at.place at.inside in
          elim (cases_eq j k) [
            | inl e ↦ leads.nearest j (subst (Has ks) (sym e) has) n
            | inr m ↦ leads_to k j has (nearer_from k j at.place at.inside at.there ((chosen cs at.place (omega arith)).beats j jl m))
          ]

pub leads_all : LeadsAll
leads_all los his cs ks l sized h p r leads =
    let known = reached_known h in
    let some : 0 < length cs = omega (arith, all-has (λ k. k < length cs) ks l known leads.one_of) in
    covers_leads los his cs ks l (reached_covers los his cs ks some sized h) p r known leads

-- ---- the center of a place

-- a candidate that beats all others at p is the one that p belongs to, if that is a candidate
pub listed_chosen : (cs : List Place) (ks : List ℕ) (p : Place) (b : ℕ) → AllByRecursion (λ k. k < length cs) ks → Has ks b →
    ((j : ℕ) → Has ks j → (j ≡ b → ⊥) → Beats cs p b j) → Has ks (choose cs p) → b ≡ choose cs p
listed_chosen cs ks p b known one beats has = elim (cases_eq (choose cs p) b) [
  | inl e ↦ sym e
  | inr n ↦ absurd (unbeaten cs p b (all-has (λ k. k < length cs) ks b known one) (beats (choose cs p) has n))
]

-- a single candidate
pub has_single : (ks : List ℕ) (k : ℕ) → length ks ≡ 1 → Has ks k → k ≡ get_or ks 0 0
has_single ks k one h = let z : h.0 ≡ 0 = omega (arith, h.1) in sym (h.2 0) ∙ ap (λ i. get_or ks i 0) z
