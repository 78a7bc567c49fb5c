-- The roots that a judge counts are those of the states that it stands for: what slots hold, what hands and queues
-- report, and what is pending.
use Rattle.ref_base.proofs.Common.{arith, ◌≡◌, ℕ, true, List, [], ◌∷◌, ◌++◌, map}
use Rattle.ref_base.proofs.Common.{refl, sym, ap, ◌∙◌, inl, inr, ◌⊎◌, false≢true, has, State, World, Notice, Lists}
use Rattle.ref_base.proofs.Common.{Pending, graph_of, present, pending_numbers, AreCounted, append_assoc, Heap}
use Rattle.std.specs.Prelude.{◌≤◌}
use Rattle.ref_base.specs.CountedHolds.{tally, in_hands, in_queues, reported}
use Rattle.ref_base.specs.declared.config.Config.{Config}
use Rattle.ref_base.proofs.HasLaws.{has-append}
use Rattle.ref_judge.specs.Judged.{Judged, Line, Finder, AreHands, AreLines}
use Rattle.ref_judge.specs.Spreading.{reported_by, reported_in, pending_among, judged_roots, without_found}
use Rattle.ref_judge.specs.Standing.{StandsFor, Lawful}
use Rattle.ref_judge.specs.declared.hand.Hand.{Hand}
use Rattle.ref_judge.specs.declared.profile.Profile.{Profile}
use Rattle.ref_judge.proofs.AllReported.{lawful_reported}
use Rattle.ref_judge.proofs.LegalFacts.{legal_facts}

-- ---- lists

hands_same : (hands : List Hand) (carried : List (List Notice)) → AreHands hands carried
    → in_hands carried ≡ reported_by hands
hands_same [] [] are = refl
hands_same [] (notices ∷ rest) are = absurd are
hands_same (hand ∷ hands) [] are = absurd are
hands_same (hand ∷ hands) (notices ∷ rest) are =
    ap (λ ns. ns ++ in_hands rest) are.0.0 ∙ ap (λ ns. hand.objects ++ ns) (hands_same hands rest are.1)

lines_same : (lines : List Line) (qs : List (Lists Notice)) → AreLines lines qs → in_queues qs ≡ reported_in lines
lines_same [] [] are = refl
lines_same [] (q ∷ qs) are = absurd are
lines_same (line ∷ lines) [] are = absurd are
lines_same (line ∷ lines) (q ∷ qs) are =
    ap (λ ns. ns ++ in_queues qs) are.0.stands ∙ ap (λ ns. line.stands ++ ns) (lines_same lines qs are.1)

pending_same : (ws : List Finder) → pending_numbers (map (λ (w : Finder). w.pending) ws) ≡ pending_among ws
pending_same [] = refl
pending_same (w ∷ ws) = ap (λ ns. map (λ (p : Pending). p.object) w.pending ++ ns) (pending_same ws)

pub pending_kept : (ws : List Finder) → pending_among (map without_found ws) ≡ pending_among ws
pending_kept [] = refl
pending_kept (w ∷ ws) = ap (λ ns. map (λ (p : Pending). p.object) w.pending ++ ns) (pending_kept ws)

-- ---- what is counted

has_tally : (ns : List ℕ) (n : ℕ) → has ns n ≡ true → 1 ≤ tally ns n
has_tally [] n h = absurd (false≢true h)
has_tally (m ∷ ns) n h = grind (arith, has_tally ns n)

tally_has : (ns : List ℕ) (n : ℕ) → 1 ≤ tally ns n → has ns n ≡ true
tally_has [] n some = absurd (omega (arith, some))
tally_has (m ∷ ns) n some = grind (arith, tally_has ns n)

reported_held : (w : World) (n : ℕ) → AreCounted w → has (reported w) n ≡ true → has w.heap.holds n ≡ true
reported_held w n counted h =
    let once = has_tally (reported w) n h in
    let most = counted n in
    tally_has w.heap.holds n (omega (arith, once, most))

-- what is held is reported
pub held_reported : (p : Profile) (config : Config) (a : State) → Lawful p config a → (n : ℕ)
    → has a.world.heap.holds n ≡ true → has (reported a.world) n ≡ true
held_reported p config a lawful n h =
    let once = has_tally a.world.heap.holds n h in
    let most = lawful_reported p config a lawful n in
    tally_has (reported a.world) n (omega (arith, once, most))

-- ---- the roots

module _ (j : Judged) (a : State) (stands : StandsFor j a) where
  reported_same : reported a.world
      ≡ reported_by j.hands.mutators ++ reported_by j.hands.workers ++ reported_in j.lines
  reported_same =
      ap (λ ns. ns ++ in_hands a.world.worker_hands ++ in_queues a.world.queues)
      (hands_same j.hands.mutators a.world.mutator_hands stands.mutator_hands)
      ∙ ap (λ ns. reported_by j.hands.mutators ++ ns ++ in_queues a.world.queues)
      (hands_same j.hands.workers a.world.worker_hands stands.worker_hands)
      ∙ ap (λ ns. reported_by j.hands.mutators ++ reported_by j.hands.workers ++ ns)
      (lines_same j.lines a.world.queues stands.lines)

  waiting_same : pending_numbers a.world.pending ≡ pending_among j.workers
  waiting_same = ap pending_numbers (sym stands.finders.pending) ∙ pending_same j.workers

  abbrev counted_roots : List ℕ
  counted_roots = judged_roots j.ground.heap j.hands j.lines j.workers

  roots_are : counted_roots ≡ present a.world.heap.slots ++ reported a.world ++ pending_numbers a.world.pending
  roots_are =
      let slots : List ℕ = present j.ground.heap.slots in
      let m : List ℕ = reported_by j.hands.mutators in
      let w : List ℕ = reported_by j.hands.workers in
      let l : List ℕ = reported_in j.lines in
      ap (λ ns. ns ++ l ++ pending_among j.workers) (append_assoc slots m w)
      ∙ ap (λ ns. ns ++ pending_among j.workers) (append_assoc slots (m ++ w) l)
      ∙ ap (λ ns. slots ++ ns ++ pending_among j.workers) (sym reported_same)
      ∙ ap (λ ns. slots ++ reported a.world ++ ns) (sym waiting_same)
      ∙ ap (λ (h : Heap). present h.slots ++ reported a.world ++ pending_numbers a.world.pending) stands.heap

  three : (xs ys zs : List ℕ) (n : ℕ) → has (xs ++ ys ++ zs) n ≡ true
      → (has xs n ≡ true) ⊎ ((has ys n ≡ true) ⊎ (has zs n ≡ true))
  three xs ys zs n h = grind (arith, has-append)

  of_three : (xs ys zs : List ℕ) (n : ℕ) → (has xs n ≡ true) ⊎ ((has ys n ≡ true) ⊎ (has zs n ≡ true))
      → has (xs ++ ys ++ zs) n ≡ true
  of_three xs ys zs n either = grind (arith, has-append)

  -- each root of the state is one that the judge counts
  pub root_judged : (n : ℕ) → has (graph_of a.world).roots n ≡ true → has counted_roots n ≡ true
  root_judged n root =
      let slots : List ℕ = present a.world.heap.slots in
      let pending : List ℕ = pending_numbers a.world.pending in
      ap (λ ns. has ns n) roots_are
      ∙ of_three slots (reported a.world) pending n
      (elim (three slots a.world.heap.holds pending n root) [
        | inl slot ↦ inl slot
        | inr others ↦ elim others [
          | inl held ↦ inr (inl (held_reported j.profile j.config a stands.lawful n held))
          | inr waits ↦ inr (inr waits)
        ]
      ])

  -- and back
  pub judged_root : (n : ℕ) → has counted_roots n ≡ true → has (graph_of a.world).roots n ≡ true
  judged_root n judged =
      let slots : List ℕ = present a.world.heap.slots in
      let pending : List ℕ = pending_numbers a.world.pending in
      of_three slots a.world.heap.holds pending n
      (elim (three slots (reported a.world) pending n (ap (λ ns. has ns n) (sym roots_are) ∙ judged)) [
        | inl slot ↦ inl slot
        | inr others ↦ elim others [
          | inl told ↦
              inr (inl (reported_held a.world n
              (legal_facts j.profile j.config a stands.lawful).notices.counted told))
          | inr waits ↦ inr (inr waits)
        ]
      ])
