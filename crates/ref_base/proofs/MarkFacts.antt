-- In a mark all that was scanned, and all that was made since it began, was ever kept. So a mark may end exactly where
-- no root is doomed and no kept edge leads into the doomed from outside.
use Rattle.ref_base.proofs.Common.{arith, ◌≡◌, ℕ, true, false, nat_lt, List, [], ◌∷◌, ◌++◌, refl, sym, ap, ◌∙◌, subst}
use Rattle.ref_base.proofs.Common.{inl, inr, ◌⊎◌, has, slice_set, zero, suc, ◌==◌, or_cases, eqb-true, false≢true}
use Rattle.ref_base.proofs.Common.{cases_Bool, Object, is_there, numbers, joined, list_at, State, Marking, graph_of}
use Rattle.ref_base.proofs.Common.{EverKept, MayDoom, doomed_at, NamedStep, HeapAccepts, Reply, ticked, ◌<◌, ◌+◌}
use Rattle.ref_base.proofs.Common.{Urgency, Scans, true≢false, with_heap, made, is_in}
use Rattle.ref_base.specs.DoomedSets.{unscanned}
use Rattle.ref_base.proofs.HasLaws.{has-cases, has-left, has-right}
use Rattle.ref_base.proofs.Lookups.{is_there-has}
use Rattle.ref_base.proofs.DoomExact.{OffRoots, OffEdges, OthersEver, doom_from}
use Rattle.ref_base.proofs.EverRows.{IsEver, InMark, WithNext, needs_none, leads_out}
use Rattle.std.proofs.lemmas.Bool.{lt-ltb}
use Rattle.ref_base.proofs.FoundLists.{joined-emptied}
use Rattle.ref_base.specs.CollectorRows.{Makes}
use Rattle.ref_base.specs.declared.reply.Reply.TheVariants as replies
use Rattle.ref_base.proofs.Bases.{base, heap_base, lead_of}
use Rattle.ref_base.proofs.Outcomes.{outcome}
use Rattle.ref_base.proofs.ReplayKeeps.{numbers_same}
use Rattle.ref_base.specs.declared.heap_step.HeapStep.TheVariants as heap
use Rattle.ref_base.specs.declared.plain_step.PlainStep.TheVariants as plain

-- what isn't among the unscanned is scanned or young
not_unscanned : (os : List Object) (born : ℕ) (scanned : List ℕ) (n : ℕ) → is_there os n ≡ true
    → has (unscanned os born scanned) n ≡ false → (nat_lt n born ≡ false) ⊎ (has scanned n ≡ true)
not_unscanned [] born scanned n there out = absurd (false≢true there)
not_unscanned (o ∷ os) born scanned n there out = grind (arith, not_unscanned os born scanned n)

-- the set has all that was scanned, and all that was made since the mark began
pub record HasSeen (V : ℕ → Type 0) (a : State) : Type 0 where
  pub scanned : (n : ℕ) → has (joined a.scanned) n ≡ true → V n
  pub young : (n : ℕ) → is_there a.world.heap.objects n ≡ true → nat_lt n a.born ≡ false → V n

module _ (V : ℕ → Type 0) (a : State) (ever : IsEver V a) (seen : HasSeen V a) where
  -- each object outside what a mark's end dooms was ever kept
  others : OthersEver a.world.policy (graph_of a.world) a.moments (doomed_at a)
  others n there out =
      elim (not_unscanned a.world.heap.objects a.born (joined a.scanned) n there out) [
        | inl young ↦ ever.sound n (seen.young n there young)
        | inr scanned ↦ ever.sound n (seen.scanned n scanned)
      ]

  -- where no root is doomed and no kept edge leads in from outside, the mark may end
  pub ends_where : OffRoots (graph_of a.world) (doomed_at a)
      → OffEdges a.world.policy (graph_of a.world) (doomed_at a)
      → MayDoom a.world.policy (graph_of a.world) a.moments (doomed_at a)
  ends_where roots edges = doom_from a.world.policy (graph_of a.world) a.moments (doomed_at a) roots edges others

-- ---- a scan adds what was ever kept

-- what was scanned after a scan was scanned before it, or is the one
scanned_one : (lists : List (List ℕ)) (k n m : ℕ)
    → has (joined (slice_set lists k (list_at lists k ++ n ∷ []))) m ≡ true
    → (n ≡ m) ⊎ (has (joined lists) m ≡ true)
scanned_one [] k n m h = inr h
scanned_one (ns ∷ rest) zero n m h =
    elim (has-cases (ns ++ n ∷ []) (joined rest) m h) [
      | inl here ↦
          elim (has-cases ns (n ∷ []) m here) [
            | inl old ↦ inr (has-left ns (joined rest) m old)
            | inr new ↦
                elim (or_cases (n == m) false new) [
                  | inl same ↦ inl (eqb-true n m same)
                  | inr none ↦ absurd (false≢true none)
                ]
          ]
      | inr later ↦ inr (has-right ns (joined rest) m later)
    ]
scanned_one (ns ∷ rest) (suc k) n m h =
    elim (has-cases ns (joined (slice_set rest k (list_at rest k ++ n ∷ []))) m h) [
      | inl here ↦ inr (has-left ns (joined rest) m here)
      | inr later ↦
          elim (scanned_one rest k n m later) [
            | inl same ↦ inl same
            | inr old ↦ inr (has-right ns (joined rest) m old)
          ]
    ]

-- where the scanned become these, of an object that was left
scan_seen : (V : ℕ → Type 0) (a : State) (k n : ℕ) → IsEver V a → HasSeen V a
    → EverKept a.world.policy a.moments n
    → (m : ℕ) → has (joined (slice_set a.scanned k (list_at a.scanned k ++ n ∷ []))) m ≡ true → V m
scan_seen V a k n ever seen kept m h =
    elim (scanned_one a.scanned k n m h) [
      | inl same ↦ subst V same (ever.complete n kept)
      | inr old ↦ seen.scanned m old
    ]

-- ---- rows

-- what was scanned, when the mark began, and which objects are there
abbrev pub SameMark : State → State → Type 0
SameMark a b =
    (b.scanned ≡ a.scanned) × (b.born ≡ a.born) × (numbers b.world.heap.objects ≡ numbers a.world.heap.objects)

-- where all three are as they were, a set that has what was seen has it still
pub seen_same : (V : ℕ → Type 0) (a b : State) → SameMark a b → HasSeen V a → HasSeen V b
seen_same V a b same seen = record {
  scanned = λ n h. seen.scanned n (subst (λ (ss : List (List ℕ)). has (joined ss) n ≡ true) same.0 h);
  young = λ n there young.
      seen.young n
      (is_there-has a.world.heap.objects n ∙ ap (λ (ns : List ℕ). has ns n) (sym same.2)
      ∙ sym (is_there-has b.world.heap.objects n) ∙ there)
      (ap (λ (born : ℕ). nat_lt n born) (sym same.1) ∙ young);
}

-- the step may come in a mark, and scans nothing and makes nothing
abbrev pub SeesNone : NamedStep → Type 0
SeesNone (heap.Plain (plain.New m d k)) = ⊥
SeesNone (heap.Plain (plain.Refer m strength d s q k)) = ⊥
SeesNone (heap.Plain (plain.Scan k)) = ⊥
SeesNone step = InMark step

-- a step that scans and makes nothing may come in a mark
sees_inside : (step : NamedStep) → SeesNone step → InMark step
sees_inside (heap.Plain (plain.New m d k)) none = absurd none
sees_inside (heap.Plain (plain.Refer m strength d s q k)) none = absurd none
sees_inside (heap.Plain (plain.Scan k)) none = absurd none
sees_inside step none = none

-- where such a step leads, all three are as before
out_same : (a : State) (step : NamedStep) (reply : Reply) → SeesNone step → SameMark a (outcome a step reply)
out_same a (heap.Plain (plain.New m d k)) reply none = absurd none
out_same a (heap.Plain (plain.Refer m strength d s q k)) reply none = absurd none
out_same a (heap.Plain (plain.Begin now how)) reply none = absurd none
out_same a (heap.Plain (plain.Scan k)) reply none = absurd none
out_same a (heap.Plain plain.EndMark) reply none = absurd none
out_same a (heap.Plain (plain.ClearNext k)) reply none = absurd none
out_same a (heap.Plain plain.EndClear) reply none = absurd none
out_same a (heap.Plain (plain.Sweep k)) reply none = absurd none
out_same a (heap.Plain plain.EndSweep) reply none = absurd none
out_same a (heap.Plain plain.Select) reply none = absurd none
out_same a (heap.Plain (plain.MoveNext k)) reply none = absurd none
out_same a (heap.Plain plain.EndMove) reply none = absurd none
out_same a step reply none = (refl, refl, numbers_same a.world step reply tt)

-- and a moment more leaves them
pub ticked_same : (c : State) → SameMark c (ticked c)
ticked_same c =
    elim (cases_Bool (is_in c.world.phase Marking)) [
      | inl marks ↦ simp marks (refl, refl, refl)
      | inr other ↦ simp other (refl, refl, refl)
    ]

-- over two changes they are as before, where they are over each
pub same_twice : (a b c : State) → SameMark a b → SameMark b c → SameMark a c
same_twice a b c first second = (second.0 ∙ first.0, second.1 ∙ first.1, second.2 ∙ first.2)

-- a row of a mark that scans nothing and makes nothing keeps it
pub seen_row : (V : ℕ → Type 0) (a b : State) (step : NamedStep) (reply : Reply) → SeesNone step
    → HeapAccepts a step reply b → HasSeen V a → HasSeen V b
seen_row V a b step reply none row seen =
    elim (heap_base a b step reply (needs_none a step (sees_inside step none)) row) [
      | inl tells ↦ by_base tells.1
      | inr refused ↦ subst (HasSeen V) (sym refused.1) seen
    ]
  where
    by_base : base b ≡ base (ticked (lead_of a step reply)) → HasSeen V b
    by_base is =
        let out : State = outcome a step reply in
        let to : base b ≡ base (ticked out) =
        is ∙ ap (λ (s : State). base (ticked s)) (leads_out a step reply (sees_inside step none)) in
        let like : SameMark (ticked out) b = (
          ap (λ (s : State). s.scanned) to,
          ap (λ (s : State). s.born) to,
          ap (λ (s : State). numbers s.world.heap.objects) to,
        ) in
        seen_same V a b
        (same_twice a (ticked out) b
        (same_twice a out (ticked out) (out_same a step reply none) (ticked_same out)) like) seen

-- a set that has more has it too, as the one that a get leaves
pub seen_more : (V more : ℕ → Type 0) (a : State) → ((n : ℕ) → V n → more n) → HasSeen V a → HasSeen more a
seen_more V more a wider seen = record {
  scanned = λ n h. wider n (seen.scanned n h);
  young = λ n there young. wider n (seen.young n there young);
}

-- a scan keeps it, since what it scans was ever kept
pub seen_scan : (V : ℕ → Type 0) (a b : State) (k : ℕ) (reply : Reply) → IsEver V a → HasSeen V a
    → HeapAccepts a (heap.Plain (plain.Scan k)) reply b → HasSeen V b
seen_scan V a b k reply ever seen row = of_reply reply row
  where
    of_reply : (reply : Reply) → Scans a k reply b → HasSeen V b
    of_reply (replies.Scanned n) row =
        let c : State = record a { scanned = slice_set a.scanned k (list_at a.scanned k ++ n ∷ []) } in
        let now : HasSeen V c = record { scanned = scan_seen V a k n ever seen row.1.0; young = seen.young } in
        let same : SameMark (ticked c) b = (
          ap (λ (s : State). s.scanned) row.2.1,
          ap (λ (s : State). s.born) row.2.1,
          ap (λ (s : State). numbers s.world.heap.objects) row.2.1,
        ) in
        seen_same V c b (same_twice c (ticked c) b (ticked_same c) same) now
    of_reply reply row =
        seen_same V a b
        (subst (SameMark a) (sym row.1.1) (ticked_same a)) seen

-- a making keeps it, of the set with the new object
pub seen_made : (V : ℕ → Type 0) (a b : State) (m d : ℕ) (o : Object) (reply : Reply) → o.no ≡ a.next
    → Makes a m d o reply b → HasSeen V a → HasSeen (WithNext V a) b
seen_made V a b m d o reply number row seen =
    let c : State = record a { world = with_heap a.world (made a.world.heap m d o); next = a.next + 1 } in
    seen_same (WithNext V a) c b (subst (SameMark c) (sym row.1) (ticked_same c)) (record {
      scanned = λ n h. inl (seen.scanned n h);
      young = λ n there young. elim (pushed a.world.heap.objects o n there) [
        | inl old ↦ inl (seen.young n old young)
        | inr same ↦ inr (sym same ∙ number)
      ];
    })
  where
    -- what is there after one more was there before, or is that one
    pushed : (os : List Object) (o : Object) (n : ℕ) → is_there (os ++ o ∷ []) n ≡ true
        → (is_there os n ≡ true) ⊎ (o.no ≡ n)
    pushed [] o n there = grind arith
    pushed (p ∷ os) o n there = grind (arith, pushed os o n)

-- as a mark begins nothing is scanned, and nothing is young: each number that is there is below the next
pub seen_begun : (V : ℕ → Type 0) (a b : State) (now : ℕ) (how : Urgency) (reply : Reply)
    → ((n : ℕ) → is_there a.world.heap.objects n ≡ true → n < a.next)
    → HeapAccepts a (heap.Plain (plain.Begin now how)) reply b → HasSeen V b
seen_begun V a b now how reply below row = record {
  scanned = λ n h.
      absurd (false≢true (sym (ap (λ (ns : List ℕ). has ns n) (joined-emptied a.scanned))
      ∙ subst (λ (ss : List (List ℕ)). has (joined ss) n ≡ true) (ap (λ (s : State). s.scanned) row.1.1) h));
  young = λ n there young.
      let less : n < a.next =
      below n
      (subst (λ (os : List Object). is_there os n ≡ true) (ap (λ (s : State). s.world.heap.objects) row.1.1) there)
      in
      let old : nat_lt n b.born ≡ true =
      ap (λ (born : ℕ). nat_lt n born) (ap (λ (s : State). s.born) row.1.1) ∙ lt-ltb n a.next less in
      absurd (true≢false (sym old ∙ young));
}
