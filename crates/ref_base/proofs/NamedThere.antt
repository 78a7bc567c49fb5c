-- After every legal trace nothing that is named is missing: whatever a root names is there, and whatever an object
-- refers to that is there and not doomed. So as a mark begins just what is kept then is known of it.
use Rattle.ref_base.proofs.Common.{arith, ◌≡◌, ℕ, ◌*◌, ◌<◌, true, false, List, [], ◌∷◌, ◌++◌, take, Option, Some, None}
use Rattle.ref_base.proofs.Common.{is_some, refl, sym, ap, ◌∙◌, subst, inl, inr, ◌⊎◌, cases_Bool, has, false≢true}
use Rattle.ref_base.proofs.Common.{true≢false, Object, object_at, is_there, numbers, targets_at, any_referent}
use Rattle.ref_base.proofs.Common.{append-nil, if_any, World, graph_of, NamedStep, heap_step, replayed, first_world}
use Rattle.ref_base.proofs.Common.{State, first_state, heap_refusal, HeapAccepts, IsRow, IsRun, Config, Reply, Row}
use Rattle.ref_base.proofs.Common.{doomed_at, told_cycle, reference_at, registered_in, Urgency, Fault, IsKept, is_kept}
use Rattle.ref_base.proofs.Common.{Marking, Phase}
use Rattle.ref_base.specs.Refusals.{plain_refusal}
use Rattle.ref_base.proofs.AgreeHeaps.{Agreeing, gone_after}
use Rattle.ref_base.proofs.AgreeRuns.{gone_next, row_agrees, first_agrees}
use Rattle.ref_base.proofs.ApartWorlds.{IsClosed, no_slot, closed_roots}
use Rattle.ref_base.proofs.CarryRows.{all_more, nothing_pending}
use Rattle.ref_base.proofs.ClosedRows.{closed_same, heap_closed}
use Rattle.ref_base.proofs.CountedTraces.{legal_counted}
use Rattle.ref_base.proofs.HasLaws.{has-left, has-right, has-first}
use Rattle.ref_base.proofs.HeapTurns.{at_rest, IsTurn, row_turn}
use Rattle.ref_base.proofs.Lookups.{is_there-has}
use Rattle.ref_base.proofs.OffSets.{target_there}
use Rattle.ref_base.proofs.OldNames.{ended_old, old_objects}
use Rattle.ref_base.proofs.Outcomes.{IsNoEnd, outcome, heap_outcome}
use Rattle.ref_base.proofs.OutHeaps.{AreOut, doomed_in}
use Rattle.ref_base.proofs.OutRuns.{row_out}
use Rattle.ref_base.proofs.OutTraces.{first_out, there_in}
use Rattle.ref_base.proofs.ReplayKeeps.{told_keeps, numbers_pended, numbers_after}
use Rattle.ref_base.proofs.ReplayUnder.{made_number}
use Rattle.ref_base.proofs.EverWorlds.{Knows, known_kept}
use Rattle.ref_base.proofs.PathLaws.{targets_of-wider}
use Rattle.ref_base.proofs.PlainRows.{plain_row, plain_accepted}
use Rattle.ref_base.proofs.RunLaws.{one_on}
use Rattle.ref_base.proofs.RunFronts.{legal_holds, replayed_last}
use Rattle.ref_base.proofs.SeenObjects.{object_at-without}
use Rattle.ref_base.proofs.SweptLists.{numbers-shown}
use Rattle.ref_base.proofs.WaitingClears.{new_clears-there}
use Rattle.ref_base.specs.MarkEnds.{WasDoomed, MarkEnded}
use Rattle.ref_base.specs.declared.heap_step.HeapStep.TheVariants as heap
use Rattle.ref_base.specs.declared.plain_step.PlainStep.TheVariants as plain
use Rattle.ref_base.specs.declared.reply.Reply.TheVariants as replies

-- the number is of one of these objects, or is gone
abbrev pub MadeIn : List ℕ → List Object → ℕ → Type 0
MadeIn gone os n = (is_there os n ≡ true) ⊎ (has gone n ≡ true)

-- the number is of an object that is there, or is gone
abbrev pub WasMade : List ℕ → State → ℕ → Type 0
WasMade gone a = MadeIn gone a.world.heap.objects

-- whatever is named was made, and so was what the mark's end cleared
pub record NamesMade (gone : List ℕ) (a : State) : Type 0 where
  pub closed : IsClosed any_referent (WasMade gone a) a.world
  pub cleared : (n : ℕ) → has a.cleared n ≡ true → WasMade gone a n

-- ---- sets that have more

-- more is closed too, where what is there and in it was in the set
closed_more : (V W : ℕ → Type 0) (w : World) → ((n : ℕ) → V n → W n)
    → ((m : ℕ) → W m → is_there w.heap.objects m ≡ true → V m) → IsClosed any_referent V w → IsClosed any_referent W w
closed_more V W w wider old closed = grind (arith, all_more, target_there)

-- ---- which objects are there after a row

-- the step frees nothing, and ends no mark
abbrev Stays : NamedStep → Type 0
Stays (heap.Plain (plain.Sweep k)) = ⊥
Stays (heap.Plain plain.EndMark) = ⊥
Stays step = Unit {0}

-- where such a step leads, there are the objects of before, and what it makes
numbers_out : (a : State) (step : NamedStep) (reply : Reply) → Stays step
    → numbers (outcome a step reply).world.heap.objects
    ≡ numbers a.world.heap.objects ++ if_any (made_number step reply)
numbers_out a (heap.Plain (plain.Begin now how)) reply stays =
    told_keeps (λ (w : World). numbers w.heap.objects) (told_cycle reply) _ a.world (λ n. refl)
    ∙ numbers_none a.world
  where
    numbers_none : (w : World) → numbers w.heap.objects ≡ numbers w.heap.objects ++ []
    numbers_none w = sym (append-nil (numbers w.heap.objects))
numbers_out a (heap.Plain (plain.ClearNext k)) (replies.Cleared n) stays =
    numbers_pended a.world k n (registered_in (reference_at a.world.heap n))
    ∙ sym (append-nil (numbers a.world.heap.objects))
numbers_out a (heap.Plain (plain.ClearNext k)) (replies.Kept n) stays = sym (append-nil (numbers a.world.heap.objects))
numbers_out a (heap.Plain (plain.ClearNext k)) (replies.Skipped n) stays =
    sym (append-nil (numbers a.world.heap.objects))
numbers_out a (heap.Plain (plain.ClearNext k)) reply stays = sym (append-nil (numbers a.world.heap.objects))
numbers_out a (heap.Plain (plain.Sweep k)) reply stays = absurd stays
numbers_out a (heap.Plain plain.EndMark) reply stays = absurd stays
numbers_out a step reply stays = numbers_after a.world step reply

-- a row but a mark's end clears nothing more
cleared_out : (a : State) (step : NamedStep) (reply : Reply) → IsNoEnd step → (n : ℕ)
    → has (outcome a step reply).cleared n ≡ true → has a.cleared n ≡ true
cleared_out a (heap.Plain (plain.Begin now how)) reply no_end n h = absurd (false≢true h)
cleared_out a (heap.Plain plain.EndMark) reply no_end n h = absurd no_end
cleared_out a (heap.Plain (plain.ClearNext k)) (replies.Cleared m) no_end n h = h
cleared_out a (heap.Plain (plain.ClearNext k)) (replies.Kept m) no_end n h = h
cleared_out a (heap.Plain (plain.ClearNext k)) (replies.Skipped m) no_end n h = h
cleared_out a (heap.Plain (plain.ClearNext k)) reply no_end n h = h
cleared_out a (heap.Plain (plain.Sweep k)) (replies.Swept count) no_end n h = h
cleared_out a (heap.Plain (plain.Sweep k)) reply no_end n h = h
cleared_out a step reply no_end n h = h

module _ (gone : List ℕ) (a c : State) where
  -- what was made stays so
  abbrev Grows : List ℕ → Type 0
  Grows now = (n : ℕ) → WasMade gone a n → WasMade now c n

  -- where nothing is freed
  grows_stays : (step : NamedStep) (reply : Reply) → Stays step → IsNoEnd step → HeapAccepts a step reply c
      → Grows gone
  grows_stays step reply stays no_end row n (inr out) = inr out
  grows_stays step reply stays no_end row n (inl there) =
      let is : numbers c.world.heap.objects ≡ numbers a.world.heap.objects ++ if_any (made_number step reply) =
      ap (λ (s : State). numbers s.world.heap.objects) (heap_outcome a c step reply no_end row)
      ∙ numbers_out a step reply stays in
      inl
      (is_there-has c.world.heap.objects n ∙ ap (λ (ns : List ℕ). has ns n) is
      ∙ has-left (numbers a.world.heap.objects) (if_any (made_number step reply)) n
      (sym (is_there-has a.world.heap.objects n) ∙ there))

  -- a mark's end leaves the objects
  ended_numbers : (reply : Reply) → HeapAccepts a (heap.Plain plain.EndMark) reply c → (n : ℕ)
      → is_there c.world.heap.objects n ≡ is_there a.world.heap.objects n
  ended_numbers reply row n =
      is_there-has c.world.heap.objects n
      ∙ ap (λ (s : State). has (numbers s.world.heap.objects) n) row.after
      ∙ ap (λ (ns : List ℕ). has ns n) (numbers-shown a.world.heap.objects (doomed_at a))
      ∙ sym (is_there-has a.world.heap.objects n)

  -- a row of the heap leaves what was made so
  grows : (step : NamedStep) (reply : Reply) → HeapAccepts a step reply c → Grows (gone_after a gone step reply)
  grows (heap.Plain (plain.Sweep k)) (replies.Swept count) row n (inr out) =
      inr (has-left gone (take 64 a.doomed) n out)
  grows (heap.Plain (plain.Sweep k)) (replies.Swept count) row n (inl there) =
      elim (cases_Bool (has (take 64 a.doomed) n)) [
        | inl freed ↦ inr (has-right gone (take 64 a.doomed) n freed)
        | inr kept ↦
            inl
            (ap (λ (s : State). is_there s.world.heap.objects n)
            (heap_outcome a c (heap.Plain (plain.Sweep k)) (replies.Swept count) tt row)
            ∙ ap is_some (object_at-without (take 64 a.doomed) a.world.heap.objects n kept) ∙ there)
      ]
  grows (heap.Plain (plain.Sweep k)) reply row n made =
      subst (λ (os : List Object). MadeIn gone os n)
      (sym (ap (λ (s : State). s.world.heap.objects) (heap_outcome a c (heap.Plain (plain.Sweep k)) reply tt row))) made
  grows (heap.Plain plain.EndMark) reply row n (inr out) = inr out
  grows (heap.Plain plain.EndMark) reply row n (inl there) = inl (ended_numbers reply row n ∙ there)
  grows step reply row n made = grows_stays step reply tt tt row n made

  -- what is made is there
  made_there : (step : NamedStep) (reply : Reply) → HeapAccepts a step reply c → made_number step reply ≡ Some a.next
      → WasMade (gone_after a gone step reply) c a.next
  made_there (heap.Plain (plain.Sweep k)) reply row made = absurd cc
  made_there (heap.Plain plain.EndMark) reply row made = absurd cc
  made_there step reply row made =
      inl
      (is_there-has c.world.heap.objects a.next
      ∙ ap (λ (ns : List ℕ). has ns a.next)
      (ap (λ (s : State). numbers s.world.heap.objects) (heap_outcome a c step reply tt row)
      ∙ numbers_out a step reply tt
      ∙ ap (λ (m : Option ℕ). numbers a.world.heap.objects ++ if_any m) made)
      ∙ has-right (numbers a.world.heap.objects) (a.next ∷ []) a.next (has-first a.next []))

  -- each row but a mark's end names only what was made
  plain_named : (step : NamedStep) (reply : Reply) → IsNoEnd step → heap_refusal a step ≡ None
      → HeapAccepts a step reply c → NamesMade gone a → NamesMade (gone_after a gone step reply) c
  plain_named step reply no_end none row names =
      let now : List ℕ = gone_after a gone step reply in
      let more : (n : ℕ) → WasMade gone a n → WasMade now c n = grows step reply row in
      record {
        closed = heap_closed (WasMade now c) a c
            (closed_more (WasMade gone a) (WasMade now c) a.world more (λ m is there. inl there) names.closed) step
            reply no_end none (made_there step reply row) (λ clearing n h. more n (names.cleared n h)) row;
        cleared = λ n h.
            more n
            (names.cleared n
            (cleared_out a step reply no_end n
            (ap (λ (ns : List ℕ). has ns n)
            (sym (ap (λ (s : State). s.cleared) (heap_outcome a c step reply no_end row)))
            ∙ h)));
      }

  -- and so does a mark's end
  heap_named : (step : NamedStep) (reply : Reply) → heap_refusal a step ≡ None → HeapAccepts a step reply c
      → NamesMade gone a → NamesMade (gone_after a gone step reply) c
  heap_named (heap.Plain plain.EndMark) reply none row names =
      let more : (n : ℕ) → WasMade gone a n → WasMade gone c n = grows (heap.Plain plain.EndMark) reply row in
      record {
        closed = closed_more (WasMade gone a) (WasMade gone c) c.world more
            (λ m is there. inl (sym (ended_numbers reply row m) ∙ there))
            (subst (λ (s : State). IsClosed any_referent (WasMade gone a) s.world) (sym row.after)
            (ended_old (WasMade gone a) a row.found names.closed));
        cleared = λ n h.
            more n
            (inl
            (new_clears-there a.world.heap.objects (doomed_at a) n
            (ap (λ (ns : List ℕ). has ns n) (sym (ap (λ (s : State). s.cleared) row.after)) ∙ h)));
      }
  heap_named step reply none row names = plain_named step reply tt none row names

-- ---- turns

-- a state of which only hands, queues and what marking looks at are other
same_named : (gone : List ℕ) (a b : State) → at_rest b ≡ at_rest a → NamesMade gone a → NamesMade gone b
same_named gone a b same names =
    let objects : b.world.heap.objects ≡ a.world.heap.objects = ap (λ (s : State). s.world.heap.objects) same in
    record {
      closed = subst (λ (os : List Object). IsClosed any_referent (MadeIn gone os) b.world) (sym objects)
          (closed_same any_referent (WasMade gone a) a.world b.world (ap (λ (s : State). s.world.heap.slots) same)
          (ap (λ (s : State). s.world.heap.holds) same) (ap (λ (s : State). s.world.pending) same) objects
          names.closed);
      cleared = λ n h.
          subst (λ (os : List Object). MadeIn gone os n) (sym objects)
          (names.cleared n (ap (λ (ns : List ℕ). has ns n) (sym (ap (λ (s : State). s.cleared) same)) ∙ h));
    }

-- a refused step frees nothing
gone_refused : (a : State) (gone : List ℕ) (asked : Option NamedStep) (fault : Fault)
    → gone_next a gone asked (replies.Refused fault) ≡ gone
gone_refused a gone None fault = refl
gone_refused a gone (Some (heap.Plain (plain.Sweep k))) fault = refl
gone_refused a gone (Some asked) fault = refl

-- a turn at a heap names only what was made
turn_named : (gone : List ℕ) (a b : State) (asked : Option NamedStep) (reply : Reply) → IsTurn a asked reply b
    → NamesMade gone a → NamesMade (gone_next a gone asked reply) b
turn_named gone a b asked reply (inl of) names =
    let still : gone_next a gone asked reply ≡ gone =
    elim of.tells [
      | inl none ↦ ap (λ (o : Option NamedStep). gone_next a gone o reply) none
      | inr refused ↦ ap (λ (r : Reply). gone_next a gone asked r) refused.1 ∙ gone_refused a gone asked refused.0
    ] in
    subst (λ (ns : List ℕ). NamesMade ns b) (sym still) (same_named gone a b of.after names)
turn_named gone a b asked reply (inr of) names =
    subst (λ (o : Option NamedStep). NamesMade (gone_next a gone o reply) b) (sym of.asks)
    (same_named (gone_after a gone of.step reply) of.left b of.after
    (heap_named gone a of.left of.step reply of.passes of.accepts names))

-- ---- after every legal trace

-- what is known of what is gone
abbrev Known : Config → List Row → State → Type 0
Known config past a =
    (gone : List ℕ) × Agreeing gone (replayed config past) a × AreOut config past gone a × NamesMade gone a

-- at first nothing is named
first_named : (config : Config) → NamesMade [] (first_state config)
first_named config = record {
  closed = record {
    slots = no_slot (MadeIn [] []) (16 * config.mutators);
    holds = λ n held. absurd (false≢true held);
    pendings = λ k. nothing_pending (λ p. MadeIn [] [] p.object) config k;
    targets = λ m n is target. absurd (false≢true target);
  };
  cleared = λ n h. absurd (false≢true h);
}

-- after every legal trace whatever is named was made
legal_named : (config : Config) (rows : List Row) (b : State) → IsRun (first_state config) rows b
    → Known config rows b
legal_named config rows b run =
    legal_holds config (λ past a. Known config past a)
    (λ past a row b run known h.
    let counted = legal_counted config past a run in
    let now : List ℕ = gone_next a known.0 (heap_step a.world row.step) row.reply in (
      now,
      subst (λ (w : World). Agreeing now w b) (sym (replayed_last (first_world config) past row))
          (row_agrees known.0 (replayed config past) a row b known.1 counted h),
      row_out config past known.0 a row known.1 known.2 b counted h,
      turn_named known.0 a b (heap_step a.world row.step) row.reply (row_turn a row b counted h) known.3,
    ))
    ([], first_agrees config 0, first_out (WasDoomed config []) (MarkEnded config []) config 0, first_named config)
    rows b run

-- where nothing is doomed, whatever a root names is there, and whatever an object refers to that is there
pub legal_there : (config : Config) (rows : List Row) (b : State) → IsRun (first_state config) rows b
    → doomed_in b.world.phase b.doomed ≡ []
    → ((n : ℕ) → has (graph_of b.world).roots n ≡ true → is_there b.world.heap.objects n ≡ true)
    × ((m n : ℕ) → is_there b.world.heap.objects m ≡ true
    → has (targets_at any_referent b.world.heap.objects m) n ≡ true → is_there b.world.heap.objects n ≡ true)
legal_there config rows b run none = (roots, targets)
  where
    known : Known config rows b
    known = legal_named config rows b run

    gone : List ℕ
    gone = known.0

    off_gone : (n : ℕ) → has (gone ++ doomed_in b.world.phase b.doomed) n ≡ has gone n
    off_gone n = ap (λ (ns : List ℕ). has (gone ++ ns) n) none ∙ ap (λ (ns : List ℕ). has ns n) (append-nil gone)

    there : (n : ℕ) → WasMade gone b n → has (gone ++ doomed_in b.world.phase b.doomed) n ≡ false
        → is_there b.world.heap.objects n ≡ true
    there n (inl is) kept = is
    there n (inr out) kept = absurd (true≢false (sym out ∙ sym (off_gone n) ∙ kept))

    roots : (n : ℕ) → has (graph_of b.world).roots n ≡ true → is_there b.world.heap.objects n ≡ true
    roots n root =
        there n (closed_roots any_referent (WasMade gone b) b.world n known.3.closed root)
        (closed_roots any_referent (λ k. has (gone ++ doomed_in b.world.phase b.doomed) k ≡ false) b.world n
        known.2.closed root)

    targets : (m n : ℕ) → is_there b.world.heap.objects m ≡ true
        → has (targets_at any_referent b.world.heap.objects m) n ≡ true → is_there b.world.heap.objects n ≡ true
    targets m n is target =
        there n (known.3.closed.targets m n (inl is) target)
        (known.2.closed.targets m n
        (off_gone m ∙ (there_in gone (replayed config rows) b known.1.agrees m is).0) target)

-- no object has the next number yet
pub next_new : (config : Config) (rows : List Row) (a : State) → IsRun (first_state config) rows a
    → is_there a.world.heap.objects a.next ≡ false
next_new config rows a run =
    elim (cases_Bool (is_there a.world.heap.objects a.next)) [
      | inl there ↦
          let known = legal_named config rows a run in
          let less : a.next < a.next = old_objects known.0 (replayed config rows) a known.1 a.next there in
          absurd (omega (arith, less))
      | inr new ↦ new
    ]

-- as a mark begins, after every legal trace, just what is kept then is known of it
pub legal_begun : (config : Config) (rows : List Row) (a b : State) (now : ℕ) (how : Urgency) (reply : Reply)
    → IsRun (first_state config) rows a → plain_refusal a (plain.Begin now how) ≡ None
    → IsRow a (plain_row (plain.Begin now how) reply) b → Knows (IsKept b.world.policy (graph_of b.world)) b
legal_begun config rows a b now how reply run none h =
    let known = legal_named config rows a run in
    let row = plain_accepted a b (plain.Begin now how) reply none h in
    let phase : b.world.phase ≡ Marking = ap (λ (s : State). s.world.phase) row.1.1 in
    let there =
    legal_there config (rows ++ plain_row (plain.Begin now how) reply ∷ []) b
    (one_on IsRow (first_state config) rows a b (plain_row (plain.Begin now how) reply) run h)
    (ap (λ (p : Phase). doomed_in p b.doomed) phase) in
    known_kept a b now how reply (old_objects known.0 (replayed config rows) a known.1) there.0
    (λ m n is target.
    there.1 m n is
    (targets_of-wider (is_kept b.world.policy) any_referent (λ r may. refl) (object_at b.world.heap.objects m) n
    target))
    none h
