-- Each row keeps that what is gone or doomed is out of reach, and that a mark's end has shown what it cleared.
use Rattle.ref_base.proofs.Common.{any_referent, arith, ◌≡◌, ℕ, ◌+◌, false, List, [], ◌∷◌, ◌++◌, length, Option, Some}
use Rattle.ref_base.proofs.Common.{None, refl, sym, ap, ◌∙◌, subst, inl, inr, has, World, Notice, hand_of, NamedStep}
use Rattle.ref_base.proofs.Common.{heap_step, spending, replayed, State, heap_refusal, HeapAccepts, Selects, EndsMove}
use Rattle.ref_base.proofs.Common.{IsRow, doomed_at, AreCounted, MarkEnded, WasDoomed, Config, Mutator, Phase, Idle}
use Rattle.ref_base.proofs.Common.{Marking, Clearing, Sweeping, Moving, HoldName, Step, Reply, Row, IsDead, hold_of}
use Rattle.ref_base.proofs.Outcomes.{settled, outcome, heap_outcome, IsNoEnd}
use Rattle.ref_base.proofs.PhaseLaws.{of_phase}
use Rattle.ref_base.proofs.HeapTurns.{at_rest, IsIdle, IsTurn, row_turn}
use Rattle.ref_base.proofs.ReplayKeeps.{EndsNoPhase, but_hands, FreesNone}
use Rattle.ref_base.proofs.AgreeHeaps.{Agreeing, gone_after, not_in}
use Rattle.ref_base.proofs.AgreeRuns.{gone_next}
use Rattle.ref_base.proofs.ApartWorlds.{IsClosed}
use Rattle.ref_base.proofs.ClosedRows.{closed_same}
use Rattle.ref_base.proofs.MarkShows.{RefersToDead, mark_ended, was_doomed, ended_more, doomed_more}
use Rattle.ref_base.proofs.OutHeaps.{AreOutBy, AreOut, off, doomed_in, plain_out, end_out}
use Rattle.ref_base.proofs.OutcomeParts.{outcome_phase, outcome_cycle, outcome_cleared}
use Rattle.ref_base.specs.declared.heap_step.HeapStep.TheVariants as heap
use Rattle.ref_base.specs.declared.plain_step.PlainStep.TheVariants as plain
use Rattle.ref_base.specs.declared.step.Step.TheVariants as steps
use Rattle.ref_base.specs.declared.reply.Reply.TheVariants as replies

-- ---- more that was found dead and shown, and other states that are the same

pub more_out : (Dead Later : ℕ → Type 0) (Shown Shows : ℕ → ℕ → Type 0) (gone : List ℕ) (a : State)
    → ((n : ℕ) → Dead n → Later n) → ((cycle n : ℕ) → Shown cycle n → Shows cycle n) → AreOutBy Dead Shown gone a
    → AreOutBy Later Shows gone a
more_out Dead Later Shown Shows gone a later shows out = grind arith

-- a state of which only hands, queues and what marking looks at are other
same_out : (Dead : ℕ → Type 0) (Shown : ℕ → ℕ → Type 0) (gone : List ℕ) (a b : State) → AreOutBy Dead Shown gone a
    → at_rest b ≡ at_rest a → AreOutBy Dead Shown gone b
same_out Dead Shown gone a b out same =
    let others : but_hands b.world ≡ but_hands a.world = ap (λ (s : State). s.world) same in
    let doomed : b.doomed ≡ a.doomed = ap (λ (s : State). s.doomed) same in
    let clears : b.cleared ≡ a.cleared = ap (λ (s : State). s.cleared) same in
    let phase : b.world.phase ≡ a.world.phase = ap (λ (w : World). w.phase) others in
    let offs : off gone b ≡ off gone a =
    ap (λ (p : Phase). gone ++ doomed_in p b.doomed) phase ∙ ap (λ ds. gone ++ doomed_in a.world.phase ds) doomed in
    record {
      closed = subst (λ ns. IsClosed any_referent (λ n. has ns n ≡ false) b.world) (sym offs)
          (closed_same any_referent (λ n. has (off gone a) n ≡ false) a.world b.world
          (ap (λ (w : World). w.heap.slots) others)
          (ap (λ (w : World). w.heap.holds) others) (ap (λ (w : World). w.pending) others)
          (ap (λ (w : World). w.heap.objects) others) out.closed);
      dead = λ n is_off. out.dead n (ap (λ ns. has ns n) (sym offs) ∙ is_off);
      whole = ap (λ (p : Phase). doomed_in p b.doomed) phase ∙ ap (doomed_in a.world.phase) doomed ∙ out.whole
          ∙ sym doomed;
      spared = λ clearing n cleared.
          ap (λ ns. has ns n) offs
          ∙ out.spared (sym phase ∙ clearing) n (ap (λ ns. has ns n) (sym clears) ∙ cleared);
      shown = λ clearing n cleared.
          subst (λ (k : ℕ). Shown k n) (ap (λ (w : World). w.cycle) (sym others))
          (out.shown (sym phase ∙ clearing) n (ap (λ ns. has ns n) (sym clears) ∙ cleared));
    }

-- ---- rows of a heap

spends_no_end : (w : World) (step : HoldName → NamedStep) (hand : List Notice)
    → ((hold : HoldName) → Some (step hold) ≡ Some (heap.Plain plain.EndMark) → ⊥)
    → spending w step hand ≡ Some (heap.Plain plain.EndMark) → ⊥
spends_no_end w step [] never asks = cc
spends_no_end w step (notice ∷ rest) never asks = never (hold_of w notice) asks

-- only a mark's end asks its heap for one
is_end : (w : World) (step : Step) → heap_step w step ≡ Some (heap.Plain plain.EndMark)
    → step ≡ steps.Plain plain.EndMark
is_end w (steps.Plain plain.EndMark) asks = refl
is_end w (steps.Adopt m d) asks =
    absurd (spends_no_end w (λ hold. heap.Adopt m d hold) (hand_of w (Mutator m)) (λ hold is. cc) asks)
is_end w (steps.Release who) asks =
    absurd (spends_no_end w (λ hold. heap.Release hold) (hand_of w who) (λ hold is. cc) asks)
is_end w step asks = absurd cc

module _ (Dead : ℕ → Type 0) (Shown : ℕ → ℕ → Type 0) (gone : List ℕ) (w : World) (a c : State)
    (is : Agreeing gone w a) (out : AreOutBy Dead Shown gone a) where
  -- a row that ends no phase
  calm : (step : NamedStep) (reply : Reply) → IsNoEnd step → EndsNoPhase step → heap_refusal a step ≡ None
      → HeapAccepts a step reply c → (c.world.phase ≡ a.world.phase → doomed_in c.world.phase c.doomed ≡ c.doomed)
      → AreOutBy Dead Shown (gone_after a gone step reply) c
  calm step reply no_end ends none row whole =
      let leads : settled c ≡ settled (outcome a step reply) = heap_outcome a c step reply no_end row in
      let phase : c.world.phase ≡ a.world.phase =
      ap (λ (s : State). s.world.phase) leads ∙ outcome_phase a step reply ends in
      plain_out Dead Shown gone w a c is out step reply no_end none row
      (λ clearing. (
        sym phase ∙ clearing,
        ap (λ (s : State). s.cleared) leads ∙ outcome_cleared a step reply ends,
        ap (λ (s : State). s.world.cycle) leads ∙ outcome_cycle a step reply ends,
      )) (whole phase)

  -- and one that doesn't free either
  calm_whole : (step : NamedStep) (reply : Reply) → IsNoEnd step → EndsNoPhase step → FreesNone step
      → HeapAccepts a step reply c → c.world.phase ≡ a.world.phase → doomed_in c.world.phase c.doomed ≡ c.doomed
  calm_whole step reply no_end ends frees row phase = grind arith

  -- a row that ends a phase, into one in which no reference is cleared
  turns : (step : NamedStep) (reply answer : Reply) (phase : Phase) → IsNoEnd step → heap_refusal a step ≡ None
      → HeapAccepts a step reply c → reply ≡ answer → (outcome a step answer).world.phase ≡ phase
      → (c.world.phase ≡ phase → c.world.phase ≡ Clearing → ⊥) → doomed_in phase c.doomed ≡ c.doomed
      → AreOutBy Dead Shown (gone_after a gone step reply) c
  turns step reply answer phase no_end none row is_answer into other whole =
      let leads : settled c ≡ settled (outcome a step reply) = heap_outcome a c step reply no_end row in
      let now : c.world.phase ≡ phase =
      ap (λ (s : State). s.world.phase) leads ∙ ap (λ (r : Reply). (outcome a step r).world.phase) is_answer ∙ into in
      plain_out Dead Shown gone w a c is out step reply no_end none row (λ clearing. absurd (other now clearing))
      (ap (λ (p : Phase). doomed_in p c.doomed) now ∙ whole)

  -- objects are chosen to move, or not, or their move ends, or not: nothing is doomed then
  selects : (reply : Reply) → heap_refusal a (heap.Plain plain.Select) ≡ None → Selects a reply c
      → AreOutBy Dead Shown gone c
  selects reply none (inl chosen) =
      turns (heap.Plain plain.Select) reply (replies.Selected chosen.0) Moving tt none (inl chosen) chosen.1.0 refl
      (λ into. not_in c Moving into refl) (grind arith)
  selects reply none (inr refused) = subst (λ (s : State). AreOutBy Dead Shown gone s) (sym refused.1) out

  ends_move : (reply : Reply) → heap_refusal a (heap.Plain plain.EndMove) ≡ None → EndsMove a reply c
      → AreOutBy Dead Shown gone c
  ends_move reply none (inl ended) =
      turns (heap.Plain plain.EndMove) reply replies.Done Idle tt none (inl ended) ended.0 refl
      (λ into. not_in c Idle into refl) (grind arith)
  ends_move reply none (inr refused) = subst (λ (s : State). AreOutBy Dead Shown gone s) (sym refused.1) out

  -- a row that isn't a mark's end
  pub heap_out : (asked : NamedStep) (reply : Reply) → IsNoEnd asked → heap_refusal a asked ≡ None
      → HeapAccepts a asked reply c → AreOutBy Dead Shown (gone_after a gone asked reply) c
  heap_out (heap.Plain (plain.Begin now how)) reply no_end none row =
      turns (heap.Plain (plain.Begin now how)) reply (replies.Cycle (a.world.cycle + 1)) Marking tt none row row.0 refl
      (λ into. not_in c Marking into refl)
      (sym (ap (λ (s : State). s.doomed) (heap_outcome a c (heap.Plain (plain.Begin now how)) reply tt row)))
  heap_out (heap.Plain plain.EndMark) reply no_end none row = absurd no_end
  heap_out (heap.Plain plain.EndClear) reply no_end none row =
      turns (heap.Plain plain.EndClear) reply replies.Done Sweeping tt none row row.0 refl
      (λ into. not_in c Sweeping into refl) refl
  heap_out (heap.Plain plain.EndSweep) reply no_end none row =
      turns (heap.Plain plain.EndSweep) reply replies.Done Idle tt none row row.0 refl (λ into. not_in c Idle into refl)
      (sym (ap (λ (s : State). s.doomed) (heap_outcome a c (heap.Plain plain.EndSweep) reply tt row)
      ∙ (of_phase a (heap.Plain plain.EndSweep) none).1))
  heap_out (heap.Plain plain.Select) reply no_end none row = selects reply none row
  heap_out (heap.Plain plain.EndMove) reply no_end none row = ends_move reply none row
  heap_out (heap.Plain (plain.Sweep k)) reply no_end none row =
      let sweeping : a.world.phase ≡ Sweeping = of_phase a (heap.Plain (plain.Sweep k)) none in
      calm (heap.Plain (plain.Sweep k)) reply tt tt none row
      (λ phase. ap (λ (p : Phase). doomed_in p c.doomed) (phase ∙ sweeping))
  heap_out asked reply no_end none row = calm asked reply tt tt none row (calm_whole asked reply tt tt tt row)

-- ---- turns

pub idle_gone : (gone : List ℕ) (a b : State) (asked : Option NamedStep) (reply : Reply) → IsIdle a asked reply b
    → gone_next a gone asked reply ≡ gone
idle_gone gone a b asked reply of = grind arith

-- after a turn more may be found dead and shown, and at a mark's end what that found and showed
module _ (Dead Later : ℕ → Type 0) (Shown Shows : ℕ → ℕ → Type 0) (gone : List ℕ) (w : World) (a : State)
    (asked : Option NamedStep) (reply : Reply) (is : Agreeing gone w a) (out : AreOutBy Dead Shown gone a)
    (later : (n : ℕ) → Dead n → Later n) (shows : (cycle n : ℕ) → Shown cycle n → Shows cycle n)
    (ends : (count : ℕ) → asked ≡ Some (heap.Plain plain.EndMark) → reply ≡ replies.Doomed count
    → ((n : ℕ) → IsDead w n → Later n) × ((n : ℕ) → RefersToDead w n → Shows w.cycle n)) where
  taken : (c : State) (step : NamedStep) → asked ≡ Some step → heap_refusal a step ≡ None
      → HeapAccepts a step reply c → AreOutBy Later Shows (gone_after a gone step reply) c
  taken c (heap.Plain plain.EndMark) asks none row =
      let told = ends (length (doomed_at a)) asks row.answer in
      end_out Dead Shown gone w a c is out Later Shows reply later told.0 told.1
      (of_phase a (heap.Plain plain.EndMark) none) row
  taken c step asks none row = search (more_out, heap_out)

  pub turn_out : (b : State) → IsTurn a asked reply b → AreOutBy Later Shows (gone_next a gone asked reply) b
  turn_out b turn =
      elim turn [
        | inl of ↦
            subst (λ (ns : List ℕ). AreOutBy Later Shows ns b) (sym (idle_gone gone a b asked reply of))
            (same_out Later Shows gone a b (more_out Dead Later Shown Shows gone a later shows out) of.after)
        | inr of ↦
            subst (λ (o : Option NamedStep). AreOutBy Later Shows (gone_next a gone o reply) b) (sym of.asks)
            (same_out Later Shows (gone_after a gone of.step reply) of.left b
            (taken of.left of.step of.asks of.passes of.accepts) of.after)
      ]

-- of what the rows of a trace tell
pub row_out : (config : Config) (past : List Row) (gone : List ℕ) (a : State) (row : Row)
    → Agreeing gone (replayed config past) a → AreOut config past gone a → (b : State) → AreCounted a.world
    → IsRow a row b → AreOut config (past ++ row ∷ []) (gone_next a gone (heap_step a.world row.step) row.reply) b
row_out config past gone a row is out b counted h =
    let asked : Option NamedStep = heap_step a.world row.step in
    let same : (count : ℕ) → asked ≡ Some (heap.Plain plain.EndMark) → row.reply ≡ replies.Doomed count
    → record { step = steps.Plain plain.EndMark; reply = replies.Doomed count } ≡ row =
    λ count asks told.
    sym (ap (λ (s : Step). record row { step = s }) (is_end a.world row.step asks)
    ∙ ap (λ (r : Reply). record { step = steps.Plain plain.EndMark; reply = r }) told) in
    turn_out (WasDoomed config past) (WasDoomed config (past ++ row ∷ [])) (MarkEnded config past)
    (MarkEnded config (past ++ row ∷ [])) gone (replayed config past) a asked row.reply is out
    (doomed_more config past (row ∷ [])) (ended_more config past (row ∷ []))
    (λ count asks told. (
      λ n dead.
          subst (λ (r : Row). WasDoomed config (past ++ r ∷ []) n) (same count asks told)
          (was_doomed config past count n dead),
      λ n refers.
          subst (λ (r : Row). MarkEnded config (past ++ r ∷ []) (replayed config past).cycle n) (same count asks told)
          (mark_ended config past count n refers),
    )) b (row_turn a row b counted h)
