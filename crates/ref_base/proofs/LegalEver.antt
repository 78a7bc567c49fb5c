-- In every mark of a legal trace what was ever kept is closed, and has all that was scanned and made in it.
use Rattle.ref_base.proofs.Common.{◌≡◌, ℕ, ◌+◌, ◌*◌, true, nat_lt, List, [], ◌∷◌, ◌++◌, length, Option, Some, None}
use Rattle.ref_base.proofs.Common.{refl, sym, ap, ◌∙◌, subst, inl, inr, ◌⊎◌, and_parts, has, object_at, is_there}
use Rattle.ref_base.proofs.Common.{targets_at, any_referent, Allowed, slot_at, has_slot, World, graph_of, NamedStep}
use Rattle.ref_base.proofs.Common.{heap_step, State, first_state, heap_refusal, HeapAccepts, IsRow, IsRun, refusal}
use Rattle.ref_base.proofs.Common.{referent_got, reference_of, Config, Fault, Phase, Idle, Marking, Clearing, Sweeping}
use Rattle.ref_base.proofs.Common.{Moving, Reply, Row, Step, Urgency, EverKept, is_kept, present, pending_numbers}
use Rattle.ref_base.proofs.Common.{HoldName, Notice, spending, hold_of, hand_of, Mutator, doomed_at}
use Rattle.ref_base.specs.Refusals.{plain_refusal}
use Rattle.ref_base.specs.declared.plain_step.PlainStep.{PlainStep}
use Rattle.ref_base.proofs.ApartWorlds.{IsClosed, OfValue}
use Rattle.ref_base.proofs.CarryRows.{all_more}
use Rattle.ref_base.proofs.CountedTraces.{legal_counted}
use Rattle.ref_base.proofs.EverRows.{WithNext}
use Rattle.ref_base.proofs.EverWorlds.{Knows, known_row, known_refused, known_got, known_new, known_refer}
use Rattle.ref_base.proofs.GotPaths.{known_led}
use Rattle.ref_base.proofs.HasLaws.{has-left}
use Rattle.ref_base.proofs.HeapTurns.{IsTurn, row_turn}
use Rattle.ref_base.proofs.LegalMarks.{legal_whole, slot_within}
use Rattle.ref_base.proofs.Lookups.{has-present_at}
use Rattle.ref_base.proofs.MarkFacts.{seen_more, ends_where}
use Rattle.ref_base.proofs.DoomExact.{OffRoots, OffEdges, doom_parts}
use Rattle.ref_base.proofs.MarkEndRows.{MayEnd}
use Rattle.ref_base.proofs.NamedThere.{legal_there, legal_begun, next_new}
use Rattle.ref_base.proofs.ObjectTargets.{got_target}
use Rattle.ref_base.proofs.Outcomes.{heap_outcome}
use Rattle.ref_base.proofs.OutcomeParts.{outcome_phase}
use Rattle.ref_base.proofs.OutHeaps.{doomed_in}
use Rattle.ref_base.proofs.PathLaws.{targets_of-wider}
use Rattle.ref_base.proofs.PhaseLaws.{of_phase}
use Rattle.ref_base.proofs.PlainRows.{plain_row, plain_accepted}
use Rattle.ref_base.proofs.RowForms.{unless_passes}
use Rattle.ref_base.proofs.RunFronts.{legal_holds}
use Rattle.ref_base.specs.declared.heap_step.HeapStep.TheVariants as heap
use Rattle.ref_base.specs.declared.plain_step.PlainStep.TheVariants as plain
use Rattle.ref_base.specs.declared.step.Step.TheVariants as steps

-- what was ever kept is known
abbrev pub KnowsEver : State → Type 0
KnowsEver a = Knows (EverKept a.world.policy a.moments) a

-- a set with just what a closed set has is closed
closed_as : (allow : Allowed) (V W : ℕ → Type 0) (w : World) → ((n : ℕ) → V n → W n) → ((n : ℕ) → W n → V n)
    → IsClosed allow V w → IsClosed allow W w
closed_as allow V W w forth back closed = record {
  slots = λ i. of_value _ (closed.slots i);
  holds = λ n held. forth n (closed.holds n held);
  pendings = λ k. all_more (λ p. V p.object) (λ p. W p.object) _ (λ p is. forth p.object is) (closed.pendings k);
  targets = λ m n is target. forth n (closed.targets m n (back m is) target);
}
  where
    of_value : (value : Option ℕ) → OfValue V value → OfValue W value
    of_value None is = tt
    of_value (Some n) is = forth n is

-- where a set is known, what was ever kept is
as_ever : (V : ℕ → Type 0) (a : State) → Knows V a → KnowsEver a
as_ever V a knows = (
  record {
    sound = λ n is. is;
    complete = λ n is. is;
    closed = closed_as (is_kept a.world.policy) V (EverKept a.world.policy a.moments) a.world knows.0.sound
        knows.0.complete knows.0.closed;
  },
  seen_more V (EverKept a.world.policy a.moments) a knows.0.sound knows.1,
)

-- a mark is no other phase
no_idle : Idle ≡ Marking → ⊥
no_idle is = absurd cc

no_clearing : Clearing ≡ Marking → ⊥
no_clearing is = absurd cc

no_sweeping : Sweeping ≡ Marking → ⊥
no_sweeping is = absurd cc

no_moving : Moving ≡ Marking → ⊥
no_moving is = absurd cc

-- ---- a row in a mark

module _ (config : Config) (past : List Row) (a b : State) (run : IsRun (first_state config) past a)
    (marks : a.world.phase ≡ Marking) (knows : KnowsEver a) where
  -- what was ever kept before the row
  abbrev Ever : ℕ → Type 0
  Ever = EverKept a.world.policy a.moments

  -- there are all slots
  whole : length a.world.heap.slots ≡ 16 * a.world.heap.config.mutators
  whole = (legal_whole config past a run).1

  -- and nothing that is named is missing
  all_there : ((n : ℕ) → has (graph_of a.world).roots n ≡ true → is_there a.world.heap.objects n ≡ true)
      × ((m n : ℕ) → is_there a.world.heap.objects m ≡ true
      → has (targets_at any_referent a.world.heap.objects m) n ≡ true → is_there a.world.heap.objects n ≡ true)
  all_there = legal_there config past a run (ap (λ (p : Phase). doomed_in p a.doomed) marks)

  -- what is got is there
  got_there : (held : Option ℕ) (i n : ℕ) → slot_at a.world.heap i n ≡ held → (k : ℕ)
      → referent_got (reference_of a.world.heap held) ≡ Some k → is_there a.world.heap.objects k ≡ true
  got_there None i n is k got = absurd cc
  got_there (Some j) i n is k got =
      all_there.1 j k
      (all_there.0 j
      (has-left (present a.world.heap.slots ++ a.world.heap.holds) (pending_numbers a.world.pending) j
      (has-left (present a.world.heap.slots) a.world.heap.holds j
      (has-present_at a.world.heap.slots (16 * i + n) j is))))
      (got_target (object_at a.world.heap.objects j) k got)

  -- a get
  gets : (m d s : ℕ) (reply : Reply) (value : Option ℕ)
      → referent_got (reference_of a.world.heap (slot_at a.world.heap m s)) ≡ value
      → plain_refusal a (plain.Get m d s) ≡ None → IsRow a (plain_row (plain.Get m d s) reply) b → KnowsEver b
  gets m d s reply None is none h =
      as_ever Ever b
      (known_got Ever a b marks knows Ever m d s reply (λ n of. of) knows.0.closed (subst (OfValue Ever) (sym is) tt)
      (λ n of. inl of) none h)
  gets m d s reply (Some n) is none h =
      let slots = (unless_passes _ _ _ none).0 in
      let slot : has_slot a.world.heap m d ≡ true = (and_parts (has_slot a.world.heap m d) (nat_lt s 16) slots).0 in
      as_ever _ b
      (known_led Ever a b marks knows m d s n (legal_whole config past a run).2
      (slot_within a.world.heap m d whole slot) is
      (got_there (slot_at a.world.heap m s) m s refl n is)
      (λ i k there target.
      all_there.1 i k there
      (targets_of-wider (is_kept a.world.policy) any_referent (λ r may. refl) (object_at a.world.heap.objects i) k
      target)) reply none h)

  -- a step that hands nothing over
  plain_known : (step : PlainStep) (reply : Reply) → plain_refusal a step ≡ None → b.world.phase ≡ Marking
      → IsRow a (plain_row step reply) b → KnowsEver b
  plain_known (plain.New m d k) reply none still h =
      as_ever (WithNext Ever a) b
      (known_new Ever a b marks knows m d k reply (next_new config past a run)
      (slot_within a.world.heap m d whole (unless_passes _ _ _ none).0) none h)
  plain_known (plain.Refer m strength d s q k) reply none still h =
      let slot : has_slot a.world.heap m d ≡ true =
      (and_parts (has_slot a.world.heap m d) (nat_lt s 16) (unless_passes _ _ _ none).0).0 in
      as_ever (WithNext Ever a) b
      (known_refer Ever a b marks knows m strength d s q k reply (next_new config past a run)
      (slot_within a.world.heap m d whole slot) none h)
  plain_known (plain.Get m d s) reply none still h = gets m d s reply _ refl none h
  plain_known (plain.Begin now how) reply none still h =
      absurd (no_idle (sym (of_phase a (heap.Plain (plain.Begin now how)) none) ∙ marks))
  plain_known plain.EndMark reply none still h =
      let row = plain_accepted a b plain.EndMark reply none h in
      absurd (no_clearing (sym (ap (λ (s : State). s.world.phase) row.after) ∙ still))
  plain_known (plain.ClearNext k) reply none still h =
      absurd (no_clearing (sym (of_phase a (heap.Plain (plain.ClearNext k)) none) ∙ marks))
  plain_known plain.EndClear reply none still h =
      absurd (no_clearing (sym (of_phase a (heap.Plain plain.EndClear) none).0 ∙ marks))
  plain_known (plain.Sweep k) reply none still h =
      absurd (no_sweeping (sym (of_phase a (heap.Plain (plain.Sweep k)) none) ∙ marks))
  plain_known plain.EndSweep reply none still h =
      absurd (no_sweeping (sym (of_phase a (heap.Plain plain.EndSweep) none).0 ∙ marks))
  plain_known plain.Select reply none still h =
      absurd (no_idle (sym (of_phase a (heap.Plain plain.Select) none).0 ∙ marks))
  plain_known (plain.MoveNext k) reply none still h =
      absurd (no_moving (sym (of_phase a (heap.Plain (plain.MoveNext k)) none) ∙ marks))
  plain_known plain.EndMove reply none still h =
      absurd (no_moving (sym (of_phase a (heap.Plain plain.EndMove) none) ∙ marks))
  plain_known step reply none still h =
      as_ever Ever b
      (known_row Ever a b (plain_row step reply) (legal_counted config past a run) marks tt knows h)

  -- a step that isn't refused
  of_step : (step : Step) (reply : Reply) → refusal a step ≡ None → b.world.phase ≡ Marking
      → IsRow a (record { step = step; reply = reply }) b → KnowsEver b
  of_step (steps.Plain step) reply none still h = plain_known step reply none still h
  of_step step reply none still h =
      as_ever Ever b
      (known_row Ever a b (record { step = step; reply = reply }) (legal_counted config past a run) marks tt knows h)

  -- a row after which the mark goes on
  marks_on : (row : Row) (fault : Option Fault) → refusal a row.step ≡ fault → b.world.phase ≡ Marking
      → IsRow a row b → KnowsEver b
  marks_on row (Some fault) is still h = as_ever Ever b (known_refused Ever a b row fault is knows h)
  marks_on row None is still h = of_step row.step row.reply is still h

-- ---- a row before a mark

-- the row of a begin that isn't refused
abbrev Begins : State → Row → State → Type 0
Begins a row b =
    (now : ℕ) × (how : Urgency) × (row.step ≡ steps.Plain (plain.Begin now how))
    × (plain_refusal a (plain.Begin now how) ≡ None)

-- what spends a hold begins nothing
spends_no_begin : (w : World) (step : HoldName → NamedStep) (hand : List Notice) (now : ℕ) (how : Urgency)
    → ((hold : HoldName) → Some (step hold) ≡ Some (heap.Plain (plain.Begin now how)) → ⊥)
    → spending w step hand ≡ Some (heap.Plain (plain.Begin now how)) → ⊥
spends_no_begin w step [] now how never asks = absurd cc
spends_no_begin w step (notice ∷ rest) now how never asks = never (hold_of w notice) asks

-- only a begin asks its heap for one
is_begin : (w : World) (step : Step) (now : ℕ) (how : Urgency)
    → heap_step w step ≡ Some (heap.Plain (plain.Begin now how)) → step ≡ steps.Plain (plain.Begin now how)
is_begin w (steps.Plain step) now how asks =
    let told : Some (heap.Plain step) ≡ Some (heap.Plain (plain.Begin now how)) = asks in
    let same : step ≡ plain.Begin now how = cc in
    ap (λ (s : PlainStep). steps.Plain s) same
is_begin w (steps.Adopt m d) now how asks =
    absurd (spends_no_begin w (λ hold. heap.Adopt m d hold) (hand_of w (Mutator m)) now how (λ hold is. absurd cc) asks)
is_begin w (steps.Release who) now how asks =
    absurd (spends_no_begin w (λ hold. heap.Release hold) (hand_of w who) now how (λ hold is. absurd cc) asks)
is_begin w step now how asks = absurd cc

-- the step begins a mark, or after its row the phase is the one before, or no mark
phase_after : (a c : State) (step : NamedStep) (reply : Reply) → HeapAccepts a step reply c → c.world.phase ≡ Marking
    → (a.world.phase ≡ Marking) ⊎ ((now : ℕ) × (how : Urgency) × (step ≡ heap.Plain (plain.Begin now how)))
phase_after a c (heap.Plain (plain.Begin now how)) reply row marks = inr (now, how, refl)
phase_after a c (heap.Plain plain.EndMark) reply row marks =
    absurd (no_clearing (sym (ap (λ (s : State). s.world.phase) row.after) ∙ marks))
phase_after a c (heap.Plain plain.EndClear) reply row marks =
    absurd (no_sweeping (sym (ap (λ (s : State). s.world.phase) row.1) ∙ marks))
phase_after a c (heap.Plain plain.EndSweep) reply row marks =
    absurd (no_idle (sym (ap (λ (s : State). s.world.phase) row.1) ∙ marks))
phase_after a c (heap.Plain plain.Select) reply (inl row) marks =
    absurd (no_moving (sym (ap (λ (s : State). s.world.phase) row.1.1) ∙ marks))
phase_after a c (heap.Plain plain.Select) reply (inr row) marks =
    inl (sym (ap (λ (s : State). s.world.phase) row.1) ∙ marks)
phase_after a c (heap.Plain plain.EndMove) reply (inl row) marks =
    absurd (no_idle (sym (ap (λ (s : State). s.world.phase) row.1) ∙ marks))
phase_after a c (heap.Plain plain.EndMove) reply (inr row) marks =
    inl (sym (ap (λ (s : State). s.world.phase) row.1) ∙ marks)
phase_after a c step reply row marks =
    inl (sym (ap (λ (s : State). s.world.phase) (heap_outcome a c step reply tt row) ∙ outcome_phase a step reply tt)
    ∙ marks)

-- before a row after which there is a mark there is one, or the row begins it
enters : (a b : State) (row : Row) → IsTurn a (heap_step a.world row.step) row.reply b → b.world.phase ≡ Marking
    → (a.world.phase ≡ Marking) ⊎ Begins a row b
enters a b row (inl of) marks = inl (sym (ap (λ (s : State). s.world.phase) of.after) ∙ marks)
enters a b row (inr of) marks =
    elim (phase_after a of.left of.step row.reply of.accepts
    (sym (ap (λ (s : State). s.world.phase) of.after) ∙ marks)) [
      | inl old ↦ inl old
      | inr begins ↦
          inr (
            begins.0,
            begins.1,
            is_begin a.world row.step begins.0 begins.1 (of.asks ∙ ap (λ (s : NamedStep). Some s) begins.2),
            subst (λ (s : NamedStep). heap_refusal a s ≡ None) begins.2 of.passes,
          )
    ]

-- ---- after every legal trace

-- in a mark what was ever kept is known
pub legal_ever : (config : Config) (rows : List Row) (b : State) → IsRun (first_state config) rows b
    → b.world.phase ≡ Marking → KnowsEver b
legal_ever config rows b run =
    legal_holds config (λ past a. a.world.phase ≡ Marking → KnowsEver a)
    (λ past a row c before knows h marks.
    elim (enters a c row (row_turn a row c (legal_counted config past a before) h) marks) [
      | inl old ↦ marks_on config past a c before old (knows old) row (refusal a row.step) refl marks h
      | inr begins ↦
          as_ever _ c
          (legal_begun config past a c begins.0 begins.1 row.reply before begins.3
          (subst (λ (s : Step). IsRow a (record { step = s; reply = row.reply }) c) begins.2 h))
    ]) (λ marks. absurd (no_idle marks)) rows b run

-- the mark may end exactly where no root is doomed, and no kept edge leads in from outside
pub legal_ends : (config : Config) (rows : List Row) (b : State) → IsRun (first_state config) rows b
    → b.world.phase ≡ Marking
    → (MayEnd b → OffRoots (graph_of b.world) (doomed_at b) × OffEdges b.world.policy (graph_of b.world) (doomed_at b))
    × (OffRoots (graph_of b.world) (doomed_at b) × OffEdges b.world.policy (graph_of b.world) (doomed_at b) → MayEnd b)
legal_ends config rows b run marks =
    let knows : KnowsEver b = legal_ever config rows b run marks in (
      λ may. doom_parts b.world.policy (graph_of b.world) b.moments (doomed_at b) may,
      λ off. ends_where (EverKept b.world.policy b.moments) b knows.0 knows.1 off.0 off.1,
    )
