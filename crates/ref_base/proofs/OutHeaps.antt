-- Each row of a heap keeps that what is gone or doomed is out of reach, and that a mark's end has shown what it
-- cleared.
use Rattle.ref_base.proofs.Common.{any_referent, arith, ◌≡◌, ℕ, true, false, List, [], ◌++◌, take, drop, None, refl}
use Rattle.ref_base.proofs.Common.{sym, ap, ◌∙◌, subst, inl, inr, or_from, append-nil, append_assoc, take-append-drop}
use Rattle.ref_base.proofs.Common.{has, World, NamedStep, State, joined, heap_refusal, HeapAccepts, EndsMark, doomed_at}
use Rattle.ref_base.proofs.Common.{IsDead, MarkEnded, WasDoomed, Config, Phase, Idle, Marking, Clearing, Sweeping}
use Rattle.ref_base.proofs.Common.{Moving, Reply, Row}
use Rattle.ref_base.proofs.HasLaws.{has-append, has-cases}
use Rattle.ref_base.proofs.Outcomes.{heap_outcome, outcome, IsNoEnd}
use Rattle.ref_base.proofs.OutcomeParts.{outcome_phase}
use Rattle.ref_base.proofs.ReplayKeeps.{EndsNoPhase}
use Rattle.ref_base.proofs.PhaseLaws.{of_phase}
use Rattle.ref_base.proofs.AgreeHeaps.{Agreeing, gone_after, unscanned-there}
use Rattle.ref_base.proofs.ApartWorlds.{IsClosed}
use Rattle.ref_base.proofs.ClosedRows.{closed_same, heap_closed}
use Rattle.ref_base.proofs.OffSets.{ended_closed}
use Rattle.ref_base.proofs.MarkShows.{RefersToDead, doomed_dead, mark_shows}
use Rattle.ref_base.specs.declared.heap_step.HeapStep.TheVariants as heap
use Rattle.ref_base.specs.declared.plain_step.PlainStep.TheVariants as plain
use Rattle.ref_base.specs.declared.reply.Reply.TheVariants as replies

-- what is doomed and not swept yet
abbrev pub doomed_in : Phase → List ℕ → List ℕ
doomed_in Idle doomed = []
doomed_in Marking doomed = []
doomed_in Clearing doomed = doomed
doomed_in Sweeping doomed = doomed
doomed_in Moving doomed = []

-- what is gone, or doomed
abbrev pub off : List ℕ → State → List ℕ
off gone a = gone ++ doomed_in a.world.phase a.doomed

-- Nothing that is gone or doomed is in reach, and a mark's end found it dead; nothing is doomed but from a mark's end
-- until the sweep has ended; and while references are cleared, each that the mark's end cleared isn't among these, and
-- the mark's end has shown of it, in this cycle, what it shows.
pub record AreOutBy (Dead : ℕ → Type 0) (Shown : ℕ → ℕ → Type 0) (gone : List ℕ) (a : State) : Type 0 where
  pub closed : IsClosed any_referent (λ n. has (off gone a) n ≡ false) a.world
  pub dead : (n : ℕ) → has (off gone a) n ≡ true → Dead n
  pub whole : doomed_in a.world.phase a.doomed ≡ a.doomed
  pub spared : a.world.phase ≡ Clearing → (n : ℕ) → has a.cleared n ≡ true → has (off gone a) n ≡ false
  pub shown : a.world.phase ≡ Clearing → (n : ℕ) → has a.cleared n ≡ true → Shown a.world.cycle n

-- of what the rows of a trace tell
abbrev pub AreOut : Config → List Row → List ℕ → State → Type 0
AreOut config rows gone a = AreOutBy (WasDoomed config rows) (MarkEnded config rows) gone a

-- ---- what is off

-- what is off goes by the phase and what is doomed
pub off_is : (gone doomed : List ℕ) (c : State) (phase : Phase) → c.world.phase ≡ phase → c.doomed ≡ doomed
    → off gone c ≡ gone ++ doomed_in phase doomed
off_is gone doomed c phase is same =
    ap (λ (p : Phase). gone ++ doomed_in p c.doomed) is ∙ ap (λ ds. gone ++ doomed_in phase ds) same

-- a row that ends no phase and dooms the same
off_still : (gone : List ℕ) (a c : State) (step : NamedStep) (reply : Reply) → EndsNoPhase step → IsNoEnd step
    → HeapAccepts a step reply c → (outcome a step reply).doomed ≡ a.doomed → off gone c ≡ off gone a
off_still gone a c step reply no_phase no_end row same =
    let leads = heap_outcome a c step reply no_end row in
    off_is gone a.doomed c a.world.phase
    (ap (λ (s : State). s.world.phase) leads ∙ outcome_phase a step reply no_phase)
    (ap (λ (s : State). s.doomed) leads ∙ same)

-- no row but a mark's end changes what is off
pub off_same : (gone : List ℕ) (a c : State) (step : NamedStep) (reply : Reply) → IsNoEnd step
    → heap_refusal a step ≡ None → HeapAccepts a step reply c → off (gone_after a gone step reply) c ≡ off gone a
off_same gone a c (heap.Plain (plain.Begin now how)) reply no_end none row = grind arith
off_same gone a c (heap.Plain plain.EndMark) reply no_end none row = absurd no_end
off_same gone a c (heap.Plain plain.EndClear) reply no_end none row = grind arith
off_same gone a c (heap.Plain plain.EndSweep) reply no_end none row = grind arith
off_same gone a c (heap.Plain plain.Select) reply no_end none row = grind arith
off_same gone a c (heap.Plain plain.EndMove) reply no_end none row = grind arith
off_same gone a c (heap.Plain (plain.Sweep k)) (replies.Swept count) no_end none row =
    let leads = heap_outcome a c (heap.Plain (plain.Sweep k)) (replies.Swept count) tt row in
    let sweeping : a.world.phase ≡ Sweeping = of_phase a (heap.Plain (plain.Sweep k)) none in
    off_is (gone ++ take 64 a.doomed) (drop 64 a.doomed) c Sweeping
    (ap (λ (s : State). s.world.phase) leads ∙ sweeping) (ap (λ (s : State). s.doomed) leads)
    ∙ append_assoc gone (take 64 a.doomed) (drop 64 a.doomed)
    ∙ ap (λ ns. gone ++ ns) (take-append-drop 64 a.doomed)
    ∙ sym (off_is gone a.doomed a Sweeping sweeping refl)
off_same gone a c (heap.Plain (plain.ClearNext k)) (replies.Cleared n) no_end none row =
    off_still gone a c (heap.Plain (plain.ClearNext k)) (replies.Cleared n) tt no_end row refl
off_same gone a c step reply no_end none row = off_still gone a c step reply tt no_end row refl

-- the next number isn't off
pub next_out : (gone : List ℕ) (w : World) (a : State) → Agreeing gone w a → has (off gone a) a.next ≡ false
next_out gone w a is = grind (arith, has-append)

-- ---- rows of a heap

module _ (Dead : ℕ → Type 0) (Shown : ℕ → ℕ → Type 0) (gone : List ℕ) (w : World) (a c : State)
    (is : Agreeing gone w a) (out : AreOutBy Dead Shown gone a) where
  -- a row that isn't a mark's end
  pub plain_out : (step : NamedStep) (reply : Reply) → IsNoEnd step → heap_refusal a step ≡ None
      → HeapAccepts a step reply c → (c.world.phase ≡ Clearing
      → (a.world.phase ≡ Clearing) × (c.cleared ≡ a.cleared) × (c.world.cycle ≡ a.world.cycle))
      → doomed_in c.world.phase c.doomed ≡ c.doomed → AreOutBy Dead Shown (gone_after a gone step reply) c
  plain_out step reply no_end none row still whole =
      let now : List ℕ = gone_after a gone step reply in
      let same : off now c ≡ off gone a = off_same gone a c step reply no_end none row in
      record {
        closed = subst (λ ns. IsClosed any_referent (λ n. has ns n ≡ false) c.world) (sym same)
            (heap_closed (λ n. has (off gone a) n ≡ false) a c out.closed step reply no_end none
            (λ made. next_out gone w a is) out.spared row);
        dead = λ n is_off. out.dead n (ap (λ ns. has ns n) (sym same) ∙ is_off);
        whole = whole;
        spared = λ clearing n cleared.
            let before = still clearing in
            ap (λ ns. has ns n) same ∙ out.spared before.0 n (ap (λ ns. has ns n) (sym before.1) ∙ cleared);
        shown = λ clearing n cleared.
            let before = still clearing in
            subst (λ (k : ℕ). Shown k n) (sym before.2)
            (out.shown before.0 n (ap (λ ns. has ns n) (sym before.1) ∙ cleared));
      }

  -- a mark's end, after which more was found dead and more was shown
  pub end_out : (Later : ℕ → Type 0) (Shows : ℕ → ℕ → Type 0) (reply : Reply) → ((n : ℕ) → Dead n → Later n)
      → ((n : ℕ) → IsDead w n → Later n) → ((n : ℕ) → RefersToDead w n → Shows w.cycle n) → a.world.phase ≡ Marking
      → EndsMark a reply c → AreOutBy Later Shows gone c
  end_out Later Shows reply later found shows marking row =
      let d : List ℕ = doomed_at a in
      let none : off gone a ≡ gone = off_is gone a.doomed a Marking marking refl ∙ append-nil gone in
      let closed : IsClosed any_referent (λ n. has gone n ≡ false) a.world =
      subst (λ ns. IsClosed any_referent (λ n. has ns n ≡ false) a.world) none out.closed in
      let told = mark_shows gone w a is marking closed row.may_doom in
      let dead = doomed_dead gone w a is marking closed row.may_doom in
      subst (λ (s : State). AreOutBy Later Shows gone s) (sym row.after) (record {
        closed = closed_same any_referent (λ n. has (gone ++ d) n ≡ false) _ _ refl refl refl refl
            (ended_closed gone d a.world a.moments row.may_doom
            (λ n doomed. unscanned-there a.world.heap.objects a.born (joined a.scanned) n doomed) closed);
        dead = λ n is_off. elim (has-cases gone d n is_off) [
          | inl before ↦ later n (out.dead n (ap (λ ns. has ns n) none ∙ before))
          | inr doomed ↦ found n (dead n doomed)
        ];
        whole = refl;
        spared = λ clearing n new.
            has-append gone d n ∙ or_from (has gone n) (has d n) (told n new).0 (told n new).1;
        shown = λ clearing n new.
            subst (λ (k : ℕ). Shows k n) (ap (λ (v : World). v.cycle) (sym is.agrees)) (shows n (told n new).2);
      })
