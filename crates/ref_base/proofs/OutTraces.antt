-- After every legal trace the collector has the world of the replay, but for what was swept and for what waits to be
-- cleared; what is gone or doomed is out of reach; and a mark's end has shown what it cleared.
use Rattle.ref_base.proofs.Common.{arith, ◌≡◌, ℕ, ◌*◌, true, false, List, [], ◌++◌, refl, sym, subst, false≢true, has}
use Rattle.ref_base.proofs.Common.{is_there, World, SameOthers, first_world, graph_of, heap_step, replayed, State}
use Rattle.ref_base.proofs.Common.{first_state, first_state_of, IsRun, Agrees, MarkEnded, WasDoomed, Config, Row}
use Rattle.ref_base.specs.MarkEnds.{AreOutOfReach}
use Rattle.ref_base.proofs.CountedTraces.{legal_counted}
use Rattle.ref_base.proofs.RunFronts.{legal_holds, replayed_last}
use Rattle.ref_base.proofs.AgreeHeaps.{Agreeing, there-without}
use Rattle.ref_base.proofs.HasLaws.{has-left, has-append}
use Rattle.ref_base.proofs.Reshaping.{is_there-reshaped}
use Rattle.ref_base.proofs.AgreeRuns.{gone_next, row_agrees, first_agrees}
use Rattle.ref_base.proofs.ApartWorlds.{no_slot, closed_roots}
use Rattle.ref_base.proofs.CarryRows.{nothing_pending}
use Rattle.ref_base.proofs.OutHeaps.{AreOutBy, AreOut, doomed_in}
use Rattle.ref_base.proofs.OutRuns.{row_out}

pub first_out : (Dead : ℕ → Type 0) (Shown : ℕ → ℕ → Type 0) (config : Config) (number : ℕ)
    → AreOutBy Dead Shown [] (first_state_of config number)
first_out Dead Shown config number = record {
  closed = record {
    slots = no_slot (λ n. has [] n ≡ false) (16 * config.mutators);
    holds = λ n held. refl;
    pendings = λ k. nothing_pending (λ p. has [] p.object ≡ false) config k;
    targets = λ m n is target. refl;
  };
  dead = λ n is_off. absurd (false≢true is_off);
  whole = refl;
  spared = λ clearing n cleared. refl;
  shown = λ clearing n cleared. absurd (false≢true cleared);
}

pub legal_out : (config : Config) (rows : List Row) (b : State) → IsRun (first_state config) rows b
    → (gone : List ℕ) × Agreeing gone (replayed config rows) b × AreOut config rows gone b
legal_out config rows b run =
    legal_holds config (λ past a. (gone : List ℕ) × Agreeing gone (replayed config past) a × AreOut config past gone a)
    (λ past a row b run known h.
    let counted = legal_counted config past a run in
    let now = gone_next a known.0 (heap_step a.world row.step) row.reply in (
      now,
      subst (λ (w : World). Agreeing now w b) (sym (replayed_last (first_world config) past row))
          (row_agrees known.0 (replayed config past) a row b known.1 counted h),
      row_out config past known.0 a row known.1 known.2 b counted h,
    ))
    ([], first_agrees config 0, first_out (WasDoomed config []) (MarkEnded config []) config 0) rows b run

-- an object of the collector is one of the replay that isn't gone
pub there_in : (gone : List ℕ) (w : World) (b : State) → Agrees gone w b → (n : ℕ)
    → is_there b.world.heap.objects n ≡ true → (has gone n ≡ false) × (is_there w.heap.objects n ≡ true)
there_in gone w b agrees n there = grind (arith, there-without, is_there-reshaped)

-- what is gone or doomed is out of reach
all_out : (Dead : ℕ → Type 0) (Shown : ℕ → ℕ → Type 0) (gone : List ℕ) (b : State) → AreOutBy Dead Shown gone b
    → AreOutOfReach (gone ++ b.doomed) (graph_of b.world)
all_out Dead Shown gone b out = grind (arith, closed_roots)

-- the collector has the world of the replay, but for what waits and what is gone: a mark's end found it dead, and it is
-- out of reach
pub legal_agrees : (config : Config) (rows : List Row) (b : State) → IsRun (first_state config) rows b
    → (gone : List ℕ) × Agrees gone (replayed config rows) b
    × ((n : ℕ) → has gone n ≡ true → WasDoomed config rows n) × AreOutOfReach (gone ++ b.doomed) (graph_of b.world)
legal_agrees config rows b run =
    let known = legal_out config rows b run in
    let later : List ℕ = doomed_in b.world.phase b.doomed in (
      known.0,
      known.1.agrees,
      λ n out. known.2.dead n (has-left known.0 later n out),
      all_out (WasDoomed config rows) (MarkEnded config rows) known.0 b known.2,
    )

-- so the replay has its hands and queues
pub legal_others : (config : Config) (rows : List Row) (b : State) → IsRun (first_state config) rows b
    → SameOthers (replayed config rows) b.world
legal_others config rows b run = search (legal_out config rows b run)

-- what is doomed, and not swept yet, is out of reach of all else that is there
pub out_of_reach : (Dead : ℕ → Type 0) (Shown : ℕ → ℕ → Type 0) (gone : List ℕ) (w : World) (b : State)
    → Agreeing gone w b → AreOutBy Dead Shown gone b → AreOutOfReach b.doomed (graph_of b.world)
out_of_reach Dead Shown gone w b is out =
    grind (arith, has-append, all_out Dead Shown gone b out, there_in gone w b is.agrees)

pub doomed_out : (config : Config) (rows : List Row) (b : State) → IsRun (first_state config) rows b
    → AreOutOfReach b.doomed (graph_of b.world)
doomed_out config rows b run = search (out_of_reach, legal_out config rows b run)
