-- The judge's value in another phase than Marking and Clearing, whose objects are as they were.
use Rattle.ref_base.proofs.Common.{arith, ◌≡◌, ℕ, Bool, true, false, List, refl, sym, ◌∙◌, State, is_in, with_phase}
use Rattle.ref_base.proofs.Common.{false≢true}
use Rattle.ref_base.specs.declared.phase.Phase.{Phase}
use Rattle.ref_base.specs.declared.phase.Phase.TheVariants.{Marking, Clearing}
use Rattle.ref_judge.specs.Judged.{Judged, is_behind_mark, is_judging, is_going}
use Rattle.ref_judge.specs.Standing.{Lawful, StandsFor, IsSettled}

-- it, whether objects were chosen to move, and whether what isn't marked is condemned
abbrev pub rephased : Judged → Phase → Bool → Bool → Judged
rephased j phase chosen condemning =
    record j { phase = phase; was_chosen = chosen; ground = record j.ground { condemning = condemning } }

-- the state so, in which workers found these
abbrev pub state_rephased : State → Phase → Bool → List (List ℕ) → State
state_rephased a phase chosen found =
    record a { world = with_phase a.world phase; moved = chosen; found = found }

module _ (j : Judged) (phase : Phase) (chosen condemning : Bool) (no_mark : is_in phase Marking ≡ false)
    (no_clearing : is_in phase Clearing ≡ false) where
  not_judging : is_judging phase ≡ true → ⊥
  not_judging judging = grind (arith, no_mark, no_clearing)

  -- it is of the state so
  pub stands_rephased : (a : State) (found : List (List ℕ))
      → Lawful j.profile j.config (state_rephased a phase chosen found) → StandsFor j a
      → (is_behind_mark phase ≡ true → is_behind_mark j.phase ≡ true)
      → StandsFor (rephased j phase chosen condemning) (state_rephased a phase chosen found)
  stands_rephased a found lawful s past = record {
    lawful = lawful;
    heap = s.heap;
    next = s.next;
    holds = s.holds;
    mutator_hands = s.mutator_hands;
    worker_hands = s.worker_hands;
    lines = s.lines;
    phase = refl;
    cycle = s.cycle;
    policy = s.policy;
    born = s.born;
    count = λ marks. absurd (false≢true (sym no_mark ∙ marks));
    chosen = refl;
    doomed = s.doomed;
    kept = λ marks more. absurd (false≢true (sym no_mark ∙ marks));
    live = λ is n there. s.live (past is) n there;
    tags = record { old = s.tags.old; scanned = λ judging n there. absurd (not_judging judging); put = s.tags.put };
    finders = record {
      pending = s.finders.pending;
      within = s.finders.within;
      found = λ judging k. absurd (not_judging judging);
      cleared = λ clears k. absurd (false≢true (sym no_clearing ∙ clears));
    };
  }

  -- and it is settled
  pub settled_rephased : IsSettled j → (is_going phase ≡ true → is_going j.phase ≡ true)
      → is_in j.phase Marking ≡ false → condemning ≡ is_behind_mark phase
      → IsSettled (rephased j phase chosen condemning)
  settled_rephased s going old condemns = record {
    none_grey = s.none_grey;
    grey_room = s.grey_room;
    doomed_room = s.doomed_room;
    config = s.config;
    none_to_move = s.none_to_move;
    none_chosen = s.none_chosen;
    tuned = λ is. s.tuned (going is);
    colour = grind (arith, s.colour, old, no_mark);
    condemning = condemns;
    may = λ marks. absurd (false≢true (sym no_mark ∙ marks));
    waits = λ clears some. absurd (false≢true (sym no_clearing ∙ clears));
  }
