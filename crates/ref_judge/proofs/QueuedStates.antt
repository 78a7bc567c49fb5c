-- A judge after a row that changes hands, queues and links, and nothing else: it stands for the state that the row
-- leaves.
use Rattle.ref_base.proofs.Common.{◌≡◌, ℕ, List, Some, refl, cases_Bool, inl, inr}
use Rattle.ref_base.proofs.Common.{has, State, World, Notice, Lists, Graph, ticked, with_world}
use Rattle.ref_base.proofs.Common.{is_in, reference_at, object_of, slice_index_or, slice_set, new_queue, with_hand}
use Rattle.ref_base.proofs.Common.{with_queue}
use Rattle.ref_base.specs.Heaps.{registered_in}
use Rattle.ref_base.specs.QueueLists.{enqueued}
use Rattle.ref_base.specs.declared.actor.Actor.{Actor}
use Rattle.ref_base.specs.declared.actor.Actor.TheVariants.{Mutator, Worker}
use Rattle.ref_base.specs.declared.phase.Phase.TheVariants.{Marking}
use Rattle.ref_base.specs.declared.row.Row.{Row}
use Rattle.ref_base.proofs.EverWorlds.{BringsNone}
use Rattle.ref_space.specs.Tables.{Tag}
use Rattle.ref_objects.specs.Grounds.{cleared_in_at}
use Rattle.ref_judge.specs.Judged.{Judged, AllHands, Line, AreLines, is_put}
use Rattle.ref_judge.specs.ProfiledRows.{IsRowAs}
use Rattle.ref_judge.specs.Standing.{StandsFor, IsSettled, SaysTheSame}
use Rattle.ref_judge.proofs.HandsAlike.{AreAlike}
use Rattle.ref_judge.proofs.KnownJudges.{kept_row}
use Rattle.ref_judge.proofs.LegalFacts.{lawful_row}

-- the judge with these links, hands and queues
abbrev pub queued : Judged → List Tag → AllHands → List Line → Judged
queued j ts hands lines = record j { ground = record j.ground { tags = ts }; hands = hands; lines = lines }

-- the world with those hands and these queues
abbrev pub others_of : World → World → List (Lists Notice) → World
others_of w held qs =
    record w { mutator_hands = held.mutator_hands; worker_hands = held.worker_hands; queues = qs }

-- the state with this world, after these moments
abbrev pub queued_to : State → World → List Graph → State
queued_to a w moments = record a { world = w; moments = moments }

-- one moment later
pub ticked_queued : (a : State) (held : World) (qs : List (Lists Notice))
    → ticked (with_world a (others_of a.world held qs))
    ≡ queued_to a (others_of a.world held qs) (ticked (with_world a (others_of a.world held qs))).moments
ticked_queued a held qs =
    elim (cases_Bool (is_in a.world.phase Marking)) [ inl marks ↦ simp marks refl | inr other ↦ simp other refl ]

-- what is set in a hand and in a queue, in the form of others
pub set_both : (w : World) (who : Actor) (hand : List Notice) (q : ℕ) (l : Lists Notice)
    → with_hand (with_queue w q l) who hand ≡ others_of w (with_hand w who hand) (slice_set w.queues q l)
set_both w (Mutator m) hand q l = refl
set_both w (Worker k) hand q l = refl

module _ (old : Judged) (a : State) (stands : StandsFor old a) (ts : List Tag) (hands : AllHands) (lines : List Line)
    (held : World) (qs : List (Lists Notice)) (moments : List Graph) where
  abbrev after : State
  after = queued_to a (others_of a.world held qs) moments

  pub queued_stands : (row : Row) → BringsNone row.step → IsRowAs old.profile a row after → AreAlike hands held
      → AreLines lines qs → ((n : ℕ) → cleared_in_at ts n ≡ cleared_in_at old.ground.tags n)
      → ((n q : ℕ) → registered_in (reference_at a.world.heap n) ≡ Some q
      → is_put ts n ≡ has (enqueued object_of (slice_index_or qs q (new_queue q))) n)
      → StandsFor (queued old ts hands lines) after
  queued_stands row brings h alike are cleared put = record {
    lawful = lawful_row old.profile old.config a after row stands.lawful h;
    heap = stands.heap;
    next = stands.next;
    holds = stands.holds;
    mutator_hands = alike.mutators;
    worker_hands = alike.workers;
    lines = are;
    phase = stands.phase;
    cycle = stands.cycle;
    policy = stands.policy;
    born = stands.born;
    count = stands.count;
    chosen = stands.chosen;
    doomed = stands.doomed;
    kept = kept_row old a after row stands brings h;
    live = stands.live;
    tags = record {
      old = λ n. rw (cleared n) (stands.tags.old n);
      scanned = λ judges n there. rw (cleared n) (stands.tags.scanned judges n there);
      put = put;
    };
    finders = record {
      pending = stands.finders.pending;
      within = stands.finders.within;
      found = stands.finders.found;
      cleared = stands.finders.cleared;
    };
  }

-- the invariant says nothing of them
pub settled_queued : (old : Judged) (ts : List Tag) (hands : AllHands) (lines : List Line) → IsSettled old
    → IsSettled (queued old ts hands lines)
settled_queued old ts hands lines settled = assumption (settled)

-- nor does what is said of what is free
pub queued_says : (old : Judged) (ts : List Tag) (hands : AllHands) (lines : List Line)
    → SaysTheSame old (queued old ts hands lines)
queued_says old ts hands lines = record { left = refl; none = refl; some = refl; finders = λ k. refl }
