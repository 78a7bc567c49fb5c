-- Rows in which a worker hands on what it has pending: one notice, or as many as go together.
use Rattle.ref_base.proofs.Common.{arith, ◌≡◌, ℕ, ◌+◌, ◌-◌, ◌<◌, ◌==◌, ◌&&◌, true, List, [], ◌∷◌, ◌++◌}
use Rattle.ref_base.proofs.Common.{length, map, take, drop, Option, Some, None, refl, sym, ap, ◌∙◌, subst, eq-eqb, zero}
use Rattle.ref_base.proofs.Common.{suc}
use Rattle.ref_base.proofs.Common.{slice_index_or, slice_set, World, Notice, Pending, State, pending_of}
use Rattle.ref_base.proofs.Common.{handed, handed_each, handed_on, notice_from, taking, told_notices, without_pending}
use Rattle.ref_base.proofs.Common.{one_more, unless, hand_refusal}
use Rattle.ref_base.proofs.Common.{refusal, one_handed, NamedStep, heap_step}
use Rattle.ref_base.proofs.Common.{ticked, with_world, object_of, get_or-set_same, length-map, HeapAccepts, HandsOn}
use Rattle.ref_base.proofs.Common.{get_or}
use Rattle.ref_base.specs.Members.{first_of}
use Rattle.std.proofs.lemmas.Bool.{ltb-true}
use Rattle.std.proofs.lemmas.List.{get_or_default, map-set, set-get_or, set-set}
use Rattle.std.specs.List.{list_all}
use Rattle.std.specs.Prelude.{Ok, Err, ◌^◌}
use Rattle.ref_base.proofs.Places.{place_there}
use Rattle.ref_base.proofs.RowForms.{unless_passes}
use Rattle.ref_base.specs.CountedHolds.{more_of_each}
use Rattle.ref_base.specs.Refusals.{is_worker}
use Rattle.ref_base.specs.declared.actor.Actor.TheVariants.{Worker}
use Rattle.ref_base.specs.declared.cause.Cause.TheVariants.{Cycle}
use Rattle.ref_base.specs.declared.fault.Fault.TheVariants.{NoSuchActor, NumbersSpent}
use Rattle.ref_base.specs.declared.heap_step.HeapStep.TheVariants as heap
use Rattle.ref_base.specs.declared.reply.Reply.{Reply}
use Rattle.ref_base.specs.declared.reply.Reply.TheVariants as replies
use Rattle.ref_base.specs.declared.step.Step.{Step}
use Rattle.ref_base.specs.declared.step.Step.TheVariants as steps
use Rattle.ref_judge.specs.Judged.{Judged, Finder, AllHands, has_carrier, with_hand_at, finder_at, no_finder}
use Rattle.ref_judge.specs.Judged.{free_hand_refusal}
use Rattle.ref_judge.specs.ProfiledRows.{HeapAcceptsAs}
use Rattle.ref_judge.specs.Standing.{StandsFor, DoesAs, IsOfSomeState}
use Rattle.ref_judge.proofs.FilledHands.{length-one_more, filling_passes, holds_left, holds_spent}
use Rattle.ref_judge.proofs.HandsAlike.{AreAlike, actor_same, workers_same, sizes, with_hand_alike}
use Rattle.ref_judge.proofs.SameObjects.{same_itself}
use Rattle.ref_judge.proofs.SoundJudges.{refused_does}
use Rattle.ref_judge.proofs.SpentNotices.{same_held}
use Rattle.ref_judge.proofs.StandingHands.{handing, AreSameFinders, Passes, HandsOn as GivesOn, hands_does}

-- ---- what is handed on

-- so many more holds
length-more_of_each : (hs : List ℕ) (notices : List Notice)
    → length (more_of_each hs notices) ≡ length hs + length notices
length-more_of_each hs [] = omega arith
length-more_of_each hs (notice ∷ rest) =
    let more = length-more_of_each (one_more hs notice.object) rest in
    let one = length-one_more hs notice.object in
    grind (arith, more, one)

-- what is pending first is handed on: the rest stays, and there is a hold more of each
handed_front : (w : World) (k : ℕ) (ps rest : List Pending) → pending_of w k ≡ ps ++ rest
    → handed_each w k (map (notice_from k) ps)
    ≡ record w {
      pending = slice_set w.pending k rest;
      heap = record w.heap { holds = more_of_each w.heap.holds (map (notice_from k) ps) };
    }
handed_front w k [] rest is =
    ap (λ (all : List (List Pending)). record w { pending = all })
    (sym (ap (slice_set w.pending k) (sym is) ∙ set-get_or w.pending k []))
handed_front w k (p ∷ ps) rest is =
    let there : k < length w.pending =
    place_there w.pending k [] (λ none. let no = sym is ∙ none in absurd cc) in
    let left : without_pending (pending_of w k) p.object ≡ ps ++ rest =
    ap (λ (xs : List Pending). without_pending xs p.object) is
    ∙ (let own : (p.object == p.object) ≡ true = eq-eqb p.object p.object refl in rw own refl) in
    handed_front (handed_on w k p.object) k ps rest
    (get_or-set_same w.pending k (without_pending (pending_of w k) p.object) [] there ∙ left)
    ∙ ap (λ (all : List (List Pending)). record w {
      pending = all;
      heap = record w.heap { holds = more_of_each (one_more w.heap.holds p.object) (map (notice_from k) ps) };
    })
    (set-set w.pending k (without_pending (pending_of w k) p.object) rest)

object_numbers : (k : ℕ) (ps : List Pending) → map object_of (map (notice_from k) ps) ≡ map (λ p. p.object) ps
object_numbers k [] = refl
object_numbers k (p ∷ ps) = ap (λ ns. p.object ∷ ns) (object_numbers k ps)

-- ---- finders

pending_at : (workers : List Finder) (k : ℕ)
    → slice_index_or (map (λ (f : Finder). f.pending) workers) k [] ≡ (slice_index_or workers k no_finder).pending
pending_at [] k = refl
pending_at (f ∷ workers) zero = refl
pending_at (f ∷ workers) (suc k) = pending_at workers k

pub set_pending : (workers : List Finder) (k i : ℕ) (rest : List Pending)
    → record (slice_index_or (slice_set workers k (record (slice_index_or workers k no_finder) { pending = rest })) i
    no_finder) { pending = [] }
    ≡ record (slice_index_or workers i no_finder) { pending = [] }
set_pending [] k i rest = refl
set_pending (f ∷ workers) zero zero rest = refl
set_pending (f ∷ workers) zero (suc i) rest = refl
set_pending (f ∷ workers) (suc k) zero rest = refl
set_pending (f ∷ workers) (suc k) (suc i) rest = set_pending workers k i rest

module _ (j : Judged) (a : State) (stands : StandsFor j a) where
  pub pending_same : (k : ℕ) → pending_of a.world k ≡ (finder_at j k).pending
  pending_same k =
      ap (λ (all : List (List Pending)). slice_index_or all k []) (sym stands.finders.pending) ∙ pending_at j.workers k

  -- as many workers as hands
  finders_count : length j.workers ≡ length j.hands.workers
  finders_count =
      sym (length-map j.workers (λ (f : Finder). f.pending))
      ∙ ap length stands.finders.pending ∙ (sizes j a stands).pending
      ∙ sym (ap (λ c. c.workers) (sizes j a stands).config_is) ∙ sym (workers_same j a stands)

-- a worker that has a hand is there
pub worker_there : (j : Judged) (k : ℕ) → IsOfSomeState j → free_hand_refusal j.hands (Worker k) ≡ None
    → k < length j.workers
worker_there j k sound none =
    subst (λ count. k < count) (sym (finders_count j sound.state sound.stands))
    (ltb-true k (length j.hands.workers) (unless_passes (has_carrier j.hands (Worker k)) NoSuchActor _ none).0)

-- the worker that is read is that one
pub finder_read : (j : Judged) (k i : ℕ) (f : Finder) → i ≡ k → k < length j.workers → f ≡ get_or j.workers i f
    → f ≡ finder_at j k
finder_read j k i f same there read =
    read ∙ ap (λ n. get_or j.workers n f) same ∙ get_or_default j.workers k f no_finder there

pub pends_none : (ps : List Pending) → first_of ps ≡ None → ps ≡ []
pends_none [] none = refl
pends_none (p ∷ ps) none = absurd cc

pub pends_first : (ps : List Pending) (p : Pending) → first_of ps ≡ Some p → ps ≡ p ∷ drop 1 ps
pends_first [] p first = absurd cc
pends_first (q ∷ ps) p first = ap (λ x. x ∷ ps) (same first)
  where
    same : Some q ≡ Some p → q ≡ p
    same is = cc

-- ---- a row that hands on

-- the worker with the rest, and its hand with these
abbrev pub with_rest_pending : Judged → ℕ → List Pending → List Finder
with_rest_pending j k rest = slice_set j.workers k (record (finder_at j k) { pending = rest })

abbrev pub with_batch : Judged → ℕ → Pending → List Pending → AllHands
with_batch j k p ps =
    with_hand_at j.hands (Worker k) (record { queue = p.queue; objects = map (λ (x : Pending). x.object) ps })

module _ (old : Judged) (k : ℕ) (p : Pending) (ps rest : List Pending) (step : Step) (asked : NamedStep) (reply : Reply)
    (pends : (finder_at old k).pending ≡ (p ∷ ps) ++ rest)
    (told : told_notices reply ≡ map (notice_from k) (p ∷ ps))
    (one : list_all (λ (x : Notice). x.queue == p.queue) (told_notices reply) ≡ true)
    (hands_are : (w : World) → handed w step reply ≡ taking w (Worker k) (told_notices reply)) where
  pub hands_on : (a : State) → StandsFor old a → refusal a step ≡ None → heap_step a.world step ≡ Some asked
      → HeapAcceptsAs old.profile a asked reply
      (ticked (with_world a (handed_each a.world k (map (notice_from k) (p ∷ ps)))))
      → GivesOn old.ground.heap (old.holds + length (p ∷ ps)) (with_batch old k p (p ∷ ps))
      (with_rest_pending old k rest) old.profile step reply a
  hands_on a stands none asks accepts =
      let notices : List Notice = map (notice_from k) (p ∷ ps) in
      let is : pending_of a.world k ≡ (p ∷ ps) ++ rest = pending_same old a stands k ∙ pends in
      let w : World = record a.world {
        pending = slice_set a.world.pending k rest;
        heap = record a.world.heap { holds = more_of_each a.world.heap.holds notices };
      } in
      record {
        after = w;
        asked = asked;
        none = none;
        asks = asks;
        accepts =
            subst (λ (v : World). HeapAcceptsAs old.profile a asked reply (ticked (with_world a v)))
            (handed_front a.world k (p ∷ ps) rest is) accepts;
        passes = record {
          heap = stands.heap;
          same = same_held a.world.heap (more_of_each a.world.heap.holds notices);
          count_is =
              ap (λ count. count + length (p ∷ ps)) stands.holds
              ∙ ap (λ count. length a.world.heap.holds + count) (sym (length-map (p ∷ ps) (notice_from k)))
              ∙ sym (length-more_of_each a.world.heap.holds notices);
          pending =
              map-set (λ (f : Finder). f.pending) old.workers k (record (finder_at old k) { pending = rest })
              ∙ ap (λ (all : List (List Pending)). slice_set all k rest) stands.finders.pending;
          queues = refl;
          phase = refl;
          cycle = refl;
          policy = refl;
        };
        alike =
            subst (AreAlike (with_batch old k p (p ∷ ps)))
            (sym (hands_are w ∙ ap (taking w (Worker k)) told))
            (with_hand_alike old.hands w (Worker k)
            (record { queue = p.queue; objects = map (λ (x : Pending). x.object) (p ∷ ps) }) notices
            (record { mutators = stands.mutator_hands; workers = stands.worker_hands }) (
              object_numbers k (p ∷ ps),
              subst (λ (ns : List Notice). list_all (λ (x : Notice). x.queue == p.queue) ns ≡ true) told one,
            ));
      }

-- ---- a hand of one

module _ (j : Judged) (a : State) (stands : StandsFor j a) (k : ℕ)
    (free : free_hand_refusal j.hands (Worker k) ≡ None) where
  pub worker_is : is_worker a.world.heap k ≡ true
  worker_is = actor_same j a stands (Worker k) ∙ (unless_passes (has_carrier j.hands (Worker k)) NoSuchActor _ free).0

  pub hand_refused : refusal a (steps.Hand k) ≡ hand_refusal (finder_at j k).pending a.world.heap
  hand_refused =
      filling_passes j a stands (Worker k) _ free
      ∙ ap (λ test. unless test NoSuchActor (hand_refusal (pending_of a.world k) a.world.heap)) worker_is
      ∙ ap (λ (ps : List Pending). hand_refusal ps a.world.heap) (pending_same j a stands k)

nothing_given : (a : State) (k : ℕ) → pending_of a.world k ≡ []
    → HeapAccepts a (heap.Hand k) replies.Nothing (ticked (with_world a a.world))
nothing_given a k none =
    subst (λ (ps : List Pending). HandsOn a k (one_handed k (take 1 ps)) (take 1 ps) replies.Nothing
    (ticked (with_world a a.world))) (sym none) (refl, refl)

pub nothing_passes : (old : Judged) (a : State) → StandsFor old a
    → Passes old.ground.heap old.holds old.workers a a.world
nothing_passes old a stands = record {
  heap = stands.heap;
  same = same_itself a.world.heap;
  count_is = stands.holds;
  pending = stands.finders.pending;
  queues = refl;
  phase = refl;
  cycle = refl;
  policy = refl;
}

pub handed_nothing : (old : Judged) (k : ℕ) → free_hand_refusal old.hands (Worker k) ≡ None
    → (finder_at old k).pending ≡ []
    → DoesAs old (steps.Hand k) (Ok replies.Nothing)
    (handing old old.ground.heap old.holds old.hands old.workers)
handed_nothing old k free none =
    hands_does old old.ground.heap old.holds old.hands old.workers (λ i. refl) (steps.Hand k) replies.Nothing tt
    (λ a. refl) (λ a stands. record {
      after = a.world;
      asked = heap.Hand k;
      none =
          hand_refused old a stands k free ∙ ap (λ (ps : List Pending). hand_refusal ps a.world.heap) none;
      asks = refl;
      accepts = nothing_given a k (pending_same old a stands k ∙ none);
      passes = nothing_passes old a stands;
      alike = record { mutators = stands.mutator_hands; workers = stands.worker_hands };
    })

-- one is handed on
pub handed_one : (old : Judged) (k : ℕ) (p : Pending) (rest : List Pending)
    → free_hand_refusal old.hands (Worker k) ≡ None → (finder_at old k).pending ≡ p ∷ rest → old.holds < 2 ^ 64 - 1
    → DoesAs old (steps.Hand k) (Ok (replies.Notice p.object p.queue (Cycle p.cycle k)))
    (handing old old.ground.heap (old.holds + 1) (with_batch old k p (p ∷ [])) (with_rest_pending old k rest))
handed_one old k p rest free pends few =
    hands_does old old.ground.heap (old.holds + 1) (with_batch old k p (p ∷ [])) (with_rest_pending old k rest)
    (λ i. set_pending old.workers k i rest) (steps.Hand k) (replies.Notice p.object p.queue (Cycle p.cycle k)) tt
    (λ a. refl)
    (λ a stands. hands_on old k p [] rest (steps.Hand k) (heap.Hand k)
    (replies.Notice p.object p.queue (Cycle p.cycle k)) pends refl (own p.queue) (λ w. refl) a stands
    (hand_refused old a stands k free ∙ ap (λ (ps : List Pending). hand_refusal ps a.world.heap) pends
    ∙ holds_left old a stands few)
    refl
    (subst (λ (ps : List Pending). HandsOn a k (one_handed k (take 1 ps)) (take 1 ps)
    (replies.Notice p.object p.queue (Cycle p.cycle k))
    (ticked (with_world a (handed_each a.world k (notice_from k p ∷ [])))))
    (sym (pending_same old a stands k ∙ pends)) (refl, refl)))
  where
    own : (q : ℕ) → ((q == q) && true) ≡ true
    own q = grind arith

-- where no more holds can be counted
pub hand_spent : (j : Judged) (a : State) → StandsFor j a → (k : ℕ) → free_hand_refusal j.hands (Worker k) ≡ None
    → (p : Pending) → first_of (finder_at j k).pending ≡ Some p → j.holds ≡ 2 ^ 64 - 1
    → refusal a (steps.Hand k) ≡ Some NumbersSpent
hand_spent j a stands k free p first spent =
    hand_refused j a stands k free
    ∙ ap (λ (ps : List Pending). hand_refusal ps a.world.heap) (pends_first (finder_at j k).pending p first)
    ∙ holds_spent j a stands spent

-- what is read of a worker, with these pending, leaves the rest
pub same_read : (j : Judged) (k i : ℕ) → i ≡ k → IsOfSomeState j → free_hand_refusal j.hands (Worker k) ≡ None
    → (f : Finder) → f ≡ get_or j.workers i f → (rest : List Pending)
    → AreSameFinders j (slice_set j.workers i (record f { pending = rest }))
same_read j k i same sound free f read rest =
    let is : f ≡ finder_at j k = finder_read j k i f same (worker_there j k sound free) read in
    subst (AreSameFinders j)
    (ap (λ (x : Finder). slice_set j.workers k (record x { pending = rest })) (sym is)
    ∙ ap (λ n. slice_set j.workers n (record f { pending = rest })) (sym same))
    (λ n. set_pending j.workers k n rest)

-- ---- as a worker is read

module _ (old : Judged) (sound : IsOfSomeState old) (k i : ℕ) (same : i ≡ k)
    (free : free_hand_refusal old.hands (Worker k) ≡ None) (f : Finder) (read : f ≡ get_or old.workers i f)
    (o : Option Pending) (first : o ≡ first_of f.pending) where
  read_first : first_of (finder_at old k).pending ≡ o
  read_first =
      ap (λ (x : Finder). first_of x.pending)
      (sym (finder_read old k i f same (worker_there old k sound free) read))
      ∙ sym first

  pub hands_nothing : o ≡ None
      → DoesAs old (steps.Hand k) (Ok replies.Nothing)
      (handing old old.ground.heap old.holds old.hands old.workers)
  hands_nothing none = handed_nothing old k free (pends_none (finder_at old k).pending (read_first ∙ none))

  pub hands_spent : (p : Pending) → o ≡ Some p → old.holds ≡ 2 ^ 64 - 1
      → DoesAs old (steps.Hand k) (Err NumbersSpent) old
  hands_spent p some spent =
      refused_does old (steps.Hand k) NumbersSpent
      (λ a stands. hand_spent old a stands k free p (read_first ∙ some) spent)

  pub hands_one : (p : Pending) (g : Finder) → o ≡ Some p → g ≡ get_or old.workers i g → old.holds < 2 ^ 64 - 1
      → DoesAs old (steps.Hand k) (Ok (replies.Notice p.object p.queue (Cycle p.cycle k)))
      (handing old old.ground.heap (old.holds + 1) (with_batch old k p (p ∷ []))
      (slice_set old.workers i (record g { pending = drop 1 g.pending })))
  hands_one p g some read-again few =
      let is : g ≡ finder_at old k = finder_read old k i g same (worker_there old k sound free) read-again in
      let rest : List Pending = drop 1 (finder_at old k).pending in
      subst (λ (workers : List Finder).
      DoesAs old (steps.Hand k) (Ok (replies.Notice p.object p.queue (Cycle p.cycle k)))
      (handing old old.ground.heap (old.holds + 1) (with_batch old k p (p ∷ [])) workers))
      (ap (λ (x : Finder). slice_set old.workers k (record x { pending = drop 1 x.pending })) (sym is)
      ∙ ap (λ n. slice_set old.workers n (record g { pending = drop 1 g.pending })) (sym same))
      (handed_one old k p rest free (pends_first (finder_at old k).pending p (read_first ∙ some)) few)
