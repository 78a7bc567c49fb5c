-- A judge after a row that hands something over, or takes it back: it stands for the state that the row leaves.
use Rattle.ref_base.proofs.Common.{◌≡◌, ℕ, false, refl, sym, ap, ◌∙◌, subst, inl, inr, cases_Bool, List, [], ◌∷◌}
use Rattle.std.specs.Prelude.{◌<◌}
use Rattle.ref_base.proofs.Common.{length, map, Option, Some, None, is_some, has, Heap, Graph, World, Notice, State}
use Rattle.ref_base.proofs.Common.{slice_index_or, with_world, with_hand, with_handed, handed, taking, with_rest}
use Rattle.ref_base.proofs.Common.{ticked, is_in, list_at, NamedStep, heap_step, refusal, told_object, told_notices}
use Rattle.ref_base.proofs.Common.{is_done, Bool, true, drop, ◌≤◌, if◌then◌else◌}
use Rattle.ref_base.specs.Forgetting.{heap_but}
use Rattle.ref_base.specs.QueueLists.{Lists, enqueued, new_queue}
use Rattle.ref_base.specs.Worlds.{object_of}
use Rattle.ref_base.specs.declared.actor.Actor.{Actor}
use Rattle.ref_base.specs.declared.actor.Actor.TheVariants.{Mutator, Worker}
use Rattle.ref_base.specs.declared.fault.Fault.{Fault}
use Rattle.ref_base.specs.declared.phase.Phase.TheVariants.{Marking}
use Rattle.ref_base.specs.declared.reply.Reply.{Reply}
use Rattle.ref_base.specs.declared.row.Row.{Row}
use Rattle.ref_base.specs.declared.step.Step.{Step}
use Rattle.ref_base.specs.declared.step.Step.TheVariants as steps
use Rattle.ref_base.proofs.EverWorlds.{BringsNone}
use Rattle.std.specs.Prelude.{Ok}
use Rattle.ref_base.specs.declared.phase.Phase.TheVariants.{Clearing}
use Rattle.ref_judge.specs.Judged.{has_one, Judged, Finder, AllHands, finder_at, still_left, no_finder, unheld}
use Rattle.ref_judge.specs.Judged.{AreLines}
use Rattle.ref_judge.specs.Judged.{AreToldCleared}
use Rattle.ref_judge.specs.ProfiledRows.{IsRowAs, IsAnswerAs, AcceptsAskingAs, HeapAcceptsAs}
use Rattle.ref_judge.specs.Standing.{StandsFor, TagsTell, FindersTell, LeadsOne, IsSettled, IsOfSomeState, SaysTheSame}
use Rattle.ref_judge.specs.Standing.{DoesAs, is_anew}
use Rattle.ref_judge.specs.declared.profile.Profile.{Profile}
use Rattle.ref_judge.proofs.HandsAlike.{AreAlike}
use Rattle.ref_judge.proofs.KnownJudges.{kept_row}
use Rattle.ref_judge.proofs.LegalFacts.{lawful_row}
use Rattle.ref_judge.proofs.SameObjects.{SameObjects, references_same}
use Rattle.ref_judge.proofs.SoundJudges.{leads_same, sound_after}

-- the judge with this heap, these holds, hands and workers
abbrev pub handing : Judged → Heap → ℕ → AllHands → List Finder → Judged
handing j h count hands workers =
    record j { ground = record j.ground { heap = h }; holds = count; hands = hands; workers = workers }

-- of the state with this world, after these moments
abbrev pub handed_to : State → World → List Graph → State
handed_to a w moments = record a { world = w; moments = moments }

-- each worker found and passed the same
abbrev pub AreSameFinders : Judged → List Finder → Type 0
AreSameFinders j workers =
    (k : ℕ) → record (slice_index_or workers k no_finder) { pending = [] } ≡ record (finder_at j k) { pending = [] }

-- what the row leaves but for the hands: this heap, of which the judge's is the part that is said, its holds, and what
-- is pending
pub record Passes (h : Heap) (count : ℕ) (workers : List Finder) (a : State) (w : World) : Type 0 where
  pub heap : h ≡ heap_but a.doomed (unheld w.heap)
  pub same : SameObjects a.world.heap w.heap
  pub count_is : count ≡ length w.heap.holds
  pub pending : map (λ (f : Finder). f.pending) workers ≡ w.pending
  pub queues : w.queues ≡ a.world.queues
  pub phase : w.phase ≡ a.world.phase
  pub cycle : w.cycle ≡ a.world.cycle
  pub policy : w.policy ≡ a.world.policy

-- ---- what hands leave

-- these hands
abbrev handed_by : World → World → World
handed_by w v = record w { mutator_hands = v.mutator_hands; worker_hands = v.worker_hands }

hand_by : (w : World) (who : Actor) (hand : List Notice) → with_hand w who hand ≡ handed_by w (with_hand w who hand)
hand_by w (Mutator m) hand = refl
hand_by w (Worker k) hand = refl

taking_by : (w : World) (who : Actor) (told : List Notice) → taking w who told ≡ handed_by w (taking w who told)
taking_by w who [] = refl
taking_by w who (notice ∷ rest) = hand_by w who (notice ∷ rest)

done_by : (w v : World) (done : Bool) → v ≡ handed_by w v
    → (if done then v else w) ≡ handed_by w (if done then v else w)
done_by w v true by = by
done_by w v false by = refl

handed_is_by : (w : World) (step : Step) (reply : Reply) → handed w step reply ≡ handed_by w (handed w step reply)
handed_is_by w (steps.Unhook m s) reply = taking_by w (Mutator m) (told_notices reply)
handed_is_by w (steps.Hand k) reply = taking_by w (Worker k) (told_notices reply)
handed_is_by w (steps.Hands k max) reply = taking_by w (Worker k) (told_notices reply)
handed_is_by w (steps.Adopt m d) reply = done_by w (with_rest w (Mutator m)) (is_some (told_object reply)) refl
handed_is_by w (steps.Release who) reply =
    done_by w (with_rest w who) (is_done reply) (hand_by w who _)
handed_is_by w step reply = refl

-- ---- the invariant

settled_handed : (old : Judged) (h : Heap) (count : ℕ) (hands : AllHands) (workers : List Finder) → IsSettled old
    → AreSameFinders old workers → h.config ≡ old.ground.heap.config → IsSettled (handing old h count hands workers)
settled_handed old h count hands workers settled finders config =
    assumption (settled, config ∙ settled.config, waits)
  where
    waits : is_in old.phase Clearing ≡ true → old.some_left ≡ true
        → (k : ℕ) × ((finder_at (handing old h count hands workers) k).at
        < length (finder_at (handing old h count hands workers) k).found)
    waits clears some =
        let (k, more) = settled.waits clears some in
        (k, subst (λ (f : Finder). f.at < length f.found) (sym (finders k)) more)

-- ---- what the judge then stands for

module _ (old : Judged) (h : Heap) (count : ℕ) (hands : AllHands) (workers : List Finder)
    (finders : AreSameFinders old workers) where
  pub handed_finders : (k : ℕ) → still_left (handing old h count hands workers) k ≡ still_left old k
  handed_finders k = ap (λ (f : Finder). drop f.at (map (λ o. o.object) f.found)) (finders k)

  says_the_same : SaysTheSame old (handing old h count hands workers)
  says_the_same = record { left = refl; none = refl; some = refl; finders = handed_finders }

  module _ (a : State) (stands : StandsFor old a) (w v : World) (moments : List Graph)
      (passes : Passes h count workers a w) (alike : AreAlike hands v) where
    tags_tell : TagsTell (handing old h count hands workers) (handed_to a (handed_by w v) moments)
    tags_tell = record {
      old = stands.tags.old;
      scanned = λ judges n there. stands.tags.scanned judges n (sym (passes.same.there n) ∙ there);
      put = λ n q is.
          stands.tags.put n q (sym (passes.same.registered n) ∙ is)
          ∙ ap (λ (qs : List (Lists Notice)). has (enqueued object_of (slice_index_or qs q (new_queue q))) n)
          (sym passes.queues);
    }

    finders_tell : FindersTell (handing old h count hands workers) (handed_to a (handed_by w v) moments)
    finders_tell = record {
      pending = passes.pending;
      within = λ k.
          subst (λ (f : Finder). f.at ≤ length f.found) (sym (finders k)) (stands.finders.within k);
      found = λ judges k.
          ap (λ (f : Finder). map (λ o. o.object) f.found) (finders k) ∙ stands.finders.found judges k
          ∙ sym (references_same a.world.heap w.heap (list_at a.scanned k) passes.same);
      cleared = λ clears k.
          subst (λ (f : Finder). AreToldCleared a.cleared f.found) (sym (finders k)) (stands.finders.cleared clears k);
    }

    stands_handed : (row : Row) → BringsNone row.step
        → IsRowAs old.profile a row (handed_to a (handed_by w v) moments)
        → StandsFor (handing old h count hands workers) (handed_to a (handed_by w v) moments)
    stands_handed row brings accepted = record {
      lawful =
          lawful_row old.profile old.config a (handed_to a (handed_by w v) moments) row stands.lawful accepted;
      heap = passes.heap;
      next = stands.next;
      holds = passes.count_is;
      mutator_hands = alike.mutators;
      worker_hands = alike.workers;
      lines = subst (AreLines old.lines) (sym passes.queues) stands.lines;
      phase = stands.phase ∙ sym passes.phase;
      cycle = stands.cycle ∙ sym passes.cycle;
      policy = stands.policy ∙ sym passes.policy;
      born = stands.born;
      count = stands.count;
      chosen = stands.chosen;
      doomed = stands.doomed;
      kept = kept_row old a (handed_to a (handed_by w v) moments) row stands brings accepted;
      live = λ past n there. stands.live past n (sym (passes.same.there n) ∙ there);
      tags = tags_tell;
      finders = finders_tell;
    }

-- ---- rows

ticked_handed : (a : State) (w : World) (step : Step) (reply : Reply)
    → with_handed (ticked (with_world a w)) step reply
    ≡ handed_to a (handed w step reply) (ticked (with_world a w)).moments
ticked_handed a w step reply =
    elim (cases_Bool (is_in w.phase Marking)) [ inl marks ↦ simp marks refl | inr other ↦ simp other refl ]

asked_row_as : (p : Profile) (a b c : State) (step : Step) (asked : NamedStep) (reply : Reply)
    → refusal a step ≡ None → heap_step a.world step ≡ Some asked → HeapAcceptsAs p a asked reply c
    → b ≡ with_handed c step reply → IsRowAs p a (record { step = step; reply = reply }) b
asked_row_as p a b c step asked reply none asks accepts is =
    subst (λ (o : Option Fault). IsAnswerAs p a o step reply b) (sym none)
    (subst (λ (o : Option NamedStep). AcceptsAskingAs p a o step reply b) (sym asks) (c, accepts, is))

-- a step that its heap accepts so, which leaves this world but for the hands
pub record HandsOn (h : Heap) (count : ℕ) (hands : AllHands) (workers : List Finder) (p : Profile) (step : Step)
    (reply : Reply) (a : State) : Type 0 where
  pub after : World
  pub asked : NamedStep
  pub none : refusal a step ≡ None
  pub asks : heap_step a.world step ≡ Some asked
  pub accepts : HeapAcceptsAs p a asked reply (ticked (with_world a after))
  pub passes : Passes h count workers a after
  pub alike : AreAlike hands (handed after step reply)

module _ (old : Judged) (h : Heap) (count : ℕ) (hands : AllHands) (workers : List Finder)
    (finders : AreSameFinders old workers) (step : Step) (reply : Reply) (brings : BringsNone step) where
  hands_leads : (a : State) → StandsFor old a → is_anew a step (Ok reply) ≡ false
      → HandsOn h count hands workers old.profile step reply a
      → LeadsOne old step (Ok reply) (handing old h count hands workers) a
  hands_leads a stands anew on =
      let moments : List Graph = (ticked (with_world a on.after)).moments in
      let left : World = handed on.after step reply in
      let b : State = handed_to a (handed_by on.after left) moments in
      let is : with_handed (ticked (with_world a on.after)) step reply ≡ b =
      ticked_handed a on.after step reply
      ∙ ap (λ (v : World). handed_to a v moments) (handed_is_by on.after step reply) in
      let row : IsRowAs old.profile a (record { step = step; reply = reply }) b =
      asked_row_as old.profile a b (ticked (with_world a on.after)) step on.asked reply on.none on.asks on.accepts
      (sym is) in
      leads_same old (handing old h count hands workers) a b step (Ok reply) row
      (stands_handed old h count hands workers finders a stands on.after left moments on.passes on.alike
      (record { step = step; reply = reply }) brings row)
      anew (says_the_same old h count hands workers finders)

  -- so it does in each state
  pub hands_does : ((a : State) → is_anew a step (Ok reply) ≡ false)
      → ((a : State) → StandsFor old a → HandsOn h count hands workers old.profile step reply a)
      → DoesAs old step (Ok reply) (handing old h count hands workers)
  hands_does anew on = (refl, refl, λ a stands. hands_leads a stands (anew a) (on a stands))

-- the invariant says nothing of what objects refer to, of holds, hands and workers
pub handed_sound : (old : Judged) (h : Heap) (count : ℕ) (hands : AllHands) (workers : List Finder) (step : Step)
    (reply : Reply) → AreSameFinders old workers → IsOfSomeState old
    → DoesAs old step (Ok reply) (handing old h count hands workers) → h.config ≡ old.ground.heap.config
    → has_one step ≡ true → IsOfSomeState (handing old h count hands workers)
handed_sound old h count hands workers step reply finders sound does config one =
    sound_after old (handing old h count hands workers) step (Ok reply) one sound does
    (settled_handed old h count hands workers sound.settled finders config)
