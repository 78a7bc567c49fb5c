-- A judge after a row that changes what its heap's objects refer to and its slots hold, and nothing else: it stands for
-- the state that the row leaves.
use Rattle.ref_base.proofs.Common.{◌≡◌, Bool, false, refl, sym, ap, ◌∙◌, subst, List, None, cases_Bool, inl, inr, Heap}
use Rattle.ref_base.proofs.Common.{Graph, State, ticked, on_heap, is_in, length, true}
use Rattle.ref_base.specs.CollectorRows.{PlainAccepts, list_at}
use Rattle.ref_base.specs.Forgetting.{heap_but}
use Rattle.ref_base.specs.Refusals.{plain_refusal}
use Rattle.ref_base.specs.Worlds.{with_heap}
use Rattle.ref_base.specs.declared.phase.Phase.TheVariants.{Marking}
use Rattle.ref_base.specs.declared.plain_step.PlainStep.{PlainStep}
use Rattle.ref_base.specs.declared.plain_step.PlainStep.TheVariants as plain
use Rattle.ref_base.specs.declared.heap_step.HeapStep.TheVariants as heap
use Rattle.ref_base.specs.declared.reply.Reply.{Reply}
use Rattle.ref_base.specs.declared.row.Row.{Row}
use Rattle.ref_base.specs.declared.step.Step.TheVariants.{Plain}
use Rattle.ref_base.proofs.EverRows.{KeepsEver}
use Rattle.ref_base.proofs.EverWorlds.{BringsNone}
use Rattle.ref_base.proofs.PlainRows.{plain_row, accepted_plain}
use Rattle.std.specs.Prelude.{Ok}
use Rattle.ref_judge.specs.Judged.{has_one_answer, Judged, unheld}
use Rattle.ref_judge.specs.ProfiledRows.{IsRowAs, says_anew}
use Rattle.ref_judge.specs.Standing.{StandsFor, TagsTell, FindersTell, DoesAs, LeadsOne, IsOfSomeState}
use Rattle.ref_judge.proofs.KnownJudges.{kept_row}
use Rattle.ref_judge.proofs.LegalFacts.{lawful_row}
use Rattle.ref_judge.proofs.OtherPolicies.{IsMutators}
use Rattle.ref_judge.proofs.SameObjects.{SameObjects, references_same}
use Rattle.ref_judge.proofs.SoundJudges.{not_anew, leads_same, sound_after}
use Rattle.ref_judge.proofs.StandingHeaps.{refusal_same, config_same}
use Rattle.ref_judge.proofs.UnchangedRows.{IsPlain, row_common}

-- ---- another heap

-- the judge with this heap
abbrev pub judging : Judged → Heap → Judged
judging j h = record j { ground = record j.ground { heap = h } }

-- the state with this heap, after these moments, in which this is said of what is left
abbrev pub moved_to : State → Heap → List Graph → Bool → State
moved_to a g moments left = record (on_heap a g) { moments = moments; left = left }

module _ (old : Judged) (a : State) (stands : StandsFor old a) (h g : Heap) (moments : List Graph)
    (left : Bool) (same : SameObjects a.world.heap g) where
  tags_tell : TagsTell (judging old h) (moved_to a g moments left)
  tags_tell = record {
    old = stands.tags.old;
    scanned = λ judges n there. stands.tags.scanned judges n (sym (same.there n) ∙ there);
    put = λ n q is. stands.tags.put n q (sym (same.registered n) ∙ is);
  }

  finders_tell : FindersTell (judging old h) (moved_to a g moments left)
  finders_tell = record {
    pending = stands.finders.pending;
    within = stands.finders.within;
    found = λ judges k.
        stands.finders.found judges k ∙ sym (references_same a.world.heap g (list_at a.scanned k) same);
    cleared = stands.finders.cleared;
  }

  pub stands_moved : h ≡ heap_but a.doomed (unheld g) → g.holds ≡ a.world.heap.holds → (row : Row) → BringsNone row.step
      → IsRowAs old.profile a row (moved_to a g moments left)
      → StandsFor (judging old h) (moved_to a g moments left)
  stands_moved is holds row brings accepted = record {
    lawful = lawful_row old.profile old.config a (moved_to a g moments left) row stands.lawful accepted;
    heap = is;
    next = stands.next;
    holds = stands.holds ∙ ap length (sym holds);
    mutator_hands = stands.mutator_hands;
    worker_hands = stands.worker_hands;
    lines = stands.lines;
    phase = stands.phase;
    cycle = stands.cycle;
    policy = stands.policy;
    born = stands.born;
    count = stands.count;
    chosen = stands.chosen;
    doomed = stands.doomed;
    kept = kept_row old a (moved_to a g moments left) row stands brings accepted;
    live = λ past n there. stands.live past n (sym (same.there n) ∙ there);
    tags = tags_tell;
    finders = finders_tell;
  }

-- ---- a row of a mutator

-- In each state the row leaves such a heap, of which the judge's is the part that is said.
pub record Changes (h : Heap) (step : PlainStep) (reply : Reply) (a : State) : Type 0 where
  pub after : Heap
  pub accepts : PlainAccepts a step reply (ticked (on_heap a after))
  pub plain : IsPlain a step reply
  pub heap : h ≡ heap_but a.doomed (unheld after)
  pub same : SameObjects a.world.heap after
  pub holds : after.holds ≡ a.world.heap.holds

pub ticked_moved : (a : State) (g : Heap) → ticked (on_heap a g) ≡ moved_to a g (ticked (on_heap a g)).moments a.left
ticked_moved a g =
    elim (cases_Bool (is_in a.world.phase Marking)) [ inl marks ↦ simp marks refl | inr other ↦ simp other refl ]

says_plain : (a : State) (step : PlainStep) (reply : Reply) → IsPlain a step reply → IsMutators step
    → says_anew a step reply ≡ false
says_plain a (plain.Load m d s i) reply is inside = is
says_plain a (plain.Get m d s) reply is inside = is
says_plain a (plain.Begin now how) reply is inside = absurd inside
says_plain a step reply is inside = refl

module _ (old : Judged) (h : Heap) (step : PlainStep) (reply : Reply) (inside : IsMutators step)
    (keeps : KeepsEver (heap.Plain step)) where
  leads_changed : (a : State) → StandsFor old a → plain_refusal a step ≡ None → Changes h step reply a
      → LeadsOne old (Plain step) (Ok reply) (judging old h) a
  leads_changed a stands none changes =
      let b : State = moved_to a changes.after (ticked (on_heap a changes.after)).moments a.left in
      let accepts : PlainAccepts a step reply b =
      subst (PlainAccepts a step reply) (ticked_moved a changes.after) changes.accepts in
      let row : IsRowAs old.profile a (plain_row step reply) b =
      row_common old.profile a b (plain_row step reply) (inr changes.plain)
      (accepted_plain a b step reply none accepts) in
      leads_same old (judging old h) a b (Plain step) (Ok reply) row
      (stands_moved old a stands h changes.after (ticked (on_heap a changes.after)).moments a.left changes.same
      changes.heap changes.holds (plain_row step reply) keeps row)
      (not_anew a step reply (says_plain a step reply changes.plain inside))
      (record { left = refl; none = refl; some = refl; finders = λ k. refl })

  -- where the judge's objects don't refuse it
  pub mutator_does : ((a : State)
      → plain_refusal (record a { world = with_heap a.world old.ground.heap; next = old.ground.next }) step ≡ None)
      → ((a : State) → StandsFor old a → Changes h step reply a) → DoesAs old (Plain step) (Ok reply) (judging old h)
  mutator_does none changes = (
    refl,
    refl,
    λ a stands. leads_changed a stands (sym (refusal_same old a stands step inside) ∙ none a) (changes a stands),
  )

-- the invariant says nothing of what objects refer to and slots hold
pub changed_sound : (old : Judged) (h : Heap) (step : PlainStep) (reply : Reply) → IsOfSomeState old
    → DoesAs old (Plain step) (Ok reply) (judging old h) → has_one_answer step ≡ true → IsOfSomeState (judging old h)
changed_sound old h step reply sound does one =
    let leads = does.2 sound.state sound.stands in
    sound_after old (judging old h) (Plain step) (Ok reply) one sound does
    (assumption (sound.settled, config_same (judging old h) leads.state leads.stands))
