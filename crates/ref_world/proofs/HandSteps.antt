-- A step of the heap that fills or empties a hand is a row, and what it leaves is sound.
use Rattle.ref_world.proofs.Common.{◌≡◌, ℕ, ◌∷◌, [], List, None, Result, refl, subst, sym, Notice, Actor, Mutator}
use Rattle.ref_world.proofs.Common.{Fault, Reply, Core, Hands, hand_in, emptying_refusal, filling_refusal, with_rest_in}
use Rattle.ref_world.proofs.Common.{IsSound, Step, Does, answered, HeapDoes, WorldHeap, drop_refusal, model_heap}
use Rattle.ref_world.proofs.Common.{answer_in, received, told_notices, IsRowOf}
use Rattle.ref_base.specs.HeapSteps.{NamedStep}
use Rattle.ref_base.specs.declared.heap_step.HoldName.{HoldName}
use Rattle.ref_world.proofs.AskedRows.{as_told, does_answered, asked_core}
use Rattle.ref_world.proofs.HandRows.{own_hold, free_from, adopt_done, release_done}
use Rattle.ref_world.proofs.SoundCores.{sound_after}
use Rattle.ref_base.specs.declared.heap_step.HeapStep.TheVariants as heap
use Rattle.ref_base.specs.declared.step.Step.TheVariants as steps

-- the call does the step, and leaves a sound world
abbrev pub Done : Core → Step → Result Reply Fault → Core → Type 0
Done old step reply new = Does old step reply new × IsSound new

-- what is called stands behind a view
module _ {c now : Core} (sound : IsSound c) (seen : c ≡ now) (result : Result Reply Fault) where
  pub done : (step : Step) (left : Core) → left.queues ≡ c.queues → IsRowOf c step (answered result) left
      → Done now step result left
  done step left same row = (
    subst (λ (o : Core). Does o step result left) seen (does_answered c step result left row),
    sound_after c left step (answered result) same sound row,
  )

  pub adopt_does : (m d : ℕ) (notice : Notice) (rest : List Notice) (hold : HoldName) {told : Reply} {k : WorldHeap}
      {hands : Hands} → drop_refusal (model_heap now.heap) m d ≡ None → emptying_refusal c.hands (Mutator m) ≡ None
      → hand_in c.hands (Mutator m) ≡ notice ∷ rest → hold ≡ own_hold notice → answered result ≡ told
      → HeapDoes c.heap (heap.Adopt m d hold) told k → hands ≡ with_rest_in c.hands (Mutator m)
      → Done now (steps.Adopt m d) result (record c { heap = k; hands = hands })
  adopt_does m d notice rest hold {told} {k} {hands} slot accepted full is tells does emptied =
      let there = subst (λ (o : Core). drop_refusal (model_heap o.heap) m d ≡ None) (sym seen) slot in
      done (steps.Adopt m d) (record c { heap = k; hands = hands }) refl
      (adopt_done c sound.reached m d notice rest hold there accepted full is tells does emptied)

  pub release_does : (who : Actor) (notice : Notice) (rest : List Notice) (hold : HoldName) {told : Reply}
      {k : WorldHeap} {hands : Hands} → emptying_refusal c.hands who ≡ None → hand_in c.hands who ≡ notice ∷ rest
      → hold ≡ own_hold notice → answered result ≡ told → HeapDoes c.heap (heap.Release hold) told k
      → hands ≡ with_rest_in c.hands who
      → Done now (steps.Release who) result (record c { heap = k; hands = hands })
  release_does who notice rest hold {told} {k} {hands} accepted full is tells does emptied =
      done (steps.Release who) (record c { heap = k; hands = hands }) refl
      (release_done c sound.reached who notice rest hold accepted full is tells does emptied)

  -- an empty hand is filled with what the heap gives, if anything
  pub filled_does : (who : Actor) (step : Step) (asked : NamedStep) → filling_refusal c.hands who ≡ None
      → (hand_in c.hands who ≡ [] → IsRowOf c step (answer_in c.heap asked)
      (asked_core c asked (received c.hands who (told_notices (answer_in c.heap asked))))) → {k : WorldHeap}
      {hands : Hands} → hands ≡ received c.hands who (told_notices (answered result))
      → HeapDoes c.heap asked (answered result) k
      → Done now step result (record c { heap = k; hands = hands })
  filled_does who step asked free row {k} {hands} is does =
      done step (record c { heap = k; hands = hands }) refl
      (as_told c step asked hands refl does (rw (is, does.answer) (row (free_from c.hands who free))))
