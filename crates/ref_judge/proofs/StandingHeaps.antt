-- The heap of a judge and that of a state that it stands for: what is read of both, what is refused, and what is
-- changed in both alike.
use Rattle.ref_base.proofs.Common.{◌≡◌, ℕ, ◌+◌, ◌*◌, false, refl, sym, ap, ◌∙◌, Option, Some, None, has, is_there}
use Rattle.ref_base.proofs.Common.{Object, Heap, World, State, slot_at, with_slot, changed_in, made, field_in}
use Rattle.ref_base.proofs.Common.{with_heap, reference_of, present, pending_numbers, has_slot, ◌++◌}
use Rattle.ref_base.specs.Forgetting.{forgotten, heap_but}
use Rattle.ref_base.specs.Heaps.{stored, with_field, cut, got, cleared, with_reference, got_at}
use Rattle.ref_base.specs.Refusals.{has_slots, plain_refusal, field_refusal, reference_refusal, unless}
use Rattle.ref_base.specs.declared.fault.Fault.{Fault}
use Rattle.ref_base.specs.declared.fault.Fault.TheVariants.{NoSuchActor}
use Rattle.ref_base.specs.declared.heap_step.HeapStep.TheVariants as heap
use Rattle.ref_base.specs.declared.plain_step.PlainStep.{PlainStep}
use Rattle.ref_base.specs.declared.plain_step.PlainStep.TheVariants as plain
use Rattle.ref_base.proofs.Forgetting.{IsSaid, forgotten-shape, field_in-but, reference_of-but, changed_in-but}
use Rattle.ref_base.proofs.Forgetting.{made-but}
use Rattle.ref_base.proofs.HasLaws.{has-left}
use Rattle.ref_base.proofs.Lookups.{has-present_at}
use Rattle.ref_base.proofs.Reshaping.{same_refusal, is_there-reshaped}
use Rattle.ref_judge.specs.Judged.{Judged, unheld}
use Rattle.ref_base.specs.declared.step.Step.TheVariants.{Plain}
use Rattle.std.specs.Prelude.{Err}
use Rattle.ref_judge.specs.Standing.{StandsFor, DoesAs}
use Rattle.ref_judge.proofs.LegalFacts.{legal_facts}
use Rattle.ref_judge.proofs.OtherPolicies.{IsMutators}
use Rattle.ref_judge.proofs.SoundJudges.{refused_does}

-- ---- a heap without its holds

field_unheld : (h : Heap) (held : Option ℕ) (i : ℕ) → field_refusal (unheld h) held i ≡ field_refusal h held i
field_unheld h None i = refl
field_unheld h (Some n) i = refl

reference_unheld : (h : Heap) (held : Option ℕ) → reference_refusal (unheld h) held ≡ reference_refusal h held
reference_unheld h None = refl
reference_unheld h (Some n) = refl

-- it refuses mutators what that heap does
unheld_refusal : (a : State) (step : PlainStep) → IsMutators step
    → plain_refusal (record a { world = with_heap a.world (unheld a.world.heap) }) step ≡ plain_refusal a step
unheld_refusal a (plain.Refer m strength d s None k) inside = refl
unheld_refusal a (plain.Refer m strength d s (Some q) k) inside = refl
unheld_refusal a (plain.New m d k) inside = refl
unheld_refusal a (plain.Store m s i v) inside =
    let h = a.world.heap in
    ap (λ (later : Option Fault). unless (has_slots h m s v) NoSuchActor later) (field_unheld h (slot_at h m s) i)
unheld_refusal a (plain.Load m d s i) inside =
    let h = a.world.heap in
    ap (λ (later : Option Fault). unless (has_slots h m d s) NoSuchActor later) (field_unheld h (slot_at h m s) i)
unheld_refusal a (plain.Copy m d s) inside = refl
unheld_refusal a (plain.Drop m s) inside = refl
unheld_refusal a (plain.Get m d s) inside =
    let h = a.world.heap in
    ap (λ (later : Option Fault). unless (has_slots h m d s) NoSuchActor later) (reference_unheld h (slot_at h m s))
unheld_refusal a (plain.Clear m s) inside =
    let h = a.world.heap in
    ap (λ (later : Option Fault). unless (has_slot h m s) NoSuchActor later) (reference_unheld h (slot_at h m s))
unheld_refusal a (plain.RefersTo m s v) inside =
    let h = a.world.heap in
    ap (λ (later : Option Fault). unless (has_slots h m v s) NoSuchActor later) (reference_unheld h (slot_at h m s))
unheld_refusal a step inside = absurd inside

changed_unheld : (h : Heap) (held : Option ℕ) (f : Object → Object)
    → unheld (changed_in h held f) ≡ changed_in (unheld h) held f
changed_unheld h None f = refl
changed_unheld h (Some n) f = refl

field_in_unheld : (h : Heap) (held : Option ℕ) (i : ℕ) → field_in (unheld h) held i ≡ field_in h held i
field_in_unheld h None i = refl
field_in_unheld h (Some n) i = refl

reference_of_unheld : (h : Heap) (held : Option ℕ) → reference_of (unheld h) held ≡ reference_of h held
reference_of_unheld h None = refl
reference_of_unheld h (Some n) = refl

module _ (j : Judged) (a : State) (stands : StandsFor j a) where
  -- the judge refuses mutators what the state does
  pub refusal_same : (step : PlainStep) → IsMutators step
      → plain_refusal (record a { world = with_heap a.world j.ground.heap; next = j.ground.next }) step
      ≡ plain_refusal a step
  refusal_same step inside =
      let h : Heap = unheld a.world.heap in
      ap (λ (x : Heap). plain_refusal (record a { world = with_heap a.world x; next = j.ground.next }) step) stands.heap
      ∙ ap (λ (n : ℕ). plain_refusal (record a { world = with_heap a.world (heap_but a.doomed h); next = n }) step)
      stands.next
      ∙ same_refusal (λ o. forgotten a.doomed o) (forgotten-shape a.doomed) (record a { world = with_heap a.world h })
      (heap.Plain step)
      ∙ unheld_refusal a step inside

  -- ---- what is read

  pub slot_same : (m s : ℕ) → slot_at j.ground.heap m s ≡ slot_at a.world.heap m s
  slot_same m s = ap (λ (h : Heap). slot_at h m s) stands.heap

  pub clock_same : j.ground.heap.clock ≡ a.world.heap.clock
  clock_same = ap (λ (h : Heap). h.clock) stands.heap

  -- the same objects are there
  pub there_same : (n : ℕ) → is_there j.ground.heap.objects n ≡ is_there a.world.heap.objects n
  there_same n =
      ap (λ (h : Heap). is_there h.objects n) stands.heap
      ∙ is_there-reshaped (λ o. forgotten a.doomed o) (forgotten-shape a.doomed) a.world.heap.objects n

  -- each state has the configuration
  pub config_same : j.ground.heap.config ≡ j.config
  config_same =
      ap (λ (h : Heap). h.config) stands.heap ∙ (legal_facts j.profile j.config a stands.lawful).sizes.config_is

  said : (m s : ℕ) (held : Option ℕ) → slot_at a.world.heap m s ≡ held → IsSaid a.doomed held
  said m s None is = tt
  said m s (Some n) is =
      let w : World = a.world in
      ((legal_facts j.profile j.config a stands.lawful).names.roots n
      (has-left (present w.heap.slots ++ w.heap.holds) (pending_numbers w.pending) n
      (has-left (present w.heap.slots) w.heap.holds n (has-present_at w.heap.slots (16 * m + s) n is)))).1

  -- what a slot holds isn't doomed
  pub slot_said : (m s : ℕ) → IsSaid a.doomed (slot_at a.world.heap m s)
  slot_said m s = said m s (slot_at a.world.heap m s) refl

  pub field_in_same : (m s i : ℕ)
      → field_in j.ground.heap (slot_at j.ground.heap m s) i ≡ field_in a.world.heap (slot_at a.world.heap m s) i
  field_in_same m s i =
      let held = slot_at a.world.heap m s in
      ap (λ (h : Heap). field_in h (slot_at h m s) i) stands.heap
      ∙ field_in-but a.doomed (unheld a.world.heap) held i (slot_said m s) ∙ field_in_unheld a.world.heap held i

  pub reference_of_same : (m s : ℕ)
      → reference_of j.ground.heap (slot_at j.ground.heap m s) ≡ reference_of a.world.heap (slot_at a.world.heap m s)
  reference_of_same m s =
      let held = slot_at a.world.heap m s in
      ap (λ (h : Heap). reference_of h (slot_at h m s)) stands.heap
      ∙ reference_of-but a.doomed (unheld a.world.heap) held (slot_said m s) ∙ reference_of_unheld a.world.heap held

  -- ---- what is changed

  pub with_slot_same : (m s : ℕ) (value : Option ℕ)
      → with_slot j.ground.heap m s value ≡ heap_but a.doomed (unheld (with_slot a.world.heap m s value))
  with_slot_same m s value = ap (λ (h : Heap). with_slot h m s value) stands.heap

  pub changed_in_same : (m s : ℕ) (f : Object → Object) → ((o : Object) → (f o).no ≡ o.no)
      → changed_in j.ground.heap (slot_at j.ground.heap m s) f
      ≡ heap_but a.doomed (unheld (changed_in a.world.heap (slot_at a.world.heap m s) f))
  changed_in_same m s f number =
      let held = slot_at a.world.heap m s in
      ap (λ (h : Heap). changed_in h (slot_at h m s) f) stands.heap
      ∙ sym (changed_in-but a.doomed (unheld a.world.heap) held f (slot_said m s) number)
      ∙ ap (λ (h : Heap). heap_but a.doomed h) (sym (changed_unheld a.world.heap held f))

  pub stored_same : (m s i v : ℕ)
      → stored j.ground.heap m s i v ≡ heap_but a.doomed (unheld (stored a.world.heap m s i v))
  stored_same m s i v =
      ap (λ (value : Option ℕ). changed_in j.ground.heap (slot_at j.ground.heap m s) (with_field i value))
      (slot_same m v)
      ∙ changed_in_same m s (with_field i (slot_at a.world.heap m v)) (λ o. refl)

  pub cut_same : (m s : ℕ) → cut j.ground.heap m s ≡ heap_but a.doomed (unheld (cut a.world.heap m s))
  cut_same m s = changed_in_same m s (with_reference cleared) (λ o. refl)

  pub got_same : (m d s : ℕ) (value : Option ℕ)
      → got j.ground.heap m d s value ≡ heap_but a.doomed (unheld (got a.world.heap m d s value))
  got_same m d s None = with_slot_same m d None
  got_same m d s (Some n) =
      ap (λ (clock : ℕ).
      with_slot (changed_in j.ground.heap (slot_at j.ground.heap m s) (with_reference (got_at clock))) m d (Some n))
      clock_same
      ∙ ap (λ (h : Heap). with_slot h m d (Some n))
      (changed_in_same m s (with_reference (got_at a.world.heap.clock)) (λ o. refl))

  -- an object that isn't doomed
  pub made_same : (m d : ℕ) (o : Object) → has a.doomed o.no ≡ false
      → made j.ground.heap m d o ≡ heap_but a.doomed (unheld (made a.world.heap m d o))
  made_same m d o kept =
      ap (λ (h : Heap). made h m d o) stands.heap ∙ sym (made-but a.doomed (unheld a.world.heap) m d o kept)

-- what the judge's objects refuse a mutator, it refuses
pub mutator_refused : (old : Judged) (step : PlainStep) (fault : Fault) → IsMutators step
    → ((a : State) → plain_refusal (record a { world = with_heap a.world old.ground.heap; next = old.ground.next }) step
    ≡ Some fault)
    → DoesAs old (Plain step) (Err fault) old
mutator_refused old step fault inside refused =
    refused_does old (Plain step) fault (λ a stands. sym (refusal_same old a stands step inside) ∙ refused a)
