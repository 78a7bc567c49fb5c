-- A change of all objects that keeps their shape changes no refusal.
use Rattle.ref_base.proofs.Common.{arith, ◌≡◌, ℕ, Bool, if◌then◌else◌, nat_lt, refl, sym, ap, List, [], ◌∷◌, map}
use Rattle.ref_base.proofs.Common.{length, Option, Some, None, is_some, true≢false, length-map, Object, Reference}
use Rattle.ref_base.proofs.Common.{object_at, is_there, Heap, reference_in, registered_in, changed_at}
use Rattle.ref_base.proofs.Common.{changed_reference, cleared, Pending, NamedStep, State, on_heap, unless, has_slot}
use Rattle.ref_base.proofs.Common.{field_count, object_refusal, field_refusal, reference_refusal, holds_refusal}
use Rattle.ref_base.proofs.Common.{minting_refusal, unhook_refusal, held_refusal, hand_refusal, hands_refusal}
use Rattle.ref_base.proofs.Common.{heap_refusal}
use Rattle.ref_base.proofs.Common.{Fault}
use Rattle.ref_base.proofs.Common.{BadField, NoSuchActor, NotAReference}
use Rattle.ref_base.specs.Refusals.{new_refusal, refer_refusal}
use Rattle.ref_base.specs.declared.heap_step.HeapStep.TheVariants as heap
use Rattle.ref_base.specs.declared.plain_step.PlainStep.TheVariants as plain

-- each object keeps its number, how many fields it has, whether it is a reference, and that one's queue
pub record KeepsShape (g : Object → Object) : Type 0 where
  pub number : (o : Object) → (g o).no ≡ o.no
  pub fields : (o : Object) → length (g o).fields ≡ length o.fields
  pub is_reference : (o : Object) → is_some (g o).reference ≡ is_some o.reference
  pub queue : (o : Object) → registered_in (g o).reference ≡ registered_in o.reference

abbrev pub reshaped : (Object → Object) → Heap → Heap
reshaped g h = record h { objects = map g h.objects }

pub queue-cleared : (r : Option Reference) → registered_in (changed_reference cleared r) ≡ registered_in r
queue-cleared None = refl
queue-cleared (Some r) = refl

-- a change of one object goes through, if it does so at that object
pub map-changed_at : (g f : Object → Object) (os : List Object) (n : ℕ) → ((o : Object) → (g o).no ≡ o.no)
    → ((o : Object) → o.no ≡ n → g (f o) ≡ f (g o)) → map g (changed_at os n f) ≡ changed_at (map g os) n f
map-changed_at g f [] n keeps through = refl
map-changed_at g f (o ∷ os) n keeps through = grind (arith, map-changed_at g f os n keeps through)

minting-same : (h : Heap) (r q : Option Reference) → is_some r ≡ is_some q → registered_in r ≡ registered_in q
    → minting_refusal h r ≡ minting_refusal h q
minting-same h None None same queue = refl
minting-same h None (Some q) same queue = absurd (true≢false (sym same))
minting-same h (Some r) None same queue = absurd (true≢false same)
minting-same h (Some r) (Some q) same queue = ap (λ v. if is_some v then holds_refusal h else None) queue

later_same : (there : Bool) {later other : Option Fault} → later ≡ other
    → unless there NoSuchActor later ≡ unless there NoSuchActor other
later_same there same = ap (unless there NoSuchActor) same

module _ (g : Object → Object) (keeps : KeepsShape g) where
  -- what F tells of an object it tells of that object changed
  pub at-reshaped : {T : Type 0} (F : Option Object → T) (os : List Object) (n : ℕ)
      → ((o : Object) → F (Some (g o)) ≡ F (Some o)) → F (object_at (map g os) n) ≡ F (object_at os n)
  at-reshaped F [] n same = refl
  at-reshaped F (o ∷ os) n same = grind (arith, at-reshaped F os n same)

  pub is_there-reshaped : (os : List Object) (n : ℕ) → is_there (map g os) n ≡ is_there os n
  is_there-reshaped os n = at-reshaped (λ o. is_some o) os n (λ o. refl)

  -- ---- refusals

  module _ (h : Heap) where
    object-reshaped : (next k : ℕ) → object_refusal (reshaped g h) next k ≡ object_refusal h next k
    object-reshaped next k = search length-map

    new-reshaped : (next m d k : ℕ) → new_refusal (reshaped g h) next m d k ≡ new_refusal h next m d k
    new-reshaped next m d k =
        ap (λ (later : Option Fault). unless (has_slot h m d) NoSuchActor later) (object-reshaped next k)

    refer-reshaped : (next m d s : ℕ) (queue : Option ℕ) (k : ℕ)
        → refer_refusal (reshaped g h) next m d s queue k ≡ refer_refusal h next m d s queue k
    refer-reshaped next m d s None k = search object-reshaped
    refer-reshaped next m d s (Some q) k = search object-reshaped

    field-reshaped : (held : Option ℕ) (i : ℕ) → field_refusal (reshaped g h) held i ≡ field_refusal h held i
    field-reshaped None i = refl
    field-reshaped (Some n) i =
        ap (λ (count : ℕ). unless (nat_lt i count) BadField None) (at-reshaped field_count h.objects n keeps.fields)

    reference-reshaped : (held : Option ℕ) → reference_refusal (reshaped g h) held ≡ reference_refusal h held
    reference-reshaped None = refl
    reference-reshaped (Some n) =
        ap (λ (there : Bool). unless there NotAReference None)
        (at-reshaped (λ o. is_some (reference_in o)) h.objects n keeps.is_reference)

    unhook-reshaped : (held : Option ℕ) → unhook_refusal (reshaped g h) held ≡ unhook_refusal h held
    unhook-reshaped None = refl
    unhook-reshaped (Some n) =
        at-reshaped (λ o. minting_refusal h (reference_in o)) h.objects n
        (λ o. minting-same h (g o).reference o.reference (keeps.is_reference o) (keeps.queue o))

    held-reshaped : (held : Option ℕ) → held_refusal (reshaped g h) held ≡ held_refusal h held
    held-reshaped None = refl
    held-reshaped (Some n) = refl

    hand-reshaped : (ps : List Pending) → hand_refusal ps (reshaped g h) ≡ hand_refusal ps h
    hand-reshaped [] = refl
    hand-reshaped (p ∷ ps) = refl

    hands-reshaped : (ps : List Pending) → hands_refusal ps (reshaped g h) ≡ hands_refusal ps h
    hands-reshaped [] = refl
    hands-reshaped (p ∷ ps) = refl

  -- no step's refusal changes
  pub same_refusal : (a : State) (step : NamedStep)
      → heap_refusal (on_heap a (reshaped g a.world.heap)) step ≡ heap_refusal a step
  same_refusal a (heap.Plain (plain.New m d k)) = new-reshaped a.world.heap a.next m d k
  same_refusal a (heap.Plain (plain.Refer m strength d s q k)) = refer-reshaped a.world.heap a.next m d s q k
  same_refusal a step =
      search (
        later_same,
        field-reshaped,
        reference-reshaped,
        unhook-reshaped,
        held-reshaped,
        hand-reshaped,
        hands-reshaped,
        refl,
      )
