-- What changes of a world carry on: whatever holds of each object, of each notice, in hands, in queues and still to be
-- handed on, and of the cycle.
use Rattle.ref_base.proofs.Common.{arith, ◌≡◌, ℕ, List, [], ◌∷◌, map, Option, Some, None, sym, ap, ◌∙◌, subst}
use Rattle.ref_base.proofs.Common.{slice_index_or, slice_set, AllByRecursion, Object, changed_at, changed_in}
use Rattle.ref_base.proofs.Common.{with_reference, cleared, got_at, with_field, Lists, new_queue, World, Notice}
use Rattle.ref_base.proofs.Common.{Pending, with_heap, with_hand, with_queue, State, Gives, Actor, Mutator, Worker}
use Rattle.ref_base.proofs.Common.{Reply, without, notice_from}
use Rattle.ref_base.specs.Members.{without_first}
use Rattle.ref_base.proofs.Places.{set_each}
use Rattle.ref_base.proofs.RowForms.{ticked_world}

-- ---- what holds of each object

pub all_changed : {P : Object → Type 0} (os : List Object) (n : ℕ) (f : Object → Object)
    → ((o : Object) → P o → P (f o)) → AllByRecursion P os → AllByRecursion P (changed_at os n f)
all_changed [] n f keeps all = tt
all_changed (o ∷ os) n f keeps all = grind (arith, all_changed os n f keeps all.1)

pub all_map : {P : Object → Type 0} (os : List Object) (f : Object → Object) → ((o : Object) → P o → P (f o))
    → AllByRecursion P os → AllByRecursion P (map f os)
all_map [] f keeps all = tt
all_map (o ∷ os) f keeps all = (keeps o all.0, all_map os f keeps all.1)

pub all_without : (P : Object → Type 0) (ns : List ℕ) (os : List Object) → AllByRecursion P os
    → AllByRecursion P (without ns os)
all_without P ns [] all = tt
all_without P ns (o ∷ os) all = grind (arith, all_without P ns os all.1)

-- ---- what is carried

-- O holds of each object, P of each notice that is out or that a worker will give, and C of the cycle that goes on
pub record CarriesIn (O : Object → Type 0) (P : Notice → Type 0) (C : ℕ → Type 0) (os : List Object)
    (pending : List (List Pending)) (mutator_hands worker_hands : List (List Notice)) (queues : List (Lists Notice))
    (cycle : ℕ) : Type 0 where
  pub objects : AllByRecursion O os
  pub pendings : (k : ℕ) → AllByRecursion (λ p. P (notice_from k p)) (slice_index_or pending k [])
  pub of_mutators : (m : ℕ) → AllByRecursion P (slice_index_or mutator_hands m [])
  pub of_workers : (k : ℕ) → AllByRecursion P (slice_index_or worker_hands k [])
  pub stands : (q : ℕ) → AllByRecursion P (slice_index_or queues q (new_queue q)).stands
  pub goes_on : C cycle

abbrev pub Carries : (Object → Type 0) → (Notice → Type 0) → (ℕ → Type 0) → World → Type 0
Carries O P C w = CarriesIn O P C w.heap.objects w.pending w.mutator_hands w.worker_hands w.queues w.cycle

-- nothing is asked of the cycle
abbrev pub AnyCycle : ℕ → Type 0
AnyCycle cycle = Unit {0}

-- O lasts through each change of an object
pub record Lasts (O : Object → Type 0) : Type 0 where
  pub stores : (o : Object) (i : ℕ) (value : Option ℕ) → O o → O (with_field i value o)
  pub clears : (o : Object) → O o → O (with_reference cleared o)
  pub gets : (o : Object) (clock : ℕ) → O o → O (with_reference (got_at clock) o)

pub all_without_first : {X : Type 0} (P : X → Type 0) (number : X → ℕ) (xs : List X) (n : ℕ) → AllByRecursion P xs
    → AllByRecursion P (without_first number xs n)
all_without_first P number [] n all = tt
all_without_first P number (x ∷ xs) n all = grind (arith, all_without_first P number xs n all.1)

module _ (O : Object → Type 0) (P : Notice → Type 0) (C : ℕ → Type 0) where
  -- ---- the changes of a world

  pub carries_objects : (w : World) (os : List Object) → AllByRecursion O os → Carries O P C w
      → Carries O P C (with_heap w (record w.heap { objects = os }))
  carries_objects w os all carries = assumption carries

  pub carries_changed : (w : World) (held : Option ℕ) (f : Object → Object) → ((o : Object) → O o → O (f o))
      → Carries O P C w → Carries O P C (with_heap w (changed_in w.heap held f))
  carries_changed w None f keeps carries = carries
  carries_changed w (Some n) f keeps carries =
      carries_objects w (changed_at w.heap.objects n f) (all_changed w.heap.objects n f keeps carries.objects) carries

  pub carries_pending : (w : World) (k : ℕ) (ps : List Pending) → AllByRecursion (λ p. P (notice_from k p)) ps
      → Carries O P C w → Carries O P C (record w { pending = slice_set w.pending k ps })
  carries_pending w k ps all carries =
      let each = set_each (λ j qs. AllByRecursion (λ p. P (notice_from j p)) qs) w.pending k ps (λ _. []) all
      carries.pendings in
      assumption (each, carries)

  pub carries_hand : (w : World) (who : Actor) (hand : List Notice) → AllByRecursion P hand → Carries O P C w
      → Carries O P C (with_hand w who hand)
  carries_hand w (Mutator m) hand is carries =
      let each = set_each (λ _ h. AllByRecursion P h) w.mutator_hands m hand (λ _. []) is carries.of_mutators in
      assumption (each, carries)
  carries_hand w (Worker k) hand is carries =
      let each = set_each (λ _ h. AllByRecursion P h) w.worker_hands k hand (λ _. []) is carries.of_workers in
      assumption (each, carries)

  pub carries_queue : (w : World) (q : ℕ) (lists : Lists Notice) → AllByRecursion P lists.stands → Carries O P C w
      → Carries O P C (with_queue w q lists)
  carries_queue w q lists all carries =
      let each = set_each (λ _ (l : Lists Notice). AllByRecursion P l.stands) w.queues q lists new_queue all
      carries.stands in
      assumption (each, carries)

  -- ---- the forms of a row

  pub in_world : (b : State) (w : World) → b.world ≡ w → Carries O P C w → Carries O P C b.world
  in_world b w is carries = subst (λ (v : World). Carries O P C v) (sym is) carries

  pub given : (c b : State) (answer reply : Reply) → Gives answer c reply b → Carries O P C c.world
      → Carries O P C b.world
  given c b answer reply gives carries =
      in_world b c.world (ap (λ (s : State). s.world) gives.1 ∙ ticked_world c) carries
