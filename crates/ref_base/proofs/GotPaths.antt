-- What a get in a mark brings to what was ever kept: what kept paths lead to from the object that it answers, as they
-- were before it.
use Rattle.ref_base.proofs.Common.{arith, ◌≡◌, ℕ, ◌+◌, ◌*◌, ◌-◌, ◌<◌, ◌≤◌, ◌&&◌, Bool, true, false, List, [], ◌∷◌, ◌++◌}
use Rattle.ref_base.proofs.Common.{length, Option, Some, None, is_some, refl, sym, ap, ◌∙◌, subst, inl, inr, ◌⊎◌}
use Rattle.ref_base.proofs.Common.{cases_Bool, and_parts, false≢true, has, Object, Reference, object_at, is_there}
use Rattle.ref_base.proofs.Common.{Graph, EndsPath, IsPath, Allowed, if_any, allowed_referent, targets_of, targets_at}
use Rattle.ref_base.proofs.Common.{present, is_soft, slot_at, changed_in, changed_reference, with_reference, got_at}
use Rattle.ref_base.proofs.Common.{got, World, graph_of, pending_of, with_heap, pending_numbers, State, IsRow, Gets}
use Rattle.ref_base.proofs.Common.{GivesAnewIf, on_heap, referent_got, reference_of, is_in, Marking, Reply, Policy}
use Rattle.ref_base.proofs.Common.{IsKept, is_kept}
use Rattle.std.proofs.Common.{nat_le}
use Rattle.ref_base.specs.KeptPaths.{is_normal}
use Rattle.ref_base.specs.Heaps.{with_stamp}
use Rattle.ref_base.specs.Refusals.{plain_refusal}
use Rattle.ref_base.proofs.ApartWorlds.{OfValue, IsClosed}
use Rattle.ref_base.proofs.CarryRows.{all_more}
use Rattle.ref_base.proofs.HasLaws.{has-cases, has-left, has-right, has-first, has-single}
use Rattle.ref_base.proofs.Lookups.{lookup-changed, has-present_here}
use Rattle.ref_base.proofs.PathLaws.{root_ends, target_ends, path_within}
use Rattle.ref_base.proofs.RowForms.{ticked_world}
use Rattle.ref_base.proofs.PlainRows.{plain_row, plain_accepted}
use Rattle.ref_base.proofs.EverWorlds.{Knows, known_got}
use Rattle.ref_base.specs.declared.plain_step.PlainStep.TheVariants as plain
use Rattle.ref_base.specs.declared.reply.Reply.TheVariants as replies

-- the graph of a state with this object as its one root
abbrev pub graph_from : State → ℕ → Graph
graph_from a n = record { objects = a.world.heap.objects; roots = n ∷ [] }

-- a kept path leads to k from it
abbrev pub IsLedTo : State → ℕ → ℕ → Type 0
IsLedTo a n k = EndsPath (is_kept a.world.policy) (graph_from a n) k

-- ---- a get takes no kept edge away

-- a stamp of the cycle's clock, or a later one, is within each span
stamp_within : (clock stamp span : ℕ) → clock ≤ stamp → nat_le (clock - stamp) span ≡ true
stamp_within clock stamp span later = grind arith

-- a referent that a path may go on to is one of a reference that it may go through
allowed_parts : (allow : Allowed) (r : Reference) (k : ℕ) → has (allowed_referent allow (Some r)) k ≡ true
    → (allow r ≡ true) × (has (if_any r.referent) k ≡ true)
allowed_parts allow r k h =
    elim (cases_Bool (allow r)) [
      | inl may ↦ (may, simp may at h)
      | inr not_so ↦ absurd (false≢true (simp not_so at h))
    ]

-- and the referent of such a reference is one
from_allowed : (allow : Allowed) (r : Reference) (k : ℕ) → allow r ≡ true → has (if_any r.referent) k ≡ true
    → has (allowed_referent allow (Some r)) k ≡ true
from_allowed allow r k may h = simp may h

-- a reference that keeps its referent keeps it when it is got
kept_got : (p : Policy) (clock : ℕ) (r : Option Reference) (k : ℕ) → p.clock ≤ clock
    → has (allowed_referent (is_kept p) r) k ≡ true
    → has (allowed_referent (is_kept p) (changed_reference (got_at clock) r)) k ≡ true
kept_got p clock None k later h = h
kept_got p clock (Some r) k later h =
    elim (cases_Bool (is_soft r.strength)) [
      | inl soft ↦
          let parts = allowed_parts (is_kept p) r k h in
          let normal : is_normal p.urgency ≡ true =
          (and_parts (is_normal p.urgency) (nat_le (p.clock - r.stamp) p.span)
          (and_parts (is_soft r.strength) (is_normal p.urgency && nat_le (p.clock - r.stamp) p.span) parts.0).1).0 in
          let within : nat_le (p.clock - clock) p.span ≡ true = stamp_within p.clock clock p.span later in
          let still : is_kept p (with_stamp clock r) ≡ true = simp (soft, normal, within) refl in
          let got_is : got_at clock r ≡ with_stamp clock r = simp soft refl in
          subst (λ (x : Reference). has (allowed_referent (is_kept p) (Some x)) k ≡ true) (sym got_is)
          (from_allowed (is_kept p) (with_stamp clock r) k still parts.1)
      | inr other ↦
          let got_is : got_at clock r ≡ r = simp other refl in
          subst (λ (x : Reference). has (allowed_referent (is_kept p) (Some x)) k ≡ true) (sym got_is) h
    ]

-- what an object refers to by kept edges, it does after a change
abbrev StaysKept : Policy → Option Object → Option Object → Type 0
StaysKept p o next =
    (k : ℕ) → has (targets_of (is_kept p) o) k ≡ true → has (targets_of (is_kept p) next) k ≡ true

-- an object that is got refers to no less
object_got : (p : Policy) (clock : ℕ) (o : Object) → p.clock ≤ clock
    → StaysKept p (Some o) (Some (with_reference (got_at clock) o))
object_got p clock o later k target =
    elim (has-cases (present o.fields) (allowed_referent (is_kept p) o.reference) k target) [
      | inl field ↦
          has-left (present o.fields) (allowed_referent (is_kept p) (changed_reference (got_at clock) o.reference)) k
          field
      | inr referent ↦
          has-right (present o.fields) (allowed_referent (is_kept p) (changed_reference (got_at clock) o.reference)) k
          (kept_got p clock o.reference k later referent)
    ]

-- nor does any object, in the heap after
targets_got : (w : World) (held : Option ℕ) (clock i : ℕ) → w.policy.clock ≤ clock
    → StaysKept w.policy (object_at w.heap.objects i)
    (object_at (changed_in w.heap held (with_reference (got_at clock))).objects i)
targets_got w None clock i later = λ k target. target
targets_got w (Some n) clock i later =
    lookup-changed (StaysKept w.policy) w.heap.objects n (with_reference (got_at clock)) (λ o. refl)
    (λ o k target. target) (λ o at. object_got w.policy clock o later) i

-- and each object is there still
there_got : (w : World) (held : Option ℕ) (clock i : ℕ) → is_there w.heap.objects i ≡ true
    → is_there (changed_in w.heap held (with_reference (got_at clock))).objects i ≡ true
there_got w None clock i there = there
there_got w (Some n) clock i there =
    lookup-changed (λ o next. is_some o ≡ true → is_some next ≡ true) w.heap.objects n (with_reference (got_at clock))
    (λ o. refl) (λ o is. is) (λ o at is. refl) i there

-- ---- the row

-- the world that it leaves
world_anew : (b c : State) (marks : Bool) (answer reply : Reply) → GivesAnewIf marks answer c reply b
    → b.world ≡ c.world
world_anew b c true answer reply row = ap (λ (s : State). s.world) row.1.1 ∙ ticked_world c
world_anew b c false answer reply row = ap (λ (s : State). s.world) row.1 ∙ ticked_world c

module _ (V : ℕ → Type 0) (a b : State) (marks : a.world.phase ≡ Marking) (knows : Knows V a) (m d s n : ℕ)
    (clock : a.world.policy.clock ≤ a.world.heap.clock) (within : 16 * m + d < length a.world.heap.slots)
    (is : referent_got (reference_of a.world.heap (slot_at a.world.heap m s)) ≡ Some n)
    (there : is_there a.world.heap.objects n ≡ true)
    (targets : (i k : ℕ) → is_there a.world.heap.objects i ≡ true
    → has (targets_at (is_kept a.world.policy) a.world.heap.objects i) k ≡ true
    → is_there a.world.heap.objects k ≡ true) where
  -- the set with what the get brings
  abbrev More : ℕ → Type 0
  More k = V k ⊎ IsLedTo a n k

  -- what holds of the set holds of the one with more
  value_more : (value : Option ℕ) → OfValue V value → OfValue More value
  value_more None of = tt
  value_more (Some k) of = inl of

  -- what a path ends at is there
  ends_there : (k : ℕ) (before : List ℕ) → IsPath (is_kept a.world.policy) (graph_from a n) k before
      → is_there a.world.heap.objects k ≡ true
  ends_there k [] path = path.0
  ends_there k (i ∷ before) path = path.0

  -- the set with more is closed
  closed_led : IsClosed (is_kept a.world.policy) More a.world
  closed_led = record {
    slots = λ i. value_more _ (knows.0.closed.slots i);
    holds = λ k held. inl (knows.0.closed.holds k held);
    pendings = λ j.
        all_more (λ p. V p.object) (λ p. More p.object) (pending_of a.world j) (λ p of. inl of)
        (knows.0.closed.pendings j);
    targets = λ i k has_it target. elim has_it [
      | inl old ↦ inl (knows.0.closed.targets i k old target)
      | inr led ↦
          inr (target_ends (is_kept a.world.policy) (graph_from a n) i k led target
          (targets i k (ends_there i led.0 led.1) target))
    ];
  }

  -- the world after the get
  abbrev after : World
  after = with_heap a.world (got a.world.heap m d s (Some n))

  -- what kept paths lead to from the object is kept once it is got
  kept_led : (k : ℕ) → IsLedTo a n k → IsKept a.world.policy (graph_of after) k
  kept_led k led =
      let clock_now : ℕ = a.world.heap.clock in
      path_within (is_kept a.world.policy) (graph_from a n) (IsKept a.world.policy (graph_of after))
      (λ j there_j root.
      root_ends (is_kept a.world.policy) (graph_of after) j
      (there_got a.world (slot_at a.world.heap m s) clock_now j there_j)
      (has-left (present after.heap.slots ++ after.heap.holds) (pending_numbers after.pending) j
      (has-left (present after.heap.slots) after.heap.holds j
      (subst (λ (i : ℕ). has (present after.heap.slots) i ≡ true) (has-single n j root)
      (slot_got (slot_at a.world.heap m s))))))
      (λ i j before target there_j.
      target_ends (is_kept a.world.policy) (graph_of after) i j before
      (targets_got a.world (slot_at a.world.heap m s) clock_now i clock j target)
      (there_got a.world (slot_at a.world.heap m s) clock_now j there_j)) k led.0 led.1
    where
      slots_same : (held : Option ℕ)
          → (changed_in a.world.heap held (with_reference (got_at a.world.heap.clock))).slots ≡ a.world.heap.slots
      slots_same None = refl
      slots_same (Some i) = refl

      slot_got : (held : Option ℕ) → has (present after.heap.slots) n ≡ true
      slot_got held =
          has-present_here (changed_in a.world.heap (slot_at a.world.heap m s)
          (with_reference (got_at a.world.heap.clock))).slots (16 * m + d) n
          (subst (λ (slots : List (Option ℕ)). 16 * m + d < length slots) (sym (slots_same (slot_at a.world.heap m s)))
          within)

  -- after the get all of that is known
  pub known_led : (reply : Reply) → plain_refusal a (plain.Get m d s) ≡ None
      → IsRow a (plain_row (plain.Get m d s) reply) b → Knows (λ k. V k ⊎ IsLedTo a n k) b
  known_led reply none h =
      let row : Gets a m d s (Some n) reply b =
      subst (λ (value : Option ℕ). Gets a m d s value reply b) is
      (plain_accepted a b (plain.Get m d s) reply none h) in
      let world : b.world ≡ after =
      world_anew b (on_heap a (got a.world.heap m d s (Some n))) (is_in a.world.phase Marking) (replies.Object n) reply
      row in
      known_got V a b marks knows More m d s reply (λ k of. inl of) closed_led
      (subst (OfValue More) (sym is)
      (inr (root_ends (is_kept a.world.policy) (graph_from a n) n there (has-first n []))))
      (λ k has_it. elim has_it [
        | inl old ↦ inl old
        | inr led ↦ inr (subst (λ (w : World). IsKept a.world.policy (graph_of w) k) (sym world) (kept_led k led))
      ])
      none h
