use Rattle.ref_objects.proofs.Common.{arith, sym, ◌∙◌, held_at, None}
use Rattle.ref_space.specs.Tables.{with_none_read}
use Rattle.ref_objects.proofs.SlotLemmas.{read_sound, stored_sound, seen_stored, refusal-slot, changed_held-past}
use Rattle.ref_objects.proofs.objects.Objects.store.Goals as goal

pub invariant_of-self : goal.invariant_of-self
invariant_of-self g c =
    rw c.store.ensures.after
    (stored_sound (read_sound c.self.invariant None) c.in_ok-object.object c.args.field c.in_ok-value.value)

pub returns-then-not-store-clause-refused : goal.returns-then-not-store-clause-refused
returns-then-not-store-clause-refused g c =
    grind (
      arith,
      refusal-slot c.self.invariant c.self.view_is c.args.mutator c.args.into c.in_ok-object.object
          c.in_ok-object.ensures.place.1 c.args.field,
    )

pub returns-then-not-store-clause-after : goal.returns-then-not-store-clause-after
returns-then-not-store-clause-after g c =
    rw (
      c.store.ensures.after,
      changed_held-past (with_none_read c.self.inside.table) c.in_ok-object.object c.args.field
          (held_at c.self.inside.table c.in_ok-value.value) (sym c.store.ensures.there ∙ c.if-not-store.true),
    )
    c.self.view_is

pub invariant_of-self-2 : goal.invariant_of-self-2
invariant_of-self-2 g c =
    rw c.store.ensures.after
    (stored_sound (read_sound c.self.invariant None) c.in_ok-object.object c.args.field c.in_ok-value.value)

pub returns-clause-refused : goal.returns-clause-refused
returns-clause-refused g c =
    grind (
      arith,
      refusal-slot c.self.invariant c.self.view_is c.args.mutator c.args.into c.in_ok-object.object
          c.in_ok-object.ensures.place.1 c.args.field,
    )

pub returns-clause-after : goal.returns-clause-after
returns-clause-after g c =
    rw c.store.ensures.after
    (seen_stored (read_sound c.self.invariant None) c.self.view_is c.args.mutator c.args.into c.args.field c.args.from
    c.in_ok-object.object c.in_ok-value.value c.in_ok-object.ensures.place.1 c.in_ok-value.ensures.place.1)
