use Rattle.ref_objects.proofs.Common.{ap, arith, sym, ◌∙◌, Some, tabled_held}
use Rattle.ref_objects.proofs.SlotLemmas.{loaded_sound, seen_loaded, seen_unloaded, field-slot, refusal-slot}
use Rattle.ref_objects.proofs.SlotLemmas.{field_in_cell-some, field_in_cell-none}
use Rattle.ref_space.specs.Tables.{left_of, held_at, word_name}
use Rattle.ref_objects.proofs.objects.Objects.load.Goals.{in-Some, in-None}
use Rattle.ref_objects.proofs.objects.Objects.load.Goals as goal

pub invariant_of-self : goal.invariant_of-self
invariant_of-self g c =
    rw c.load.ensures.after
    (loaded_sound c.self.invariant
    (word_name (held_at c.self.inside.table c.in_ok-object.object) (Some c.args.field)) c.in_ok-place.place
    c.in_ok-object.object c.args.field
    (ap left_of (sym c.load.ensures.after) ∙ c.load.ensures.left))

pub returns-clause-refused : goal.returns-clause-refused
returns-clause-refused g c =
    let held = tabled_held c.self.inside.table c.in_ok-object.object in
    let refusal = refusal-slot c.self.invariant c.self.view_is c.args.mutator c.args.from c.in_ok-object.object
    c.in_ok-object.ensures.place.1 c.args.field in
    elim c.match-load.branch [
      | in-Some w ↦
          let there = field_in_cell-some held c.args.field w.in-Some.value w.in-Some.ensures.answer in grind arith
      | in-None w ↦ let past = field_in_cell-none held c.args.field w.in-None.ensures.answer in grind arith
    ]

pub returns-clause-answer : goal.returns-clause-answer
returns-clause-answer g c =
    let held = tabled_held c.self.inside.table c.in_ok-object.object in
    let answer = field-slot c.self.invariant c.self.view_is c.args.mutator c.args.from c.in_ok-object.object
    c.in_ok-object.ensures.place.1 c.args.field in
    elim c.match-load.branch [
      | in-Some w ↦
          rw w.result-is
          ((field_in_cell-some held c.args.field w.in-Some.value w.in-Some.ensures.answer).1 ∙ answer)
      | in-None w ↦ rw w.result-is tt
    ]

pub returns-clause-after : goal.returns-clause-after
returns-clause-after g c =
    let held = tabled_held c.self.inside.table c.in_ok-object.object in
    elim c.match-load.branch [
      | in-Some w ↦
          rw (w.result-is, c.load.ensures.after)
          (seen_loaded c.self.invariant c.self.view_is c.args.mutator c.args.into c.args.from c.args.field
          c.in_ok-place.place c.in_ok-object.object c.in_ok-place.ensures.place.1 c.in_ok-object.ensures.place.1
          (word_name (held_at c.self.inside.table c.in_ok-object.object) (Some c.args.field))
          (ap left_of (sym c.load.ensures.after) ∙ c.load.ensures.left)
          (field_in_cell-some held c.args.field w.in-Some.value w.in-Some.ensures.answer).0)
      | in-None w ↦
          rw (w.result-is, c.load.ensures.after)
          (seen_unloaded c.self.invariant c.self.view_is c.args.mutator c.args.into c.args.from c.args.field
          c.in_ok-place.place c.in_ok-object.object c.in_ok-place.ensures.place.1 c.in_ok-object.ensures.place.1
          (word_name (held_at c.self.inside.table c.in_ok-object.object) (Some c.args.field))
          (field_in_cell-none held c.args.field w.in-None.ensures.answer))
    ]
