use Rattle.std.proofs.Common.{refl, ap, sym, ◌∙◌, is_some, nat_eq}
use Rattle.indexmap.specs.IndexMap.{insert_entry}
use Rattle.std.proofs.lemmas.Option.{same_Some}
use Rattle.ref_queue.proofs.TableLemmas.{may_register, wants_memory, registered_twice, put_back}
use Rattle.ref_queue.proofs.clean_table.CleanTable.register.Goals as goal

pub put_back-kept-requires : goal.put_back-kept-requires
put_back-kept-requires g c = ap is_some c.in-Ok-Some.ensures.updates.1

pub returns-in-Ok-None : goal.returns-in-Ok-None
returns-in-Ok-None g c =
    let es = c.self.inside.jobs.entries in
    let closed = c.self.inside.is_closed in
    let free = ap is_some (sym c.in-Ok-None.ensures.old ∙ c.in-Ok-None.field-0-is) in
    rw (← c.self.view_is)
    (may_register es closed c.args.object c.if-self.false free, (c.in-Ok-None.ensures.updates.0, refl))

pub returns-in-Ok-Some : goal.returns-in-Ok-Some
returns-in-Ok-Some g c =
    let es = c.self.inside.jobs.entries in
    let closed = c.self.inside.is_closed in
    let stood = sym c.in-Ok-Some.ensures.old ∙ c.in-Ok-Some.field-0-is in
    let back =
    same_Some c.put_back-kept.result (c.args.kept, c.args.job)
    (sym c.put_back-kept.ensures.out ∙ c.in-Ok-Some.ensures.updates.1) in
    rw (← c.self.view_is) (
      registered_twice es closed c.args.object c.if-self.false (ap is_some stood),
      ap (λ b. b.0) back,
      ap (λ b. b.1) back,
      c.put_back-kept.ensures.after
          ∙ ap (λ fs. record { jobs = insert_entry nat_eq fs c.args.object c.in-Ok-Some.before; closed = closed })
          c.in-Ok-Some.ensures.entries
          ∙ ap (λ fs. record { jobs = fs; closed = closed })
          (put_back c.args.object (c.args.kept, c.args.job) es c.in-Ok-Some.before stood),
    )

pub returns-in-Err : goal.returns-in-Err
returns-in-Err g c =
    let es = c.self.inside.jobs.entries in
    let closed = c.self.inside.is_closed in
    let free = ap is_some c.in-Err.ensures.absent in
    rw (← c.self.view_is) (
      wants_memory es closed c.args.object c.if-self.false free,
      ap (λ back. back.1.0) c.in-Err.ensures.value_returned,
      ap (λ back. back.1.1) c.in-Err.ensures.value_returned,
      ap (λ es. record { jobs = es; closed = c.self.inside.is_closed }) c.in-Err.ensures.err,
    )
