use Rattle.std.proofs.Common.{arith, ◌∙◌, ℕ, refl, sym, ap, length, List}
use Rattle.std.proofs.lemmas.Bool.{true≢false}
use Rattle.ref_base.specs.Refusals.{work_refusal}
use Rattle.ref_base.specs.declared.phase.Phase.TheVariants.{Clearing}
use Rattle.ref_judge.specs.Finding.{has_cleared_left, others_from}
use Rattle.ref_judge.specs.Judged.{Judged, Finder, no_finder}
use Rattle.ref_judge.proofs.PassedRows.{at_any, within_workers, passed_told, some_cleared, none_waits, passed_sound}
use Rattle.ref_judge.proofs.judge.Judge.pass_all.Goals as goal
use Rattle.ref_judge.proofs.judge.Judge.pass_all.Goals.{else-self-via-then-self+else-not-may_others_have_more}
use Rattle.ref_judge.proofs.judge.Judge.pass_all.Goals.{else-self-via-else-self}

pub index-requires : goal.index-requires
index-requires g c =
    let k = c.worker.inside.0 in
    let none =
    ap (λ (j : Judged). work_refusal j.ground.heap j.phase Clearing k) c.self.view_is
    ∙ ap (λ (n : ℕ). work_refusal c.args.self.now.ground.heap c.args.self.now.phase Clearing n) c.worker.view_is
    ∙ c.requires in
    let within = within_workers _ k none c.self.invariant.state c.self.invariant.stands in
    let len = c.self.inside.workers.ok.0 in
    omega (arith, within, len)

pub returns-then-has_cleared : goal.returns-then-has_cleared
returns-then-has_cleared g c =
    let k = c.worker.inside.0 in
    let none =
    ap (λ (j : Judged). work_refusal j.ground.heap j.phase Clearing k) c.self.view_is
    ∙ ap (λ (n : ℕ). work_refusal c.args.self.now.ground.heap c.args.self.now.phase Clearing n) c.worker.view_is
    ∙ c.requires in
    let within = within_workers _ k none c.self.invariant.state c.self.invariant.stands in
    rw (← c.self.view_is)
    (rw (← c.worker.view_is) (
      some_cleared _ k none
          (ap has_cleared_left (sym (c.index.ensures ∙ at_any c.self.inside.workers.items k _ no_finder within))
          ∙ sym c.has_cleared.ensures ∙ c.if-has_cleared.true),
      refl,
    ))

pub returns-then-not-may_others_have_more : goal.returns-then-not-may_others_have_more
returns-then-not-may_others_have_more g c =
    let k = c.worker.inside.0 in
    let none =
    ap (λ (j : Judged). work_refusal j.ground.heap j.phase Clearing k) c.self.view_is
    ∙ ap (λ (n : ℕ). work_refusal c.args.self.now.ground.heap c.args.self.now.phase Clearing n) c.worker.view_is
    ∙ c.requires in
    rw (← c.self.view_is)
    (rw (← c.worker.view_is) (
      none_waits _ k none c.if-self.true
          (ap (λ (ws : List Finder). others_from k 0 ws) (sym c.deref.ensures.value)
          ∙ sym c.may_others_have_more.ensures ∙ c.if-not-may_others_have_more.true),
      refl,
    ))

pub index_mut-requires : goal.index_mut-requires
index_mut-requires g c =
    let k = c.worker.inside.0 in
    let none =
    ap (λ (j : Judged). work_refusal j.ground.heap j.phase Clearing k) c.self.view_is
    ∙ ap (λ (n : ℕ). work_refusal c.args.self.now.ground.heap c.args.self.now.phase Clearing n) c.worker.view_is
    ∙ c.requires in
    let within = within_workers _ k none c.self.invariant.state c.self.invariant.stands in
    let len = c.self.inside.workers.ok.0 in
    omega (arith, within, len)

pub invariant_of-self : goal.invariant_of-self
invariant_of-self g c =
    let k = c.worker.inside.0 in
    let none =
    ap (λ (j : Judged). work_refusal j.ground.heap j.phase Clearing k) c.self.view_is
    ∙ ap (λ (n : ℕ). work_refusal c.args.self.now.ground.heap c.args.self.now.phase Clearing n) c.worker.view_is
    ∙ c.requires in
    let within = within_workers _ k none c.self.invariant.state c.self.invariant.stands in
    rw (c.pass_all.ensures ∙ ap (λ (w : Finder). record w { at = length w.found })
    (c.index_mut.ensures.value ∙ at_any c.self.inside.workers.items k _ no_finder within))
    (passed_sound _ k none c.self.invariant
    (ap has_cleared_left (sym (c.index.ensures ∙ at_any c.self.inside.workers.items k _ no_finder within))
    ∙ sym c.has_cleared.ensures ∙ c.if-has_cleared.false)
    (elim c.else-self.branch [
      | else-self-via-then-self+else-not-may_others_have_more w ↦ λ said.
          ap (λ (ws : List Finder). others_from k 0 ws) (sym w.deref.ensures.value)
          ∙ sym w.may_others_have_more.ensures ∙ w.if-not-may_others_have_more.false
      | else-self-via-else-self w ↦ λ said. absurd (true≢false (sym said ∙ w.if-self.false))
    ]))

pub returns : goal.returns
returns g c =
    let k = c.worker.inside.0 in
    let none =
    ap (λ (j : Judged). work_refusal j.ground.heap j.phase Clearing k) c.self.view_is
    ∙ ap (λ (n : ℕ). work_refusal c.args.self.now.ground.heap c.args.self.now.phase Clearing n) c.worker.view_is
    ∙ c.requires in
    let within = within_workers _ k none c.self.invariant.state c.self.invariant.stands in
    rw (← c.self.view_is)
    (rw (← c.worker.view_is)
    (rw (c.pass_all.ensures ∙ ap (λ (w : Finder). record w { at = length w.found })
    (c.index_mut.ensures.value ∙ at_any c.self.inside.workers.items k _ no_finder within))
    (passed_told _ k none
    (ap has_cleared_left (sym (c.index.ensures ∙ at_any c.self.inside.workers.items k _ no_finder within))
    ∙ sym c.has_cleared.ensures ∙ c.if-has_cleared.false))))
