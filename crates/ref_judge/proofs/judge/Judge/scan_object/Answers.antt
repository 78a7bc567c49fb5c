use Rattle.std.proofs.Common.{arith, ◌∙◌, ℕ, Bool, refl, ap, slice_index_or}
use Rattle.std.specs.Prelude.{Option, is_some}
use Rattle.std.proofs.lemmas.Result.{err_from_is_err_and}
use Rattle.ref_base.specs.Graphs.{Reference}
use Rattle.ref_base.specs.Refusals.{work_refusal}
use Rattle.ref_base.specs.declared.config.Config.{Config}
use Rattle.ref_base.specs.declared.phase.Phase.TheVariants.{Marking}
use Rattle.ref_judge.specs.Finding.{noted}
use Rattle.ref_judge.specs.Judged.{Judged, Finder, no_finder, is_left_in}
use Rattle.ref_judge.proofs.PassedRows.{at_any, set_back}
use Rattle.ref_judge.proofs.ScanRows.{scanned_told, scanned_sound, scanned_few}
use Rattle.ref_judge.proofs.WorkerPlaces.{within_workers}
use Rattle.ref_judge.proofs.judge.Judge.scan_object.Goals as goal

pub index_mut-requires : goal.index_mut-requires
index_mut-requires g c =
    let k = c.worker.inside.0 in
    let none =
    ap (λ (j : Judged). work_refusal j.ground.heap j.phase Marking k) c.self.view_is
    ∙ ap (λ (n : ℕ). work_refusal c.args.self.now.ground.heap c.args.self.now.phase Marking n) c.worker.view_is
    ∙ c.requires.none in
    let within = within_workers _ Marking k none c.self.invariant.state c.self.invariant.stands in
    let len = c.self.inside.workers.ok.0 in
    omega (arith, within, len)

pub invariant_of-self : goal.invariant_of-self
invariant_of-self g c =
    rw (c.in_err-note.ensures.1, set_back c.self.inside.workers.items c.worker.inside.0 _ c.index_mut.ensures.value)
    c.self.invariant

pub overflow_add-self : goal.overflow_add-self
overflow_add-self g c =
    let k = c.worker.inside.0 in
    let none =
    ap (λ (j : Judged). work_refusal j.ground.heap j.phase Marking k) c.self.view_is
    ∙ ap (λ (n : ℕ). work_refusal c.args.self.now.ground.heap c.args.self.now.phase Marking n) c.worker.view_is
    ∙ c.requires.none in
    let left = ap (λ (j : Judged). is_left_in j c.args.no) c.self.view_is ∙ c.requires.left in
    let few = scanned_few _ k c.args.no none c.self.invariant left in
    let most = c.known.ensures.few in
    let cells = ap (λ (x : Config). x.cells) c.self.invariant.settled.config in
    let fits = c.self.ranges in
    grind (arith, few, most, cells, fits)

pub invariant_of-self-2 : goal.invariant_of-self-2
invariant_of-self-2 g c =
    let k = c.worker.inside.0 in
    let none =
    ap (λ (j : Judged). work_refusal j.ground.heap j.phase Marking k) c.self.view_is
    ∙ ap (λ (n : ℕ). work_refusal c.args.self.now.ground.heap c.args.self.now.phase Marking n) c.worker.view_is
    ∙ c.requires.none in
    let said = ap (λ (j : Judged). j.may_be_left) c.self.view_is ∙ c.requires.said in
    let left = ap (λ (j : Judged). is_left_in j c.args.no) c.self.view_is ∙ c.requires.left in
    let within = within_workers _ Marking k none c.self.invariant.state c.self.invariant.stands in
    rw (
      c.set_cleared_in.ensures,
      c.in_ok-note.ensures
          ∙ ap (λ (w : Finder). noted w c.is_some-is_reference.result c.args.no)
          (c.index_mut.ensures.value ∙ at_any c.self.inside.workers.items k _ no_finder within)
          ∙ ap (λ (b : Bool). noted (slice_index_or c.self.inside.workers.items k no_finder) b c.args.no)
          (c.is_some-is_reference.ensures ∙ ap (λ (r : Option Reference). is_some r) c.reference_of.ensures),
    )
    (scanned_sound _ k c.args.no none c.is_any_left-self-inside.result c.self.invariant said left c.known.ensures
    (rw c.set_cleared_in.ensures at c.is_any_left-self-inside.ensures))

pub returns : goal.returns
returns g c =
    let k = c.worker.inside.0 in
    let none =
    ap (λ (j : Judged). work_refusal j.ground.heap j.phase Marking k) c.self.view_is
    ∙ ap (λ (n : ℕ). work_refusal c.args.self.now.ground.heap c.args.self.now.phase Marking n) c.worker.view_is
    ∙ c.requires.none in
    let said = ap (λ (j : Judged). j.may_be_left) c.self.view_is ∙ c.requires.said in
    let left = ap (λ (j : Judged). is_left_in j c.args.no) c.self.view_is ∙ c.requires.left in
    let within = within_workers _ Marking k none c.self.invariant.state c.self.invariant.stands in
    rw (← c.self.view_is)
    (rw (← c.worker.view_is)
    (rw (
      c.set_cleared_in.ensures,
      c.in_ok-note.ensures
          ∙ ap (λ (w : Finder). noted w c.is_some-is_reference.result c.args.no)
          (c.index_mut.ensures.value ∙ at_any c.self.inside.workers.items k _ no_finder within)
          ∙ ap (λ (b : Bool). noted (slice_index_or c.self.inside.workers.items k no_finder) b c.args.no)
          (c.is_some-is_reference.ensures ∙ ap (λ (r : Option Reference). is_some r) c.reference_of.ensures),
    )
    (scanned_told _ k c.args.no none c.is_any_left-self-inside.result said left c.known.ensures
    (rw c.set_cleared_in.ensures at c.is_any_left-self-inside.ensures))))

pub returns-in_err-note : goal.returns-in_err-note
returns-in_err-note g c =
    let p = err_from_is_err_and c.from_residual.result c.from_residual.ensures.1 in
    rw (
      ← c.self.view_is,
      p.1,
      p.2,
      c.in_err-note.ensures.0,
      c.in_err-note.ensures.1,
      set_back c.self.inside.workers.items c.worker.inside.0 _ c.index_mut.ensures.value,
    ) (refl, refl)
