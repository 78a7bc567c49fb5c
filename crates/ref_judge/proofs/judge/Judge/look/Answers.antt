use Rattle.std.proofs.Common.{arith, ◌≡◌, ◌∙◌, refl, sym, ap, subst}
use Rattle.std.proofs.lemmas.Result.{err_from_is_err_and}
use Rattle.ref_judge.specs.Judged.{Judged}
use Rattle.ref_judge.proofs.PassedRows.{within_workers}
use Rattle.ref_judge.proofs.LookedRows.{MayLook, unwritten, answer_by, pending_by, none_tells, other_tells}
use Rattle.ref_judge.proofs.LookedRows.{look_tells, look_sound}
use Rattle.ref_judge.proofs.judge.Judge.look.Goals as goal

pub index-requires : goal.index-requires
index-requires g c =
    let none = subst (λ (j : Judged). MayLook j c.args.worker) (sym c.self.view_is) c.requires.none in
    let within = within_workers _ c.args.worker none c.self.invariant.state c.self.invariant.stands in
    let len = c.self.inside.workers.ok.0 in
    rw c.worker.view_is (omega (arith, within, len))

pub returns-in_default : goal.returns-in_default
returns-in_default g c =
    let none = subst (λ (j : Judged). MayLook j c.args.worker) (sym c.self.view_is) c.requires.none in
    rw (← c.self.view_is) (
      none_tells _ c.self.invariant c.args.worker _ c.args.no none c.args.reply c.requires.names c.worker.view_is _
          c.index.ensures _ c.find.ensures c.in_default.is,
      refl,
    )

pub returns-in_err-check_look : goal.returns-in_err-check_look
returns-in_err-check_look g c =
    let p = err_from_is_err_and c.from_residual.result c.from_residual.ensures.1 in
    let none = subst (λ (j : Judged). MayLook j c.args.worker) (sym c.self.view_is) c.requires.none in
    let differ =
    subst (λ (j : Judged). answer_by j c.in-Some.is_cleared c.args.no ≡ c.args.reply → ⊥) (sym c.self.view_is)
    c.in_err-check_look.ensures.1 in
    rw (← c.self.view_is, p.1, p.2, c.in_err-check_look.ensures.0) (
      other_tells _ c.self.invariant c.args.worker _ c.args.no none c.args.reply c.requires.names c.worker.view_is _
          c.index.ensures _ c.find.ensures _ _ c.in-Some.is differ,
      refl,
    )

pub index_mut-requires : goal.index_mut-requires
index_mut-requires g c =
    let none = subst (λ (j : Judged). MayLook j c.args.worker) (sym c.self.view_is) c.requires.none in
    let within = within_workers _ c.args.worker none c.self.invariant.state c.self.invariant.stands in
    let len = c.self.inside.workers.ok.0 in
    rw c.worker.view_is (omega (arith, within, len))

pub invariant_of-self : goal.invariant_of-self
invariant_of-self g c =
    rw (unwritten _ _ _ _ c.index_mut.ensures.value c.in_err-go_on.ensures.1) c.self.invariant

pub invariant_of-self-2 : goal.invariant_of-self-2
invariant_of-self-2 g c =
    let none = subst (λ (j : Judged). MayLook j c.args.worker) (sym c.self.view_is) c.requires.none in
    let legal =
    ap (λ (j : Judged). answer_by j c.in-Some.is_cleared c.args.no) c.self.view_is ∙ c.in_ok-check_look.ensures in
    let pends =
    c.pending_after-pending.ensures
    ∙ ap (λ (j : Judged). pending_by j c.in-Some.is_cleared c.args.no) (sym c.self.view_is) in
    look_sound _ c.self.invariant c.args.worker _ c.args.no none c.args.reply c.requires.names c.worker.view_is _
    c.index.ensures _ c.find.ensures _ _ c.in-Some.is legal _
    c.index_mut.ensures.value _ pends _ c.in_ok-go_on.ensures

pub returns : goal.returns
returns g c =
    let none = subst (λ (j : Judged). MayLook j c.args.worker) (sym c.self.view_is) c.requires.none in
    let legal =
    ap (λ (j : Judged). answer_by j c.in-Some.is_cleared c.args.no) c.self.view_is ∙ c.in_ok-check_look.ensures in
    let pends =
    c.pending_after-pending.ensures
    ∙ ap (λ (j : Judged). pending_by j c.in-Some.is_cleared c.args.no) (sym c.self.view_is) in
    rw (← c.self.view_is)
    (look_tells _ c.self.invariant c.args.worker _ c.args.no none c.args.reply c.requires.names c.worker.view_is _
    c.index.ensures _ c.find.ensures _ _ c.in-Some.is legal _
    c.index_mut.ensures.value _ pends _ c.in_ok-go_on.ensures)
