use Rattle.std.proofs.Common.{sym, ap, refl, ◌∙◌, Bool, List}
use Rattle.std.specs.List.{list_all}
use Rattle.ref_base.proofs.Common.{Pending}
use Rattle.ref_judge.specs.Judged.{Judged, Line, Finder}
use Rattle.ref_judge.specs.MarkEnding.{spares, passes, carry_spared}
use Rattle.ref_judge.specs.declared.survivors.MarkEnd.{MarkEnd}
use Rattle.ref_judge.proofs.judge.Judge.are_roots_spared.Goals as goal

abbrev slots_ok : MarkEnd → Judged → Bool
slots_ok end j = list_all (passes (spares end j.ground.tags)) j.ground.heap.slots

abbrev lines_ok : MarkEnd → Judged → List Line → Bool
lines_ok end j lines = list_all (λ (l : Line). list_all (spares end j.ground.tags) l.stands) lines

abbrev pending_ok : MarkEnd → Judged → List Finder → Bool
pending_ok end j workers =
    list_all (λ (w : Finder). list_all (λ (p : Pending). spares end j.ground.tags p.object) w.pending) workers

pub returns : goal.returns
returns g c =
    let j = c.args.self.now in
    let end = c.mark_end-end.result in
    let view = c.self.view_is in
    let is = c.mark_end-end.ensures in
    let slots =
    sym (ap (λ (k : Judged). slots_ok end k) view ∙ ap (λ (e : MarkEnd). slots_ok e j) is)
    ∙ sym c.are_slots_spared.ensures ∙ c.if-not-are_slots_spared.false in
    let carried =
    sym (ap (λ (k : Judged). carry_spared end k.ground.tags k.hands) view
    ∙ ap (λ (e : MarkEnd). carry_spared e j.ground.tags j.hands) is)
    ∙ sym c.are_carried_spared.ensures ∙ c.if-not-are_carried_spared.false in
    let lines =
    sym (ap (λ lines. lines_ok end (record j { ground = c.self.inside.objects }) lines) c.deref.ensures.value
    ∙ ap (λ (k : Judged). lines_ok end k k.lines) view ∙ ap (λ (e : MarkEnd). lines_ok e j j.lines) is)
    ∙ sym c.are_lines_spared.ensures ∙ c.if-not-are_lines_spared.false in
    c.are_pending_spared.ensures
    ∙ ap (λ ws. pending_ok end (record j { ground = c.self.inside.objects }) ws) c.deref-2.ensures.value
    ∙ ap (λ (k : Judged). pending_ok end k k.workers) view ∙ ap (λ (e : MarkEnd). pending_ok e j j.workers) is
    ∙ simp (slots, carried, lines) refl
