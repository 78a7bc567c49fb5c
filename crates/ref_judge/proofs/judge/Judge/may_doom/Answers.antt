use Rattle.std.proofs.Common.{arith, sym, ap, refl, ◌∙◌, ◌+◌, ◌==◌, ◌||◌, not, length, Bool}
use Rattle.std.specs.List.{list_all}
use Rattle.ref_base.proofs.Common.{numbers}
use Rattle.ref_objects.specs.Grounds.{Ground}
use Rattle.ref_judge.specs.Judged.{Judged}
use Rattle.ref_judge.specs.MarkEnding.{mark_end, dooms, leads_out}
use Rattle.ref_judge.specs.declared.survivors.MarkEnd.{MarkEnd}
use Rattle.ref_judge.proofs.EndChecks.{few_of}
use Rattle.ref_judge.proofs.HeldFacts.{lawful_next}
use Rattle.ref_judge.proofs.judge.Judge.may_doom.Goals as goal

-- nothing that is spared leads to what is doomed
abbrev edges : MarkEnd → Ground → Bool
edges end g = list_all (λ n. dooms end g.tags n || not (leads_out end g n)) (numbers g.heap.objects)

pub are_edges_spared-requires : goal.are_edges_spared-requires
are_edges_spared-requires g c =
    let stands = c.self.invariant.stands in
    let most = lawful_next c.self.inside.profile c.self.inside.config c.self.invariant.state stands.lawful in
    let next = stands.next in
    record { few = few_of c.self.inside.objects c.known.ensures (omega (arith, most, next)) }

pub returns : goal.returns
returns g c =
    let j = c.args.self.now in
    let count = c.args.count in
    let so =
    sym (ap (λ (k : Judged). count + k.ground.next + k.scanned == length k.ground.heap.objects + k.born) c.self.view_is)
    ∙ sym c.dooms_so_many.ensures ∙ c.if-not-dooms_so_many.false in
    let roots = sym c.are_roots_spared.ensures ∙ c.if-not-are_roots_spared.false in
    c.are_edges_spared.ensures ∙ ap (λ (e : MarkEnd). edges e c.self.inside.objects) c.mark_end.ensures
    ∙ ap (λ (k : Judged). edges (mark_end j) k.ground) c.self.view_is ∙ simp (so, roots) refl
