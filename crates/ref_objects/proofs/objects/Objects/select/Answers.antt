use Rattle.ref_objects.proofs.Common.{◌≡◌, ◌<◌, ◌∙◌, ap, sym, subst, arith, Ground}
use Rattle.std.proofs.Common.{Err}
use Rattle.ref_space.specs.Pages.{choice, sparse_count}
use Rattle.ref_space.proofs.RelocationLemmas.{one_sparse}
use Rattle.ref_space.proofs.ChosenLemmas.{none_refused}
use Rattle.ref_objects.specs.Grounds.{choice_in, with_choice, with_choice_if}
use Rattle.ref_objects.specs.GroundViews.{stored_fields}
use Rattle.ref_objects.specs.declared.stage.Stage.TheVariants.{Fresh}
use Rattle.ref_objects.proofs.ChoiceLemmas.{choice_refused, chosen_answer, chosen_seen, chosen_sound, few_choice}
use Rattle.ref_objects.proofs.ChoiceLemmas.{refused_seen}
use Rattle.ref_objects.proofs.MoveLemmas.{tuned_between}
use Rattle.ref_objects.proofs.objects.Objects.select.Goals as goal

pub returns-then-eq-clause-answer : goal.returns-then-eq-clause-answer
returns-then-eq-clause-answer g c =
    let fresh : c.self.inside.stage ≡ Fresh = grind arith in
    let few = subst (λ (h : Ground). sparse_count h.space.ways.pages.uses < 2) c.self.view_is
    (one_sparse c.self.inside.table.ways.pages.uses c.known.ensures.free.whole
    (c.self.invariant.moves.filled fresh)) in
    sym (few_choice c.args.self.now.space few)

pub returns-then-eq-clause-after : goal.returns-then-eq-clause-after
returns-then-eq-clause-after g c =
    let fresh : c.self.inside.stage ≡ Fresh = grind arith in
    let few = subst (λ (h : Ground). sparse_count h.space.ways.pages.uses < 2) c.self.view_is
    (one_sparse c.self.inside.table.ways.pages.uses c.known.ensures.free.whole
    (c.self.invariant.moves.filled fresh)) in
    ap (λ r. record c.args.self.now { space = with_choice_if c.args.self.now.space r })
    (sym (few_choice c.args.self.now.space few))

pub returns-in_err-count-clause-answer : goal.returns-in_err-count-clause-answer
returns-in_err-count-clause-answer g c =
    let told : c.from_residual.result ≡ Err c.in_err-count.field-0.0 = grind arith in
    told
    ∙ sym (choice_refused c.args.self.now.space c.in_err-count.field-0.0
    (c.in_err-count.ensures.answer ∙ ap (λ (g : Ground). choice g.space.ways.pages) c.self.view_is))

pub returns-in_err-count-clause-after : goal.returns-in_err-count-clause-after
returns-in_err-count-clause-after g c =
    refused_seen
    (stored_fields c.self.inside.config c.self.inside.heap_no c.self.inside.table c.self.inside.holds
    c.self.inside.clock c.self.inside.next c.self.inside.condemning c.self.inside.last c.self.inside.stage
    c.self.inside.has_choice)
    c.in_err-count.field-0.0 c.in_err-count.ensures.answer
    c.select.new.self c.in_err-count.ensures.after
    ∙ ap (λ (g : Ground). record g { space = with_choice g.space }) c.self.view_is

pub invariant_of-self-2 : goal.invariant_of-self-2
invariant_of-self-2 g c =
    let begun : c.self.inside.stage ≡ Fresh → ⊥ = grind arith in
    let ended = ap (λ (g : Ground). g.space.has_choice) c.self.view_is ∙ c.requires.ended in
    let spared = ap (λ (g : Ground). g.condemning) c.self.view_is ∙ c.requires.spared in
    let accepted = none_refused c.self.inside.table.ways.pages c.in_ok-count.count
    (sym c.in_ok-count.ensures.answer) in
    let tuned_now = tuned_between c.self.invariant begun ended in
    chosen_sound c.self.invariant tuned_now spared ended accepted c.in_ok-count.ensures.after
    c.in_ok-count.ensures.left

pub returns-clause-answer : goal.returns-clause-answer
returns-clause-answer g c =
    let begun : c.self.inside.stage ≡ Fresh → ⊥ = grind arith in
    let ended = ap (λ (g : Ground). g.space.has_choice) c.self.view_is ∙ c.requires.ended in
    let spared = ap (λ (g : Ground). g.condemning) c.self.view_is ∙ c.requires.spared in
    let accepted = none_refused c.self.inside.table.ways.pages c.in_ok-count.count
    (sym c.in_ok-count.ensures.answer) in
    let tuned_now = tuned_between c.self.invariant begun ended in
    chosen_answer c.self.invariant tuned_now spared ended accepted c.in_ok-count.ensures.after
    c.in_ok-count.ensures.left c.in_ok-count.count c.in_ok-count.ensures.count
    ∙ ap (λ (g : Ground). choice_in g.space) c.self.view_is

pub returns-clause-after : goal.returns-clause-after
returns-clause-after g c =
    let begun : c.self.inside.stage ≡ Fresh → ⊥ = grind arith in
    let ended = ap (λ (g : Ground). g.space.has_choice) c.self.view_is ∙ c.requires.ended in
    let spared = ap (λ (g : Ground). g.condemning) c.self.view_is ∙ c.requires.spared in
    let accepted = none_refused c.self.inside.table.ways.pages c.in_ok-count.count
    (sym c.in_ok-count.ensures.answer) in
    let tuned_now = tuned_between c.self.invariant begun ended in
    chosen_seen c.self.invariant tuned_now spared ended accepted c.in_ok-count.ensures.after
    c.in_ok-count.ensures.left
    ∙ ap (λ (g : Ground). record g { space = with_choice g.space }) c.self.view_is
