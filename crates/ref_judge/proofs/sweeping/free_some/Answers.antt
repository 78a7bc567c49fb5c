use Rattle.std.proofs.Common.{arith, ◌∙◌, sym, ap, take, List, ℕ}
use Rattle.ref_space.specs.Worklists.{Worklist, without_first_listed, first_in}
use Rattle.std.proofs.Math.ListN.{drop_of_length-le}
use Rattle.std.proofs.lemmas.List.{take_all}
use Rattle.ref_base.specs.Members.{rest_of}
use Rattle.ref_objects.specs.Grounds.{Ground, after_freeing}
use Rattle.ref_judge.specs.FreedGrounds.{all_freed}
use Rattle.ref_judge.proofs.FreedLists.{freed-more, front-more, front-whole}
use Rattle.ref_judge.proofs.sweeping.free_some.Goals as goal

pub loop-freed-preserved : goal.loop-freed-preserved
loop-freed-preserved g c =
    let start = c.args.doomed.now in
    let i = c.loop-freed.freed in
    let n = c.in-Some.entry.no in
    let so_far = c.loop-freed.invariant in
    let more =
    front-more i n start.stands (c.in-Some.ensures.answer ∙ ap (λ (l : Worklist). first_in l.stands) so_far.1) in
    let within = more.2 in
    let test = c.loop-freed-test.true in (
      c.free.ensures.after ∙ ap (λ (x : Ground). after_freeing x n) so_far.0
          ∙ sym (freed-more c.args.objects.now (take i start.stands) n)
          ∙ ap (λ (l : List ℕ). all_freed c.args.objects.now l) (sym more.0),
      c.take_first.ensures.after ∙ ap without_first_listed so_far.1
          ∙ ap (λ (l : List ℕ). record start { stands = l }) (sym more.1),
      omega (arith, within),
      omega (arith, test),
    )

pub returns-in_default-clause-count : goal.returns-in_default-clause-count
returns-in_default-clause-count g c =
    let so_far = c.loop-freed.invariant in
    let test = c.loop-freed-test.true in
    let whole =
    front-whole c.loop-freed.freed c.args.doomed.now.stands
    (c.in_default.ensures.answer ∙ ap (λ (l : Worklist). first_in l.stands) so_far.1) so_far.2 in
    omega (arith, whole, test)

pub returns-in_default-clause-after : goal.returns-in_default-clause-after
returns-in_default-clause-after g c =
    let start = c.args.doomed.now.stands in
    let so_far = c.loop-freed.invariant in
    let test = c.loop-freed-test.true in
    let whole =
    front-whole c.loop-freed.freed start
    (c.in_default.ensures.answer ∙ ap (λ (l : Worklist). first_in l.stands) so_far.1) so_far.2 in
    so_far.0
    ∙ ap (λ (l : List ℕ). all_freed c.args.objects.now l)
    (take_all c.loop-freed.freed start (omega (arith, whole)) ∙ sym (take_all 64 start (omega (arith, whole, test))))

pub returns-in_default-clause-left : goal.returns-in_default-clause-left
returns-in_default-clause-left g c =
    let start = c.args.doomed.now in
    let so_far = c.loop-freed.invariant in
    let test = c.loop-freed-test.true in
    let whole =
    front-whole c.loop-freed.freed start.stands
    (c.in_default.ensures.answer ∙ ap (λ (l : Worklist). first_in l.stands) so_far.1) so_far.2 in
    c.take_first.ensures.after ∙ ap without_first_listed so_far.1
    ∙ ap (λ (l : List ℕ). record start { stands = rest_of l })
    (drop_of_length-le start.stands {i = c.loop-freed.freed} (omega (arith, whole)))
    ∙ ap (λ (l : List ℕ). record start { stands = l })
    (sym (drop_of_length-le start.stands {i = 64} (omega (arith, whole, test))))
