use Rattle.std.proofs.Common.{arith, sym, subst, ◌≡◌, ◌∙◌, ◌+◌, ◌<◌, ℕ, Option, Some, None}
use Rattle.ref_base.proofs.Common.{numbers}
use Rattle.ref_judge.specs.MarkEnding.{to_walk, EndsTo, IsNextOf}
use Rattle.ref_judge.proofs.ObjectWalks.{next_is, walks_on}
use Rattle.ref_judge.proofs.SparedMarks.{ends_begin, few_now, behind_same}
use Rattle.ref_judge.proofs.survivors.mark_spared.Goals as goal

pub loop-next-init : goal.loop-next-init
loop-next-init g c =
    let old = c.args.objects.now in
    subst (λ (next : Option ℕ). IsNextOf (numbers old.heap.objects) next × EndsTo next c.args.end old old)
    (sym c.first_from-next.ensures)
    (next_is (numbers old.heap.objects) 0, ends_begin c.args.end old c.requires.few c.requires.unmarked)

pub next_object-next-requires : goal.next_object-next-requires
next_object-next-requires g c =
    let old = c.args.objects.now in
    let inv =
    subst (λ (next : Option ℕ). IsNextOf (numbers old.heap.objects) next × EndsTo next c.args.end old
    c.loop-next.objects)
    c.in-Some.is c.loop-next.invariant in
    record { few = few_now c.args.end old c.loop-next.objects c.in-Some.no c.requires.few inv.1 inv.0 }

pub loop-next-preserved : goal.loop-next-preserved
loop-next-preserved g c =
    let old = c.args.objects.now in
    let now = c.loop-next.objects in
    let no = c.in-Some.no in
    let inv =
    subst (λ (next : Option ℕ). IsNextOf (numbers old.heap.objects) next × EndsTo next c.args.end old now) c.in-Some.is
    c.loop-next.invariant in
    let next =
    c.next_object-next.ensures ∙ behind_same c.args.end old now no c.requires.few inv.1 inv.0 in (
      subst (IsNextOf (numbers old.heap.objects)) (sym next) (next_is (numbers old.heap.objects) (no + 1)),
      subst (λ (x : Option ℕ). EndsTo x c.args.end old c.mark_if_spared.new.objects) (sym c.next_object-next.ensures)
          (c.mark_if_spared.ensures old c.requires.few inv.0 inv.1),
    )

pub loop-next-smaller : goal.loop-next-smaller
loop-next-smaller g c =
    let old = c.args.objects.now in
    let now = c.loop-next.objects in
    let no = c.in-Some.no in
    let inv =
    subst (λ (next : Option ℕ). IsNextOf (numbers old.heap.objects) next × EndsTo next c.args.end old now) c.in-Some.is
    c.loop-next.invariant in
    let next =
    c.next_object-next.ensures ∙ behind_same c.args.end old now no c.requires.few inv.1 inv.0 in
    subst (λ (x : Option ℕ). to_walk c.next_object-next.result < to_walk x) (sym c.in-Some.is)
    (subst (λ (x : Option ℕ). to_walk x < to_walk (Some no)) (sym next)
    (walks_on (numbers old.heap.objects) no (c.requires.few.few no inv.0)))

pub returns : goal.returns
returns g c =
    let old = c.args.objects.now in
    let none : c.loop-next.next ≡ None = grind arith in
    (subst (λ (next : Option ℕ). IsNextOf (numbers old.heap.objects) next × EndsTo next c.args.end old
    c.loop-next.objects)
    none c.loop-next.invariant).1
