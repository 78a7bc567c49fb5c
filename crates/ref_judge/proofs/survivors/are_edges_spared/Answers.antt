use Rattle.std.proofs.Common.{arith, sym, subst, not, ◌||◌, ◌≡◌, ◌<◌, Bool, ℕ, Option, Some, None}
use Rattle.ref_base.proofs.Common.{numbers}
use Rattle.ref_judge.specs.MarkEnding.{to_walk, dooms, leads_out}
use Rattle.ref_judge.proofs.ObjectWalks.{HaveAllPassed, walk_begins, walk_passes, walk_ends, one_fails, walks_on}
use Rattle.ref_judge.proofs.survivors.are_edges_spared.Goals as goal

pub loop-next-init : goal.loop-next-init
loop-next-init g c =
    let ground = c.args.objects.now in
    let ns = numbers ground.heap.objects in
    let test : ℕ → Bool = λ n. dooms c.args.end ground.tags n || not (leads_out c.args.end ground n) in
    subst (HaveAllPassed ns test) (sym c.first_from-next.ensures) (walk_begins ns test c.requires.few.rising)

pub returns-then-leads_out : goal.returns-then-leads_out
returns-then-leads_out g c =
    let ground = c.args.objects.now in
    let ns = numbers ground.heap.objects in
    let test : ℕ → Bool = λ n. dooms c.args.end ground.tags n || not (leads_out c.args.end ground n) in
    let walked = subst (HaveAllPassed ns test) c.in-Some.is c.loop-next.invariant in
    sym (one_fails ns test c.in-Some.no walked.0 (grind arith))

pub loop-next-smaller : goal.loop-next-smaller
loop-next-smaller g c =
    let ground = c.args.objects.now in
    let ns = numbers ground.heap.objects in
    let test : ℕ → Bool = λ n. dooms c.args.end ground.tags n || not (leads_out c.args.end ground n) in
    let walked = subst (HaveAllPassed ns test) c.in-Some.is c.loop-next.invariant in
    subst (λ (x : Option ℕ). to_walk c.next_object-next.result < to_walk x) (sym c.in-Some.is)
    (subst (λ (x : Option ℕ). to_walk x < to_walk (Some c.in-Some.no)) (sym c.next_object-next.ensures)
    (walks_on ns c.in-Some.no (c.requires.few.few c.in-Some.no walked.0)))

pub loop-next-preserved : goal.loop-next-preserved
loop-next-preserved g c =
    let ground = c.args.objects.now in
    let ns = numbers ground.heap.objects in
    let test : ℕ → Bool = λ n. dooms c.args.end ground.tags n || not (leads_out c.args.end ground n) in
    let walked = subst (HaveAllPassed ns test) c.in-Some.is c.loop-next.invariant in
    subst (HaveAllPassed ns test) (sym c.next_object-next.ensures)
    (walk_passes ns test c.in-Some.no c.requires.few.rising walked (grind arith))

pub returns : goal.returns
returns g c =
    let ground = c.args.objects.now in
    let ns = numbers ground.heap.objects in
    let test : ℕ → Bool = λ n. dooms c.args.end ground.tags n || not (leads_out c.args.end ground n) in
    let none : c.loop-next.next ≡ None = grind arith in
    sym (walk_ends ns test (subst (HaveAllPassed ns test) none c.loop-next.invariant))
