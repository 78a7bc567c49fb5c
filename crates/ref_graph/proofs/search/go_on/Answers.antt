use Rattle.ref_base.proofs.Common.{◌≡◌, ◌<◌, ◌≤◌, length, get_or, arith, refl, targets_at, added_all}
use Rattle.ref_graph.specs.AllowedReferents.{allowed}
use Rattle.ref_base.proofs.SearchLaws.{added_all-take, referent_alone, searched_more, searched_all, work_left-less}
use Rattle.ref_base.proofs.HasLaws.{get_or-number}
use Rattle.ref_graph.proofs.search.go_on.Goals.{then-next-closed+in_ok-add_referent, else-next-closed+in_ok-add_targets}
use Rattle.ref_graph.proofs.search.go_on.Goals as goal

pub loop-next-smaller : goal.loop-next-smaller
loop-next-smaller g c = grind (arith, work_left-less)

pub loop-next-preserved : goal.loop-next-preserved
loop-next-preserved g c =
    let within : c.loop-next.next < length c.loop-next.seen = omega arith in
    let number : c.index-as_slice-next.result ≡ get_or c.loop-next.seen c.loop-next.next 0 =
    get_or-number c.as_slice.result.now c.loop-next.seen c.loop-next.next c.index-as_slice-next.result
    c.index-as_slice-next.is c.as_slice.ensures.numbers within in
    let is : c.if-next-closed.seen ≡ added_all c.args.graph.now.objects c.loop-next.seen
    (targets_at (allowed c.args.allow) c.args.graph.now.objects (get_or c.loop-next.seen c.loop-next.next 0)) =
    elim c.if-next-closed.branch [
      | then-next-closed+in_ok-add_referent w ↦
          rw (w.seen-is, w.in_ok-add_referent.ensures, number)
          (referent_alone (allowed c.args.allow) c.args.graph.now c.loop-next.seen c.args.closed c.loop-next.next
          c.loop-next.invariant.searched (omega arith))
      | else-next-closed+in_ok-add_targets w ↦ rw (w.seen-is, w.in_ok-add_targets.ensures, number) refl
    ] in
    rw is
    (record {
      searched = searched_more (allowed c.args.allow) c.args.graph.now c.loop-next.seen c.args.closed
          c.loop-next.next c.loop-next.invariant.searched within;
      kept = added_all-take c.args.graph.now.objects
          (targets_at (allowed c.args.allow) c.args.graph.now.objects (get_or c.loop-next.seen c.loop-next.next 0))
          c.loop-next.seen c.args.seen.now c.loop-next.invariant.kept;
    })

pub returns-clause-reached : goal.returns-clause-reached
returns-clause-reached g c =
    let all : length c.loop-next.seen ≤ c.loop-next.next = omega arith in
    searched_all (allowed c.args.allow) c.args.graph.now c.loop-next.seen c.args.closed c.loop-next.next
    c.loop-next.invariant.searched all
