use Rattle.ref_base.proofs.Common.{[], ap, refl, ◌∙◌, false≢true, added_all, phantom_referents, no_referents}
use Rattle.ref_base.proofs.Common.{soft_referents, soft_and_weak_referents}
use Rattle.std.proofs.lemmas.Result.{on_ok_weaker}
use Rattle.ref_base.proofs.SearchLaws.{searched_from_reached, searched_from_roots}
use Rattle.ref_base.proofs.StrengthLaws.{AreFound_fronts}
use Rattle.ref_graph.proofs.reachability.Found.search.Goals as goal

pub go_on-requires : goal.go_on-requires
go_on-requires g c =
    rw (c.in_ok-add_roots.ensures, c.requires.0, c.roots.ensures) (searched_from_roots no_referents c.args.graph.now)

pub go_on-requires-2 : goal.go_on-requires-2
go_on-requires-2 g c =
    rw c.len-self.ensures.count
    (searched_from_reached no_referents soft_referents (λ r none. absurd (false≢true none)) c.args.graph.now
    c.go_on.new.seen c.in_ok-go_on.ensures.reached)

pub go_on-requires-3 : goal.go_on-requires-3
go_on-requires-3 g c =
    rw c.len-self-2.ensures.count
    (searched_from_reached soft_referents soft_and_weak_referents (λ r soft. simp soft refl) c.args.graph.now
    c.go_on-2.new.seen c.in_ok-go_on-2.ensures.reached)

pub returns : goal.returns
returns g c =
    let os = c.args.graph.now.objects in
    on_ok_weaker c.add_hung.result
    (λ hung. rw (c.len-self.ensures.count, c.len-self-2.ensures.count)
    (AreFound_fronts c.args.graph.now c.go_on.new.seen c.go_on-2.new.seen c.go_on-3.new.seen
    c.add_hung.new.hung c.in_ok-go_on.ensures.reached c.in_ok-go_on-2.ensures.reached
    c.in_ok-go_on-3.ensures.reached c.in_ok-go_on-2.ensures.kept c.in_ok-go_on-3.ensures.kept
    (hung ∙ ap (λ ns. added_all os ns (phantom_referents os c.as_slice.result.now)) c.requires.1
    ∙ ap (λ ns. added_all os [] (phantom_referents os ns)) c.as_slice.ensures.numbers)))
    c.add_hung.ensures
