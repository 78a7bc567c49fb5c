use Rattle.core_tests.proofs.ClosedLemmas.{on_true, names_in}
use Rattle.std.proofs.Common.{subst, ◌∙◌, List, Option, ℕ}
use Rattle.ref_base.specs.Graphs.{object_at}
use Rattle.core_tests.proofs.ClosedLemmas.{AreIn}
use Rattle.core_tests.proofs.closed.is_object_closed.Goals as goal

pub returns-then-is_marked_if_any-clause-names : goal.returns-then-is_marked_if_any-clause-names
returns-then-is_marked_if_any-clause-names g c =
    on_true c.are_marked.result c.are_marked.ensures
    (λ fields n marked by.
    names_in (object_at c.args.heap.now.heap.objects c.args.no) c.args.heap.now.marked
    (subst (λ (vs : List (Option ℕ)). AreIn vs c.args.heap.now.marked) c.fields_of.ensures fields)
    (λ m is. c.if-is_marked_if_any.ensures m (c.referent_of.ensures ∙ is)) n by)
