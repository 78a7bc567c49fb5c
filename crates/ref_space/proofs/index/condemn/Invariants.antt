use Rattle.ref_space.proofs.CondemnLemmas.{AreCondemned}
use Rattle.ref_space.proofs.index.condemn.Given as goal

abbrev pub invariant-loop-entry : goal.invariant-loop-entry
invariant-loop-entry g l =
    AreCondemned l.fn.round l.index l.fn.cells l.cells l.fn.condemned l.condemned l.entry-index
