use Rattle.ref_turn.specs.Turns.{IsBeside}
use Rattle.thread_tests.proofs.turns.threads.add_often.Given as goal

abbrev pub invariant-loop : goal.invariant-loop
invariant-loop g l = IsBeside l.initial.seat l.seat
