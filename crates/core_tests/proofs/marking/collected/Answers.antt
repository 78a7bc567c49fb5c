use Rattle.core_tests.proofs.HealingCalls.{healing_after_step}
use Rattle.core_tests.proofs.marking.collected.Goals as goal

pub returns-in-Begin : goal.returns-in-Begin
returns-in-Begin c =
    healing_after_step _ _ _ _ _ c.begin.ensures c.objects.ensures c.known.ensures c.requires

pub returns-in-Scan : goal.returns-in-Scan
returns-in-Scan c =
    healing_after_step _ _ _ _ _ c.scan.ensures c.objects.ensures c.known.ensures c.requires

pub returns-in-Select : goal.returns-in-Select
returns-in-Select c =
    healing_after_step _ _ _ _ _ c.select.ensures c.objects.ensures c.known.ensures c.requires

pub returns-in-MoveNext : goal.returns-in-MoveNext
returns-in-MoveNext c =
    healing_after_step _ _ _ _ _ c.move_next.ensures c.objects.ensures c.known.ensures c.requires

pub returns-in-EndMove : goal.returns-in-EndMove
returns-in-EndMove c =
    healing_after_step _ _ _ _ _ c.end_move.ensures c.objects.ensures c.known.ensures c.requires
