use Rattle.std.proofs.Common.{◌≡◌, true, drop, take}
use Rattle.ref_log.proofs.ByteCuts.{byte_cut, behind}
use Rattle.ref_log.proofs.rows.parts_of.Given as goal

abbrev pub invariant-loop-at : goal.invariant-loop-at
invariant-loop-at l = behind (take l.at l.line) (byte_cut l.begins (drop l.at l.line)) ≡ byte_cut true l.line
