use Rattle.ref_space.proofs.Common.{◌≡◌, target_of}
use Rattle.ref_space.proofs.Common.{map, take}
use Rattle.ref_space.proofs.table.Table.fields.Given as goal

-- what these fields hold up to here, by number
abbrev pub invariant-loop-field : goal.invariant-loop-field
invariant-loop-field g l = l.fields ≡ map (target_of l.fn.self) (take l.field l.words)
