use Rattle.ref_space.proofs.Common.{◌≡◌, drop, first_entry, is_live}
use Rattle.ref_space.proofs.index.first_live.Given as goal

-- what is left has the same first as all of them
abbrev pub invariant-loop-entry : goal.invariant-loop-entry
invariant-loop-entry l =
    first_entry (is_live l.cells) (drop l.entry-index l.entries)
    ≡ first_entry (is_live l.cells) l.entries
