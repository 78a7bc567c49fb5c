use Rattle.ref_space.proofs.Common.{◌≡◌, take, tabled_at, tabled_fields, marked_each, anew_each}
use Rattle.ref_space.specs.Worklists.{with_more}
use Rattle.ref_space.proofs.table.Table.grey_fields.Given as goal

-- what the fields up to here hold is marked, and what of it is marked anew is listed
abbrev pub invariant-loop-field : goal.invariant-loop-field
invariant-loop-field g l =
    let held = take l.field (tabled_fields (tabled_at l.fn.self.tabled l.fn.no)) in
    (l.self ≡ marked_each l.fn.self held) × (l.grey ≡ with_more l.fn.grey (anew_each l.fn.self held))
