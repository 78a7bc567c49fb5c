-- Traces with a row that no right collector gives: so none is legal for a judge.
use Rattle.ref_base.proofs.Common.{arith, ◌≡◌, ℕ, false, List, [], ◌∷◌, replicate, Option, Some, None, refl}
use Rattle.ref_base.proofs.Common.{Object, plain_object, first_world, State, IsRow, IsLegal, Row, Weak, Normal, Marking}
use Rattle.ref_base.proofs.Common.{GreyLeft}
use Rattle.ref_base.specs.Heaps.{first_heap}
use Rattle.ref_base.specs.KeptPaths.{policy_from}
use Rattle.ref_base.specs.declared.phase.Phase.{Phase}
use Rattle.ref_base.specs.declared.phase.Phase.TheVariants.{Clearing}
use Rattle.ref_base.specs.declared.policy.Policy.{Policy}
use Rattle.ref_base.proofs.WorkedTraces.{row, config_of, scaled_config_of}
use Rattle.ref_base.proofs.IllegalExamples.{after_scanning}
use Rattle.ref_base.specs.declared.fault.Fault.TheVariants.{ClearingLeft}
use Rattle.ref_base.specs.declared.strength.Strength.TheVariants.{Soft}
use Rattle.ref_base.specs.declared.plain_step.PlainStep.TheVariants as plain
use Rattle.ref_base.specs.declared.step.Step.TheVariants as steps
use Rattle.ref_base.specs.declared.reply.Reply.TheVariants as replies

-- ---- scans

abbrev scans_what_the_mark_made : List Row
scans_what_the_mark_made =
    after_scanning
    (row (steps.Plain (plain.New 0 3 0)) (replies.Object 3) ∷
    row (steps.Plain (plain.Scan 0)) (replies.Scanned 3) ∷ [])

-- promise: Judge::row, World::step: what was made since the begin is not scanned
what_the_mark_made_is_not_scanned : ¬ (IsLegal (config_of 1) scans_what_the_mark_made)
what_the_mark_made_is_not_scanned legal = grind arith

abbrev scans_twice : List Row
scans_twice = after_scanning (row (steps.Plain (plain.Scan 0)) (replies.Scanned 2) ∷ [])

-- promise: Judge::row, World::step: no object is scanned twice in a cycle
nothing_is_scanned_twice : ¬ (IsLegal (config_of 1) scans_twice)
nothing_is_scanned_twice legal = grind arith

-- ---- the mark's end

abbrev marks_one : List Row → List Row
marks_one rows =
    row (steps.Plain (plain.New 0 0 0)) (replies.Object 1) ∷
    row (steps.Plain (plain.Begin 5 Normal)) (replies.Cycle 1) ∷
    rows

abbrev ends_where_one_was_left : List Row
ends_where_one_was_left =
    marks_one
    (row (steps.Plain plain.EndMark) (replies.Refused GreyLeft) ∷
    row (steps.Plain plain.EndMark) (replies.Doomed 0) ∷ [])

-- promise: Judge::row: no mark ends behind a refused end with nothing scanned between
no_mark_ends_where_one_was_left : ¬ (IsLegal (config_of 1) ends_where_one_was_left)
no_mark_ends_where_one_was_left legal = grind arith

abbrev dooms_none_of_one : List Row
dooms_none_of_one = after_scanning (row (steps.Plain plain.EndMark) (replies.Doomed 0) ∷ [])

-- promise: Judge::row, World::step: the doomed are no fewer than what no path kept
no_fewer_are_doomed : ¬ (IsLegal (config_of 1) dooms_none_of_one)
no_fewer_are_doomed legal = grind arith

abbrev pub dooms_a_root : List Row
dooms_a_root = marks_one (row (steps.Plain plain.EndMark) (replies.Doomed 1) ∷ [])

-- promise: Judge::row, World::step: what a slot holds is not doomed
no_root_is_doomed : ¬ (IsLegal (config_of 1) dooms_a_root)
no_root_is_doomed legal = grind arith

-- a state of a cycle, in which a slot holds what paths begin with, and these were scanned
abbrev in_cycle : Phase → Policy → List Object → List (Option ℕ) → List ℕ → State
in_cycle phase policy objects slots scanned = record {
  world = record (first_world (config_of 1)) {
    heap = record (first_heap (config_of 1) 0) { objects = objects; slots = slots };
    policy = policy;
    cycle = 1;
    phase = phase;
  };
  next = 4;
  born = 3;
  moments = [];
  scanned = scanned ∷ [];
  left = false;
  doomed = [];
  cleared = [];
  found = [] ∷ [];
  moved = false;
}

-- the policy of a normal cycle that begins at this clock, by the configuration's own span of 10
abbrev at_clock : ℕ → Policy
at_clock now = policy_from (config_of 1) 8 now Normal

abbrev with_a_field : State
with_a_field =
    in_cycle Marking (at_clock 5) (plain_object 1 (Some 2 ∷ []) ∷ plain_object 2 [] ∷ []) (Some 1 ∷ replicate 15 None)
    (1 ∷ [])

-- promise: Judge::row, World::step: what a field of a kept object holds is not doomed
what_a_field_holds_is_not_doomed : (b : State)
    → ¬ (IsRow with_a_field (row (steps.Plain plain.EndMark) (replies.Doomed 1)) b)
what_a_field_holds_is_not_doomed b is = is.1.may_doom.none_kept 2 refl (1 ∷ [], (refl, refl, (refl, refl)))

-- a soft reference to object 1, which was made at clock 0
abbrev soft_reference : Object
soft_reference = record {
  no = 2;
  fields = [];
  reference = Some (record { strength = Soft; referent = Some 1; stamp = 0; queue = Some 0 });
}

abbrev with_a_soft_reference : State
with_a_soft_reference =
    in_cycle Marking (at_clock 5) (plain_object 1 [] ∷ soft_reference ∷ []) (None ∷ Some 2 ∷ replicate 14 None) (2 ∷ [])

-- promise: Judge::row, World::step: a soft reference is not cleared within its span
no_young_soft_reference_is_cleared : (b : State)
    → ¬ (IsRow with_a_soft_reference (row (steps.Plain plain.EndMark) (replies.Doomed 1)) b)
no_young_soft_reference_is_cleared b is = is.1.may_doom.none_kept 1 refl (2 ∷ [], (refl, refl, (refl, refl)))

-- As the cycle began six of eight cells were free, so the span is 7 of 10. The mark made object 3, and it isn't 6 then.
abbrev with_a_scaled_span : State
with_a_scaled_span =
    in_cycle Marking (policy_from (scaled_config_of 1) 6 7 Normal)
    (plain_object 1 [] ∷ soft_reference ∷ plain_object 3 [] ∷ []) (None ∷ Some 2 ∷ Some 3 ∷ replicate 13 None) (2 ∷ [])

-- promise: Marker::scan, World::step: a cycle's span stays what it was as the cycle began
no_span_is_made_anew : (b : State)
    → ¬ (IsRow with_a_scaled_span (row (steps.Plain plain.EndMark) (replies.Doomed 1)) b)
no_span_is_made_anew b is = is.1.may_doom.none_kept 1 refl (2 ∷ [], (refl, refl, (refl, refl)))

abbrev clears_what_no_worker_scanned : List Row
clears_what_no_worker_scanned =
    row (steps.Plain (plain.New 0 0 0)) (replies.Object 1) ∷
    row (steps.Plain (plain.Refer 0 Weak 1 0 (Some 0) 0)) (replies.Object 2) ∷
    row (steps.Plain (plain.Drop 0 0)) replies.Done ∷
    row (steps.Plain (plain.Begin 5 Normal)) (replies.Cycle 1) ∷
    row (steps.Plain plain.EndMark) (replies.Doomed 1) ∷ []

-- promise: Judge::row, World::step: no reference is cleared that no worker scanned
what_no_worker_scanned_is_not_cleared : ¬ (IsLegal (config_of 1) clears_what_no_worker_scanned)
what_no_worker_scanned_is_not_cleared legal = grind arith

-- ---- clearing

-- references 2 and 3 to object 1, which dies, are scanned in this order
abbrev after_two_dooms : List Row → List Row
after_two_dooms rows =
    row (steps.Plain (plain.New 0 0 0)) (replies.Object 1) ∷
    row (steps.Plain (plain.Refer 0 Weak 1 0 (Some 0) 0)) (replies.Object 2) ∷
    row (steps.Plain (plain.Refer 0 Weak 2 0 (Some 0) 0)) (replies.Object 3) ∷
    row (steps.Plain (plain.Drop 0 0)) replies.Done ∷
    row (steps.Plain (plain.Begin 5 Normal)) (replies.Cycle 1) ∷
    row (steps.Plain (plain.Scan 0)) (replies.Scanned 2) ∷
    row (steps.Plain (plain.Scan 0)) (replies.Scanned 3) ∷
    row (steps.Plain plain.EndMark) (replies.Doomed 1) ∷
    rows

-- references 2 and 3 were cleared, in this order, and worker 0 has both to look at
abbrev with_two_cleared : State
with_two_cleared = record (in_cycle Clearing (at_clock 5) [] [] (2 ∷ 3 ∷ [])) {
  cleared = 2 ∷ 3 ∷ [];
  found = (2 ∷ 3 ∷ []) ∷ [];
}

-- promise: Judge::row, World::step: no reference that the mark cleared is passed
none_that_was_cleared_is_passed : (b : State)
    → ¬ (IsRow with_two_cleared (row (steps.Plain (plain.ClearNext 0)) (replies.Cleared 3)) b)
none_that_was_cleared_is_passed b is =
    let told : replies.Cleared 3 ≡ replies.Cleared 2 = is.1.0 in absurd cc

abbrev finds_none_with_one_left : List Row
finds_none_with_one_left = after_two_dooms (row (steps.Plain (plain.ClearNext 0)) replies.Nothing ∷ [])

-- promise: Judge::row, World::step: none is left to look at only where none was cleared
none_is_not_found_with_one_left : ¬ (IsLegal (config_of 1) finds_none_with_one_left)
none_is_not_found_with_one_left legal = grind arith

abbrev ends_with_one_left : List Row
ends_with_one_left = after_two_dooms (row (steps.Plain plain.EndClear) replies.Done ∷ [])

-- promise: Judge::row, World::step: clearing ends only where none is left
clearing_does_not_end_with_one_left : ¬ (IsLegal (config_of 1) ends_with_one_left)
clearing_does_not_end_with_one_left legal = grind arith

-- promise: Judge::row, World::step: clearing's end is refused only where one is left
no_end_is_refused_with_none_left : (b : State)
    → ¬ (IsRow (in_cycle Clearing (at_clock 5) [] [] [])
    (row (steps.Plain plain.EndClear) (replies.Refused ClearingLeft)) b)
no_end_is_refused_with_none_left b is =
    let told : replies.Refused ClearingLeft ≡ replies.Done = is.1.0 in absurd cc

-- reference 2 is scanned, whose referent a get keeps
abbrev forgets_that_one_was_left : List Row
forgets_that_one_was_left =
    after_scanning
    (row (steps.Plain (plain.Get 0 3 1)) (replies.Object 1) ∷
    row (steps.Plain (plain.Scan 0)) (replies.Scanned 1) ∷
    row (steps.Plain plain.EndMark) (replies.Doomed 0) ∷
    row (steps.Plain plain.EndClear) (replies.Refused ClearingLeft) ∷
    row (steps.Plain plain.EndClear) replies.Done ∷ [])

-- promise: Judge::row: what a refused end says is left is left till a worker looked at it
it_is_not_forgotten_that_one_was_left : ¬ (IsLegal (config_of 1) forgets_that_one_was_left)
it_is_not_forgotten_that_one_was_left legal = grind arith
