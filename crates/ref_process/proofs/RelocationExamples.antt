-- What relocating may leave at a worked state, what it may not, and how rows are by other handles.
use Rattle.std.proofs.Common.{arith, ◌≡◌, ◌+◌, ℕ, Bool, true, false, List, [], ◌∷◌, Option, Some, None}
use Rattle.std.proofs.Common.{refl, ap, sym, ◌∙◌, ◌-◌}
use Rattle.ref_base.specs.declared.strength.Strength.TheVariants.{Soft}
use Rattle.ref_base.specs.declared.urgency.Urgency.TheVariants.{Normal}
use Rattle.ref_process.proofs.RunEnds.{same_handle}
use Rattle.ref_process.specs.CycleRows.{may_change}
use Rattle.ref_process.specs.DeskRows.{Crew, DeskRow, Adds, EndsMarking, Gets, Relocates, IsDeskRow}
use Rattle.ref_process.specs.Desks.{Desk, owner_of, owed_owners}
use Rattle.ref_process.specs.Looks.{got_of}
use Rattle.ref_process.specs.Places.{reference_under}
use Rattle.ref_process.specs.Relocations.{relocated_reference, after_relocation}
use Rattle.ref_process.specs.Relocations.{relocation_refusal}
use Rattle.ref_process.specs.Renamings.{renamed_crew, renamed_row, renamed_rows}
use Rattle.ref_process.specs.declared.fault.ProcessFault.TheVariants.{WrongPhase}
use Rattle.ref_process.specs.declared.found.Found.TheVariants.{Keep}
use Rattle.ref_process.specs.declared.key.Key.{Key}
use Rattle.ref_process.specs.declared.phase.Phase.{Phase}
use Rattle.ref_process.specs.declared.phase.Phase.TheVariants.{Idle, Marking, Clearing}
use Rattle.ref_process.specs.declared.place.Place.{Place}
use Rattle.ref_process.specs.declared.place.Reference.{Reference}

-- ---- a desk

-- a reference of this object, if it has one, to that one, if it has one
abbrev one_of_these : Option ℕ → Option ℕ → Reference
one_of_these owner referent = record {
  owner = owner;
  strength = Soft;
  referent = referent;
  queue = Some 7;
  stamp = 3;
  is_told = false;
  is_pending = false;
  is_out = false;
}

-- of object 2, and its notice is out
abbrev one_out : Option ℕ → Reference
one_out owner = record (one_of_these owner None) { is_told = true; is_out = true }

-- two places with references, and a vacant one between them
abbrev two_places : Reference → Reference → List Place
two_places r s =
    record { round = 3; held = Some r } ∷ record { round = 2; held = None } ∷ record { round = 0; held = Some s } ∷ []

abbrev key_in_front : Key
key_in_front = record { place = 0; round = 3 }

abbrev key_behind : Key
key_behind = record { place = 2; round = 0 }

abbrev desk_of : Phase → List Place → Desk
desk_of phase places = record {
  places = places;
  made = [];
  listed = 0;
  phase = phase;
  policy = record { clock = 20; urgency = Normal; span = 10 };
  cycle = 4;
}

-- object 1 refers to 11 by a reference, and that of object 2 is cleared
abbrev before : Phase → Desk
before phase = desk_of phase (two_places (one_of_these (Some 1) (Some 11)) (one_out (Some 2)))

-- each object is forty further on
abbrev on_by_forty : ℕ → ℕ
on_by_forty h = h + 40

-- ---- what it leaves

owners_and_referents_are_where_they_are_now :
    after_relocation on_by_forty (before Idle)
    ≡ desk_of Idle (two_places (one_of_these (Some 41) (Some 51)) (one_out (Some 42)))
owners_and_referents_are_where_they_are_now = refl

what_has_no_object_has_none_afterwards :
    relocated_reference on_by_forty (one_of_these None None) ≡ one_of_these None None
what_has_no_object_has_none_afterwards = refl

what_is_got_afterwards_is_where_it_is_now :
    (marked : ℕ → Bool)
    → got_of marked (after_relocation on_by_forty (before Idle))
    (reference_under (after_relocation on_by_forty (before Idle)).places key_in_front)
    ≡ Some 51
what_is_got_afterwards_is_where_it_is_now marked = refl

-- promise: Processor::relocate: a notice that is out has the owner of before
the_owner_of_what_is_out_is_another_root :
    owed_owners (after_relocation on_by_forty (before Idle)).places ≡ 42 ∷ []
the_owner_of_what_is_out_is_another_root = refl

-- ---- what it doesn't

-- promise: Processor::relocate: owners are forgotten
owners_are_not_forgotten :
    ¬ (after_relocation on_by_forty (before Idle)
    ≡ desk_of Idle (two_places (one_of_these (Some 1) (Some 51)) (one_out (Some 2))))
owners_are_not_forgotten is =
    let same : 41 ≡ 1 =
    same_handle 41 1 (ap (λ (d : Desk). owner_of (reference_under d.places key_in_front)) is) in
    absurd (omega (arith, same))

-- promise: Processor::relocate: the first place alone is changed
no_place_is_left_out :
    ¬ (after_relocation on_by_forty (before Idle)
    ≡ desk_of Idle (two_places (one_of_these (Some 41) (Some 51)) (one_out (Some 2))))
no_place_is_left_out is =
    let same : 42 ≡ 2 =
    same_handle 42 2 (ap (λ (d : Desk). owner_of (reference_under d.places key_behind)) is) in
    absurd (omega (arith, same))

-- ---- when

it_may_be_told_between_cycles : relocation_refusal (before Idle) ≡ None
it_may_be_told_between_cycles = refl

-- promise: Processor::relocate: objects move in a mark
not_in_a_mark : relocation_refusal (before Marking) ≡ Some WrongPhase
not_in_a_mark = refl

-- promise: Processor::relocate: objects move while references are cleared
nor_in_a_clearing : relocation_refusal (before Clearing) ≡ Some WrongPhase
nor_in_a_clearing = refl

-- ---- rows

abbrev crew_of : Desk → Crew
crew_of d = record { desk = d; finders = [] }

a_relocation_is_a_row :
    IsDeskRow (crew_of (before Idle)) (Relocates on_by_forty) (crew_of (after_relocation on_by_forty (before Idle)))
a_relocation_is_a_row = (λ h. false, (refl, refl))

-- promise: Processor::relocate: it is answered that it is done, and nothing has moved
no_row_leaves_all_where_it_was :
    ¬ (IsDeskRow (crew_of (before Idle)) (Relocates on_by_forty) (crew_of (before Idle)))
no_row_leaves_all_where_it_was leads =
    let same : 1 ≡ 41 =
    same_handle 1 41 (ap (λ (c : Crew). owner_of (reference_under c.desk.places key_in_front)) leads.1.1) in
    absurd (omega (arith, same))

no_relocation_in_a_clearing_is_a_row :
    (e : Crew) → ¬ (IsDeskRow (crew_of (before Clearing)) (Relocates on_by_forty) e)
no_relocation_in_a_clearing_is_a_row e leads = let refused = leads.1.0 in absurd cc

it_may_change_what_each_reads_as : may_change key_in_front (Relocates on_by_forty) ≡ true
it_may_change_what_each_reads_as = refl

-- ---- other handles

-- what takes the handles back
abbrev back_by_forty : ℕ → ℕ
back_by_forty h = h - 40

another_handle_is_taken_back : (h : ℕ) → back_by_forty (on_by_forty h) ≡ h
another_handle_is_taken_back h = omega arith

-- each object gets one handle
abbrev all_at_five : ℕ → ℕ
all_at_five h = 5

no_handle_of_two_is_taken_back : (from : ℕ → ℕ) → ¬ ((h : ℕ) → from (all_at_five h) ≡ h)
no_handle_of_two_is_taken_back from back =
    let same : 0 ≡ 1 = sym (back 0) ∙ back 1 in absurd (omega (arith, same))

a_crew_by_other_handles :
    renamed_crew on_by_forty (crew_of (before Marking))
    ≡ crew_of (desk_of Marking (two_places (one_of_these (Some 41) (Some 51)) (one_out (Some 42))))
a_crew_by_other_handles = refl

what_is_made_has_the_other_handles :
    renamed_row on_by_forty back_by_forty (Adds key_behind (Some 2) Soft 12 (Some 7) (Keep 12))
    ≡ Adds key_behind (Some 42) Soft 52 (Some 7) (Keep 52)
what_is_made_has_the_other_handles = refl

what_is_got_has_another_handle :
    renamed_rows on_by_forty back_by_forty (Gets key_in_front (Some 11) ∷ EndsMarking ∷ [])
    ≡ Gets key_in_front (Some 51) ∷ EndsMarking ∷ []
what_is_got_has_another_handle = refl

-- what a row of `get` answers
abbrev got_by : DeskRow → Option ℕ
got_by (Gets k got) = got
got_by row = None

-- promise: Processor::get: the handle of before is answered
the_handle_of_before_is_not_its_answer :
    ¬ (renamed_row on_by_forty back_by_forty (Gets key_in_front (Some 11)) ≡ Gets key_in_front (Some 11))
the_handle_of_before_is_not_its_answer is =
    let same : 51 ≡ 11 = same_handle 51 11 (ap got_by is) in absurd (omega (arith, same))
