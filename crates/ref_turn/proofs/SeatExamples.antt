-- What seats may know and what they may not, of a count to which two of them add: seat 0 added 2 to 10, and then seat 1
-- added 3.
use Rattle.ref_turn.proofs.Common.{◌≡◌, ◌+◌, ◌^◌, ◌≤◌, [], ◌∷◌, Some, refl, arith, Entry, Idle, View, Leads, entry}
use Rattle.ref_turn.proofs.Common.{Longer, Extends, IsHistory, EndsAs}
use Rattle.std.proofs.Common.{ℕ, ◌-◌, List}
use Rattle.ref_turn.proofs.Logs.{starts_length}
use Rattle.ref_turn.specs.Seats.{SawBusy, Begins, IsFirst, IsLeftOpen}

abbrev IsCount : ℕ → ℕ → Type 0
IsCount m x = x ≡ m

-- a step adds to the count, and is told what that was
abbrev Counts : ℕ → ℕ → ℕ → ℕ → Type 0
Counts x step reply y = (reply ≡ x) × (y ≡ x + step)

abbrev first_call : Entry ℕ ℕ
first_call = entry 0 2 10

abbrev second_call : Entry ℕ ℕ
second_call = entry 1 3 12

-- seat 1, with what it has seen and made, where so many tickets were drawn and it has looked so often
abbrev seat : List (Entry ℕ ℕ) → List (Entry ℕ ℕ) → (drawn looks : ℕ) → View ℕ ℕ ℕ
seat seen mine drawn looks = record {
  first = 0;
  start = Some 10;
  stage = Idle;
  number = 1;
  seen = seen;
  mine = mine;
  drawn = drawn;
  looks = looks;
}

abbrev before : View ℕ ℕ ℕ
before = seat (first_call ∷ []) [] 1 1

abbrev after : View ℕ ℕ ℕ
after = seat (first_call ∷ second_call ∷ []) (second_call ∷ []) 2 2

-- ---- histories

led : (a x : ℕ) → Some 10 ≡ Some a → IsCount a x → Leads Counts x (first_call ∷ second_call ∷ []) 15
led a x is stands = grind arith

it_has_a_history : IsHistory IsCount Counts after
it_has_a_history = ((λ a x is stands. (15, led a x is stands)), refl)

a_reply_of_another_count_is_no_history : ¬ (IsHistory IsCount Counts
    (seat (first_call ∷ entry 1 3 10 ∷ []) (entry 1 3 10 ∷ []) 2 2))
a_reply_of_another_count_is_no_history is = grind (arith, is.0 10 10)

an_own_call_left_out_is_no_history : ¬ (IsHistory IsCount Counts (seat (first_call ∷ second_call ∷ []) [] 2 2))
an_own_call_left_out_is_no_history is = let none = is.1 in absurd cc

-- ---- a call

it_made_its_call : Extends before second_call after
it_made_its_call = ((refl, refl, refl), ([], refl), refl)

a_history_that_starts_anew_is_none : ¬ (Extends before second_call (seat (second_call ∷ []) (second_call ∷ []) 2 2))
a_history_that_starts_anew_is_none is = grind arith

it_only_looked : Longer before (seat (first_call ∷ entry 0 1 12 ∷ []) [] 2 2)
it_only_looked = ((refl, refl, refl), (entry 0 1 12 ∷ [], refl), refl)

who_only_looks_makes_no_call : ¬ (Longer before after)
who_only_looks_makes_no_call is = let none = is.2 in absurd cc

-- ---- busy

it_saw_an_open_turn : SawBusy before (seat (first_call ∷ []) [] 2 2)
it_saw_an_open_turn = (omega arith, omega arith, omega arith)

no_turn_was_open : ¬ (SawBusy before (seat (first_call ∷ []) [] 1 2))
no_turn_was_open busy = absurd (omega (arith, busy.1))

who_did_not_look_saw_none : ¬ (SawBusy before (seat (first_call ∷ []) [] 2 1))
who_did_not_look_saw_none busy = absurd (omega (arith, busy.0))

-- the last ticket was drawn: it is spent and not busy, though the turn is open
at_the_last_ticket_it_is_spent : ¬ (SawBusy before (seat (first_call ∷ []) [] (2 ^ 64 - 1) 2))
at_the_last_ticket_it_is_spent busy = absurd (omega (arith, busy.2))

-- ---- the first seat, one that was cut off, and the end

abbrev first_seat : View ℕ ℕ ℕ
first_seat = record (seat [] [] 0 0) { number = 0 }

it_is_the_first : IsFirst 0 10 first_seat
it_is_the_first = (refl, refl, refl, refl, refl)

seat_1_is_not_the_first : ¬ (IsFirst 0 10 (seat [] [] 0 0))
seat_1_is_not_the_first is = absurd (omega (arith, is.0))

it_was_cut_off_the_first : Begins (record first_seat { seen = first_call ∷ []; mine = first_call ∷ [] }) before
it_was_cut_off_the_first = (omega arith, refl, refl, refl, refl, refl)

a_new_seat_has_another_number : ¬ (Begins before before)
a_new_seat_has_another_number begins = absurd (omega (arith, begins.0))

it_ends_with_15 : EndsAs IsCount Counts after 15
it_ends_with_15 = (
  first_call ∷ second_call ∷ [],
  ([], refl),
  refl,
  λ a x is stands. (15, led a x is stands, refl),
  omega arith,
)

-- a count only grows
grows : (log : List (Entry ℕ ℕ)) (x y : ℕ) → Leads Counts x log y → x ≤ y
grows [] x y run = omega (arith, run)
grows (call ∷ log) x y run = let rest = grows log run.0 y run.2 in omega (arith, run.1.1, rest)

it_does_not_end_with_14 : ¬ (EndsAs IsCount Counts after 14)
it_does_not_end_with_14 ends = grind (arith, grows, ends.3 10 10)

it_ends_within_a_turn : IsLeftOpen IsCount Counts after
it_ends_within_a_turn = (
  seat (first_call ∷ second_call ∷ []) (second_call ∷ []) 3 3,
  ((refl, refl, refl), ([], refl), refl),
  ((λ a x is stands. (15, led a x is stands)), refl),
  omega arith,
  omega arith,
  omega arith,
  omega arith,
)

-- it has seen the turn of each ticket that there is
abbrev at_the_last_ticket : View ℕ ℕ ℕ
at_the_last_ticket = record after { first = 2 ^ 64 - 3 }

-- promise: Turn::finish: with all tickets ended no turn is left open
with_no_ticket_to_come_none_is_left_open : ¬ (IsLeftOpen IsCount Counts at_the_last_ticket)
with_no_ticket_to_come_none_is_left_open left =
    let more = starts_length left.0.seen at_the_last_ticket.seen left.1.1 in
    absurd (omega (arith, left.1.0.1, more, left.5, left.6))
