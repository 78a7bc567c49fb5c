-- Traces that differ from worked ones in one reply, and are not legal.
use Rattle.ref_base.proofs.Common.{arith, ◌≡◌, ℕ, Bool, false, List, [], ◌∷◌, replicate, Option, Some, None, Graph}
use Rattle.ref_base.proofs.Common.{Object, plain_object, first_world, State, first_state, IsRun, IsLegal, Row, Mutator}
use Rattle.ref_base.proofs.Common.{Weak, Normal, Own, Marking, HandEmpty, NoMemory}
use Rattle.ref_base.specs.Heaps.{first_heap}
use Rattle.ref_base.specs.KeptPaths.{policy_from, is_kept, IsKept}
use Rattle.ref_base.specs.declared.strength.Strength.TheVariants.{Soft}
use Rattle.ref_base.proofs.Common.{refl, false≢true}
use Rattle.ref_base.proofs.ClosedSets.{closed_has}
use Rattle.ref_base.proofs.WorkedTraces.{row, outs, config_of, scaled_config_of}
use Rattle.ref_base.proofs.Common.{Pending, Worker, Cycle, IsRow}
use Rattle.ref_base.specs.declared.fault.Fault.TheVariants.{BadConfig}
use Rattle.ref_base.specs.declared.out.Done.TheVariants as done
use Rattle.ref_base.specs.declared.plain_step.PlainStep.TheVariants as plain
use Rattle.ref_base.specs.declared.step.Step.TheVariants as steps
use Rattle.ref_base.specs.declared.reply.Reply.TheVariants as replies

-- ---- replies

refused_is_not_added : (n : ℕ) → replies.Refused HandEmpty ≡ replies.Added n → ⊥
refused_is_not_added n same = absurd cc

hand_empty_is_not_no_memory : replies.Refused HandEmpty ≡ replies.Refused NoMemory → ⊥
hand_empty_is_not_no_memory same = absurd cc

added_is_not_refused : (n : ℕ) → replies.Added n ≡ replies.Refused NoMemory → ⊥
added_is_not_refused n same = absurd cc

added_is_not_closed : (n : ℕ) → replies.Added n ≡ replies.Closed → ⊥
added_is_not_closed n same = absurd cc

added_is_not_already : (n : ℕ) → replies.Added n ≡ replies.Already → ⊥
added_is_not_already n same = absurd cc

took_is_not_empty : (n : ℕ) → replies.Took n ≡ replies.Empty → ⊥
took_is_not_empty n same = absurd cc

object_is_not_null : (n : ℕ) → replies.Object n ≡ replies.Null → ⊥
object_is_not_null n same = absurd cc

-- ---- a reference that is unhooked

-- an object and a weak reference to it in slot 1, cleared, with a notice of it in the hand
abbrev unhooked : State
unhooked = record (first_state (config_of 1)) {
  world = record (first_world (config_of 1)) {
    heap = record (first_heap (config_of 1) 0) {
      objects = plain_object 1 [] ∷ record {
        no = 2;
        fields = [];
        reference = Some (record { strength = Weak; referent = None; stamp = 0; queue = Some 0 });
      } ∷ [];
      slots = Some 1 ∷ Some 2 ∷ replicate 14 None;
      holds = 2 ∷ [];
    };
    mutator_hands = (record { object = 2; queue = 0; cause = Own } ∷ []) ∷ [];
  };
  next = 3;
}

-- the rows that lead there, and others behind
abbrev after_unhooking : List Row → List Row
after_unhooking rows =
    row (steps.Plain (plain.New 0 0 0)) (replies.Object 1) ∷
    row (steps.Plain (plain.Refer 0 Weak 1 0 (Some 0) 0)) (replies.Object 2) ∷
    row (steps.Unhook 0 1) (replies.Notice 2 0 Own) ∷
    rows

unhooked_by : (rows : List Row) (last : State) → IsRun (first_state (config_of 1)) (after_unhooking rows) last
    → IsRun unhooked rows last
unhooked_by rows last run = grind arith

-- the notice is put in, and the hand is empty
abbrev put_once : State
put_once = record unhooked {
  world = record unhooked.world {
    mutator_hands = [] ∷ [];
    queues = record {
      queue = 0;
      taken = [];
      stands = record { object = 2; queue = 0; cause = Own } ∷ [];
      closed = false;
    } ∷ [];
  };
}

put_once_by : (rows : List Row) (last : State)
    → IsRun unhooked (row (steps.Put (Mutator 0)) (replies.Added 0) ∷ rows) last → IsRun put_once rows last
put_once_by rows last run = grind arith

-- a refusal where none applies: the hand holds a notice
abbrev refused_without_cause : List Row
refused_without_cause = after_unhooking (row (steps.Put (Mutator 0)) (replies.Refused HandEmpty) ∷ [])

refused_without_cause_is_not_legal : ¬ (IsLegal (config_of 1) refused_without_cause)
refused_without_cause_is_not_legal legal = grind arith

-- the one notice that was put in is taken a second time
abbrev taken_twice : List Row
taken_twice =
    after_unhooking
    (row (steps.Put (Mutator 0)) (replies.Added 0) ∷
    row (steps.Poll 0 0) (replies.Took 2) ∷
    row (steps.Release (Mutator 0)) replies.Done ∷
    row (steps.Poll 0 0) (replies.Took 2) ∷ [])

taken_twice_is_not_legal : ¬ (IsLegal (config_of 1) taken_twice)
taken_twice_is_not_legal legal = grind arith

-- a queue that is closed takes a notice
abbrev put_after_close : List Row
put_after_close =
    after_unhooking
    (row (steps.Close 0 0) replies.Done ∷
    row (steps.Put (Mutator 0)) (replies.Added 0) ∷ [])

put_after_close_is_not_legal : ¬ (IsLegal (config_of 1) put_after_close)
put_after_close_is_not_legal legal = grind arith

-- a reference that was put in is put in a second time
abbrev put_twice : List Row
put_twice =
    after_unhooking
    (row (steps.Put (Mutator 0)) (replies.Added 0) ∷
    row (steps.Unhook 0 1) (replies.Notice 2 0 Own) ∷
    row (steps.Put (Mutator 0)) (replies.Added 1) ∷ [])

put_twice_is_not_legal : ¬ (IsLegal (config_of 1) put_twice)
put_twice_is_not_legal legal = grind arith

-- ---- a mark

abbrev reference_to_1 : Object
reference_to_1 = record {
  no = 2;
  fields = [];
  reference = Some (record { strength = Weak; referent = Some 1; stamp = 0; queue = Some 0 });
}

abbrev objects : List Object
objects = plain_object 1 [] ∷ reference_to_1 ∷ []

-- an object and a weak reference to it in slot 1, the mark begun and the reference scanned
abbrev marked : List (Option ℕ) → List Graph → Bool → State
marked slots moments left = record {
  world = record (first_world (config_of 1)) {
    heap = record (first_heap (config_of 1) 0) { objects = objects; slots = slots; clock = 5 };
    policy = policy_from (config_of 1) 6 5 Normal;
    cycle = 1;
    phase = Marking;
  };
  next = 3;
  born = 3;
  moments = moments;
  scanned = (2 ∷ []) ∷ [];
  left = left;
  doomed = [];
  cleared = [];
  found = [] ∷ [];
  moved = false;
}

abbrev slots_with : Option ℕ → List (Option ℕ)
slots_with third = None ∷ Some 2 ∷ None ∷ third ∷ replicate 12 None

abbrev rooted : List ℕ → Graph
rooted roots = record { objects = objects; roots = roots }

-- the rows that lead there, and others behind
abbrev pub after_scanning : List Row → List Row
after_scanning rows =
    row (steps.Plain (plain.New 0 0 0)) (replies.Object 1) ∷
    row (steps.Plain (plain.Refer 0 Weak 1 0 (Some 0) 0)) (replies.Object 2) ∷
    row (steps.Plain (plain.Drop 0 0)) replies.Done ∷
    row (steps.Plain (plain.Begin 5 Normal)) (replies.Cycle 1) ∷
    row (steps.Plain (plain.Scan 0)) (replies.Scanned 2) ∷
    rows

-- whether an object is left isn't told
scanned_by : (rows : List Row) (last : State) → IsRun (first_state (config_of 1)) (after_scanning rows) last
    → (left : Bool) × IsRun (marked (slots_with None) (rooted (2 ∷ []) ∷ rooted (2 ∷ []) ∷ []) left) rows last
scanned_by rows last run = grind arith

-- a get answers an object that is doomed
abbrev doomed_got : List Row
doomed_got =
    after_scanning
    (row (steps.Plain (plain.Scan 0)) replies.Nothing ∷
    row (steps.Plain plain.EndMark) (replies.Doomed 1) ∷
    row (steps.Plain (plain.Get 0 3 1)) (replies.Object 1) ∷ [])

doomed_got_is_not_legal : ¬ (IsLegal (config_of 1) doomed_got)
doomed_got_is_not_legal legal = grind arith

-- an object that a slot holds is doomed
abbrev kept_doomed : List Row
kept_doomed =
    after_scanning
    (row (steps.Plain (plain.Get 0 3 1)) (replies.Object 1) ∷
    row (steps.Plain plain.EndMark) (replies.Doomed 1) ∷ [])

-- promise: Judge::row: what a get answered in a mark is kept
kept_doomed_is_not_legal : ¬ (IsLegal (config_of 1) kept_doomed)
kept_doomed_is_not_legal legal = grind arith

-- ---- a scaled span: of the eight cells six are free as the cycle begins, which makes 7 of 10

abbrev within_ten : Graph
within_ten = record {
  objects = plain_object 1 [] ∷ record {
    no = 2;
    fields = [];
    reference = Some (record { strength = Soft; referent = Some 1; stamp = 0; queue = Some 0 });
  } ∷ [];
  roots = 2 ∷ [];
}

-- 8 is within the span itself, and no kept path leads through the reference
it_is_not_kept : ¬ (IsKept (policy_from (scaled_config_of 1) 6 8 Normal) within_ten 1)
it_is_not_kept kept =
    false≢true (closed_has (is_kept (policy_from (scaled_config_of 1) 6 8 Normal)) within_ten (2 ∷ []) refl 1 kept)

-- its referent is scanned
abbrev kept_by_the_span_itself : List Row
kept_by_the_span_itself =
    row (steps.Plain (plain.New 0 0 0)) (replies.Object 1) ∷
    row (steps.Plain (plain.Refer 0 Soft 1 0 (Some 0) 0)) (replies.Object 2) ∷
    row (steps.Plain (plain.Drop 0 0)) replies.Done ∷
    row (steps.Plain (plain.Begin 8 Normal)) (replies.Cycle 1) ∷
    row (steps.Plain (plain.Scan 0)) (replies.Scanned 2) ∷
    row (steps.Plain (plain.Scan 0)) (replies.Scanned 1) ∷ []

-- promise: Marker::begin, World::step: a scaled span is neither the configuration's own nor goes by what was shaded
kept_by_the_span_itself_is_not_legal : ¬ (IsLegal (scaled_config_of 1) kept_by_the_span_itself)
kept_by_the_span_itself_is_not_legal legal = grind (arith, it_is_not_kept)

-- ---- a move

-- objects are chosen a second time, and no cycle ended in between
abbrev selected_twice : List Row
selected_twice =
    row (steps.Plain plain.Select) (replies.Selected 2) ∷
    row (steps.Plain plain.EndMove) replies.Done ∷
    row (steps.Plain plain.Select) (replies.Selected 2) ∷ []

-- promise: Marker::select, World::step: objects are chosen once between two cycles
selected_twice_is_not_legal : ¬ (IsLegal (config_of 1) selected_twice)
selected_twice_is_not_legal legal = grind arith

-- an object moves that isn't there
abbrev moved_from_nowhere : List Row
moved_from_nowhere =
    row (steps.Plain (plain.New 0 0 0)) (replies.Object 1) ∷
    row (steps.Plain plain.Select) (replies.Selected 1) ∷
    row (steps.Plain (plain.MoveNext 0)) (replies.Moved 2) ∷ []

moved_from_nowhere_is_not_legal : ¬ (IsLegal (config_of 1) moved_from_nowhere)
moved_from_nowhere_is_not_legal legal = grind arith

-- a cycle begins while objects move
abbrev begun_in_a_move : List Row
begun_in_a_move =
    row (steps.Plain plain.Select) (replies.Selected 2) ∷
    row (steps.Plain (plain.Begin 5 Normal)) (replies.Cycle 1) ∷ []

begun_in_a_move_is_not_legal : ¬ (IsLegal (config_of 1) begun_in_a_move)
begun_in_a_move_is_not_legal legal = grind arith

-- ---- batches

-- a worker has cleared these
abbrev waiting_for_hands : List Pending → State
waiting_for_hands ps =
    record (first_state (config_of 1)) { world = record (first_world (config_of 1)) { pending = ps ∷ [] } }

abbrev pending : ℕ → ℕ → ℕ → Pending
pending n q cycle = record { object = n; queue = q; cycle = cycle }

-- one hand takes references of two cycles
-- promise: Heap::hand_batch, World::step: a batch has no notices of two cycles
no_hand_crosses_a_cycle : (b : State)
    → ¬ (IsRow (waiting_for_hands (pending 2 0 1 ∷ pending 6 0 2 ∷ []))
    (row (steps.Hands 0 32) (replies.Notices (2 ∷ 6 ∷ []) 0 1 0)) b)
no_hand_crosses_a_cycle b is =
    let told : replies.Notices (2 ∷ 6 ∷ []) 0 1 0 ≡ replies.Notices (2 ∷ []) 0 1 0 = is.1.0 in absurd cc

-- or of two queues
-- promise: Heap::hand_batch, World::step: a batch has no notices of two queues
no_hand_crosses_a_queue : (b : State)
    → ¬ (IsRow (waiting_for_hands (pending 2 0 1 ∷ pending 6 1 1 ∷ []))
    (row (steps.Hands 0 32) (replies.Notices (2 ∷ 6 ∷ []) 0 1 0)) b)
no_hand_crosses_a_queue b is =
    let told : replies.Notices (2 ∷ 6 ∷ []) 0 1 0 ≡ replies.Notices (2 ∷ []) 0 1 0 = is.1.0 in absurd cc

-- or fewer than go together and were asked for
no_hand_leaves_what_goes_with_it : (b : State)
    → ¬ (IsRow (waiting_for_hands (pending 2 0 1 ∷ pending 6 0 1 ∷ []))
    (row (steps.Hands 0 32) (replies.Notices (2 ∷ []) 0 1 0)) b)
no_hand_leaves_what_goes_with_it b is =
    let told : replies.Notices (2 ∷ []) 0 1 0 ≡ replies.Notices (2 ∷ 6 ∷ []) 0 1 0 = is.1.0 in absurd cc

-- more than 32 are asked for
-- promise: World::step: a hand of 33 is refused
no_hand_is_of_33 : (b : State)
    → ¬ (IsRow (waiting_for_hands (pending 2 0 1 ∷ [])) (row (steps.Hands 0 33) (replies.Notices (2 ∷ []) 0 1 0)) b)
no_hand_is_of_33 b is = let told : replies.Notices (2 ∷ []) 0 1 0 ≡ replies.Refused BadConfig = is.0 in absurd cc

-- a worker's hand holds notices of 2 and 6
abbrev holding_two : State
holding_two = record (first_state (config_of 1)) {
  world = record (first_world (config_of 1)) {
    worker_hands = (
        record { object = 2; queue = 0; cause = Cycle 1 0 } ∷ record { object = 6; queue = 0; cause = Cycle 1 0 } ∷ []
        ) ∷ [];
  };
}

-- a put of both goes on after an item that was refused
no_put_goes_on_after_a_refused_item : (b : State)
    → ¬ (IsRow holding_two
    (row (steps.Puts (Worker 0)) (replies.Outs (outs 0 (done.Refused NoMemory ∷ done.Added ∷ [])))) b)
no_put_goes_on_after_a_refused_item b is =
    let told : replies.Outs (outs 0 (done.Refused NoMemory ∷ done.Added ∷ [])) ≡ replies.Outs is.0 = is.3.0 in
    let same : is.0 ≡ outs 0 (done.Refused NoMemory ∷ done.Added ∷ []) = cc in
    let over : (done.Added ∷ []) ≡ [] = rw same at is.2.3 in absurd cc

-- or ends before one was refused
no_put_stops_where_nothing_is_refused : (b : State)
    → ¬ (IsRow holding_two (row (steps.Puts (Worker 0)) (replies.Outs (outs 0 (done.Added ∷ [])))) b)
no_put_stops_where_nothing_is_refused b is =
    let told : replies.Outs (outs 0 (done.Added ∷ [])) ≡ replies.Outs is.0 = is.3.0 in
    let same : is.0 ≡ outs 0 (done.Added ∷ []) = cc in absurd (rw same at is.2.3)
