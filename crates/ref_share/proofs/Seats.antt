-- The seats of a turn that began with a machine in a known state stay such seats.
use Rattle.ref_share.proofs.Common.{◌≡◌, ℕ, List, refl, sym, ◌∙◌, subst, Result, Ok, Err, IfOk, IfErr, Leads, calls_by}
use Rattle.ref_share.proofs.Common.{entry, EndsAs, Extends, Longer, view, Entry, View, IsSeatFrom}
use Rattle.ref_turn.specs.Seats.{IsSame, IsHistory, IsFirst}
use Rattle.ref_turn.specs.Turns.{IsBeside, IsSeatOf}
use Rattle.ref_turn.specs.declared.turn.SeatOf.{SeatOf}
use Rattle.ref_turn.specs.declared.turn.Turn.{Turn}
use Rattle.ref_share.specs.StartedSeats.{IsFirstFrom, IsLeftFrom}

-- a call that was made, or was not, leaves its own seat
pub same_either_way : {M S R T E : Type 0} (result : Result T E) (v w : View M S R) (made : T → Entry S R)
    → IfOk result (λ r. Extends v (made r) w) → IfErr result (λ _. Longer v w) → IsSame v w
same_either_way (Ok r) v w made extends longer = extends.0
same_either_way (Err e) v w made extends longer = longer.0

module _ {M S R X : Type 0} (stands_for : M → X → Type 0) (steps_to : X → S → R → X → Type 0) where
  module _ {A F : Type 0} (t : Turn M A S R F) (x : X) where
    -- a seat after a call of its turn
    pub seat_stays : (s u : SeatOf M S R) → IsSeatFrom stands_for steps_to t x s → IsBeside s u
        → IsSame (view s) (view u) → IsHistory stands_for steps_to (view u) → IsSeatFrom stands_for steps_to t x u
    seat_stays s u seat beside same history =
        let start = same.2 ∙ seat.start in
        let legal = history.0 seat.machine x start seat.stands in
        record {
          turn = beside ∙ seat.turn;
          machine = seat.machine;
          start = start;
          stands = seat.stands;
          history = record { last = legal.0; run = legal.1; own = history.1 };
        }

    -- a seat after a call, whether it was made or not
    pub call_stays : {T : Type 0} (s u : SeatOf M S R) (step : S) (result : Result R T)
        → IsSeatFrom stands_for steps_to t x s → IsBeside s u
        → IfOk result (λ r. Extends (view s) (entry (view s).number step r) (view u))
        → IfErr result (λ _. Longer (view s) (view u)) → IsHistory stands_for steps_to (view u)
        → IsSeatFrom stands_for steps_to t x u
    call_stays s u step result seat beside extends longer history =
        let same = same_either_way result (view s) (view u) (λ r. entry (view s).number step r) extends longer in
        seat_stays s u seat beside same history

    -- the first seat of a turn
    pub first_seat : (s : SeatOf M S R) (first : ℕ) (m : M) → IsSeatOf t s → IsFirst first m (view s)
        → stands_for m x → IsFirstFrom stands_for steps_to t x first s
    first_seat s first m own is_first stands =
        let seen = is_first.3 in
        let mine = is_first.4 in
        record {
          seat = record {
            turn = own;
            machine = m;
            start = is_first.2;
            stands = stands;
            history = record {
              last = x;
              run = subst (λ (log : List (Entry S R)). Leads steps_to x log x) (sym seen) refl;
              own = subst (λ (log : List (Entry S R)). calls_by (view s).number log ≡ (view s).mine) (sym seen)
                  (sym mine);
            };
          };
          first_is = is_first.1;
          seen = seen;
          mine = mine;
        }

    -- the machine that a turn ends with
    pub left_so : (s : SeatOf M S R) (m : M) → IsSeatFrom stands_for steps_to t x s
        → EndsAs stands_for steps_to (view s) m
        → IsLeftFrom stands_for steps_to x (view s) m
    left_so s m seat ends =
        let reached = ends.3 seat.machine x seat.start seat.stands in
        record {
          log = ends.0;
          begins = ends.1;
          own = ends.2;
          turns = ends.4;
          last = reached.0;
          run = reached.1;
          stands = reached.2;
        }
