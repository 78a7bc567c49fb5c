-- Lists of queues and of their seats, place by place: for those who keep such lists.
use Rattle.ref_share.proofs.Common.{◌≡◌, ℕ, zero, suc, List, [], ◌∷◌, ◌++◌, length, get_or, Some, ◌⊎◌, inl, inr, refl}
use Rattle.ref_share.proofs.Common.{sym, ap, subst, arith, slice_get, slice_get-get_or, slice_get_within, AreSeats}
use Rattle.ref_share.proofs.Common.{new_queue, IsQueueTurn, IsQueueSeat, IsSeatFrom, QueueSeat, SharedQueue}
use Rattle.std.proofs.Common.{take, drop}
use Rattle.std.proofs.lemmas.Bool.Decides.{leb_tells}
use Rattle.std.proofs.lemmas.Grind.{common_steps}
use Rattle.std.proofs.lemmas.Option.{same_Some}
use Rattle.ref_share.specs.Selves.{IsItself}
use Rattle.ref_share.specs.QueueSeats.{IsNewQueue}
use Rattle.ref_share.specs.Users.{AreNew, AtEachPlace, HasClosed}
use Rattle.ref_share.proofs.Common.{◌<◌, ◌≤◌, ◌+◌, ◌∙◌, slice_set, length-append}
use Rattle.ref_share.proofs.Places.{changed_there}

-- what stands in a list with one more stood there before, or is that one
at_last : {T : Type 0} (xs : List T) (x y : T) (k : ℕ) → slice_get (xs ++ x ∷ []) k ≡ Some y
    → (slice_get xs k ≡ Some y) ⊎ ((k ≡ length xs) × (x ≡ y))
at_last [] x y zero at = inr (refl, same_Some x y at)
at_last [] x y (suc k) at = absurd cc
at_last (z ∷ xs) x y zero at = inl at
at_last (z ∷ xs) x y (suc k) at =
    elim (at_last xs x y k at) [
      | inl before ↦ inl before
      | inr last ↦ inr (omega (arith, last.0), last.1)
    ]

-- what stood in it stands there still
at_front : {T : Type 0} (xs : List T) (x y : T) (k : ℕ) → slice_get xs k ≡ Some y
    → slice_get (xs ++ x ∷ []) k ≡ Some y
at_front [] x y k at = absurd cc
at_front (z ∷ xs) x y zero at = at
at_front (z ∷ xs) x y (suc k) at = at_front xs x y k at

-- the one that is more stands last
at_end : {T : Type 0} (xs : List T) (x : T) → slice_get (xs ++ x ∷ []) (length xs) ≡ Some x
at_end [] x = refl
at_end (z ∷ xs) x = at_end xs x

-- a list of one is that one
only_one : {T : Type 0} (xs : List T) (x : T) → length xs ≡ 1 → xs ≡ get_or xs 0 x ∷ []
only_one [] x one = absurd (omega (arith, one))
only_one (y ∷ []) x one = refl
only_one (y ∷ z ∷ xs) x one = absurd (omega (arith, one))

-- what stands in two lists is so to each other, at each place that both have
abbrev pub Pairwise : {S T : Type 0} → (S → T → Type 0) → List S → List T → Type 0
Pairwise {S = S} {T = T} P xs ys =
    (k : ℕ) (x : S) (y : T) → slice_get xs k ≡ Some x → slice_get ys k ≡ Some y → P x y

-- that is so with one more, which is so to what stands at its place
pub place_more : {S T : Type 0} (P : S → T → Type 0) (xs : List S) (ys : List T) (y : T) → Pairwise P xs ys
    → ((x : S) → slice_get xs (length ys) ≡ Some x → P x y) → Pairwise P xs (ys ++ y ∷ [])
place_more {S = S} {T = T} P xs ys y are own k x z found placed =
    elim (at_last ys y z k placed) [
      | inl before ↦ are k x z found before
      | inr last ↦
          subst (λ (t : T). P x t) last.1 (own x (subst (λ (i : ℕ). slice_get xs i ≡ Some x) last.0 found))
    ]

-- what is so of each pair and its place is so with one pair more
pub pair_more : {S T : Type 0} (P : ℕ → S → T → Type 0) (xs : List S) (ys : List T) (x : S) (y : T)
    → length ys ≡ length xs
    → ((k : ℕ) (a : S) (b : T) → slice_get xs k ≡ Some a → slice_get ys k ≡ Some b → P k a b) → P (length xs) x y
    → (k : ℕ) (a : S) (b : T) → slice_get (xs ++ x ∷ []) k ≡ Some a → slice_get (ys ++ y ∷ []) k ≡ Some b → P k a b
pair_more {S = S} {T = T} P xs ys x y even are own k a b found placed =
    elim (at_last xs x a k found) [
      | inl there ↦ elim (at_last ys y b k placed) [
        | inl here ↦ are k a b there here
        | inr last ↦ absurd (omega (arith, last.0, even, slice_get_within xs k a there))
      ]
      | inr last ↦ elim (at_last ys y b k placed) [
        | inl here ↦ absurd (omega (arith, last.0, even, slice_get_within ys k b here))
        | inr end ↦
            subst (λ (n : ℕ). P n a b) (sym last.0)
            (subst (λ (t : T). P (length xs) a t) end.1 (subst (λ (s : S). P (length xs) s y) last.1 own))
      ]
    ]

-- a change of a place adds none
pub set_length : {T : Type 0} (xs : List T) (k : ℕ) (y : T) → length (slice_set xs k y) ≡ length xs
set_length [] k y = refl
set_length (x ∷ xs) zero y = refl
set_length (x ∷ xs) (suc k) y = ap suc (set_length xs k y)

-- what a list of as many is written over is that list
pub written_over : {T : Type 0} (after items : List T) (count : ℕ) → count ≡ length items
    → length after ≡ length items → take count (after ++ drop (length after) items) ≡ after
written_over after items count all even = grind (arith, common_steps)

-- one place is changed so, and what is there is so to itself
pub place_changed : {T : Type 0} (P : T → T → Type 0) → ((x : T) → P x x) → (xs : List T) (k : ℕ) (x y : T)
    → slice_get xs k ≡ Some x → P x y → AtEachPlace P xs (slice_set xs k y)
place_changed {T = T} P same xs k x y there holds = (
  set_length xs k y,
  λ j a b found placed.
      elim (changed_there xs k j y b placed) [
        | inl here ↦
            let is : x ≡ a =
            same_Some x a (sym there ∙ subst (λ (i : ℕ). slice_get xs i ≡ Some a) here.0 found) in
            subst (λ (t : T). P a t) (sym here.1) (subst (λ (t : T). P t y) is holds)
        | inr before ↦ subst (λ (t : T). P a t) (same_Some a b (sym found ∙ before.1)) (same a)
      ],
)

-- what is so to the one is so to what is so to it, place by place
pub each_then : {S T : Type 0} (P : S → T → Type 0) (Q : T → T → Type 0)
    → ((x : S) (y z : T) → P x y → Q y z → P x z) → (xs : List S) (ys zs : List T)
    → AtEachPlace P xs ys → AtEachPlace Q ys zs → AtEachPlace P xs zs
each_then {T = T} P Q goes xs ys zs first second = (
  second.0 ∙ first.0,
  λ k x z found placed.
      let y : T = get_or ys k z in
      let there : slice_get ys k ≡ Some y =
      slice_get-get_or ys k z (omega (arith, first.0, slice_get_within xs k x found)) in
      goes x y z (first.1 k x y found there) (second.1 k y z there placed),
)

-- the seats before a place have closed their queues, and the others are as they were
abbrev pub AreClosedTo : ℕ → List QueueSeat → List QueueSeat → Type 0
AreClosedTo n before now =
    (k : ℕ) (s t : QueueSeat) → slice_get before k ≡ Some s → slice_get now k ≡ Some t
    → (k < n → HasClosed s t) × (n ≤ k → t ≡ s)

-- one more has
pub one_more_closed : (n : ℕ) (before now : List QueueSeat) (s t : QueueSeat) → AreClosedTo n before now
    → slice_get now n ≡ Some s → HasClosed s t → AreClosedTo (n + 1) before (slice_set now n t)
one_more_closed n before now s t are there closed k a b found placed =
    elim (changed_there now n k t b placed) [
      | inl here ↦
          let at : slice_get now k ≡ Some s = subst (λ (i : ℕ). slice_get now i ≡ Some s) (sym here.0) there in
          let is : s ≡ a = (are k a s found at).1 (omega (arith, here.0)) in
          let has : HasClosed a b =
          subst (λ (z : QueueSeat). HasClosed a z) (sym here.1)
          (subst (λ (z : QueueSeat). HasClosed z t) is closed) in
          ((λ early. has), (λ late. absurd (omega (arith, late, here.0))))
      | inr else ↦
          let was = are k a b found else.1 in (
            (λ early. elim (leb_tells n k) [
              | inl least ↦ absurd (else.0 (omega (arith, early, least.1)))
              | inr less ↦ was.0 less.1
            ]),
            (λ late. was.1 (omega (arith, late))),
          )
    ]

-- in the end all have
pub all_closed : (n : ℕ) (before now : List QueueSeat) → AreClosedTo n before now → length before ≤ n
    → length now ≡ length before → AtEachPlace HasClosed before now
all_closed n before now are most even = (
  even,
  λ k s t found placed.
      (are k s t found placed).0 (omega (arith, most, slice_get_within before k s found)),
)

module _ {A : Type 0} where
  -- the first seat of a new queue is one of it
  pub new_seat : (queue : SharedQueue A) (number first : ℕ) (seat : QueueSeat) → IsNewQueue queue number first seat
      → IsQueueSeat queue seat
  new_seat queue number first seat is =
      subst (λ (n : ℕ). IsSeatFrom IsItself IsQueueTurn queue.turn (new_queue n) seat.seat) (sym is.number_is)
      is.seat.seat

  -- the seat that a list of seats has for the one queue
  pub only_seat : {queues : List (SharedQueue A)} (seats : List QueueSeat) (queue : SharedQueue A)
      (seat : QueueSeat) → AreSeats queues seats → queues ≡ queue ∷ [] → length seats ≡ 1
      → IsQueueSeat queue (get_or seats 0 seat)
  only_seat seats queue seat are one count =
      are 0 queue (get_or seats 0 seat) (ap (λ l. slice_get l 0) one) (slice_get-get_or seats 0 seat (omega arith))

  -- what holds of a call's lists of one queue and of one seat, before the call and after it, holds of that one
  pub of_one_queue : (P : List (SharedQueue A) → List QueueSeat → List QueueSeat → Type 0)
      → {queues : List (SharedQueue A)} {seats : List QueueSeat} (after : List QueueSeat) (queue : SharedQueue A)
      (seat : QueueSeat) → queues ≡ queue ∷ [] → seats ≡ seat ∷ [] → length after ≡ 1 → P queues seats after
      → P (queue ∷ []) (seat ∷ []) (get_or after 0 seat ∷ [])
  of_one_queue P after queue seat one own count =
      subst (λ (z : List (SharedQueue A) × List QueueSeat × List QueueSeat). P z.0 z.1 z.2)
      (λ i. (one i, own i, only_one after seat count i))

  -- one queue more, with its seat
  pub seat_more : (queues : List (SharedQueue A)) (seats : List QueueSeat) (queue : SharedQueue A)
      (seat : QueueSeat) → AreSeats queues seats → length seats ≡ length queues → IsQueueSeat queue seat
      → AreSeats (queues ++ queue ∷ []) (seats ++ seat ∷ [])
  seat_more queues seats queue seat are even own =
      pair_more (λ place other new. IsQueueSeat other new) queues seats queue seat even are own

  -- a new queue more, with its first seat
  pub new_more : (queues : List (SharedQueue A)) (seats : List QueueSeat) (queue : SharedQueue A)
      (seat : QueueSeat) → AreNew queues seats → IsNewQueue queue (length queues) 0 seat
      → AreNew (queues ++ queue ∷ []) (seats ++ seat ∷ [])
  new_more queues seats queue seat are own = (
    omega (arith, length-append queues (queue ∷ []), length-append seats (seat ∷ []), are.0),
    pair_more (λ place other new. IsNewQueue other place 0 new) queues seats queue seat are.0 are.1 own,
  )

  -- the last queue and its seat, and those before it
  pub seat_last : (queues : List (SharedQueue A)) (seats : List QueueSeat) (queue : SharedQueue A)
      (seat : QueueSeat) → AreSeats (queues ++ queue ∷ []) (seats ++ seat ∷ []) → length seats ≡ length queues
      → IsQueueSeat queue seat
  seat_last queues seats queue seat are even =
      are (length queues) queue seat (at_end queues queue)
      (subst (λ (k : ℕ). slice_get (seats ++ seat ∷ []) k ≡ Some seat) even (at_end seats seat))

  pub seats_before : (queues : List (SharedQueue A)) (seats : List QueueSeat) (queue : SharedQueue A)
      (seat : QueueSeat) → AreSeats (queues ++ queue ∷ []) (seats ++ seat ∷ []) → AreSeats queues seats
  seats_before queues seats queue seat are k other new found placed =
      are k other new (at_front queues queue other k found) (at_front seats seat new k placed)
