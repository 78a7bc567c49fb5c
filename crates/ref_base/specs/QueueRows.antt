-- The lists of a queue, read off the rows of a trace alone: what was put in and what was taken, in order, and whether
-- the queue was closed (this project's profile; Java SE 17 `java.lang.ref` has the queue without its order and end).
use Rattle.std.specs.Prelude.{◌≡◌, ℕ, Bool, true, false, ◌||◌, if◌then◌else◌, ◌==◌, nat_eq, List, [], ◌∷◌, ◌++◌}
use Rattle.std.specs.Prelude.{map}
use Rattle.std.specs.List.{IsDistinct}
use Rattle.ref_base.specs.Members.{rest_of}
use Rattle.ref_base.specs.QueueBatches.{added_among, not_added}
use Rattle.ref_base.specs.Told.{told_notices, told_dones, told_taken}
use Rattle.ref_base.specs.declared.step.Step.{Step}
use Rattle.ref_base.specs.declared.step.Step.TheVariants.{Unhook, Put, Puts, Release, Poll, Polls, Adopt, Close, Hand}
use Rattle.ref_base.specs.declared.step.Step.TheVariants.{Hands}
use Rattle.ref_base.specs.declared.out.Done.{Done}
use Rattle.ref_base.specs.declared.actor.Actor.{Actor}
use Rattle.ref_base.specs.declared.actor.Actor.TheVariants.{Mutator, Worker}
use Rattle.ref_base.specs.declared.reply.Reply.{Reply}
use Rattle.ref_base.specs.declared.reply.Reply.TheVariants as replies
use Rattle.ref_base.specs.declared.row.Row.{Row}

-- a notice in a hand: the reference that it reports, and the queue that it is for
pub record HandNotice : Type 0 where
  pub object : ℕ
  pub queue : ℕ

-- what the hand of each mutator and worker holds, first first
abbrev pub HandNotices : Type 0
HandNotices = Actor → List HandNotice

abbrev pub is_same_actor : Actor → Actor → Bool
is_same_actor (Mutator m) (Mutator k) = m == k
is_same_actor (Worker m) (Worker k) = m == k
is_same_actor who other = false

-- the hands at first: each is empty
abbrev pub empty_hands : HandNotices
empty_hands who = []

-- the hands with what one of them holds replaced
abbrev pub with_held : HandNotices → Actor → List HandNotice → HandNotices
with_held hands who held other = if is_same_actor other who then held else hands other

-- the hands with what one of them holds but for its first
abbrev pub with_held_rest : HandNotices → Actor → HandNotices
with_held_rest hands who = with_held hands who (rest_of (hands who))

-- the hands where one of them, which was empty, was given these, if any were given
abbrev pub filled_with : HandNotices → Actor → List HandNotice → HandNotices
filled_with hands who [] = hands
filled_with hands who (held ∷ rest) = with_held hands who (held ∷ rest)

-- the notices that a hand was given
abbrev pub given_by : Reply → List HandNotice
given_by reply = map (λ notice. record { object = notice.object; queue = notice.queue }) (told_notices reply)

-- and those that it took from queue q
abbrev pub taken_as : ℕ → Reply → List HandNotice
taken_as q reply = map (λ n. record { object = n; queue = q }) (told_taken reply)

-- the hands where that became of what one of them holds, from the first on: it holds what wasn't added
abbrev pub put_from_hand : HandNotices → Actor → List Done → HandNotices
put_from_hand hands who [] = hands
put_from_hand hands who (d ∷ ds) = with_held hands who (not_added (hands who) (d ∷ ds))

-- the hands after one more row: an unhook, a hand or a poll that gave notices fills one, which was empty; a put takes
-- what was added from it, an adopt or a release the first
abbrev pub held_after : HandNotices → Step → Reply → HandNotices
held_after hands (Unhook m slot) reply = filled_with hands (Mutator m) (given_by reply)
held_after hands (Hand w) reply = filled_with hands (Worker w) (given_by reply)
held_after hands (Hands w max) reply = filled_with hands (Worker w) (given_by reply)
held_after hands (Poll m q) reply = filled_with hands (Mutator m) (taken_as q reply)
held_after hands (Polls m q max) reply = filled_with hands (Mutator m) (taken_as q reply)
held_after hands (Put who) reply = put_from_hand hands who (told_dones reply)
held_after hands (Puts who) reply = put_from_hand hands who (told_dones reply)
held_after hands (Adopt m slot) (replies.Object n) = with_held_rest hands (Mutator m)
held_after hands (Release who) replies.Done = with_held_rest hands who
held_after hands step reply = hands

-- the references that those of these notices report which are for queue q, in order
abbrev pub those_for : ℕ → List HandNotice → List ℕ
those_for q [] = []
those_for q (held ∷ rest) = if held.queue == q then held.object ∷ those_for q rest else those_for q rest

-- what one row puts into queue q: the references of those of the hand's notices that were added
abbrev pub put_by : HandNotices → ℕ → Step → Reply → List ℕ
put_by hands q (Put who) reply = those_for q (added_among (hands who) (told_dones reply))
put_by hands q (Puts who) reply = those_for q (added_among (hands who) (told_dones reply))
put_by hands q step reply = []

-- these, if that is so
abbrev pub only_if : Bool → List ℕ → List ℕ
only_if so [] = []
only_if so (n ∷ ns) = if so then n ∷ ns else []

-- what one row takes from queue q
abbrev pub taken_by : ℕ → Step → Reply → List ℕ
taken_by q (Poll m k) reply = only_if (k == q) (told_taken reply)
taken_by q (Polls m k max) reply = only_if (k == q) (told_taken reply)
taken_by q step reply = []

-- whether one row closes queue q
abbrev pub closed_by : ℕ → Step → Reply → Bool
closed_by q (Close m k) replies.Done = k == q
closed_by q step reply = false

-- the references of the added rows of queue q, in order, where the hands hold this at first
abbrev pub put_from : HandNotices → ℕ → List Row → List ℕ
put_from hands q [] = []
put_from hands q (row ∷ rows) =
    put_by hands q row.step row.reply ++ put_from (held_after hands row.step row.reply) q rows

-- the references of the added rows of queue q, in order, over a whole trace
abbrev pub put_into : ℕ → List Row → List ℕ
put_into q rows = put_from empty_hands q rows

-- the references of the rows that took from queue q, in order
abbrev pub taken_from : ℕ → List Row → List ℕ
taken_from q [] = []
taken_from q (row ∷ rows) = taken_by q row.step row.reply ++ taken_from q rows

-- whether one of the rows closed queue q
abbrev pub was_closed : ℕ → List Row → Bool
was_closed q [] = false
was_closed q (row ∷ rows) = closed_by q row.step row.reply || was_closed q rows

-- what holds of queue q in a trace: what was taken, followed by what stands, is what was put in; nothing is put in
-- twice; nothing is put in after a close that was accepted
pub record KeepsQueue (q : ℕ) (rows : List Row) : Type 0 where
  pub stands : List ℕ
  pub taken_then_standing : taken_from q rows ++ stands ≡ put_into q rows
  pub at_most_once : IsDistinct nat_eq (put_into q rows)
  pub nothing_after_close :
      (before after : List Row) →
      before ++ after ≡ rows → was_closed q before ≡ true → put_into q before ≡ put_into q rows
