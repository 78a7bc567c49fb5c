-- What a put that was added tells: whose notice it was, that it is new in its queue, and at which position it stands.
use Rattle.ref_base.proofs.Common.{arith, ◌≡◌, ℕ, Bool, true, false, List, [], ◌∷◌, ◌++◌, length, Option, Some, None}
use Rattle.ref_base.proofs.Common.{refl, enqueued, was_put, put_into, taken_from, was_closed, Notice, object_of}
use Rattle.ref_base.proofs.Common.{hand_of, queue_at, replayed, State, first_state, PutsInto, Puts, IsAnswer, IsRun}
use Rattle.ref_base.proofs.Common.{IsLegal, IsProven, Config, Actor, Fault, Row}
use Rattle.ref_base.proofs.Common.{sym, ap, ◌∙◌, subst, AllByRecursion, added_among, PutsAll}
use Rattle.ref_base.specs.Outs.{Outs}
use Rattle.ref_base.proofs.BatchParts.{all_added}
use Rattle.ref_base.proofs.LegalQueues.{first_run_changes}
use Rattle.ref_base.proofs.ProvenTraces.{legal_proven}
use Rattle.ref_base.proofs.OutTraces.{legal_others}
use Rattle.ref_base.proofs.RunLaws.{cut}
use Rattle.ref_base.proofs.SameOthers.{same_hand}
use Rattle.ref_base.specs.declared.step.Step.TheVariants as steps
use Rattle.ref_base.specs.declared.reply.Reply.TheVariants as replies

-- after a legal trace the lists of each queue are those of the rows
pub legal_lists : (config : Config) (rows : List Row) (b : State) (q : ℕ) → IsRun (first_state config) rows b
    → ((queue_at b.world q).taken ≡ taken_from q rows)
    × (enqueued object_of (queue_at b.world q) ≡ put_into q rows)
    × ((queue_at b.world q).closed ≡ was_closed q rows)
legal_lists config rows b q run =
    let changes = first_run_changes config rows b run q in (changes.taken, changes.put, changes.closed)

-- what a put that was added at this position tells of the state before it
pub record TellsAdded (a : State) (who : Actor) (position : ℕ) : Type 0 where
  pub notice : Notice
  pub rest : List Notice
  pub hand : hand_of a.world who ≡ notice ∷ rest
  pub fresh : was_put object_of (queue_at a.world notice.queue) notice ≡ false
  pub position_is : position ≡ length (enqueued object_of (queue_at a.world notice.queue))

of_put : (a b : State) (who : Actor) (notice : Notice) (rest : List Notice) (again shut : Bool) (position : ℕ)
    → hand_of a.world who ≡ notice ∷ rest → was_put object_of (queue_at a.world notice.queue) notice ≡ again
    → PutsInto again shut a who notice rest (replies.Added position) b → TellsAdded a who position
of_put a b who notice rest true shut position hand was row = let no = row.0 in absurd cc
of_put a b who notice rest false true position hand was row = let no = row.0 in absurd cc
of_put a b who notice rest false false position hand was row = grind arith

of_hand : (a b : State) (who : Actor) (hand : List Notice) (position : ℕ) → hand_of a.world who ≡ hand
    → Puts a who hand (replies.Added position) b → TellsAdded a who position
of_hand a b who [] position is row = absurd row
of_hand a b who (notice ∷ rest) position is row = of_put a b who notice rest _ _ position is refl row

pub answer_tells_added : (a b : State) (who : Actor) (position : ℕ) (fault : Option Fault)
    → IsAnswer a fault (steps.Put who) (replies.Added position) b → TellsAdded a who position
answer_tells_added a b who position (Some fault) row = let no = row.0 in absurd cc
answer_tells_added a b who position None row = of_hand a b who (hand_of a.world who) position refl row

-- ---- in a legal trace

-- a put that was added comes behind a state of which it tells so
in_front : (config : Config) (front back : List Row) (who : Actor) (position : ℕ)
    → IsLegal config (front ++ record { step = steps.Put who; reply = replies.Added position } ∷ back)
    → (a : State) × IsRun (first_state config) front a × TellsAdded a who position
in_front config front back who position legal =
    let parts = cut (first_state config) front _ legal.0 legal.1 in
    (parts.0, parts.1, answer_tells_added parts.0 parts.2.0 who position _ parts.2.1)

-- the hand's first was a notice, and what its queue had got before says its position
pub added_position : (config : Config) (front back : List Row) (who : Actor) (position : ℕ)
    → IsLegal config (front ++ record { step = steps.Put who; reply = replies.Added position } ∷ back)
    → (notice : Notice) × (rest : List Notice) × (hand_of (replayed config front) who ≡ notice ∷ rest)
    × (position ≡ length (put_into notice.queue front))
added_position config front back who position legal =
    let told = in_front config front back who position legal in
    (told.2.notice, told.2.rest, grind (arith, legal_others, same_hand), grind (arith, legal_lists config front))

-- and it comes from the rows
pub added_proven : (config : Config) (front back : List Row) (who : Actor) (position : ℕ)
    → IsLegal config (front ++ record { step = steps.Put who; reply = replies.Added position } ∷ back)
    → (notice : Notice) × (rest : List Notice) × (hand_of (replayed config front) who ≡ notice ∷ rest)
    × IsProven front notice
added_proven config front back who position legal =
    let told = in_front config front back who position legal in
    (told.2.notice, told.2.rest, grind (arith, legal_others, same_hand), grind (arith, legal_proven))

-- ---- a put of all notices of a hand

-- what it tells of the state before it
pub record TellsAll (a : State) (who : Actor) (before : ℕ) : Type 0 where
  pub notice : Notice
  pub rest : List Notice
  pub hand : hand_of a.world who ≡ notice ∷ rest
  pub before_is : before ≡ length (enqueued object_of (queue_at a.world notice.queue))

all_of_hand : (a b : State) (who : Actor) (hand : List Notice) (outs : Outs) → hand_of a.world who ≡ hand
    → PutsAll a who hand (replies.Outs outs) b → TellsAll a who outs.before
all_of_hand a b who [] outs is row = absurd row
all_of_hand a b who (notice ∷ rest) outs is row = record {
  notice = notice;
  rest = rest;
  hand = is;
  before_is =
      let same : outs ≡ row.0 = let told : replies.Outs outs ≡ replies.Outs row.0 = row.3.0 in cc in
      ap (λ (o : Outs). o.before) same ∙ row.2.1;
}

answer_tells_all : (a b : State) (who : Actor) (outs : Outs) (fault : Option Fault)
    → IsAnswer a fault (steps.Puts who) (replies.Outs outs) b → TellsAll a who outs.before
answer_tells_all a b who outs (Some fault) row = let no = row.0 in absurd cc
answer_tells_all a b who outs None row = all_of_hand a b who (hand_of a.world who) outs refl row

-- the number of what was put in before it is what its queue had got
pub outs_position : (config : Config) (front back : List Row) (who : Actor) (outs : Outs)
    → IsLegal config (front ++ record { step = steps.Puts who; reply = replies.Outs outs } ∷ back)
    → (notice : Notice) × (rest : List Notice) × (hand_of (replayed config front) who ≡ notice ∷ rest)
    × (outs.before ≡ length (put_into notice.queue front))
outs_position config front back who outs legal =
    let parts = cut (first_state config) front _ legal.0 legal.1 in
    let a : State = parts.0 in
    let told : TellsAll a who outs.before = answer_tells_all a parts.2.0 who outs _ parts.2.1 in (
      told.notice,
      told.rest,
      sym (same_hand (replayed config front) a.world who (legal_others config front a parts.1)) ∙ told.hand,
      told.before_is ∙ ap length (legal_lists config front a told.notice.queue parts.1).1,
    )

-- each that was added comes from the rows
pub outs_proven : (config : Config) (front back : List Row) (who : Actor) (outs : Outs)
    → IsLegal config (front ++ record { step = steps.Puts who; reply = replies.Outs outs } ∷ back)
    → AllByRecursion (IsProven front) (added_among (hand_of (replayed config front) who) outs.done)
outs_proven config front back who outs legal =
    let parts = cut (first_state config) front _ legal.0 legal.1 in
    let a : State = parts.0 in
    all_added (IsProven front) (hand_of (replayed config front) who) outs.done
    (subst (AllByRecursion (IsProven front)) (same_hand (replayed config front) a.world who (legal_others config front
    a parts.1))
    ((legal_proven config front a parts.1).hands who))
