-- In a legal trace the lists of each queue are those that its rows say.
use Rattle.ref_base.proofs.Common.{◌≡◌, ℕ, true, List, [], ◌∷◌, ◌++◌, map, sym, ap, ◌∙◌, subst, nat_eq, append-nil}
use Rattle.ref_base.proofs.Common.{Lists, new_queue, enqueued, HandNotices, held_after, put_into, taken_from}
use Rattle.ref_base.proofs.Common.{was_closed, World, Notice, first_world, object_of, queue_at, State, first_state}
use Rattle.ref_base.proofs.Common.{IsRun, IsLegal, Config, Row, IsRow}
use Rattle.std.specs.List.{IsDistinct}
use Rattle.ref_base.specs.QueueRows.{empty_hands, put_from, KeepsQueue}
use Rattle.ref_base.proofs.QueueChanges.{QueueChanges, changes_nothing, changes_more}
use Rattle.ref_base.proofs.SoundWorlds.{IsSound, first_hand, first_queue, first_sound}
use Rattle.ref_base.proofs.QueueLaws.{as_held, held_of, Goes}
use Rattle.ref_base.proofs.RowLaws.{row_goes}
use Rattle.ref_base.proofs.RunLaws.{cut, holds_after, holds_over}

-- ---- from any sound world

pub run_sound : (a : State) (rows : List Row) (b : State) → IsSound a.world → IsRun a rows b → IsSound b.world
run_sound a rows b sound run =
    holds_after IsRow a (λ past c. IsSound c.world) (λ past c row d before is h. (row_goes c row d is h).sound) sound
    rows b run

-- a queue changes as the rows say, where the hands at first hold what they do
abbrev ChangesBy : Lists Notice → Lists Notice → ℕ → HandNotices → List Row → Type 0
ChangesBy old new q hands rows =
    QueueChanges object_of old new (put_from hands q rows) (taken_from q rows) (was_closed q rows)

row_then : (a : State) (row : Row) (b : State) (rows : List Row) (c : State) (q : ℕ)
    → Goes a.world b.world row.step row.reply
    → ChangesBy (queue_at b.world q) (queue_at c.world q) q (held_of b.world) rows
    → ChangesBy (queue_at a.world q) (queue_at c.world q) q (held_of a.world) (row ∷ rows)
row_then a row b rows c q goes later =
    let hands : held_of b.world ≡ held_after (held_of a.world) row.step row.reply = λ i who. goes.held who i in
    changes_more object_of (queue_at a.world q) (queue_at b.world q) (queue_at c.world q) _ _ _ _ _ _ (goes.queue q)
    (subst (λ hs. ChangesBy (queue_at b.world q) (queue_at c.world q) q hs rows) hands later)

run_changes : (a : State) (rows : List Row) (b : State) → IsSound a.world → IsRun a rows b
    → (q : ℕ) → ChangesBy (queue_at a.world q) (queue_at b.world q) q (held_of a.world) rows
run_changes a rows b sound run q =
    holds_over IsRow
    (λ c more d. IsSound c.world → ChangesBy (queue_at c.world q) (queue_at d.world q) q (held_of c.world) more)
    (λ c is. changes_nothing object_of (queue_at c.world q))
    (λ c row d more e h later is. let goes = row_goes c row d is h in row_then c row d more e q goes (later goes.sound))
    a rows b run sound

-- ---- from the first state

pub first_run_changes : (config : Config) (rows : List Row) (b : State) → IsRun (first_state config) rows b
    → (q : ℕ) → ChangesBy (new_queue q) (queue_at b.world q) q empty_hands rows
first_run_changes config rows b run q =
    let first : World = first_world config in
    let hands : held_of first ≡ empty_hands = λ i who. as_held (first_hand config who i) in
    subst (λ (l : Lists Notice). ChangesBy l (queue_at b.world q) q empty_hands rows) (first_queue config q)
    (subst (λ hs. ChangesBy (queue_at first q) (queue_at b.world q) q hs rows) hands
    (run_changes (first_state config) rows b (first_sound config) run q))

-- where a queue is closed on the way, nothing is put in behind
nothing_more : (config : Config) (front rest : List Row) (b : State) (q : ℕ)
    → IsRun (first_state config) (front ++ rest) b
    → was_closed q front ≡ true → put_into q front ≡ put_into q (front ++ rest)
nothing_more config front rest b q run shut =
    let parts = cut (first_state config) front rest b run in
    let mid : State = parts.0 in
    let all : List ℕ = enqueued object_of (queue_at mid.world q) in
    let first = first_run_changes config front mid parts.1 q in
    let sound = run_sound (first_state config) front mid (first_sound config) parts.1 in
    let later = run_changes mid rest b sound parts.2 q in
    let whole = first_run_changes config (front ++ rest) b run q in
    sym first.put ∙ sym (append-nil all) ∙ ap (λ ns. all ++ ns) (sym (later.shut (first.closed ∙ shut)))
    ∙ sym later.put ∙ whole.put

pub distinct_nil : IsDistinct nat_eq []
unfolding IsDistinct
distinct_nil = tt

-- in every legal trace each queue keeps its lists
pub legal_keeps_queue : (config : Config) (rows : List Row) (q : ℕ) → IsLegal config rows → KeepsQueue q rows
legal_keeps_queue config rows q legal =
    let last : State = legal.0 in
    let changes = first_run_changes config rows last legal.1 q in
    let standing : List ℕ = map object_of (queue_at last.world q).stands in
    record {
      stands = standing;
      taken_then_standing = ap (λ ns. ns ++ standing) (sym changes.taken) ∙ changes.put;
      at_most_once = subst (IsDistinct nat_eq) changes.put (changes.distinct distinct_nil);
      nothing_after_close = λ front rest joined shut.
          let whole = subst (λ rs. IsRun (first_state config) rs last) (sym joined) legal.1 in
          nothing_more config front rest last q whole shut ∙ ap (put_into q) joined;
    }
