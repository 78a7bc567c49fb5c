-- A cleaner's rounds, and the calls of their heap, their queue and their table.
use Rattle.std.proofs.Common.{◌≡◌, ℕ, ◌+◌, ◌-◌, ◌/◌, ◌≤◌, true, leb, List, [], ◌∷◌, ◌++◌, length, length-append, Option}
use Rattle.std.proofs.Common.{Some, None, Result, Ok, Err, inl, inr}
use Rattle.std.proofs.Common.{refl, sym, ap, ◌∙◌, subst, arith}
use Rattle.ref_base.specs.declared.fault.Fault.TheVariants.{TurnsSpent}
use Rattle.ref_base.specs.HeapSteps.{HeldNotice}
use Rattle.ref_queue.specs.declared.queue.Polled.TheVariants as found
use Rattle.ref_turn.specs.declared.history.Entry.{Entry}
use Rattle.ref_turn.specs.declared.history.View.{View}
use Rattle.ref_base.specs.declared.heap_step.HoldName.{HoldName}
use Rattle.ref_turn.proofs.Logs.{calls_by-append, calls_by-shorter}
use Rattle.ref_turn.specs.History.{calls_by}
use Rattle.ref_share.specs.CleanLoops.{GoesRound, Round, all_of, job_in, job_released, jobs_run, polls_in, releases_in}
use Rattle.ref_share.specs.CleanLoops.{takes_in}
use Rattle.ref_share.specs.CleanSeats.{CleanView}
use Rattle.ref_share.specs.Cleanings.{CleansDead}
use Rattle.ref_share.specs.HeapSeats.{HeapView, HeapEntry}
use Rattle.ref_share.specs.QueueCalls.{PollsUntil, empty_polls, polled}
use Rattle.ref_share.specs.QueueSeats.{QueueView, QueueEntry}
use Rattle.ref_share.specs.declared.answers.Polled.{Polled}
use Rattle.ref_share.specs.declared.answers.Polled.TheVariants.{Took, Closed, Empty, TimedOut}
use Rattle.ref_share.specs.declared.answers.ShareFault.{ShareFault}
use Rattle.ref_share.specs.declared.answers.ShareFault.TheVariants.{Refused, Held}
use Rattle.ref_share.specs.SeatCalls.{Made}
use Rattle.ref_turn.specs.Seats.{Extends, Longer}
use Rattle.std.proofs.lemmas.Bool.{le-leb}

module _ {J : Type 0} (v : HeapView) where
  as_many : (taken : Option (HoldName × J)) → length (job_in taken) ≡ length (job_released v taken)
  as_many None = refl
  as_many (Some (hold, job)) = refl

  at_most_one : (taken : Option (HoldName × J)) → length (job_in taken) ≤ 1
  at_most_one None = omega arith
  at_most_one (Some (hold, job)) = omega arith

  -- a round releases its notice, and the hold of its job
  two_each : (rs : List (Round J)) → jobs_run rs + jobs_run rs ≤ length (all_of (releases_in v) rs)
  two_each [] = omega arith
  two_each (r ∷ rs) =
      let more : List J = all_of (λ (q : Round J). job_in q.taken) rs in
      let jobs : length (job_in r.taken ++ more) ≡ length (job_in r.taken) + length more =
      length-append (job_in r.taken) more in
      let rest : List HeapEntry = all_of (releases_in v) rs in
      let calls : length (releases_in v r ++ rest) ≡ length (releases_in v r) + length rest =
      length-append (releases_in v r) rest in
      omega (arith, jobs, calls, as_many r.taken, at_most_one r.taken, two_each rs)

  -- the calls of a seat's own that it made meanwhile were seen meanwhile
  pub two_seen : (rs : List (Round J)) (w : HeapView) → Made v (all_of (releases_in v) rs) w
      → calls_by v.number v.seen ≡ v.mine → calls_by w.number w.seen ≡ w.mine
      → length v.seen + (jobs_run rs + jobs_run rs) ≤ length w.seen
  two_seen rs w made before after =
      let more : List HeapEntry = made.1.0 in
      let calls : List HeapEntry = all_of (releases_in v) rs in
      let seen : length w.seen ≡ length v.seen + length more =
      ap length made.1.1 ∙ length-append v.seen more in
      let now : calls_by v.number w.seen ≡ v.mine ++ calls =
      subst (λ (n : ℕ). calls_by n w.seen ≡ w.mine) made.0.0 after ∙ made.2 in
      let parts : calls_by v.number v.seen ++ calls_by v.number more ≡ v.mine ++ calls =
      sym (calls_by-append v.number v.seen more) ∙ ap (calls_by v.number) (sym made.1.1) ∙ now in
      let counts : length (calls_by v.number v.seen) + length (calls_by v.number more) ≡ length v.mine + length calls =
      sym (length-append (calls_by v.number v.seen) (calls_by v.number more)) ∙ ap length parts
      ∙ length-append v.mine calls in
      omega (arith, seen, counts, ap length before, calls_by-shorter v.number more, two_each rs)

  -- the same, counted
  pub half : (rs : List (Round J)) (w x : HeapView) (before after count : ℕ) → Made v (all_of (releases_in v) rs) w
      → calls_by v.number v.seen ≡ v.mine → calls_by w.number w.seen ≡ w.mine → Longer w x → count ≡ jobs_run rs
      → before ≡ v.first + length v.seen → after ≡ x.first + length x.seen
      → leb count ((after - before) / 2) ≡ true
  half rs w x before after count made own own' longer jobs is is' =
      let two = two_seen rs w made own own' in
      let more : length x.seen ≡ length w.seen + length longer.1.0 =
      ap length longer.1.1 ∙ length-append w.seen longer.1.0 in
      le-leb count ((after - before) / 2) (omega (arith, two, more, jobs, is, is', longer.0.1, made.0.1))

-- ---- polls and takes

more : {M S R : Type 0} (v w : View M S R) (calls : List (Entry S R)) → Made v calls w
    → length w.mine ≡ length v.mine + length calls
more v w calls made = ap length made.2 ∙ length-append v.mine calls

one_more : {M S R : Type 0} (v w : View M S R) (e : Entry S R) → Extends v e w → length w.mine ≡ length v.mine + 1
one_more v w e extends = ap length extends.2 ∙ length-append v.mine (e ∷ [])

-- a wait for a notice makes no fewer calls than none
wait_more : (v w : QueueView) (answer : Result Polled ShareFault) → PollsUntil v answer w
    → length v.mine ≤ length w.mine
wait_more v w (Ok (Took notice)) polls = omega (arith, more v w _ polls.2)
wait_more v w (Ok Closed) polls = omega (arith, more v w _ polls.2)
wait_more v w (Ok Empty) polls = absurd polls
wait_more v w (Ok TimedOut) polls = absurd polls
wait_more v w (Err (Refused TurnsSpent)) polls = omega (arith, more v w _ polls.2)
wait_more v w answer polls = absurd polls

-- and one at least where it took one
took_more : (v w : QueueView) (notice : HeldNotice) → PollsUntil v (Ok (Took notice)) w
    → length v.mine + 1 ≤ length w.mine
took_more v w notice polls =
    let last : List QueueEntry = polled v (found.Took notice) ∷ [] in
    omega (arith, more v w _ polls.2, length-append (empty_polls v polls.0) last)

module _ {J : Type 0} where
  -- behind a notice no more than one job is taken
  one_taken : (notice : HeldNotice) (v w : HeapView) (c d : CleanView J) (fault : ShareFault)
      → CleansDead notice v c (Err fault) w d → length d.mine ≤ length c.mine + 1
  one_taken notice v w c d (Refused TurnsSpent) cleans = omega (arith, ap length cleans.1.0.2)
  one_taken notice v w c d (Held kept fault) cleans =
      elim cleans [
        | inl back ↦ omega (arith, ap (λ (e : CleanView J). length e.mine) back.1)
        | inr ran ↦ omega (arith, one_more c d _ ran.3.1)
      ]
  one_taken notice v w c d fault cleans = absurd cleans

  -- each round polls once at least, and asks the table once
  polled_each : (q : QueueView) (c : CleanView J) (rs : List (Round J))
      → length (all_of (takes_in c) rs) ≤ length (all_of (polls_in q) rs)
  polled_each q c [] = omega arith
  polled_each q c (r ∷ rs) =
      let last : List QueueEntry = polled q (found.Took r.notice) ∷ [] in
      let polls : List QueueEntry = all_of (polls_in q) rs in
      let here : length (polls_in q r ++ polls) ≡ length (polls_in q r) + length polls =
      length-append (polls_in q r) polls in
      omega (arith, here, length-append (empty_polls q r.empties) last, polled_each q c rs)

  -- so the table is asked no more often than the queue is polled, also where a poll is refused
  pub polls_for_each : (q q' : QueueView) (v v' : HeapView) (c c' : CleanView J) (result : Result ℕ ShareFault)
      → GoesRound q v c result q' v' c' → length c'.mine + length q.mine ≤ length q'.mine + length c.mine
  polls_for_each q q' v v' c c' (Ok count) goes =
      let last : QueueView = goes.1 in
      let waited : length last.mine ≤ length q'.mine =
      elim goes.4 [
        | inl none ↦ absurd none
        | inr closed ↦ wait_more last q' (Ok Closed) closed
      ] in
      omega (arith, waited, more q last _ goes.2.0, more c c' _ goes.2.2, polled_each q c goes.0)
  polls_for_each q q' v v' c c' (Err fault) goes =
      let last : QueueView = goes.1 in
      let d : CleanView J = goes.3 in
      let before : length d.mine + length q.mine ≤ length last.mine + length c.mine =
      omega (arith, more q last _ goes.4.0, more c d _ goes.4.2, polled_each q c goes.0) in
      elim goes.6 [
        | inl poll ↦ omega (
          arith,
          before,
          wait_more last q' (Err fault) poll.0,
          ap (λ (e : CleanView J). length e.mine) poll.2,
        )
        | inr dead ↦ omega (
          arith,
          before,
          took_more last q' dead.0 dead.1,
          one_taken dead.0 goes.2 v' d c' fault dead.2,
        )
      ]
