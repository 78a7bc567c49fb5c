-- Rows of queues, and all rows, of a collector of any profile, from states that are equal but for the moments of their
-- marks.
use Rattle.ref_base.proofs.Common.{◌≡◌, ℕ, Bool, true, false, if◌then◌else◌, List, [], ◌∷◌, inl, inr, refl, sym, ap}
use Rattle.ref_base.proofs.Common.{subst, Graph, State, false≢true, Option, Some, None, is_some, length, Gives, is_in}
use Rattle.ref_base.proofs.Common.{with_world, map, NamedStep, PutsInto, Puts, PutsAll, Notice, enqueued, object_of}
use Rattle.ref_base.proofs.Common.{queue_at, put_in, was_put, Polls, took, Closes, closed_queue, hand_of, one_taken}
use Rattle.ref_base.proofs.Common.{refusal, World, with_hand, graph_of, with_handed, heap_step, ◌∙◌, handed, taking}
use Rattle.ref_base.proofs.Common.{with_rest, rest_of, EndsPath}
use Rattle.ref_base.specs.Told.{told_object, told_notices, is_done}
use Rattle.ref_base.specs.declared.actor.Actor.{Actor}
use Rattle.ref_base.specs.declared.actor.Actor.TheVariants.{Mutator, Worker}
use Rattle.ref_base.specs.declared.fault.Fault.{Fault}
use Rattle.ref_base.specs.declared.out.Done.TheVariants.{Added}
use Rattle.ref_base.specs.declared.step.Step.{Step}
use Rattle.ref_base.specs.declared.step.Step.TheVariants as steps
use Rattle.ref_base.specs.declared.row.Row.{Row}
use Rattle.ref_base.specs.declared.phase.Phase.TheVariants.{Marking}
use Rattle.ref_base.specs.declared.reply.Reply.{Reply}
use Rattle.ref_base.specs.declared.reply.Reply.TheVariants as replies
use Rattle.ref_judge.specs.ProfiledRows.{QueuesAcceptAs, AcceptsAskingAs, IsAnswerAs, IsRowAs, PollsAs}
use Rattle.ref_judge.specs.declared.order.Order.{Order}
use Rattle.ref_judge.specs.declared.profile.Profile.{Profile}
use Rattle.ref_judge.proofs.AlikeStates.{with_moments, Alike, CountsNow, Follows, is_refused, given_follows, widened}
use Rattle.ref_judge.proofs.AlikeHeaps.{unchanged_follows, heap_follows}

-- the moments of a mark refuse nothing
moments_refuse_nothing : (a : State) (ms : List Graph) (step : Step) → refusal a step ≡ refusal (with_moments a ms) step
moments_refuse_nothing a ms step = refl

-- ---- hands

-- hands are no part of a graph, nor of a phase
abbrev HasGraphOf : World → World → Type 0
HasGraphOf w v = (graph_of v ≡ graph_of w) × (v.phase ≡ w.phase)

hand_keeps_graph : (w : World) (who : Actor) (hand : List Notice) → HasGraphOf w (with_hand w who hand)
hand_keeps_graph w (Mutator m) hand = (refl, refl)
hand_keeps_graph w (Worker k) hand = (refl, refl)

taking_keeps_graph : (w : World) (who : Actor) (notices : List Notice) → HasGraphOf w (taking w who notices)
taking_keeps_graph w who [] = (refl, refl)
taking_keeps_graph w who (notice ∷ rest) = hand_keeps_graph w who (notice ∷ rest)

rest_keeps_graph : (w : World) (who : Actor) (spent : Bool) → HasGraphOf w (if spent then with_rest w who else w)
rest_keeps_graph w who true = hand_keeps_graph w who (rest_of (hand_of w who))
rest_keeps_graph w who false = (refl, refl)

handed_keeps_graph : (w : World) (step : Step) (reply : Reply) → HasGraphOf w (handed w step reply)
handed_keeps_graph w (steps.Unhook m s) reply = taking_keeps_graph w (Mutator m) (told_notices reply)
handed_keeps_graph w (steps.Hand k) reply = taking_keeps_graph w (Worker k) (told_notices reply)
handed_keeps_graph w (steps.Hands k max) reply = taking_keeps_graph w (Worker k) (told_notices reply)
handed_keeps_graph w (steps.Adopt m d) reply = rest_keeps_graph w (Mutator m) (is_some (told_object reply))
handed_keeps_graph w (steps.Release who) reply = rest_keeps_graph w who (is_done reply)
handed_keeps_graph w step reply = (refl, refl)

handed_counts_now : (c : State) (step : Step) (reply : Reply) → CountsNow c → CountsNow (with_handed c step reply)
handed_counts_now c step reply counts marks allow n ends =
    let same = handed_keeps_graph c.world step reply in
    counts (ap (λ phase. is_in phase Marking) (sym same.1) ∙ marks) allow n
    (subst (λ g. EndsPath allow g n) same.0 ends)

-- a refusal given_follows nothing into a hand, and takes nothing out of it
nothing_is_handed : (w : World) (step : Step) (fault : Fault) → handed w step (replies.Refused fault) ≡ w
nothing_is_handed w (steps.Unhook m s) fault = refl
nothing_is_handed w step fault = refl

refused_hands_nothing : (a : State) (step : Step) (reply : Reply) → is_refused reply ≡ true
    → with_handed a step reply ≡ a
refused_hands_nothing a step (replies.Refused fault) refused =
    ap (λ w. with_world a w) (nothing_is_handed a.world step fault)
refused_hands_nothing a step reply refused = absurd (false≢true refused)

module _ (p : Profile) (a : State) (ms : List Graph) (alike : Alike a.moments ms) (counts : CountsNow a) where
  -- ---- rows of queues

  puts_into_follow : (again shut : Bool) (who : Actor) (notice : Notice) (rest : List Notice) (reply : Reply)
      (b : State) → PutsInto again shut a who notice rest reply b
      → Follows a reply (λ y. PutsInto again shut (with_moments a ms) who notice rest reply y) b
  puts_into_follow true shut who notice rest reply b row = given_follows a replies.Already refl a ms alike reply b row
  puts_into_follow false true who notice rest reply b row = given_follows a replies.Closed refl a ms alike reply b row
  puts_into_follow false false who notice rest reply b (inl row) =
      let place = length (enqueued object_of (queue_at a.world notice.queue)) in
      widened a
      (λ y. Gives (replies.Added place) (with_world (with_moments a ms) (put_in a.world who (Added ∷ []))) reply y)
      (λ y. PutsInto false false (with_moments a ms) who notice rest reply y) (λ y given. inl given) reply b
      (given_follows a (replies.Added place) refl (with_world a (put_in a.world who (Added ∷ []))) ms alike reply b row)
  puts_into_follow false false who notice rest reply b (inr (why, is)) =
      unchanged_follows p a ms alike counts reply
      (λ y. PutsInto false false (with_moments a ms) who notice rest reply y) b is (inr (why, refl))

  puts_follow : (who : Actor) (hand : List Notice) (reply : Reply) (b : State) → Puts a who hand reply b
      → Follows a reply (λ y. Puts (with_moments a ms) who hand reply y) b
  puts_follow who [] reply b row = absurd row
  puts_follow who (notice ∷ rest) reply b row =
      let q = queue_at a.world notice.queue in
      puts_into_follow (was_put object_of q notice) q.closed who notice rest reply b row

  puts_all_follow : (who : Actor) (hand : List Notice) (reply : Reply) (b : State) → PutsAll a who hand reply b
      → Follows a reply (λ y. PutsAll (with_moments a ms) who hand reply y) b
  puts_all_follow who [] reply b row = absurd row
  puts_all_follow who (notice ∷ rest) reply b row =
      widened a
      (λ y. Gives (replies.Outs row.0) (with_world (with_moments a ms) (put_in a.world who row.0.done)) reply y)
      (λ y. PutsAll (with_moments a ms) who (notice ∷ rest) reply y) (λ y given. (row.0, row.1, row.2, given)) reply b
      (given_follows a (replies.Outs row.0) refl (with_world a (put_in a.world who row.0.done)) ms alike reply b row.3)

  empty_is_no_refusal : (shut : Bool) → is_refused (if shut then replies.Closed else replies.Empty) ≡ false
  empty_is_no_refusal true = refl
  empty_is_no_refusal false = refl

  polls_follow : (order : Order) (m q count : ℕ) (tell : List ℕ → Reply)
      → ((n : ℕ) (ns : List ℕ) → is_refused (tell (n ∷ ns)) ≡ false) → (reply : Reply) (b : State)
      → PollsAs order a m q count tell reply b
      → Follows a reply (λ y. PollsAs order (with_moments a ms) m q count tell reply y) b
  polls_follow order m q count tell accepted reply b (taken, may, row) =
      widened a (λ y. Polls (with_moments a ms) m q tell taken reply y)
      (λ y. PollsAs order (with_moments a ms) m q count tell reply y) (λ y polled. (taken, may, polled)) reply b
      (these taken row)
    where
      these : (taken : List Notice) → Polls a m q tell taken reply b
          → Follows a reply (λ y. Polls (with_moments a ms) m q tell taken reply y) b
      these [] row =
          let shut = (queue_at a.world q).closed in
          given_follows a (if shut then replies.Closed else replies.Empty) (empty_is_no_refusal shut) a ms alike reply b
          row
      these (notice ∷ rest) row =
          let ns = map object_of (notice ∷ rest) in
          given_follows a (tell ns) (accepted notice.object (map object_of rest)) (with_world a (took a.world m q ns))
          ms alike reply b row

  closes_follow : (q : ℕ) (shut : Bool) (reply : Reply) (b : State) → Closes a q shut reply b
      → Follows a reply (λ y. Closes (with_moments a ms) q shut reply y) b
  closes_follow q true reply b row = given_follows a replies.Closed refl a ms alike reply b row
  closes_follow q false reply b row =
      given_follows a replies.Done refl (with_world a (closed_queue a.world q)) ms alike reply b row

  queues_follow : (step : Step) (reply : Reply) (b : State) → QueuesAcceptAs p a step reply b
      → Follows a reply (λ y. QueuesAcceptAs p (with_moments a ms) step reply y) b
  queues_follow (steps.Put who) reply b row = puts_follow who (hand_of a.world who) reply b row
  queues_follow (steps.Puts who) reply b row = puts_all_follow who (hand_of a.world who) reply b row
  queues_follow (steps.Poll m q) reply b row = polls_follow p.order m q 1 one_taken (λ n ns. refl) reply b row
  queues_follow (steps.Polls m q max) reply b row =
      polls_follow p.order m q max replies.TookSome (λ n ns. refl) reply b row
  queues_follow (steps.Close m q) reply b row = closes_follow q (queue_at a.world q).closed reply b row
  queues_follow step reply b row = absurd row

  -- ---- all rows

  asking_follows : (asked : Option NamedStep) (step : Step) (reply : Reply) (b : State)
      → AcceptsAskingAs p a asked step reply b
      → Follows a reply (λ y. AcceptsAskingAs p (with_moments a ms) asked step reply y) b
  asking_follows None step reply b row = queues_follow step reply b row
  asking_follows (Some asked) step reply b (c, row, is) =
      let first = heap_follows p a ms alike counts asked reply c row in
      record {
        moments = first.moments;
        row = (
          with_moments c first.moments,
          first.row,
          ap (λ (s : State). with_moments s first.moments) is,
        );
        alike = subst (λ gs. Alike gs first.moments) (sym (ap (λ (s : State). s.moments) is)) first.alike;
        counts = subst CountsNow (sym is) (handed_counts_now c step reply first.counts);
        refused = λ refused.
            is ∙ ap (λ (s : State). with_handed s step reply) (first.refused refused)
            ∙ refused_hands_nothing a step reply refused;
      }

  answer_follows : (fault : Option Fault) (step : Step) (reply : Reply) (b : State) → IsAnswerAs p a fault step reply b
      → Follows a reply (λ y. IsAnswerAs p (with_moments a ms) fault step reply y) b
  answer_follows None step reply b row = asking_follows (heap_step a.world step) step reply b row
  answer_follows (Some fault) step reply b row =
      unchanged_follows p a ms alike counts reply (λ y. IsAnswerAs p (with_moments a ms) (Some fault) step reply y) b
      row.1 (row.0, refl)

  -- a row from a state is one from each state alike to it, and they lead to states that are alike
  pub row_follows : (row : Row) (b : State) → IsRowAs p a row b
      → Follows a row.reply (λ y. IsRowAs p (with_moments a ms) row y) b
  row_follows row b is =
      widened a (λ y. IsAnswerAs p (with_moments a ms) (refusal a row.step) row.step row.reply y)
      (λ y. IsRowAs p (with_moments a ms) row y)
      (λ y answer.
      subst (λ f. IsAnswerAs p (with_moments a ms) f row.step row.reply y) (moments_refuse_nothing a ms row.step)
      answer)
      row.reply b (answer_follows (refusal a row.step) row.step row.reply b is)
