-- The history of a cleaner: which job stands in its table is told by its entries.
use Rattle.std.proofs.Common.{is_some}
use Rattle.ref_share.proofs.Common.{arith, ◌≡◌, ℕ, Bool, true, List, [], ◌∷◌, ◌++◌, Option, Some, None, Ok, Err, refl}
use Rattle.ref_share.proofs.Common.{ap}
use Rattle.ref_share.proofs.Common.{◌∙◌, new_registry, Leads, entry, Entry}
use Rattle.std.specs.Cmp.{nat_eq_equiv}
use Rattle.ref_share.specs.CleanMachines.{IsCleanTurn}
use Rattle.ref_queue.specs.CleanTables.{Registry, job_of}
use Rattle.ref_share.specs.CleanHistories.{some_registers, job_after, job_left}
use Rattle.ref_share.specs.CleanSeats.{IsCleanRun}
use Rattle.ref_share.specs.declared.clean_machine.CleanStep.{CleanStep}
use Rattle.ref_share.specs.declared.clean_machine.CleanReply.{CleanReply}
use Rattle.ref_base.proofs.RunLaws.{holds_over}
use Rattle.ref_turn.proofs.Logs.{leads_cut}
use Rattle.ref_share.specs.declared.clean_machine.CleanStep.TheVariants as steps
use Rattle.ref_share.specs.declared.clean_machine.CleanReply.TheVariants as replies

module _ {K J : Type 0} (n : ℕ) where
  -- one call leaves the job that its entry tells
  turn_leaves : (t u : Registry K J) (step : CleanStep K J) (reply : CleanReply K J) → IsCleanTurn t step reply u
      → job_of u n ≡ job_after n (job_of t n) step reply
  turn_leaves t u (steps.Register m kept job) (replies.Registered (Ok _)) turn = turn.1.0 n
  turn_leaves t u (steps.Register m kept job) (replies.Registered (Err (fault, kept_back, job_back))) turn =
      ap (λ (r : Registry K J). job_of r n) turn.3
  turn_leaves t u (steps.Take m) (replies.Taken taken) turn = turn.1.0 n
  turn_leaves t u (steps.Has m) (replies.Looked answer) turn = ap (λ (r : Registry K J). job_of r n) turn.1
  turn_leaves t u step reply turn = absurd turn

  run_leaves : (t u : Registry K J) (calls : List (Entry (CleanStep K J) (CleanReply K J)))
      → Leads IsCleanTurn t calls u → job_of u n ≡ job_left n (job_of t n) calls
  run_leaves t u calls run =
      holds_over (λ v (call : Entry (CleanStep K J) (CleanReply K J)) w. IsCleanTurn v call.step call.reply w)
      (λ v some w. job_of w n ≡ job_left n (job_of v n) some) (λ v. refl)
      (λ v call w more z turn later. search (later, turn_leaves v w call.step call.reply turn)) t calls u run

  -- a job stands after calls from a table without one only where one of them registered it
  registered_if_left : (calls : List (Entry (CleanStep K J) (CleanReply K J))) (job : K × J)
      → Some job ≡ job_left n None calls → some_registers n calls ≡ true
  registered_if_left [] job left = absurd (cc left)
  registered_if_left (call ∷ calls) job left = grind (arith, registered_if_left calls job)

module _ {K J : Type 0} where
  -- after every history an object's job is what its entries left
  pub job_is_left : (calls : List (Entry (CleanStep K J) (CleanReply K J))) (last : Registry K J)
      → IsCleanRun calls last → (n : ℕ) → job_of last n ≡ job_left n None calls
  job_is_left calls last run n = run_leaves n new_registry last calls run

  -- a take gives the job that the calls before left
  pub take_gives_what_is_left : (front back : List (Entry (CleanStep K J) (CleanReply K J))) (by n : ℕ)
      (taken : Option (K × J)) (last : Registry K J)
      → IsCleanRun (front ++ entry by (steps.Take n) (replies.Taken taken) ∷ back) last
      → taken ≡ job_left n None front
  take_gives_what_is_left front back by n taken last run = grind (arith, leads_cut, job_is_left)

  -- a look tells whether they left one
  pub look_tells_what_is_left : (front back : List (Entry (CleanStep K J) (CleanReply K J))) (by n : ℕ) (answer : Bool)
      (last : Registry K J) → IsCleanRun (front ++ entry by (steps.Has n) (replies.Looked answer) ∷ back) last
      → answer ≡ is_some (job_left n None front)
  look_tells_what_is_left front back by n answer last run = grind (arith, leads_cut, job_is_left)

  -- between two takes that gave a job stands a register
  pub registered_between : (front between back : List (Entry (CleanStep K J) (CleanReply K J))) (by later n : ℕ)
      (job next : K × J) (last : Registry K J)
      → IsCleanRun (front ++ entry by (steps.Take n) (replies.Taken (Some job)) ∷ (between
      ++ entry later (steps.Take n) (replies.Taken (Some next)) ∷ back)) last
      → some_registers n between ≡ true
  registered_between front between back by later n job next last run =
      let second = entry later (steps.Take n) (replies.Taken (Some next)) ∷ back in
      let first = entry by (steps.Take n) (replies.Taken (Some job)) ∷ (between ++ second) in
      let parts = leads_cut IsCleanTurn front first new_registry last run in
      let t : Registry K J = parts.2.0 in
      let none : job_of t n ≡ None = rw (parts.2.1.1.0 n, nat_eq_equiv.refl n) refl in
      let rest = leads_cut IsCleanTurn between second t last parts.2.2 in
      let stood = run_leaves n t rest.0 between rest.1 in
      registered_if_left n between next
      (rest.2.1.0 ∙ stood ∙ ap (λ (before : Option (K × J)). job_left n before between) none)
