-- What holds of each state to which rows of a collector of any profile lead.
use Rattle.ref_base.proofs.Common.{arith, ◌≡◌, ℕ, ◌==◌, true, List, [], ◌∷◌}
use Rattle.ref_base.proofs.Common.{State, Notice, hand_of, queue_at}
use Rattle.ref_base.proofs.Common.{numbers, refl, sym, ap, ◌∙◌, subst, eq-eqb}
use Rattle.ref_base.proofs.Common.{length-map}
use Rattle.std.specs.Prelude.{◌≤◌}
use Rattle.std.specs.List.{list_all, AllByRecursion}
use Rattle.ref_base.specs.Paths.{any_referent}
use Rattle.ref_base.specs.QueueLists.{enqueued}
use Rattle.ref_base.specs.Worlds.{object_of}
use Rattle.ref_base.specs.declared.actor.Actor.{Actor}
use Rattle.ref_base.specs.declared.actor.Actor.TheVariants.{Mutator, Worker}
use Rattle.ref_base.specs.declared.config.Config.{Config}
use Rattle.ref_judge.specs.Standing.{Lawful}
use Rattle.ref_judge.specs.declared.profile.Profile.{Profile}
use Rattle.ref_base.proofs.ApartWorlds.{closed_roots}
use Rattle.ref_base.proofs.Lookups.{is_there-has}
use Rattle.ref_base.proofs.QueueLaws.{as_held}
pub use Rattle.ref_judge.specs.LegalStates.{AreOfOneQueue, IsRegistered, IsRegisteredPending, HasSizes, NamesLive}
pub use Rattle.ref_judge.specs.LegalStates.{NumbersRise, ScannedRight, NoticesRight, Facts}
pub use Rattle.ref_judge.proofs.LawfulRuns.{lawful_row}
use Rattle.ref_judge.proofs.LawfulSizes.{lawful_identity}
use Rattle.ref_judge.proofs.LawfulStates.{lawful_right, lawful_live, lawful_lists, lawful_put}
use Rattle.ref_judge.proofs.LiveNames.{IsLive, sub-has}
use Rattle.ref_judge.proofs.RegisteredNotices.{AreRegistered, lawful_registered}
use Rattle.ref_judge.proofs.RightWorlds.{are_distinct}
use Rattle.ref_judge.proofs.ScannedFacts.{lawful_old}
use Rattle.ref_judge.proofs.ScannedThere.{lawful_there}

-- ---- the facts, part by part

-- what is for one queue
all_for : (q : ℕ) (notices : List Notice) → AllByRecursion (λ x. x.queue ≡ q) notices
    → list_all (λ (x : Notice). x.queue == q) notices ≡ true
all_for q [] all = refl
all_for q (x ∷ notices) all = grind (arith, eq-eqb, all_for q notices all.1)

one_for : (q : ℕ) (hand : List Notice) → AllByRecursion (λ x. x.queue ≡ q) (as_held hand) → AreOfOneQueue hand
one_for q [] all = tt
one_for q (x ∷ hand) all = all_for x.queue hand (same_for hand all.1)
  where
    same_for : (hand : List Notice) → AllByRecursion (λ y. y.queue ≡ q) (as_held hand)
        → AllByRecursion (λ y. y.queue ≡ x.queue) hand
    same_for [] all_too = tt
    same_for (y ∷ rest) all_too = (all_too.0 ∙ sym all.0, same_for rest all_too.1)

module _ (p : Profile) (config : Config) (a : State) (lawful : Lawful p config a) where
  pub legal_sizes : HasSizes config a
  legal_sizes =
      let right = lawful_right p config a lawful in
      let is = lawful_identity p config a lawful in
      record {
        config_is = is.0;
        number = is.1;
        mutators = right.sound.mutator_hands ∙ ap (λ (c : Config). c.mutators) is.0;
        workers = right.sound.worker_hands ∙ ap (λ (c : Config). c.workers) is.0;
        queues = right.sound.queues ∙ ap (λ (c : Config). c.queues) is.0;
        pending = is.2;
        scanned = (lawful_lists p config a lawful).1 ∙ ap (λ (c : Config). c.workers) is.0;
      }

  pub legal_names : NamesLive a
  legal_names =
      let names = lawful_live p config a lawful in
      record {
        roots = λ n root. closed_roots any_referent (IsLive a) a.world n names.closed root;
        targets = λ m n there spared target. names.closed.targets m n (there, spared) target;
        doomed_there = λ n doomed.
            is_there-has a.world.heap.objects n
            ∙ sub-has a.doomed (numbers a.world.heap.objects) n names.doomed doomed;
        none_doomed = names.whole;
      }

  pub legal_numbers : NumbersRise a
  legal_numbers =
      let names = lawful_live p config a lawful in
      record { below = names.below; put_below = lawful_put p config a lawful; born = names.born }

  pub legal_scanned : ScannedRight a
  legal_scanned = record {
    once = (lawful_lists p config a lawful).0;
    old = lawful_old p config a lawful;
    there = lawful_there p config a lawful;
  }

  pub legal_notices : NoticesRight a
  legal_notices =
      let right = lawful_right p config a lawful in
      let are = lawful_registered p config a lawful in
      record {
        one_queue = λ who. one_for (right.fine who).0.0 (hand_of a.world who) (right.fine who).0.1;
        few = λ who. subst (λ (k : ℕ). k ≤ 32) (length-map (hand_of a.world who) _) (right.fine who).1;
        held = held are;
        standing = are.stands;
        own = λ q. all_for q (queue_at a.world q).stands (right.sound.own q);
        number = right.numbered;
        waiting = are.pendings;
        once = λ q. are_distinct (enqueued object_of (queue_at a.world q)) (right.once q);
        counted = right.counted;
        below = right.sound.hands_below;
      }
    where
      held : AreRegistered a → (who : Actor) → AllByRecursion (IsRegistered a.world) (hand_of a.world who)
      held are (Mutator m) = are.of_mutators m
      held are (Worker k) = are.of_workers k

  pub legal_facts : Facts config a
  legal_facts = record {
    sizes = legal_sizes;
    names = legal_names;
    numbers = legal_numbers;
    scanned = legal_scanned;
    notices = legal_notices;
  }
