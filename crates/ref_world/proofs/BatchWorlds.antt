-- The world after notices of a hand were put into their queue, or first ones of a queue were taken, as one with other
-- hands and another queue.
use Rattle.ref_world.proofs.Common.{◌≡◌, ℕ, ◌<◌, List, [], ◌∷◌, ◌++◌, length, refl, sym, ap, subst, ◌∙◌}
use Rattle.ref_world.proofs.Common.{slice_set, Lists, new_queue, Notice, object_of, hand_of, State}
use Rattle.ref_world.proofs.Common.{with_world, Actor, Mutator, Worker, with_hand_in}
use Rattle.std.proofs.Common.{map, append-nil, append_assoc, length-set}
use Rattle.std.specs.List.{AllByRecursion}
use Rattle.std.proofs.lemmas.List.{set-set, set-get_or, get_or-set_same}
use Rattle.ref_base.specs.QueueBatches.{added_among, not_added, after_each}
use Rattle.ref_base.specs.QueueLists.{with_parcel}
use Rattle.ref_base.specs.Replay.{put_in, standing, took, notices_of, without_notices}
use Rattle.ref_base.specs.Worlds.{World, with_hand, with_queue, queue_at}
use Rattle.ref_base.specs.declared.out.Done.{Done}
use Rattle.ref_base.specs.declared.out.Done.TheVariants.{Added, Already, Closed, Refused}
use Rattle.ref_base.proofs.BatchParts.{all_added}
use Rattle.ref_base.proofs.QueueLaws.{took_front}
use Rattle.ref_base.proofs.SoundWorlds.{IsOwn}
use Rattle.ref_mark.proofs.OtherHands.{with_others}
use Rattle.ref_world.proofs.AskedRows.{hands_of}

-- ---- a queue into which several are put

abbrev with_standing : Lists Notice → List Notice → Lists Notice
with_standing l notices = record l { stands = l.stands ++ notices }

-- what was added stands behind what stood
pub after_each_is : (l : Lists Notice) (hand : List Notice) (ds : List Done)
    → after_each l hand ds ≡ with_standing l (added_among hand ds)
after_each_is l [] [] = ap (λ ns. record l { stands = ns }) (sym (append-nil l.stands))
after_each_is l [] (d ∷ ds) = ap (λ ns. record l { stands = ns }) (sym (append-nil l.stands))
after_each_is l (x ∷ xs) [] = ap (λ ns. record l { stands = ns }) (sym (append-nil l.stands))
after_each_is l (x ∷ xs) (Added ∷ ds) =
    after_each_is (with_parcel l x) xs ds
    ∙ ap (λ ns. record l { stands = ns }) (append_assoc l.stands (x ∷ []) (added_among xs ds))
after_each_is l (x ∷ xs) (Already ∷ ds) = after_each_is l xs ds
after_each_is l (x ∷ xs) (Closed ∷ ds) = after_each_is l xs ds
after_each_is l (x ∷ xs) (Refused fault ∷ ds) = after_each_is l xs ds

-- notices for one queue, which is there, come to stand in it
standing_is : (w : World) (q : ℕ) (notices : List Notice) → AllByRecursion (IsOwn q) notices → q < length w.queues
    → standing w notices ≡ with_queue w q (with_standing (queue_at w q) notices)
standing_is w q [] own within =
    ap (λ (qs : List (Lists Notice)). record w { queues = qs })
    (sym (set-get_or w.queues q (new_queue q))
    ∙ ap (λ ns. slice_set w.queues q (record (queue_at w q) { stands = ns })) (sym (append-nil (queue_at w q).stands)))
standing_is w q (notice ∷ rest) own within =
    let more : Lists Notice = with_parcel (queue_at w q) notice in
    let mid : World = with_queue w q more in
    let first : with_queue w notice.queue (with_parcel (queue_at w notice.queue) notice) ≡ mid =
    ap (λ r. with_queue w r (with_parcel (queue_at w r) notice)) own.0 in
    let there : queue_at mid q ≡ more = get_or-set_same w.queues q more (new_queue q) within in
    let within_mid : q < length mid.queues = rw (length-set w.queues q more) within in
    ap (λ (v : World). standing v rest) first
    ∙ standing_is mid q rest own.1 within_mid
    ∙ ap (λ (l : Lists Notice). with_queue mid q (with_standing l rest)) there
    ∙ ap (λ (qs : List (Lists Notice)). record w { queues = qs })
    (set-set w.queues q more (with_standing more rest))
    ∙ ap (λ ns. with_queue w q (record (queue_at w q) { stands = ns }))
    (append_assoc (queue_at w q).stands (notice ∷ []) rest)

-- ---- puts

module _ (a : State) (who : Actor) (q : ℕ) (hand : List Notice) (own : AllByRecursion (IsOwn q) hand)
    (within : q < length a.world.queues) where
  others_are : (actor : Actor) (left : List Notice) (l : Lists Notice)
      → with_world a (with_hand (with_queue a.world q l) actor left)
      ≡ with_others a (with_hand_in (hands_of a.world) actor left).mutators
      (with_hand_in (hands_of a.world) actor left).workers (slice_set a.world.queues q l)
  others_are (Mutator m) left l = refl
  others_are (Worker k) left l = refl

  -- where these became of what it holds, it holds the others, and what was added stands
  pub put_in_is : (d : Done) (ds : List Done) → hand_of a.world who ≡ hand
      → with_world a (put_in a.world who (d ∷ ds))
      ≡ with_others a (with_hand_in (hands_of a.world) who (not_added hand (d ∷ ds))).mutators
      (with_hand_in (hands_of a.world) who (not_added hand (d ∷ ds))).workers
      (slice_set a.world.queues q (after_each (queue_at a.world q) hand (d ∷ ds)))
  put_in_is d ds full =
      ap (λ (ns : List Notice). with_world a (with_hand (standing a.world (added_among ns (d ∷ ds))) who
      (not_added ns (d ∷ ds)))) full
      ∙ ap (λ (w : World). with_world a (with_hand w who (not_added hand (d ∷ ds))))
      (standing_is a.world q (added_among hand (d ∷ ds)) (all_added (IsOwn q) hand (d ∷ ds) own) within)
      ∙ ap (λ (l : Lists Notice). with_world a (with_hand (with_queue a.world q l) who (not_added hand (d ∷ ds))))
      (sym (after_each_is (queue_at a.world q) hand (d ∷ ds)))
      ∙ others_are who (not_added hand (d ∷ ds)) (after_each (queue_at a.world q) hand (d ∷ ds))

-- a hand of which the first was added holds the others
pub rest_is_left : (rest : List Notice) → not_added rest [] ≡ rest
rest_is_left [] = refl
rest_is_left (notice ∷ rest) = refl

pub one_stands : (l : Lists Notice) (rest : List Notice) → after_each l rest [] ≡ l
one_stands l [] = refl
one_stands l (notice ∷ rest) = refl

-- ---- polls

-- the queue after those that stood first were taken, where rest still stands
abbrev pub with_front_taken : Lists Notice → List Notice → List Notice → Lists Notice
with_front_taken l front rest = record l { taken = l.taken ++ map object_of front; stands = rest }

-- a mutator takes those that stand first
pub took_is : (a : State) (m q : ℕ) (notice : Notice) (more rest : List Notice)
    → (queue_at a.world q).stands ≡ (notice ∷ more) ++ rest
    → with_world a (took a.world m q (map object_of (notice ∷ more)))
    ≡ with_others a (with_hand_in (hands_of a.world) (Mutator m) (notice ∷ more)).mutators a.world.worker_hands
    (slice_set a.world.queues q (with_front_taken (queue_at a.world q) (notice ∷ more) rest))
took_is a m q notice more rest first =
    let found = took_front (notice ∷ more) rest in
    let is = subst (λ (ns : List Notice). (notices_of ns (map object_of (notice ∷ more)) ≡ notice ∷ more)
    × (without_notices ns (map object_of (notice ∷ more)) ≡ rest)) (sym first) found in
    rw (is.0, is.1) refl
