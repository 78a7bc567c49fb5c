-- A judge after notices of a hand were put into their queue: it stands for the state that such a row leaves.
use Rattle.ref_base.proofs.Common.{arith, ◌≡◌, ℕ, ◌<◌, ◌==◌, ◌||◌, Bool, true, false, List, [], ◌∷◌, ◌++◌}
use Rattle.ref_base.proofs.Common.{length, map, refl, sym, ap, ◌∙◌, subst, has, Notice, Lists, object_of, State, World}
use Rattle.ref_base.proofs.Common.{Some, None, ticked, with_world, hand_of, queue_at, new_queue, slice_set}
use Rattle.ref_base.proofs.Common.{slice_index_or, cases_Bool, inl, inr, false≢true, reference_at}
use Rattle.ref_base.proofs.Common.{with_queue, with_hand, standing, put_in, eqb-true, eq-eqb, is_there, Object, Heap}
use Rattle.ref_base.proofs.Common.{map-append}
use Rattle.std.proofs.Common.{append_assoc, length-set}
use Rattle.std.proofs.lemmas.List.{append-nil, length-append}
use Rattle.std.proofs.lemmas.List.{set-set, set-get_or, get_or-set_same, get_or-set_other}
use Rattle.std.specs.List.{AllByRecursion, list_all}
use Rattle.ref_base.specs.Forgetting.{forgotten}
use Rattle.ref_base.specs.Heaps.{registered_in}
use Rattle.ref_base.specs.Members.{first_of}
use Rattle.ref_base.specs.QueueBatches.{added_among, not_added}
use Rattle.ref_base.specs.QueueLists.{enqueued, with_parcel}
use Rattle.ref_base.specs.declared.actor.Actor.{Actor}
use Rattle.ref_base.specs.declared.out.Done.{Done}
use Rattle.ref_base.specs.declared.row.Row.{Row}
use Rattle.ref_base.proofs.BatchParts.{all_added, all_left, map-added, map-left}
use Rattle.ref_base.proofs.EverWorlds.{BringsNone}
use Rattle.ref_base.proofs.HasLaws.{has-append}
use Rattle.ref_base.proofs.RowLaws.{all_own_in}
use Rattle.ref_base.proofs.SoundWorlds.{IsOwn}
use Rattle.ref_objects.specs.Grounds.{IsWellFormed}
use Rattle.ref_judge.specs.Judged.{Judged, Line, IsLine, IsHand, hand_at, with_hand_at, is_put}
use Rattle.ref_judge.specs.ProfiledRows.{IsRowAs}
use Rattle.ref_judge.specs.Queueing.{linked_each, line_with}
use Rattle.ref_judge.specs.Standing.{StandsFor}
use Rattle.ref_judge.proofs.HandsAlike.{are_alike, hand_same, sizes, with_hand_alike}
use Rattle.ref_judge.proofs.LegalFacts.{legal_facts, NoticesRight, IsRegistered}
use Rattle.ref_judge.proofs.LinesAlike.{lines_same, lines_length, line_same, set_line_alike}
use Rattle.ref_judge.proofs.PutLinks.{linked_put, cleared_linked, registered_tagged, registered_there}
use Rattle.ref_judge.proofs.PutRows.{IsLinked}
use Rattle.ref_judge.proofs.QueuedStates.{queued, queued_to, others_of, ticked_queued, set_both, queued_stands}

-- ---- what comes to stand

abbrev pub with_standing : Lists Notice → List Notice → Lists Notice
with_standing l notices = record l { stands = l.stands ++ notices }

-- notices for one queue, which is there, come to stand in it
standing_is : (w : World) (q : ℕ) (notices : List Notice) → AllByRecursion (IsOwn q) notices → q < length w.queues
    → standing w notices ≡ with_queue w q (with_standing (queue_at w q) notices)
standing_is w q [] own within =
    ap (λ (qs : List (Lists Notice)). record w { queues = qs })
    (sym (set-get_or w.queues q (new_queue q))
    ∙ ap (λ ns. slice_set w.queues q (record (queue_at w q) { stands = ns })) (sym (append-nil (queue_at w q).stands)))
standing_is w q (notice ∷ rest) own within =
    let more : Lists Notice = with_parcel (queue_at w q) notice in
    let mid : World = with_queue w q more in
    let first : with_queue w notice.queue (with_parcel (queue_at w notice.queue) notice) ≡ mid =
    ap (λ r. with_queue w r (with_parcel (queue_at w r) notice)) own.0 in
    let there : queue_at mid q ≡ more = get_or-set_same w.queues q more (new_queue q) within in
    let within_mid : q < length mid.queues = rw (length-set w.queues q more) within in
    ap (λ (v : World). standing v rest) first
    ∙ standing_is mid q rest own.1 within_mid
    ∙ ap (λ (l : Lists Notice). with_queue mid q (with_standing l rest)) there
    ∙ ap (λ (qs : List (Lists Notice)). record w { queues = qs })
    (set-set w.queues q more (with_standing more rest))
    ∙ ap (λ ns. with_queue w q (record (queue_at w q) { stands = ns }))
    (append_assoc (queue_at w q).stands (notice ∷ []) rest)

-- what was ever put in, and what these add
enqueued_with : (l : Lists Notice) (notices : List Notice)
    → enqueued object_of (with_standing l notices) ≡ enqueued object_of l ++ map object_of notices
enqueued_with l notices =
    ap (λ ns. l.taken ++ ns) (map-append object_of l.stands notices)
    ∙ sym (append_assoc l.taken (map object_of l.stands) (map object_of notices))

-- a queue with them is that of the judge
line_with_alike : (line : Line) (l : Lists Notice) (notices : List Notice) (added : List ℕ) → IsLine line l
    → map object_of notices ≡ added → IsLine (line_with line added) (with_standing l notices)
line_with_alike line l notices added is names = record {
  stands = map-append object_of l.stands notices ∙ rw (is.stands, names) refl;
  put =
      ap length (enqueued_with l notices) ∙ length-append (enqueued object_of l) (map object_of notices)
      ∙ rw (is.put, names) refl;
  closed = is.closed;
}

-- ---- a hand

-- what holds of each in two ways holds in a third
pub all_both : (P R S : Notice → Type 0) → ((x : Notice) → P x → R x → S x) → (xs : List Notice) → AllByRecursion P xs
    → AllByRecursion R xs → AllByRecursion S xs
all_both P R S both [] ps rs = tt
all_both P R S both (x ∷ xs) ps rs = (both x ps.0 rs.0, all_both P R S both xs ps.1 rs.1)

-- a number among those of notices is one of them
some_notice : (P : Notice → Type 0) (xs : List Notice) (n : ℕ) → AllByRecursion P xs → has (map object_of xs) n ≡ true
    → (x : Notice) × (x.object ≡ n) × P x
some_notice P [] n all h = absurd (false≢true h)
some_notice P (x ∷ xs) n all h =
    elim (cases_Bool (x.object == n)) [
      | inl is ↦ (x, eqb-true x.object n is, all.0)
      | inr other ↦ some_notice P xs n all.1 (rw other at h)
    ]

pub all_own_for : (q : ℕ) (xs : List Notice) → AllByRecursion (IsOwn q) xs
    → list_all (λ (x : Notice). x.queue == q) xs ≡ true
all_own_for q [] all = refl
all_own_for q (x ∷ xs) all = grind (arith, all_own_for q xs all.1)

-- a hand that has a first number has a first notice
pub full_hand : (objects : List ℕ) (xs : List Notice) (n : ℕ) → map object_of xs ≡ objects → first_of objects ≡ Some n
    → (notice : Notice) × (rest : List Notice) × (xs ≡ notice ∷ rest) × (notice.object ≡ n)
full_hand objects [] n is first = absurd (none (ap first_of is ∙ first))
  where
    none : None ≡ Some n → ⊥
    none same = absurd cc
full_hand objects (x ∷ xs) n is first = (x, xs, refl, named (ap first_of is ∙ first))
  where
    named : Some x.object ≡ Some n → x.object ≡ n
    named same = cc

-- what the doomed refer to is no matter of which objects are there
there_but : (d : List ℕ) (os : List Object) (m : ℕ) → is_there os m ≡ true
    → is_there (map (λ o. forgotten d o) os) m ≡ true
there_but d [] m there = there
there_but d (o ∷ os) m there = grind (arith, there_but d os m)

module _ (old : Judged) (a : State) (stands : StandsFor old a) (who : Actor) where
  pub notices : NoticesRight a
  notices = (legal_facts old.profile old.config a stands.lawful).notices

  -- the queue that the hand is for, and what the hand holds
  abbrev pub into : ℕ
  into = (hand_at old.hands who).queue

  abbrev pub held : List ℕ
  held = (hand_at old.hands who).objects

  pub hand_own : AllByRecursion (IsOwn into) (hand_of a.world who)
  hand_own = all_own_in into (hand_of a.world who) (hand_same old a stands who).1

  -- whose references' links tell whether they were put in
  pub hand_linked : AllByRecursion (IsLinked old.ground.tags into (enqueued object_of (queue_at a.world into)))
      (hand_of a.world who)
  hand_linked =
      all_both (IsOwn into) (IsRegistered a.world) _
      (λ x own registered. (own, stands.tags.put x.object into (registered ∙ ap (λ (q : ℕ). Some q) own)))
      (hand_of a.world who) hand_own (notices.held who)

  -- where it isn't empty, its queue is there
  pub into_there : (n : ℕ) → first_of held ≡ Some n → into < length old.lines
  into_there n first =
      let full = full_hand held (hand_of a.world who) n (hand_same old a stands who).0 first in
      let own = subst (AllByRecursion (IsOwn into)) full.2 hand_own in
      let below = subst (AllByRecursion (λ (x : Notice). x.queue < a.world.heap.config.queues)) full.2
      (notices.below who) in
      subst (λ (k : ℕ). into < k)
      (ap (λ c. c.queues) (sizes old a stands).config_is ∙ sym (lines_same old a stands))
      (subst (λ (q : ℕ). q < a.world.heap.config.queues) own.0 below.0)

  -- what was said of an object isn't whether it is there
  there_same : (m : ℕ) → is_there a.world.heap.objects m ≡ true → is_there old.ground.heap.objects m ≡ true
  there_same m there =
      ap (λ (h : Heap). is_there h.objects m) stands.heap ∙ there_but a.doomed a.world.heap.objects m there

  module _ (formed : IsWellFormed old.ground) (n : ℕ) (first : first_of held ≡ Some n) (line : Line)
      (line_is : line ≡ slice_index_or old.lines into line) (d : Done) (ds : List Done) where
    abbrev added : List ℕ
    added = added_among held (d ∷ ds)

    -- the judge once that became of what the hand holds
    abbrev pub put_to : Judged
    put_to =
        queued old (linked_each old.ground.tags (added_among held (d ∷ ds)))
        (with_hand_at old.hands who (record { queue = into; objects = not_added held (d ∷ ds) }))
        (slice_set old.lines into (line_with line (added_among held (d ∷ ds))))

    abbrev gone : List Notice
    gone = added_among (hand_of a.world who) (d ∷ ds)

    abbrev back : List Notice
    back = not_added (hand_of a.world who) (d ∷ ds)

    abbrev qs : List (Lists Notice)
    qs = slice_set a.world.queues into (with_standing (queue_at a.world into) gone)

    gone_own : AllByRecursion (IsOwn into) gone
    gone_own = all_added (IsOwn into) (hand_of a.world who) (d ∷ ds) hand_own

    gone_names : map object_of gone ≡ added
    gone_names =
        map-added object_of (hand_of a.world who) (d ∷ ds)
        ∙ ap (λ ns. added_among ns (d ∷ ds)) (hand_same old a stands who).0

    back_is : IsHand (record { queue = into; objects = not_added held (d ∷ ds) }) back
    back_is = (
      map-left object_of (hand_of a.world who) (d ∷ ds)
          ∙ ap (λ ns. not_added ns (d ∷ ds)) (hand_same old a stands who).0,
      all_own_for into back (all_left (IsOwn into) (hand_of a.world who) (d ∷ ds) hand_own),
    )

    within : into < length a.world.queues
    within = subst (λ (k : ℕ). into < k) (lines_length old.lines a.world.queues stands.lines) (into_there n first)

    put_in_is : put_in a.world who (d ∷ ds) ≡ others_of a.world (with_hand a.world who back) qs
    put_in_is =
        ap (λ (w : World). with_hand w who back) (standing_is a.world into gone gone_own within)
        ∙ set_both a.world who back into (with_standing (queue_at a.world into) gone)

    -- another queue has none of them
    none_gone : (m q : ℕ) → registered_in (reference_at a.world.heap m) ≡ Some q → (q ≡ into → ⊥)
        → has added m ≡ false
    none_gone m q is other =
        elim (cases_Bool (has added m)) [
          | inl here ↦
              let x =
              some_notice (λ (x : Notice). (x.queue ≡ into) × IsRegistered a.world x) gone m
              (all_both (IsOwn into) (IsRegistered a.world) _ (λ x own registered. (own, registered)) gone gone_own
              (all_added (IsRegistered a.world) (hand_of a.world who) (d ∷ ds) (notices.held who)))
              (ap (λ ns. has ns m) gone_names ∙ here) in
              absurd (other (one_queue (sym is ∙ ap (λ k. registered_in (reference_at a.world.heap k)) (sym x.1) ∙
              x.2.1)
              ∙ x.2.0))
          | inr none ↦ none
        ]
      where
        one_queue : {k : ℕ} → Some q ≡ Some k → q ≡ k
        one_queue same = cc

    put_told : (m q : ℕ) → registered_in (reference_at a.world.heap m) ≡ Some q
        → is_put (linked_each old.ground.tags added) m
        ≡ has (enqueued object_of (slice_index_or qs q (new_queue q))) m
    put_told m q is =
        linked_put old.ground.tags added m
        (registered_tagged old.ground m q formed (there_same m (registered_there a.world.heap.objects m q is)))
        ∙ ap (λ (was : Bool). was || has added m) (stands.tags.put m q is)
        ∙ elim (cases_Bool (q == into)) [
          | inl here ↦
              let same : q ≡ into = eqb-true q into here in
              rw same
              (rw (
                get_or-set_same a.world.queues into (with_standing (queue_at a.world into) gone) (new_queue into)
                    within,
                enqueued_with (queue_at a.world into) gone,
                gone_names,
              )
              (sym (has-append (enqueued object_of (queue_at a.world into)) added m)))
          | inr other ↦
              let differ : q ≡ into → ⊥ = (λ same. false≢true (sym other ∙ eq-eqb q into same)) in
              rw (
                none_gone m q is differ,
                get_or-set_other a.world.queues into q (with_standing (queue_at a.world into) gone) (new_queue q)
                    differ,
              )
              (or_false (has (enqueued object_of (queue_at a.world q)) m))
        ]
      where
        or_false : (b : Bool) → (b || false) ≡ b
        or_false true = refl
        or_false false = refl

    abbrev put_state : State
    put_state = ticked (with_world a (put_in a.world who (d ∷ ds)))

    put_state_is : put_state
        ≡ queued_to a (others_of a.world (with_hand a.world who back) qs)
        (ticked (with_world a (others_of a.world (with_hand a.world who back) qs))).moments
    put_state_is =
        ap (λ (w : World). ticked (with_world a w)) put_in_is ∙ ticked_queued a (with_hand a.world who back) qs

    -- it stands for the state that the row leaves
    pub put_stands : (row : Row) → BringsNone row.step
        → IsRowAs old.profile a row (ticked (with_world a (put_in a.world who (d ∷ ds))))
        → StandsFor put_to (ticked (with_world a (put_in a.world who (d ∷ ds))))
    put_stands row brings h =
        subst (StandsFor put_to) (sym put_state_is)
        (queued_stands old a stands (linked_each old.ground.tags added)
        (with_hand_at old.hands who (record { queue = into; objects = not_added held (d ∷ ds) }))
        (slice_set old.lines into (line_with line added)) (with_hand a.world who back) qs
        (ticked (with_world a (others_of a.world (with_hand a.world who back) qs))).moments row brings
        (subst (IsRowAs old.profile a row) put_state_is h)
        (with_hand_alike old.hands a.world who (record { queue = into; objects = not_added held (d ∷ ds) }) back
        (are_alike old a stands) back_is)
        (set_line_alike old.lines a.world.queues into (line_with line added)
        (with_standing (queue_at a.world into) gone) stands.lines
        (line_with_alike line (queue_at a.world into) gone added
        (subst (λ (l : Line). IsLine l (queue_at a.world into)) (sym line_is)
        (line_same old a stands into line (into_there n first))) gone_names))
        (cleared_linked old.ground.tags added) put_told)
