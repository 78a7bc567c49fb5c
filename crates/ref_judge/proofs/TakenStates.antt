-- A judge after a poll: it stands for the state that such a row leaves.
use Rattle.ref_base.proofs.Common.{arith, ◌≡◌, ℕ, ◌<◌, ◌==◌, ◌||◌, Bool, List, ◌∷◌, ◌++◌, length}
use Rattle.ref_base.proofs.Common.{refl, sym, ap, ◌∙◌, subst, has, Notice, Lists, object_of, State, World, Some}
use Rattle.ref_base.proofs.Common.{ticked, with_world, queue_at, new_queue, slice_set, slice_index_or, cases_Bool, inl}
use Rattle.ref_base.proofs.Common.{inr}
use Rattle.ref_base.proofs.Common.{with_hand, took, eqb-true, eq-eqb, reference_at, false≢true}
use Rattle.std.proofs.Common.{append_assoc}
use Rattle.std.proofs.lemmas.List.{length-append, get_or-set_same, get_or-set_other}
use Rattle.ref_base.specs.Heaps.{registered_in}
use Rattle.ref_base.specs.QueueLists.{enqueued}
use Rattle.ref_base.specs.Replay.{taken_out, notices_of}
use Rattle.ref_base.specs.declared.actor.Actor.TheVariants.{Mutator}
use Rattle.ref_base.specs.declared.row.Row.{Row}
use Rattle.ref_base.proofs.EverWorlds.{BringsNone}
use Rattle.ref_base.proofs.HasLaws.{has-append}
use Rattle.ref_base.proofs.RowLaws.{all_own_in}
use Rattle.ref_base.proofs.SoundWorlds.{IsOwn}
use Rattle.ref_judge.specs.Judged.{Judged, Line, IsLine, IsHand, with_hand_at, is_put}
use Rattle.ref_judge.specs.ProfiledRows.{IsRowAs}
use Rattle.ref_judge.specs.Queueing.{without_each}
use Rattle.ref_judge.specs.Standing.{StandsFor}
use Rattle.ref_judge.proofs.HandsAlike.{are_alike, with_hand_alike}
use Rattle.ref_judge.proofs.LegalFacts.{legal_facts, NoticesRight}
use Rattle.ref_judge.proofs.LinesAlike.{lines_length, line_same, set_line_alike}
use Rattle.ref_judge.proofs.PutStates.{all_own_for}
use Rattle.ref_judge.proofs.QueuedStates.{queued, queued_to, others_of, ticked_queued, set_both, queued_stands}
use Rattle.ref_judge.proofs.TakenRows.{names, names_taken, names_left, all_notices}
use Rattle.ref_judge.proofs.TakenSets.{AreTaken, taken_length, taken_both}

-- as many were ever put in
taken_count : (l : Lists Notice) (ns : List ℕ) → AreTaken (names l.stands) ns
    → length (enqueued object_of (taken_out l ns)) ≡ length (enqueued object_of l)
taken_count l ns taken =
    let rest = taken_length (names l.stands) ns taken in
    let one = length-append l.taken ns in
    let two = length-append (l.taken ++ ns) (without_each (names l.stands) ns) in
    let old = length-append l.taken (names l.stands) in
    ap (λ ks. length ((l.taken ++ ns) ++ ks)) (names_left l.stands ns) ∙ omega (arith, rest, one, two, old)

-- and the same
taken_has : (l : Lists Notice) (ns : List ℕ) (m : ℕ) → AreTaken (names l.stands) ns
    → has (enqueued object_of (taken_out l ns)) m ≡ has (enqueued object_of l) m
taken_has l ns m taken =
    ap (λ ks. has ((l.taken ++ ns) ++ ks) m) (names_left l.stands ns)
    ∙ ap (λ ks. has ks m) (append_assoc l.taken ns (without_each (names l.stands) ns))
    ∙ has-append l.taken (ns ++ without_each (names l.stands) ns) m
    ∙ ap (λ (b : Bool). has l.taken m || b)
    (has-append ns (without_each (names l.stands) ns) m ∙ taken_both (names l.stands) ns m taken)
    ∙ sym (has-append l.taken (names l.stands) m)

module _ (old : Judged) (a : State) (stands : StandsFor old a) (m q : ℕ) (there : q < length old.lines) (line : Line)
    (line_is : line ≡ slice_index_or old.lines q line) where
  abbrev lists : Lists Notice
  lists = queue_at a.world q

  pub poll_line : IsLine line lists
  poll_line = subst (λ (l : Line). IsLine l lists) (sym line_is) (line_same old a stands q line there)

  notices : NoticesRight a
  notices = (legal_facts old.profile old.config a stands.lawful).notices

  module _ (n : ℕ) (ns : List ℕ) (taken : AreTaken line.stands (n ∷ ns)) where
    -- the judge once these were taken
    abbrev pub taken_to : Judged
    taken_to =
        queued old old.ground.tags (with_hand_at old.hands (Mutator m) (record { queue = q; objects = n ∷ ns }))
        (slice_set old.lines q (record line { stands = without_each line.stands (n ∷ ns) }))

    are_taken : AreTaken (names lists.stands) (n ∷ ns)
    are_taken = subst (λ ks. AreTaken ks (n ∷ ns)) (sym poll_line.stands) taken

    abbrev hand : List Notice
    hand = notices_of lists.stands (n ∷ ns)

    abbrev qs : List (Lists Notice)
    qs = slice_set a.world.queues q (taken_out lists (n ∷ ns))

    hand_is : IsHand (record { queue = q; objects = n ∷ ns }) hand
    hand_is = (
      names_taken lists.stands (n ∷ ns) are_taken,
      all_own_for q hand
          (all_notices (IsOwn q) lists.stands (n ∷ ns) (all_own_in q lists.stands (notices.own q))),
    )

    line_after : IsLine (record line { stands = without_each line.stands (n ∷ ns) }) (taken_out lists (n ∷ ns))
    line_after = record {
      stands =
          names_left lists.stands (n ∷ ns) ∙ ap (λ ks. without_each ks (n ∷ ns)) poll_line.stands;
      put = taken_count lists (n ∷ ns) are_taken ∙ poll_line.put;
      closed = poll_line.closed;
    }

    within : q < length a.world.queues
    within = subst (λ (k : ℕ). q < k) (lines_length old.lines a.world.queues stands.lines) there

    taken_told : (k r : ℕ) → registered_in (reference_at a.world.heap k) ≡ Some r
        → is_put old.ground.tags k ≡ has (enqueued object_of (slice_index_or qs r (new_queue r))) k
    taken_told k r is =
        stands.tags.put k r is
        ∙ elim (cases_Bool (r == q)) [
          | inl here ↦
              let same : r ≡ q = eqb-true r q here in
              rw same
              (rw (get_or-set_same a.world.queues q (taken_out lists (n ∷ ns)) (new_queue q) within)
              (sym (taken_has lists (n ∷ ns) k are_taken)))
          | inr other ↦
              let differ : r ≡ q → ⊥ = (λ same. false≢true (sym other ∙ eq-eqb r q same)) in
              rw (get_or-set_other a.world.queues q r (taken_out lists (n ∷ ns)) (new_queue r) differ) refl
        ]

    took_is : ticked (with_world a (took a.world m q (n ∷ ns)))
        ≡ queued_to a (others_of a.world (with_hand a.world (Mutator m) hand) qs)
        (ticked (with_world a (others_of a.world (with_hand a.world (Mutator m) hand) qs))).moments
    took_is =
        ap (λ (w : World). ticked (with_world a w)) (set_both a.world (Mutator m) hand q (taken_out lists (n ∷ ns)))
        ∙ ticked_queued a (with_hand a.world (Mutator m) hand) qs

    -- it stands for the state that the row leaves
    pub taken_stands : (row : Row) → BringsNone row.step
        → IsRowAs old.profile a row (ticked (with_world a (took a.world m q (n ∷ ns))))
        → StandsFor taken_to (ticked (with_world a (took a.world m q (n ∷ ns))))
    taken_stands row brings h =
        subst (StandsFor taken_to) (sym took_is)
        (queued_stands old a stands old.ground.tags
        (with_hand_at old.hands (Mutator m) (record { queue = q; objects = n ∷ ns }))
        (slice_set old.lines q (record line { stands = without_each line.stands (n ∷ ns) }))
        (with_hand a.world (Mutator m) hand) qs
        (ticked (with_world a (others_of a.world (with_hand a.world (Mutator m) hand) qs))).moments row brings
        (subst (IsRowAs old.profile a row) took_is h)
        (with_hand_alike old.hands a.world (Mutator m) (record { queue = q; objects = n ∷ ns }) hand
        (are_alike old a stands) hand_is)
        (set_line_alike old.lines a.world.queues q (record line { stands = without_each line.stands (n ∷ ns) })
        (taken_out lists (n ∷ ns)) stands.lines line_after)
        (λ k. refl) taken_told)
