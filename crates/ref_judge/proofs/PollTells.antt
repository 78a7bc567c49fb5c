-- What a judge makes of a poll: it takes just what may be taken, by the numbers of what stands.
use Rattle.ref_base.proofs.Common.{arith, ◌≡◌, ℕ, zero, suc, ◌<◌, Bool, List, [], ◌∷◌, length}
use Rattle.ref_base.proofs.Common.{if◌then◌else◌, take, refl, sym, ap, ◌∙◌, subst, inl, inr, ◌⊎◌}
use Rattle.ref_base.proofs.Common.{Notice, Lists, State, ticked, with_world, queue_at, Polls, took}
use Rattle.ref_base.proofs.Common.{slice_index_or, slice_set}
use Rattle.std.specs.Prelude.{Ok, Err, reverse, ◌≤◌}
use Rattle.std.proofs.lemmas.List.{length-take, length-reverse}
use Rattle.ref_base.specs.Members.{AreDistinct}
use Rattle.ref_base.specs.declared.row.Row.{Row}
use Rattle.ref_base.specs.declared.reply.Reply.{Reply}
use Rattle.ref_base.specs.declared.reply.Reply.TheVariants as replies
use Rattle.ref_base.specs.declared.step.Step.{Step}
use Rattle.ref_base.specs.declared.actor.Actor.TheVariants.{Mutator}
use Rattle.ref_base.proofs.EverWorlds.{BringsNone}
use Rattle.ref_base.proofs.FreeRows.{KeepsRow}
use Rattle.ref_base.proofs.MarkEndRows.{distinct_behind}
use Rattle.ref_judge.specs.Judged.{Judged, Line, IsLine, with_hand_at}
use Rattle.ref_judge.specs.ProfiledRows.{IsRowAs, PollsAs, MayTake}
use Rattle.ref_judge.specs.Queueing.{MayTakeNos, TellsNone, without_each}
use Rattle.ref_judge.specs.Standing.{StandsFor, TellsOf, LeadsOn}
use Rattle.ref_judge.specs.declared.order.Order.{Order}
use Rattle.ref_judge.specs.declared.order.Order.TheVariants.{First, Last, Any}
use Rattle.ref_judge.specs.declared.stop.Stop.{Stop}
use Rattle.ref_judge.proofs.HandsAlike.{are_alike}
use Rattle.ref_judge.proofs.LegalFacts.{legal_facts}
use Rattle.ref_judge.proofs.QueueTells.{none_fits}
use Rattle.ref_judge.proofs.QueuedStates.{queued, queued_says, queued_stands, ticked_queued}
use Rattle.ref_judge.proofs.TakenOrders.{may_taken}
use Rattle.ref_judge.proofs.TakenRows.{names, may_notices, notices_may}
use Rattle.ref_judge.proofs.TakenStates.{poll_line, taken_stands}
use Rattle.ref_judge.proofs.ToldRows.{kept_leads, same_said}

-- ---- of what stands

take_none : (count : ℕ) → [] ≡ take {A = Notice} count []
take_none zero = refl
take_none (suc count) = refl

-- where nothing stands, nothing may be taken
nothing_may : (order : Order) (count : ℕ) → MayTake order count [] []
nothing_may First count = take_none count
nothing_may Last count = take_none count
nothing_may Any count = (omega arith, tt)

-- and where something does, something must
may_nothing : (order : Order) (count : ℕ) (xs : List Notice) → 1 ≤ count → MayTake order count xs [] → xs ≡ []
may_nothing First count xs some may =
    none_left xs (omega (arith, some, ap length may ∙ length-take count xs))
  where
    none_left : (xs : List Notice) → length xs ≡ 0 → xs ≡ []
    none_left [] none = refl
    none_left (x ∷ xs) none = absurd (omega (arith, none))
may_nothing Last count xs some may =
    none_left xs (omega (arith, some, ap length may ∙ length-take count (reverse xs), length-reverse xs))
  where
    none_left : (xs : List Notice) → length xs ≡ 0 → xs ≡ []
    none_left [] none = refl
    none_left (x ∷ xs) none = absurd (omega (arith, none))
may_nothing Any count xs some may = none_left xs (omega (arith, some, may.0))
  where
    none_left : (xs : List Notice) → length xs ≡ 0 → xs ≡ []
    none_left [] none = refl
    none_left (x ∷ xs) none = absurd (omega (arith, none))

no_names : (xs : List Notice) → names xs ≡ [] → xs ≡ []
no_names [] is = refl
no_names (x ∷ xs) is = absurd cc

-- ---- polls

-- a poll of so many, which is told so
module _ (old : Judged) (step : Step) (m q count : ℕ) (tell : List ℕ → Reply) (some : 1 ≤ count)
    (brings : BringsNone step)
    (keeps : (a : State) (reply : Reply) → KeepsRow a (record { step = step; reply = reply }))
    (rows : (a : State) → StandsFor old a → (reply : Reply) (b : State)
    → PollsAs old.profile.order a m q count tell reply b
    → IsRowAs old.profile a (record { step = step; reply = reply }) b)
    (only : (a : State) → StandsFor old a → (reply : Reply) (b : State)
    → IsRowAs old.profile a (record { step = step; reply = reply }) b
    → PollsAs old.profile.order a m q count tell reply b)
    (there : q < length old.lines) (line : Line) (line_is : line ≡ slice_index_or old.lines q line) where
  module _ (a : State) (stands : StandsFor old a) where
    abbrev lists : Lists Notice
    lists = queue_at a.world q

    alike : IsLine line lists
    alike = poll_line old a stands m q there line line_is

    once : AreDistinct (names lists.stands)
    once =
        distinct_behind lists.taken (names lists.stands)
        ((legal_facts old.profile old.config a stands.lawful).notices.once q)

    takes : (n : ℕ) (ns : List ℕ) → MayTakeNos old.profile.order count line.stands (n ∷ ns)
        → IsRowAs old.profile a (record { step = step; reply = tell (n ∷ ns) })
        (ticked (with_world a (took a.world m q (n ∷ ns))))
    takes n ns may =
        let found =
        may_notices old.profile.order count lists.stands (n ∷ ns) once
        (subst (λ st. MayTakeNos old.profile.order count st (n ∷ ns)) (sym alike.stands) may) in
        rows a stands (tell (n ∷ ns)) (ticked (with_world a (took a.world m q (n ∷ ns))))
        (found.0, found.1, told found.0 found.2)
      where
        told : (taken : List Notice) → names taken ≡ n ∷ ns
            → Polls a m q tell taken (tell (n ∷ ns)) (ticked (with_world a (took a.world m q (n ∷ ns))))
        told [] is = absurd cc
        told (x ∷ taken) is =
            (ap tell (sym is), ap (λ ks. ticked (with_world a (took a.world m q ks))) (sym is))

    -- a poll takes nothing, or what may be taken
    poll_only : (reply : Reply) (b : State) → IsRowAs old.profile a (record { step = step; reply = reply }) b
        → TellsNone line reply
        ⊎ ((ns : List ℕ) × (reply ≡ tell ns) × MayTakeNos old.profile.order count line.stands ns)
    poll_only reply b h = let row = only a stands reply b h in of_taken row.0 row.1 row.2
      where
        of_taken : (taken : List Notice) → MayTake old.profile.order count lists.stands taken
            → Polls a m q tell taken reply b
            → TellsNone line reply
            ⊎ ((ns : List ℕ) × (reply ≡ tell ns) × MayTakeNos old.profile.order count line.stands ns)
        of_taken [] may row =
            inl (
              sym alike.stands ∙ ap names (may_nothing old.profile.order count lists.stands some may),
              row.0 ∙ ap (λ (shut : Bool). if shut then replies.Closed else replies.Empty) alike.closed,
            )
        of_taken (x ∷ taken) may row =
            inr (
              names (x ∷ taken),
              row.0,
              subst (λ st. MayTakeNos old.profile.order count st (names (x ∷ taken))) alike.stands
                  (notices_may old.profile.order count lists.stands (x ∷ taken) once refl may),
            )

    takes_none : (reply : Reply) → TellsNone line reply
        → IsRowAs old.profile a (record { step = step; reply = reply }) (ticked a)
    takes_none reply tells =
        let none : lists.stands ≡ [] = no_names lists.stands (alike.stands ∙ tells.0) in
        rows a stands reply (ticked a) (
          [],
          subst (λ (xs : List Notice). MayTake old.profile.order count xs []) (sym none)
              (nothing_may old.profile.order count),
          (
            tells.1 ∙ ap (λ (shut : Bool). if shut then replies.Closed else replies.Empty) (sym alike.closed),
            refl,
          ),
        )

    still_stands : (reply : Reply) → IsRowAs old.profile a (record { step = step; reply = reply }) (ticked a)
        → StandsFor old (ticked a)
    still_stands reply h =
        let row : Row = record { step = step; reply = reply } in
        let same = ticked_queued a a.world a.world.queues in
        subst (StandsFor old) (sym same)
        (queued_stands old a stands old.ground.tags old.hands old.lines a.world a.world.queues (ticked a).moments row
        brings (subst (IsRowAs old.profile a row) same h) (are_alike old a stands) stands.lines (λ k. refl)
        stands.tags.put)

    takes_lead : (n : ℕ) (ns : List ℕ) (may : MayTakeNos old.profile.order count line.stands (n ∷ ns))
        → LeadsOn old
        (queued old old.ground.tags (with_hand_at old.hands (Mutator m) (record { queue = q; objects = n ∷ ns }))
        (slice_set old.lines q (record line { stands = without_each line.stands (n ∷ ns) })))
        (record { step = step; reply = tell (n ∷ ns) }) a
    takes_lead n ns may =
        let row : Row = record { step = step; reply = tell (n ∷ ns) } in
        let h = takes n ns may in
        let distinct = subst AreDistinct alike.stands once in
        let taken = may_taken old.profile.order count line.stands (n ∷ ns) distinct may in
        kept_leads old
        (queued old old.ground.tags (with_hand_at old.hands (Mutator m) (record { queue = q; objects = n ∷ ns }))
        (slice_set old.lines q (record line { stands = without_each line.stands (n ∷ ns) }))) row a
        (ticked (with_world a (took a.world m q (n ∷ ns)))) (keeps a (tell (n ∷ ns))) h
        (queued_says old old.ground.tags (with_hand_at old.hands (Mutator m) (record { queue = q; objects = n ∷ ns }))
        (slice_set old.lines q (record line { stands = without_each line.stands (n ∷ ns) })))
        (taken_stands old a stands m q there line line_is n ns taken row brings h) refl refl

  -- the judge once these were taken
  pub poll_takes : (n : ℕ) (ns : List ℕ) → MayTakeNos old.profile.order count line.stands (n ∷ ns)
      → TellsOf old (record { step = step; reply = tell (n ∷ ns) }) (Ok tt)
      (queued old old.ground.tags (with_hand_at old.hands (Mutator m) (record { queue = q; objects = n ∷ ns }))
      (slice_set old.lines q (record line { stands = without_each line.stands (n ∷ ns) })))
  poll_takes n ns may = (refl, refl, λ a stands lawful. takes_lead a stands n ns may)

  -- or nothing was
  pub poll_none : (reply : Reply) → TellsNone line reply
      → TellsOf old (record { step = step; reply = reply }) (Ok tt) old
  poll_none reply tells = (
    refl,
    refl,
    λ a stands lawful.
        let h = takes_none a stands reply tells in
        kept_leads old old (record { step = step; reply = reply }) a (ticked a) (keeps a reply) h (same_said old)
        (still_stands a stands reply h) refl refl,
  )

  -- and there is no other row
  pub poll_wrong : (reply : Reply) → (TellsNone line reply → ⊥)
      → ((ns : List ℕ) → reply ≡ tell ns → MayTakeNos old.profile.order count line.stands ns → ⊥)
      → TellsOf old (record { step = step; reply = reply }) (Err Stop.Illegal) old
  poll_wrong reply none wrong = (
    λ a stands.
        none_fits old a (record { step = step; reply = reply }) (keeps a reply)
        (λ b h.
        elim (poll_only a stands reply b h) [
          | inl tells ↦ none tells
          | inr takes ↦ wrong takes.0 takes.1 takes.2
        ]),
    refl,
  )
