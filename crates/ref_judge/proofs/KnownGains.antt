-- Rows of a mark of a collector of any profile that bring something new to what may be kept: its begin brings what is
-- kept then, a get what it answers and what paths lead to from there, a making the new object.
use Rattle.ref_base.proofs.Common.{◌≡◌, ℕ, ◌+◌, ◌*◌, ◌<◌, true, false, List, [], ◌∷◌, length, Option, None, sym, ap}
use Rattle.ref_base.proofs.Common.{◌∙◌, subst, inl, inr, ◌⊎◌, Allowed, EndsPath, EverKept, Reference, is_kept, is_there}
use Rattle.ref_base.proofs.Common.{Graph, graph_of, State, World, numbers, object_at, reference_of, referent_got}
use Rattle.ref_base.proofs.Common.{slot_at, ticked}
use Rattle.ref_base.specs.Refusals.{plain_refusal}
use Rattle.ref_base.proofs.PathLaws.{ends-wider, targets_of-wider}
use Rattle.ref_base.proofs.ApartWorlds.{OfValue, IsClosed, closed_ends}
use Rattle.ref_base.proofs.PlainRows.{plain_row}
use Rattle.ref_base.proofs.Fitting.{saying, begun_to}
use Rattle.ref_base.proofs.EverRows.{WithNext}
use Rattle.ref_base.proofs.MarkFacts.{seen_begun, seen_same}
use Rattle.ref_base.proofs.EverWorlds.{Knows, known_got, known_new, known_refer}
use Rattle.ref_base.specs.declared.phase.Phase.TheVariants.{Marking}
use Rattle.ref_base.specs.declared.strength.Strength.{Strength}
use Rattle.ref_base.specs.declared.urgency.Urgency.{Urgency}
use Rattle.ref_base.specs.declared.plain_step.PlainStep.TheVariants as plain
use Rattle.ref_base.specs.declared.reply.Reply.{Reply}
use Rattle.ref_judge.specs.KeptBounds.{may_keep}
use Rattle.ref_judge.specs.ProfiledRows.{IsRowAs}
use Rattle.ref_judge.specs.declared.profile.Profile.{Profile}
use Rattle.ref_judge.proofs.UnchangedRows.{plain_accepted_as}
use Rattle.ref_judge.proofs.OtherPolicies.{profiled, policy_as, kept_under}
use Rattle.ref_judge.proofs.KnownRows.{mutator_row_under}

-- what is closed under more is closed under less
closed_by : (allow more : Allowed) (V : ℕ → Type 0) (w : World) → ((r : Reference) → allow r ≡ true → more r ≡ true)
    → IsClosed more V w → IsClosed allow V w
closed_by allow more V w wider closed = record {
  slots = closed.slots;
  holds = closed.holds;
  pendings = closed.pendings;
  targets = λ m n has_it target.
      closed.targets m n has_it (targets_of-wider allow more wider (object_at w.heap.objects m) n target);
}

module _ (p : Profile) (V : ℕ → Type 0) (a b : State) where
  -- as a mark begins, a closed set is known of which each may be kept then, where each number that is there is below
  -- the next
  pub known_begun_as : (now : ℕ) (how : Urgency) (reply : Reply)
      → ((n : ℕ) → is_there a.world.heap.objects n ≡ true → n < a.next)
      → ((n : ℕ) → V n → EndsPath (may_keep p b.world.policy) (graph_of b.world) n)
      → IsClosed (may_keep p b.world.policy) V b.world → plain_refusal a (plain.Begin now how) ≡ None
      → IsRowAs p a (plain_row (plain.Begin now how) reply) b → Knows V (profiled p b)
  known_begun_as now how reply below kept closed none h =
      let (c, given, but) = plain_accepted_as p a b (plain.Begin now how) reply none h in
      let first : State = ticked (begun_to a now how) in
      let same : b ≡ saying first but.0 = but.1 ∙ ap (λ (s : State). saying s but.0) given.1.1 in
      let moments : b.moments ≡ graph_of b.world ∷ [] =
      ap (λ (s : State). s.moments) same
      ∙ ap (λ (w : World). graph_of w ∷ []) (sym (ap (λ (s : State). s.world) same)) in
      let may : Allowed = may_keep p b.world.policy in
      let keeps : Allowed = is_kept (policy_as p b.world.policy) in
      let wider : (r : Reference) → may r ≡ true → keeps r ≡ true = (λ r is. kept_under p b.world.policy r ∙ is) in
      let under_closed : IsClosed keeps V b.world =
      closed_by keeps may V b.world (λ r is. sym (kept_under p b.world.policy r) ∙ is) closed in
      let only : (n : ℕ) → EverKept (policy_as p b.world.policy) (graph_of b.world ∷ []) n → V n =
      (λ n ever.
      elim ever [ inl now ↦ closed_ends keeps V b.world n under_closed now | inr none ↦ absurd none ]) in (
        record {
          sound = λ n is.
              subst (λ (gs : List Graph). EverKept (policy_as p b.world.policy) gs n) (sym moments)
              (inl (ends-wider may keeps wider (graph_of b.world) n (kept n is)));
          complete = λ n ever.
              only n (subst (λ (gs : List Graph). EverKept (policy_as p b.world.policy) gs n) moments ever);
          closed = record {
            slots = closed.slots;
            holds = closed.holds;
            pendings = closed.pendings;
            targets = under_closed.targets;
          };
        },
        seen_same V c (profiled p b) (
          ap (λ (s : State). s.scanned) but.1,
          ap (λ (s : State). s.born) but.1,
          ap (λ (s : State). numbers s.world.heap.objects) but.1,
        )
            (seen_begun V a c now how reply below given),
      )

module _ (p : Profile) (V : ℕ → Type 0) (a b : State) (marks : a.world.phase ≡ Marking) (knows : Knows V (profiled p a))
  where
    -- a get brings what it answers, and what paths of what may be kept lead to from there
    pub known_got_as : (more : ℕ → Type 0) (m d s : ℕ) (reply : Reply) → ((n : ℕ) → V n → more n)
        → IsClosed (may_keep p a.world.policy) more a.world
        → OfValue more (referent_got (reference_of a.world.heap (slot_at a.world.heap m s)))
        → ((n : ℕ) → more n → V n ⊎ EndsPath (may_keep p a.world.policy) (graph_of b.world) n)
        → plain_refusal a (plain.Get m d s) ≡ None → IsRowAs p a (plain_row (plain.Get m d s) reply) b
        → Knows more (profiled p b)
    known_got_as more m d s reply wider closed got old_or_now none h =
        let may : Allowed = may_keep p a.world.policy in
        let keeps : Allowed = is_kept (policy_as p a.world.policy) in
        let narrow : IsClosed keeps more a.world =
        closed_by keeps may more a.world (λ r is. sym (kept_under p a.world.policy r) ∙ is) closed in
        known_got V (profiled p a) (profiled p b) marks knows more m d s reply wider
        (record {
          slots = closed.slots;
          holds = closed.holds;
          pendings = closed.pendings;
          targets = narrow.targets;
        })
        got
        (λ n is.
        elim (old_or_now n is) [
          | inl old ↦ inl old
          | inr now ↦
              inr (ends-wider may keeps (λ r yes. kept_under p a.world.policy r ∙ yes) (graph_of b.world) n now)
        ])
        none (mutator_row_under p a b (plain.Get m d s) reply tt none h)

    -- a making brings the new object
    pub known_new_as : (m d k : ℕ) (reply : Reply) → is_there a.world.heap.objects a.next ≡ false
        → 16 * m + d < length a.world.heap.slots → plain_refusal a (plain.New m d k) ≡ None
        → IsRowAs p a (plain_row (plain.New m d k) reply) b → Knows (WithNext V a) (profiled p b)
    known_new_as m d k reply new within none h =
        known_new V (profiled p a) (profiled p b) marks knows m d k reply new within none
        (mutator_row_under p a b (plain.New m d k) reply tt none h)

    -- and so does one of a reference
    pub known_refer_as : (m : ℕ) (strength : Strength) (d s : ℕ) (q : Option ℕ) (k : ℕ) (reply : Reply)
        → is_there a.world.heap.objects a.next ≡ false → 16 * m + d < length a.world.heap.slots
        → plain_refusal a (plain.Refer m strength d s q k) ≡ None
        → IsRowAs p a (plain_row (plain.Refer m strength d s q k) reply) b → Knows (WithNext V a) (profiled p b)
    known_refer_as m strength d s q k reply new within none h =
        known_refer V (profiled p a) (profiled p b) marks knows m strength d s q k reply new within none
        (mutator_row_under p a b (plain.Refer m strength d s q k) reply tt none h)
