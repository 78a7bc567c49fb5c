-- In a mark no row but a making and a get brings anything new to what was ever kept: a making the new object, a get
-- what it answers and what kept paths lead to from there. As a mark begins it is what is kept then.
use Rattle.ref_base.proofs.Common.{arith, ◌≡◌, ℕ, ◌+◌, ◌*◌, ◌<◌, ◌==◌, true, false, List, [], ◌∷◌, ◌++◌, length, Option}
use Rattle.ref_base.proofs.Common.{Some, None, is_some, refl, sym, ap, ◌∙◌, subst, inl, inr, ◌⊎◌, cases_Bool, eq-eqb}
use Rattle.ref_base.proofs.Common.{has, true≢false, Object, object_at, is_there, plain_object, targets_at, present}
use Rattle.ref_base.proofs.Common.{slot_at, nulls, new_reference, made, World, with_heap, pending_of, pending_numbers}
use Rattle.ref_base.proofs.Common.{Graph, graph_of, NamedStep, State, HeapAccepts, referent_got, reference_of}
use Rattle.ref_base.proofs.Common.{heap_refusal, Marking, Clearing, Reply, is_in, ticked, Policy, EverKept, IsKept}
use Rattle.ref_base.proofs.Common.{is_kept, Strength, Urgency}
use Rattle.ref_base.specs.CollectorRows.{Makes}
use Rattle.ref_base.proofs.HasLaws.{has-left}
use Rattle.ref_base.proofs.PathLaws.{root_ends}
use Rattle.ref_base.proofs.Lookups.{object_at-push, object_at-pushed, has-present_here}
use Rattle.ref_base.proofs.CarryRows.{all_more}
use Rattle.ref_base.proofs.RowForms.{ticked_world}
use Rattle.ref_base.proofs.Outcomes.{IsNoEnd, outcome}
use Rattle.ref_base.proofs.OutcomeParts.{outcome_stage, outcome_phase}
use Rattle.ref_base.proofs.ReplayKeeps.{EndsNoPhase}
use Rattle.ref_base.proofs.ReplayUnder.{made_number}
use Rattle.ref_base.proofs.ApartWorlds.{OfValue, IsClosed, closed_ends}
use Rattle.ref_base.proofs.ClosedRows.{OfGot, names_in, closed_on}
use Rattle.ref_base.proofs.OffSets.{target_there}
use Rattle.ref_base.proofs.Bases.{base, heap_base, lead_of, Needs}
use Rattle.ref_base.specs.declared.heap_step.HeapStep.TheVariants as heap
use Rattle.ref_base.specs.declared.plain_step.PlainStep.TheVariants as plain

-- the step may come in a mark, makes nothing, gets nothing, and begins and ends nothing
abbrev pub KeepsEver : NamedStep → Type 0
KeepsEver (heap.Plain (plain.New m d k)) = ⊥
KeepsEver (heap.Plain (plain.Refer m strength d s q k)) = ⊥
KeepsEver (heap.Plain (plain.Get m d s)) = ⊥
KeepsEver (heap.Plain (plain.Begin now how)) = ⊥
KeepsEver (heap.Plain plain.EndMark) = ⊥
KeepsEver (heap.Plain (plain.ClearNext k)) = ⊥
KeepsEver (heap.Plain plain.EndClear) = ⊥
KeepsEver (heap.Plain (plain.Sweep k)) = ⊥
KeepsEver (heap.Plain plain.EndSweep) = ⊥
KeepsEver (heap.Plain plain.Select) = ⊥
KeepsEver (heap.Plain (plain.MoveNext k)) = ⊥
KeepsEver (heap.Plain plain.EndMove) = ⊥
KeepsEver step = Unit {0}

-- a step that keeps what was ever kept makes nothing
makes_none : (step : NamedStep) (reply : Reply) (n : ℕ) → KeepsEver step → made_number step reply ≡ Some n → ⊥
makes_none (heap.Plain (plain.New m d k)) reply n keeps made = keeps
makes_none (heap.Plain (plain.Refer m strength d s q k)) reply n keeps made = keeps
makes_none step reply n keeps made = absurd cc

-- and gets nothing
gets_none : (V : ℕ → Type 0) (a : State) (step : NamedStep) → KeepsEver step → OfGot V a step
gets_none V a (heap.Plain (plain.Get m d s)) keeps = absurd keeps
gets_none V a step keeps = tt

-- ---- what was ever kept

-- the set has just what was ever kept in this mark, and it is closed
pub record IsEver (V : ℕ → Type 0) (a : State) : Type 0 where
  pub sound : (n : ℕ) → V n → EverKept a.world.policy a.moments n
  pub complete : (n : ℕ) → EverKept a.world.policy a.moments n → V n
  pub closed : IsClosed (is_kept a.world.policy) V a.world

-- the step may come in a mark, and neither begins nor ends one
abbrev pub InMark : NamedStep → Type 0
InMark (heap.Plain (plain.Begin now how)) = ⊥
InMark (heap.Plain plain.EndMark) = ⊥
InMark (heap.Plain (plain.ClearNext k)) = ⊥
InMark (heap.Plain plain.EndClear) = ⊥
InMark (heap.Plain (plain.Sweep k)) = ⊥
InMark (heap.Plain plain.EndSweep) = ⊥
InMark (heap.Plain plain.Select) = ⊥
InMark (heap.Plain (plain.MoveNext k)) = ⊥
InMark (heap.Plain plain.EndMove) = ⊥
InMark step = Unit {0}

-- a step that keeps what was ever kept may come in a mark
pub in_mark : (step : NamedStep) → KeepsEver step → InMark step
in_mark (heap.Plain (plain.Begin now how)) keeps = absurd keeps
in_mark (heap.Plain plain.EndMark) keeps = absurd keeps
in_mark (heap.Plain (plain.ClearNext k)) keeps = absurd keeps
in_mark (heap.Plain plain.EndClear) keeps = absurd keeps
in_mark (heap.Plain (plain.Sweep k)) keeps = absurd keeps
in_mark (heap.Plain plain.EndSweep) keeps = absurd keeps
in_mark (heap.Plain plain.Select) keeps = absurd keeps
in_mark (heap.Plain (plain.MoveNext k)) keeps = absurd keeps
in_mark (heap.Plain plain.EndMove) keeps = absurd keeps
in_mark step keeps = tt

-- a step in a mark asks for no other phase
pub needs_none : (a : State) (step : NamedStep) → InMark step → Needs a step
needs_none a (heap.Plain (plain.MoveNext k)) inside = absurd inside
needs_none a step inside = tt

-- and it ends no mark
pub leads_out : (a : State) (step : NamedStep) (reply : Reply) → InMark step
    → lead_of a step reply ≡ outcome a step reply
leads_out a (heap.Plain plain.EndMark) reply inside = absurd inside
leads_out a step reply inside = refl

ends_none : (step : NamedStep) → InMark step → EndsNoPhase step
ends_none (heap.Plain (plain.Begin now how)) inside = absurd inside
ends_none (heap.Plain plain.EndMark) inside = absurd inside
ends_none (heap.Plain plain.EndClear) inside = absurd inside
ends_none (heap.Plain plain.EndSweep) inside = absurd inside
ends_none (heap.Plain plain.Select) inside = absurd inside
ends_none (heap.Plain plain.EndMove) inside = absurd inside
ends_none step inside = tt

no_end : (step : NamedStep) → InMark step → IsNoEnd step
no_end (heap.Plain plain.EndMark) inside = absurd inside
no_end step inside = tt

in_one_phase : Marking ≡ Clearing → ⊥
in_one_phase is = absurd cc

-- where such a step leads, before its own moment, there are the moments of before
out_moments : (a : State) (step : NamedStep) (reply : Reply) → InMark step
    → (outcome a step reply).moments ≡ a.moments
out_moments a (heap.Plain (plain.Begin now how)) reply inside = absurd inside
out_moments a (heap.Plain (plain.ClearNext k)) reply inside = absurd inside
out_moments a (heap.Plain (plain.Sweep k)) reply inside = absurd inside
out_moments a step reply inside = refl

-- and then there is one moment more
pub ticked_moments : (c : State) → c.world.phase ≡ Marking → (ticked c).moments ≡ graph_of c.world ∷ c.moments
ticked_moments c marks = simp marks refl

ticked_next : (c : State) → (ticked c).next ≡ c.next
ticked_next c =
    elim (cases_Bool (is_in c.world.phase Marking)) [ inl marks ↦ simp marks refl | inr other ↦ simp other refl ]

-- after a begin there is one moment
begun_moments : (a b : State) (now : ℕ) (how : Urgency) (reply : Reply)
    → HeapAccepts a (heap.Plain (plain.Begin now how)) reply b → b.moments ≡ graph_of b.world ∷ []
begun_moments a b now how reply row =
    ap (λ (s : State). s.moments) row.1.1
    ∙ ap (λ (w : World). graph_of w ∷ []) (sym (ap (λ (s : State). s.world) row.1.1))

-- an object that comes last is there
there_pushed : (os : List Object) (o : Object) (n : ℕ) → o.no ≡ n → is_there (os ++ o ∷ []) n ≡ true
there_pushed os o n same =
    elim (cases_Bool (is_there os n)) [
      | inl there ↦ ap is_some (object_at-push os o n there) ∙ there
      | inr new ↦
          ap is_some (object_at-pushed os o n new)
          ∙ subst (λ (k : ℕ). is_there (o ∷ []) k ≡ true) same (own o)
    ]
  where
    own : (o : Object) → is_there (o ∷ []) o.no ≡ true
    own o = let same : (o.no == o.no) ≡ true = eq-eqb o.no o.no refl in simp same refl

-- ---- one more moment

module _ (V more : ℕ → Type 0) (a b : State) (ever : IsEver V a) (wider : (n : ℕ) → V n → more n) where
  -- where what is more is kept at this moment, and the whole is closed, it has what was ever kept
  pub one_moment : b.moments ≡ graph_of b.world ∷ a.moments → b.world.policy ≡ a.world.policy
      → ((n : ℕ) → more n → V n ⊎ IsKept a.world.policy (graph_of b.world) n)
      → IsClosed (is_kept a.world.policy) more b.world → IsEver more b
  one_moment moments policy old_or_now closed = record {
    sound = λ n is. back n (of_old n (old_or_now n is));
    complete = λ n kept. within n (forth n kept);
    closed = subst (λ (p : Policy). IsClosed (is_kept p) more b.world) (sym policy) closed;
  }
    where
      back : (n : ℕ) → EverKept a.world.policy (graph_of b.world ∷ a.moments) n
          → EverKept b.world.policy b.moments n
      back n kept =
          subst (λ (p : Policy). EverKept p b.moments n) (sym policy)
          (subst (λ (gs : List Graph). EverKept a.world.policy gs n) (sym moments) kept)

      forth : (n : ℕ) → EverKept b.world.policy b.moments n
          → EverKept a.world.policy (graph_of b.world ∷ a.moments) n
      forth n kept =
          subst (λ (gs : List Graph). EverKept a.world.policy gs n) moments
          (subst (λ (p : Policy). EverKept p b.moments n) policy kept)

      of_old : (n : ℕ) → V n ⊎ IsKept a.world.policy (graph_of b.world) n
          → EverKept a.world.policy (graph_of b.world ∷ a.moments) n
      of_old n (inl old) = inr (ever.sound n old)
      of_old n (inr now) = inl now

      within : (n : ℕ) → EverKept a.world.policy (graph_of b.world ∷ a.moments) n → more n
      within n (inl now) = closed_ends (is_kept a.world.policy) more b.world n closed now
      within n (inr before) = wider n (ever.complete n before)

-- a row of a mark adds its moment, or changes nothing
pub row_moment : (a b : State) (step : NamedStep) (reply : Reply) → InMark step → a.world.phase ≡ Marking
    → HeapAccepts a step reply b
    → ((b.moments ≡ graph_of b.world ∷ a.moments) × (b.world.policy ≡ a.world.policy)) ⊎ (b ≡ a)
row_moment a b step reply inside marks row =
    elim (heap_base a b step reply (needs_none a step inside) row) [
      | inl tells ↦ inl (led tells.1)
      | inr refused ↦ inr refused.1
    ]
  where
    out : State
    out = outcome a step reply

    led : base b ≡ base (ticked (lead_of a step reply))
        → (b.moments ≡ graph_of b.world ∷ a.moments) × (b.world.policy ≡ a.world.policy)
    led is =
        let to : base b ≡ base (ticked out) =
        is ∙ ap (λ (s : State). base (ticked s)) (leads_out a step reply inside) in
        let no_end : EndsNoPhase step = ends_none step inside in
        let world : b.world ≡ out.world = ap (λ (s : State). s.world) to ∙ ticked_world out in
        let phase : out.world.phase ≡ Marking = outcome_phase a step reply no_end ∙ marks in
        let policy : out.world.policy ≡ a.world.policy =
        ap (λ (w : World). w.policy) (outcome_stage a step reply no_end) in
        let moments : b.moments ≡ graph_of out.world ∷ a.moments =
        ap (λ (s : State). s.moments) to ∙ ticked_moments out phase
        ∙ ap (λ (gs : List Graph). graph_of out.world ∷ gs) (out_moments a step reply inside) in (
          moments ∙ ap (λ (w : World). graph_of w ∷ a.moments) (sym world),
          ap (λ (w : World). w.policy) world ∙ policy,
        )

-- the set with the number of what is made next
abbrev pub WithNext : (ℕ → Type 0) → State → ℕ → Type 0
WithNext V a n = V n ⊎ (n ≡ a.next)

module _ (V : ℕ → Type 0) (a b : State) (ever : IsEver V a) (marks : a.world.phase ≡ Marking) where
  -- a row of a mark leaves a set closed that has what is made and what is got
  stays : (more : ℕ → Type 0) (step : NamedStep) (reply : Reply) → InMark step
      → IsClosed (is_kept a.world.policy) more a.world → heap_refusal a step ≡ None
      → (made_number step reply ≡ Some a.next → more a.next) → OfGot more a step → HeapAccepts a step reply b
      → IsClosed (is_kept a.world.policy) more b.world
  stays more step reply inside closed none made got row =
      closed_on (is_kept a.world.policy) more a b closed step reply (no_end step inside) none
      (names_in (is_kept a.world.policy) more a b closed step reply made got none row) got
      (λ clearing. absurd (in_one_phase (sym marks ∙ clearing))) row

  -- a row of a mark but a making and a get leaves what was ever kept as it is
  pub ever_row : (step : NamedStep) (reply : Reply) → KeepsEver step → heap_refusal a step ≡ None
      → HeapAccepts a step reply b → IsEver V b
  ever_row step reply keeps none row =
      elim (row_moment a b step reply (in_mark step keeps) marks row) [
        | inl told ↦
            one_moment V V a b ever (λ n is. is) told.0 told.1 (λ n is. inl is)
            (stays V step reply (in_mark step keeps) ever.closed none
            (λ made. absurd (makes_none step reply a.next keeps made)) (gets_none V a step keeps) row)
        | inr same ↦ subst (IsEver V) (sym same) ever
      ]

  -- a get adds what it answers, and what kept paths lead to from there
  pub ever_got : (more : ℕ → Type 0) (m d s : ℕ) (reply : Reply) → ((n : ℕ) → V n → more n)
      → IsClosed (is_kept a.world.policy) more a.world
      → OfValue more (referent_got (reference_of a.world.heap (slot_at a.world.heap m s)))
      → ((n : ℕ) → more n → V n ⊎ IsKept a.world.policy (graph_of b.world) n)
      → heap_refusal a (heap.Plain (plain.Get m d s)) ≡ None
      → HeapAccepts a (heap.Plain (plain.Get m d s)) reply b → IsEver more b
  ever_got more m d s reply wider closed got old_or_now none row =
      elim (row_moment a b (heap.Plain (plain.Get m d s)) reply tt marks row) [
        | inl told ↦
            one_moment V more a b ever wider told.0 told.1 old_or_now
            (stays more (heap.Plain (plain.Get m d s)) reply tt closed none (λ made. absurd cc) got row)
        | inr same ↦ changed same
      ]
    where
      -- nothing changed: then what is more is kept already
      changed : b ≡ a → IsEver more b
      changed same = subst (IsEver more) (sym same) (record {
        sound = λ n is. elim (old_or_now n is) [
          | inl old ↦ ever.sound n old
          | inr now ↦
              ever.sound n
              (closed_ends (is_kept a.world.policy) V a.world n ever.closed
              (subst (λ (t : State). IsKept a.world.policy (graph_of t.world) n) same now))
        ];
        complete = λ n kept. wider n (ever.complete n kept);
        closed = closed;
      })

  -- ---- a making adds the new object

  -- what holds of the set holds of the set with the next number
  value_with : (value : Option ℕ) → OfValue V value → OfValue (WithNext V a) value
  value_with None is = tt
  value_with (Some n) is = inl is

  -- nothing refers to what isn't there yet, nor does that to anything
  closed_with : is_there a.world.heap.objects a.next ≡ false → IsClosed (is_kept a.world.policy) (WithNext V a) a.world
  closed_with new = record {
    slots = λ i. value_with _ (ever.closed.slots i);
    holds = λ n is. inl (ever.closed.holds n is);
    pendings = λ k.
        all_more (λ p. V p.object) (λ p. WithNext V a p.object) (pending_of a.world k) (λ p is. inl is)
        (ever.closed.pendings k);
    targets = λ m n has_it target. elim has_it [
      | inl old ↦ inl (ever.closed.targets m n old target)
      | inr same ↦
          absurd (none n
          (subst (λ (k : ℕ). has (targets_at (is_kept a.world.policy) a.world.heap.objects k) n ≡ true) same target))
    ];
  }
    where
      none : (n : ℕ) → has (targets_at (is_kept a.world.policy) a.world.heap.objects a.next) n ≡ true → ⊥
      none n target =
          true≢false
          (sym (target_there (is_kept a.world.policy) (object_at a.world.heap.objects a.next) n target) ∙ new)

  -- the new object is kept, since a slot holds it
  made_kept : (m d : ℕ) (o : Object) (reply : Reply) → o.no ≡ a.next → 16 * m + d < length a.world.heap.slots
      → Makes a m d o reply b → IsKept a.world.policy (graph_of b.world) a.next
  made_kept m d o reply number within row =
      let w : World = with_heap a.world (made a.world.heap m d o) in
      let is : b.world ≡ w =
      ap (λ (s : State). s.world) row.1 ∙ ticked_world (record a { world = w; next = a.next + 1 }) in
      subst (λ (v : World). IsKept a.world.policy (graph_of v) a.next) (sym is)
      (root_ends (is_kept a.world.policy) (graph_of w) a.next (there_pushed a.world.heap.objects o a.next number)
      (has-left (present w.heap.slots ++ w.heap.holds) (pending_numbers w.pending) a.next
      (has-left (present w.heap.slots) w.heap.holds a.next
      (subst (λ (k : ℕ). has (present w.heap.slots) k ≡ true) number
      (has-present_here a.world.heap.slots (16 * m + d) o.no within)))))

  -- a making changes something: the next number
  made_more : (m d : ℕ) (o : Object) (reply : Reply) → Makes a m d o reply b → (b ≡ a) → ⊥
  made_more m d o reply row same =
      let w : World = with_heap a.world (made a.world.heap m d o) in
      let next : b.next ≡ a.next + 1 =
      ap (λ (s : State). s.next) row.1 ∙ ticked_next (record a { world = w; next = a.next + 1 }) in
      let old : b.next ≡ a.next = ap (λ (s : State). s.next) same in
      omega (arith, next, old)

  -- a making adds the new object to what was ever kept
  makes : (step : NamedStep) (m d : ℕ) (o : Object) (reply : Reply) → InMark step → OfGot (WithNext V a) a step
      → o.no ≡ a.next → is_there a.world.heap.objects a.next ≡ false → 16 * m + d < length a.world.heap.slots
      → heap_refusal a step ≡ None → Makes a m d o reply b → HeapAccepts a step reply b → IsEver (WithNext V a) b
  makes step m d o reply inside got number new within none making row =
      elim (row_moment a b step reply inside marks row) [
        | inl moment ↦
            one_moment V (WithNext V a) a b ever (λ n is. inl is) moment.0 moment.1 now
            (stays (WithNext V a) step reply inside (closed_with new) none (λ made. inr refl) got row)
        | inr same ↦ absurd (made_more m d o reply making same)
      ]
    where
      now : (n : ℕ) → WithNext V a n → V n ⊎ IsKept a.world.policy (graph_of b.world) n
      now n (inl old) = inl old
      now n (inr same) =
          inr (subst (λ (k : ℕ). IsKept a.world.policy (graph_of b.world) k) (sym same)
          (made_kept m d o reply number within making))

  -- where the slot is there, and no object has the next number, a making adds that to what was ever kept
  pub ever_new : (m d k : ℕ) (reply : Reply) → is_there a.world.heap.objects a.next ≡ false
      → 16 * m + d < length a.world.heap.slots → heap_refusal a (heap.Plain (plain.New m d k)) ≡ None
      → HeapAccepts a (heap.Plain (plain.New m d k)) reply b → IsEver (WithNext V a) b
  ever_new m d k reply new within none row =
      makes (heap.Plain (plain.New m d k)) m d (plain_object a.next (nulls k)) reply tt tt refl new within none row row

  -- and so does one of a reference
  pub ever_refer : (m : ℕ) (strength : Strength) (d s : ℕ) (q : Option ℕ) (k : ℕ) (reply : Reply)
      → is_there a.world.heap.objects a.next ≡ false → 16 * m + d < length a.world.heap.slots
      → heap_refusal a (heap.Plain (plain.Refer m strength d s q k)) ≡ None
      → HeapAccepts a (heap.Plain (plain.Refer m strength d s q k)) reply b → IsEver (WithNext V a) b
  ever_refer m strength d s q k reply new within none row =
      makes (heap.Plain (plain.Refer m strength d s q k)) m d
      (new_reference a.world.heap a.next strength (slot_at a.world.heap m s) q k) reply tt tt refl new within none
      row row

-- ---- a mark begins

-- what is kept as a mark begins is all that was ever kept in it
pub ever_begun : (V : ℕ → Type 0) (a b : State) (now : ℕ) (how : Urgency) (reply : Reply)
    → ((n : ℕ) → V n → IsKept b.world.policy (graph_of b.world) n) → IsClosed (is_kept b.world.policy) V b.world
    → HeapAccepts a (heap.Plain (plain.Begin now how)) reply b → IsEver V b
ever_begun V a b now how reply kept closed row = record {
  sound = λ n is.
      subst (λ (gs : List Graph). EverKept b.world.policy gs n) (sym (begun_moments a b now how reply row))
      (inl (kept n is));
  complete = λ n ever.
      only n (subst (λ (gs : List Graph). EverKept b.world.policy gs n) (begun_moments a b now how reply row) ever);
  closed = closed;
}
  where
    only : (n : ℕ) → EverKept b.world.policy (graph_of b.world ∷ []) n → V n
    only n (inl is) = closed_ends (is_kept b.world.policy) V b.world n closed is
    only n (inr none) = absurd none
