-- What a judge tells of moves, in whose phases a state that fits fits alone.
use Rattle.ref_base.proofs.Common.{◌≡◌, ℕ, Bool, true, false, None, refl, sym, ◌∙◌, ap, subst, inl, inr, State, is_in}
use Rattle.ref_base.proofs.Common.{is_there, Heap, ◌⊎◌}
use Rattle.ref_base.specs.Forgetting.{forgotten}
use Rattle.ref_base.specs.declared.fault.Fault.{Fault}
use Rattle.ref_base.proofs.Forgetting.{forgotten-shape}
use Rattle.ref_base.proofs.Reshaping.{is_there-reshaped}
use Rattle.ref_base.specs.CollectorRows.{move_begun, Selects, Moves, EndsMove}
use Rattle.ref_base.specs.Refusals.{select_refusal, work_refusal, unless}
use Rattle.ref_base.specs.declared.fault.Fault.TheVariants.{NoRoom, AddressesSpent, MovesLeft, WrongPhase}
use Rattle.ref_base.specs.declared.phase.Phase.{Phase}
use Rattle.ref_base.specs.declared.phase.Phase.TheVariants.{Idle, Marking, Clearing, Moving}
use Rattle.ref_base.specs.declared.reply.Reply.{Reply}
use Rattle.ref_base.specs.declared.reply.Reply.TheVariants as replies
use Rattle.ref_base.specs.declared.row.Row.{Row}
use Rattle.ref_base.specs.declared.plain_step.PlainStep.TheVariants as plain
use Rattle.ref_base.proofs.FreeRows.{KeepsRow}
use Rattle.ref_base.proofs.PlainRows.{plain_row}
use Rattle.ref_judge.specs.ProfiledRows.{IsRowAs}
use Rattle.ref_base.specs.declared.heap_step.HeapStep.TheVariants as heap
use Rattle.ref_base.proofs.PhaseLaws.{of_phase}
use Rattle.ref_judge.specs.Judged.{Judged, is_behind_mark}
use Rattle.ref_judge.specs.Standing.{StandsFor, FitsIt, HasNone, LeadsOn, IsOfSomeState, TellsOf}
use Rattle.ref_judge.proofs.ProfiledBases.{one_left_as}
use Rattle.ref_judge.proofs.UnchangedRows.{plain_accepted_as, accepted_plain_as}
use Rattle.ref_judge.proofs.TestedRows.{Stays, fits_freed, fits_itself, itself_fits, phase_known, select_known}
use Rattle.ref_judge.proofs.TestedRows.{work_known}
use Rattle.std.specs.Prelude.{Ok}
use Rattle.ref_judge.proofs.SoundJudges.{sound_told}
use Rattle.ref_judge.proofs.LegalFacts.{lawful_row}
use Rattle.ref_judge.proofs.Rephasing.{rephased, state_rephased, stands_rephased, settled_rephased}

-- only the state itself fits
abbrev pub IsAlone : Judged → Type 0
IsAlone j = (is_in j.phase Marking ≡ false) × (is_in j.phase Clearing ≡ false)

-- a row of the one state that fits leads to the one that fits then
pub alone_leads : (j new : Judged) (row : Row) (a b : State) → IsAlone j → IsAlone new → StandsFor new b
    → KeepsRow a row → IsRowAs j.profile a row b → LeadsOn j new row a
alone_leads j new row a b old then stands keeps h = record {
  state = b;
  stands = stands;
  on = λ s t fits ht.
      itself_fits new b t then.0 then.1
      (one_left_as j.profile a t b row keeps
      (subst (λ (u : State). IsRowAs j.profile u row t) (fits_itself j a s old.0 old.1 fits) ht) h);
  back = λ t fits. (
    a,
    itself_fits j a a old.0 old.1 refl,
    subst (λ (u : State). IsRowAs j.profile a row u) (sym (fits_itself new b t then.0 then.1 fits)) h,
  );
}

module _ (j : Judged) (a s t : State) (stands : StandsFor j a) (fits : FitsIt j a s) where
  -- a state that fits refuses no step that the judge's value does not
  pub select_accepted : (reply : Reply) → select_refusal j.phase j.was_chosen ≡ None
      → IsRowAs j.profile s (plain_row plain.Select reply) t → Selects s reply t
  select_accepted reply none = plain_accepted_as j.profile s t plain.Select reply
      (rw ((fits_freed j a s fits).2) (sym (select_known j a stands) ∙ none))

  pub move_accepted : (k : ℕ) (reply : Reply) → work_refusal j.ground.heap j.phase Moving k ≡ None
      → IsRowAs j.profile s (plain_row (plain.MoveNext k) reply) t → Moves s reply t
  move_accepted k reply none = plain_accepted_as j.profile s t (plain.MoveNext k) reply
      (rw ((fits_freed j a s fits).2) (sym (work_known j a stands Moving k) ∙ none))

  pub end_accepted : (reply : Reply) → unless (is_in j.phase Moving) WrongPhase None ≡ None
      → IsRowAs j.profile s (plain_row plain.EndMove reply) t → EndsMove s reply t
  end_accepted reply none = plain_accepted_as j.profile s t plain.EndMove reply
      (rw ((fits_freed j a s fits).2) (sym (phase_known j a stands Moving) ∙ none))

module _ (j : Judged) (a : State) (stands : StandsFor j a) where
  -- where a choice is not refused, no cycle goes on
  pub idle : select_refusal j.phase j.was_chosen ≡ None → j.phase ≡ Idle
  idle none = stands.phase ∙ (of_phase a (heap.Plain plain.Select) (sym (select_known j a stands) ∙ none)).0

  select_alone : select_refusal j.phase j.was_chosen ≡ None → IsAlone j
  select_alone none = simp (idle none) (refl, refl)

  -- objects are chosen, any number of them
  pub selected : (count : ℕ) → select_refusal j.phase j.was_chosen ≡ None
      → IsRowAs j.profile a (plain_row plain.Select (replies.Selected count)) (move_begun a)
  selected count none =
      accepted_plain_as j.profile a (move_begun a) plain.Select (replies.Selected count)
      (sym (select_known j a stands) ∙ none) (inl (count, (refl, refl)))

  pub selected_leads : (count : ℕ) → select_refusal j.phase j.was_chosen ≡ None
      → LeadsOn j (rephased j Moving true j.ground.condemning) (plain_row plain.Select (replies.Selected count)) a
  selected_leads count none =
      let b : State = move_begun a in
      let row = plain_row plain.Select (replies.Selected count) in
      alone_leads j (rephased j Moving true j.ground.condemning) row a b (select_alone none) (refl, refl)
      (stands_rephased j Moving true j.ground.condemning refl refl a a.found
      (lawful_row j.profile j.config a b row stands.lawful (selected count none)) stands (λ past. absurd cc))
      (tt, inr tt) (selected count none)

  -- whether an object is there, the judge knows
  pub there_known : (n : ℕ) → is_there j.ground.heap.objects n ≡ is_there a.world.heap.objects n
  there_known n =
      ap (λ (h : Heap). is_there h.objects n) stands.heap
      ∙ is_there-reshaped (λ o. forgotten a.doomed o) (forgotten-shape a.doomed) a.world.heap.objects n

  -- ---- the end of moves

  moving : unless (is_in j.phase Moving) WrongPhase None ≡ None → j.phase ≡ Moving
  moving none = stands.phase ∙ of_phase a (heap.Plain plain.EndMove) (sym (phase_known j a stands Moving) ∙ none)

  pub end_leads : unless (is_in j.phase Moving) WrongPhase None ≡ None
      → LeadsOn j (rephased j Idle j.was_chosen j.ground.condemning) (plain_row plain.EndMove replies.Done) a
  end_leads none =
      let b : State = state_rephased a Idle j.was_chosen a.found in
      let row = plain_row plain.EndMove replies.Done in
      let ended : IsRowAs j.profile a row b =
      accepted_plain_as j.profile a b plain.EndMove replies.Done (sym (phase_known j a stands Moving) ∙ none)
      (inl (refl, ap (λ (chosen : Bool). state_rephased a Idle chosen a.found) stands.chosen)) in
      alone_leads j (rephased j Idle j.was_chosen j.ground.condemning) row a b (simp (moving none) (refl, refl))
      (refl, refl)
      (stands_rephased j Idle j.was_chosen j.ground.condemning refl refl a a.found
      (lawful_row j.profile j.config a b row stands.lawful ended) stands (λ past. absurd cc))
      (tt, inr tt) ended

-- the judge is sound then
module _ (j : Judged) (sound : IsOfSomeState j) where
  pub selected_told : (count : ℕ) → select_refusal j.phase j.was_chosen ≡ None
      → TellsOf j (plain_row plain.Select (replies.Selected count)) (Ok tt) (rephased j Moving true j.ground.condemning)
  selected_told count none = (refl, refl, λ a stands lawful. selected_leads j a stands count none)

  pub selected_sound : select_refusal j.phase j.was_chosen ≡ None
      → IsOfSomeState (rephased j Moving true j.ground.condemning)
  selected_sound none =
      let now : j.phase ≡ Idle = idle j sound.state sound.stands none in
      sound_told j (rephased j Moving true j.ground.condemning) (plain_row plain.Select (replies.Selected 0)) sound
      (selected_told 0 none)
      (settled_rephased j Moving true j.ground.condemning refl refl sound.settled (λ going. absurd cc)
      (ap (λ (p : Phase). is_in p Marking) now) (sound.settled.condemning ∙ ap is_behind_mark now))

  pub end_told : unless (is_in j.phase Moving) WrongPhase None ≡ None
      → TellsOf j (plain_row plain.EndMove replies.Done) (Ok tt) (rephased j Idle j.was_chosen j.ground.condemning)
  end_told none = (refl, refl, λ a stands lawful. end_leads j a stands none)

  pub end_sound : unless (is_in j.phase Moving) WrongPhase None ≡ None
      → IsOfSomeState (rephased j Idle j.was_chosen j.ground.condemning)
  end_sound none =
      let now : j.phase ≡ Moving = moving j sound.state sound.stands none in
      sound_told j (rephased j Idle j.was_chosen j.ground.condemning) (plain_row plain.EndMove replies.Done) sound
      (end_told none)
      (settled_rephased j Idle j.was_chosen j.ground.condemning refl refl sound.settled (λ going. absurd cc)
      (ap (λ (p : Phase). is_in p Marking) now) (sound.settled.condemning ∙ ap is_behind_mark now))

-- ---- answers that leave the state as it was

-- a move answers an object or that none is left
pub move_answers : (s t : State) (reply : Reply) → Moves s reply t
    → (reply ≡ replies.Nothing) ⊎ ((n : ℕ) × (reply ≡ replies.Moved n))
move_answers s t (replies.Moved n) row = inr (n, refl)
move_answers s t reply row = inl row.0

module _ (j : Judged) where
  -- a choice is refused for want of room or of addresses
  pub choice_stays : (fault : Fault) → (fault ≡ NoRoom) ⊎ (fault ≡ AddressesSpent)
      → select_refusal j.phase j.was_chosen ≡ None → Stays j (plain_row plain.Select (replies.Refused fault))
  choice_stays fault why none a s t stands fits = (
    λ h. elim (select_accepted j a s t stands fits (replies.Refused fault) none h) [
      | inl chosen ↦ absurd (differ chosen.0 chosen.1.0)
      | inr refused ↦ refused.1
    ],
    accepted_plain_as j.profile s s plain.Select (replies.Refused fault)
        (rw ((fits_freed j a s fits).2) (sym (select_known j a stands) ∙ none))
        (inr (
          elim why [ inl room ↦ inl (ap replies.Refused room) | inr spent ↦ inr (ap replies.Refused spent) ],
          refl,
        )),
  )
    where
      differ : (count : ℕ) → replies.Refused fault ≡ replies.Selected count → ⊥
      differ count is = absurd cc

  -- and for no other fault
  pub no_choice : (fault : Fault) → (fault ≡ NoRoom → ⊥) → (fault ≡ AddressesSpent → ⊥)
      → select_refusal j.phase j.was_chosen ≡ None → (a : State) → StandsFor j a
      → HasNone j (plain_row plain.Select (replies.Refused fault)) a
  no_choice fault room spent none a stands s t fits h =
      elim (select_accepted j a s t stands fits (replies.Refused fault) none h) [
        | inl chosen ↦ differ chosen.0 chosen.1.0
        | inr refused ↦ elim refused.0 [ inl is ↦ room (same NoRoom is) | inr is ↦ spent (same AddressesSpent is) ]
      ]
    where
      differ : (count : ℕ) → replies.Refused fault ≡ replies.Selected count → ⊥
      differ count is = absurd cc

      same : (other : Fault) → replies.Refused fault ≡ replies.Refused other → fault ≡ other
      same other is = cc

  -- an object that is there moves
  pub move_stays : (k n : ℕ) → is_there j.ground.heap.objects n ≡ true
      → work_refusal j.ground.heap j.phase Moving k ≡ None → Stays j (plain_row (plain.MoveNext k) (replies.Moved n))
  move_stays k n there none a s t stands fits = (
    λ h. (move_accepted j a s t stands fits k (replies.Moved n) none h).1,
    accepted_plain_as j.profile s s (plain.MoveNext k) (replies.Moved n)
        (rw ((fits_freed j a s fits).2) (sym (work_known j a stands Moving k) ∙ none))
        (rw ((fits_freed j a s fits).2) (sym (there_known j a stands n) ∙ there), refl),
  )

  -- an object that isn't there doesn't
  pub no_move : (k n : ℕ) → (is_there j.ground.heap.objects n ≡ true → ⊥)
      → work_refusal j.ground.heap j.phase Moving k ≡ None → (a : State) → StandsFor j a
      → HasNone j (plain_row (plain.MoveNext k) (replies.Moved n)) a
  no_move k n none_there none a stands s t fits h =
      none_there (there_known j a stands n
      ∙ subst (λ (u : State). is_there u.world.heap.objects n ≡ true) (fits_freed j a s fits).2
      (move_accepted j a s t stands fits k (replies.Moved n) none h).0)

  -- none is left to move
  pub none_stays : (k : ℕ) → work_refusal j.ground.heap j.phase Moving k ≡ None
      → Stays j (plain_row (plain.MoveNext k) replies.Nothing)
  none_stays k none a s t stands fits = (
    λ h. (move_accepted j a s t stands fits k replies.Nothing none h).1,
    accepted_plain_as j.profile s s (plain.MoveNext k) replies.Nothing
        (rw ((fits_freed j a s fits).2) (sym (work_known j a stands Moving k) ∙ none)) (refl, refl),
  )

  -- some are left to move
  pub moves_left_stays : unless (is_in j.phase Moving) WrongPhase None ≡ None
      → Stays j (plain_row plain.EndMove (replies.Refused MovesLeft))
  moves_left_stays none a s t stands fits = (
    λ h. elim (end_accepted j a s t stands fits (replies.Refused MovesLeft) none h) [
      | inl done ↦ absurd (differ done.0)
      | inr left ↦ left.1
    ],
    accepted_plain_as j.profile s s plain.EndMove (replies.Refused MovesLeft)
        (rw ((fits_freed j a s fits).2) (sym (phase_known j a stands Moving) ∙ none)) (inr (refl, refl)),
  )
    where
      differ : replies.Refused MovesLeft ≡ replies.Done → ⊥
      differ is = absurd cc
