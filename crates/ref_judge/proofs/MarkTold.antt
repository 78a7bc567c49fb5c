-- What a judge tells of a mark's end that isn't accepted: since an object is left, or with another answer.
use Rattle.ref_base.proofs.Common.{◌≡◌, ◌||◌, ℕ, Bool, true, false, List, Some, None, refl, sym, ap, ◌∙◌, subst}
use Rattle.ref_base.proofs.Common.{inl, inr, State, is_in, refusal, false≢true, length, doomed_at}
use Rattle.std.specs.Prelude.{Result, Ok, Err, if◌then◌else◌}
use Rattle.ref_base.specs.Refusals.{unless}
use Rattle.ref_base.specs.declared.fault.Fault.{Fault}
use Rattle.ref_base.specs.declared.fault.Fault.TheVariants.{WrongPhase, GreyLeft}
use Rattle.ref_base.specs.declared.phase.Phase.{Phase}
use Rattle.ref_base.specs.declared.phase.Phase.TheVariants.{Marking, Clearing}
use Rattle.ref_base.specs.declared.plain_step.PlainStep.TheVariants as plain
use Rattle.ref_base.specs.declared.reply.Reply.{Reply}
use Rattle.ref_base.specs.declared.reply.Reply.TheVariants as replies
use Rattle.ref_base.specs.declared.step.Step.TheVariants as steps
use Rattle.ref_base.proofs.Fitting.{Fits, refused_end}
use Rattle.ref_base.proofs.FreeRows.{freed}
use Rattle.ref_base.proofs.RowForms.{unless_passes}
use Rattle.ref_judge.specs.Judged.{Judged}
use Rattle.ref_judge.specs.Standing.{StandsFor, IsOfSomeState, FitsIn, FitsIt, HasNone, TellsOf}
use Rattle.ref_judge.specs.declared.stop.Stop.{Stop}
use Rattle.ref_judge.specs.declared.stop.Stop.TheVariants as stop
use Rattle.ref_judge.proofs.ClearingRows.{refused_first}
use Rattle.ref_judge.proofs.EndChecks.{in_mark}
use Rattle.ref_judge.proofs.FittingRows.{grey_fits_as, fits_grey_as}
use Rattle.ref_judge.proofs.FreeAnswers.{end_answers_as}
use Rattle.ref_judge.proofs.SoundJudges.{sound_told}

-- ---- tests

-- what is told of a row that is legal where the bit is true
abbrev told_of : Bool → Result (Unit {0}) Stop
told_of legal = if legal then Ok tt else Err stop.Illegal

-- the bit of a row that is told to be legal, and of one that isn't
pub legal_bit : (legal : Bool) (done : Unit {0}) → Ok done ≡ told_of legal → legal ≡ true
legal_bit true done is = refl
legal_bit false done is = absurd cc

pub illegal_bit : (legal : Bool) (s : Stop) → Err s ≡ told_of legal → (s ≡ stop.Illegal) × (legal ≡ false)
illegal_bit true s is = absurd cc
illegal_bit false s is = (err_is s is, refl)
  where
    err_is : (s : Stop) → Err s ≡ told_of false → s ≡ stop.Illegal
    err_is s is = cc

-- ---- the phase

-- a step that no other phase refuses is of a mark
pub in_marking : (p : Phase) → unless (is_in p Marking) WrongPhase None ≡ None → is_in p Marking ≡ true
in_marking p none = (unless_passes (is_in p Marking) WrongPhase None none).0

-- in another phase it is refused
pub mark_refused : (j : Judged) (a : State) (fault : Fault) → StandsFor j a
    → unless (is_in j.phase Marking) WrongPhase None ≡ Some fault → (left : Bool) (found : List (List ℕ))
    → refusal (freed a left found) (steps.Plain plain.EndMark) ≡ Some fault
mark_refused j a fault stands is left found =
    refused_first (is_in a.world.phase Marking) fault _
    (ap (λ (p : Phase). unless (is_in p Marking) WrongPhase None) (sym stands.phase) ∙ is)

-- ---- the answers

-- what may be said of what is left is no part of a state
stands_left : (j : Judged) (a : State) → StandsFor j a → StandsFor (record j { may_be_none = false }) a
stands_left j a s = record {
  lawful = s.lawful;
  heap = s.heap;
  next = s.next;
  holds = s.holds;
  mutator_hands = s.mutator_hands;
  worker_hands = s.worker_hands;
  lines = s.lines;
  phase = s.phase;
  cycle = s.cycle;
  policy = s.policy;
  born = s.born;
  count = s.count;
  chosen = s.chosen;
  doomed = s.doomed;
  kept = s.kept;
  live = s.live;
  tags = record { old = s.tags.old; scanned = s.tags.scanned; put = s.tags.put };
  finders = record {
    pending = s.finders.pending;
    within = s.finders.within;
    found = s.finders.found;
    cleared = s.finders.cleared;
  };
}

module _ (j : Judged) (marks : is_in j.phase Marking ≡ true) where
  -- the states that fit are those of a mark
  pub mark_fits : (a s : State) → FitsIt j a s → Fits a j.may_be_left j.may_be_none s
  mark_fits a s fits = subst (λ (m : Bool). FitsIn m (is_in j.phase Clearing) j a s) marks fits

  pub fits_mark : (a s : State) → Fits a j.may_be_left j.may_be_none s → FitsIt j a s
  fits_mark a s fits = subst (λ (m : Bool). FitsIn m (is_in j.phase Clearing) j a s) (sym marks) fits

  -- then an object is left
  pub grey_told : j.may_be_left ≡ true → TellsOf j refused_end (Ok tt) (record j { may_be_none = false })
  grey_told said = (
    refl,
    refl,
    λ a stands lawful. record {
      state = a;
      stands = stands_left j a stands;
      on = λ s t fits h.
          let now =
          grey_fits_as j.profile a t j.may_be_left j.may_be_none (in_mark j a stands marks) s (mark_fits a s fits) h in
          subst (λ (m : Bool). FitsIn m (is_in j.phase Clearing) (record j { may_be_none = false }) a t) (sym marks)
          (subst (λ (l : Bool). Fits a l false t) (sym said) now.1);
      back = λ t fits.
          let here : Fits a j.may_be_left false t =
          subst (λ (m : Bool). FitsIn m (is_in j.phase Clearing) (record j { may_be_none = false }) a t) marks fits in
          let from =
          fits_grey_as j.profile a t j.may_be_left j.may_be_none (in_mark j a stands marks) said
          (subst (λ (l : Bool). Fits a l false t) said here) in
          (from.0, fits_mark a from.0 from.1, from.2);
    },
  )

  pub grey_sound : IsOfSomeState j → j.may_be_left ≡ true → IsOfSomeState (record j { may_be_none = false })
  grey_sound sound said =
      let settled = sound.settled in
      sound_told j (record j { may_be_none = false }) refused_end sound (grey_told said)
      (record {
        none_grey = settled.none_grey;
        grey_room = settled.grey_room;
        doomed_room = settled.doomed_room;
        config = settled.config;
        none_to_move = settled.none_to_move;
        none_chosen = settled.none_chosen;
        tuned = settled.tuned;
        colour = settled.colour;
        condemning = settled.condemning;
        may = λ is. ap (λ (b : Bool). b || false) said;
        waits = settled.waits;
      })

  pub grey_none : j.may_be_left ≡ false → (a : State) → StandsFor j a → HasNone j refused_end a
  grey_none said a stands s t fits h =
      let now =
      grey_fits_as j.profile a t j.may_be_left j.may_be_none (in_mark j a stands marks) s (mark_fits a s fits) h in
      false≢true (sym said ∙ now.0)

  -- no other answer is one of a mark's end
  pub other_none : (reply : Reply) → (reply ≡ replies.Refused GreyLeft → ⊥)
      → ((count : ℕ) → reply ≡ replies.Doomed count → ⊥) → (a : State) → StandsFor j a
      → HasNone j (record { step = steps.Plain plain.EndMark; reply = reply }) a
  other_none reply no_grey no_count a stands s t fits h =
      let free = mark_fits a s fits in
      let marking : is_in s.world.phase Marking ≡ true =
      subst (λ (u : State). is_in u.world.phase Marking ≡ true) (sym free.1) (in_mark j a stands marks) in
      elim (end_answers_as j.profile s t reply marking h) [
        | inl grey ↦ no_grey grey
        | inr dooms ↦ no_count (length (doomed_at s)) dooms
      ]
