-- Rows of a collector of any profile that say anew whether an object is left: a begin, and a load or a get that answers
-- an object in a mark. Each leads the set of states that fit on to all that may be said then.
use Rattle.ref_base.proofs.Common.{◌≡◌, ℕ, Bool, true, false, None, refl, sym, ap}
use Rattle.ref_base.proofs.Common.{◌∙◌, subst, State, is_in, ticked}
use Rattle.ref_base.specs.Refusals.{plain_refusal}
use Rattle.ref_base.specs.declared.phase.Phase.TheVariants.{Marking}
use Rattle.ref_base.specs.declared.plain_step.PlainStep.{PlainStep}
use Rattle.ref_base.specs.declared.plain_step.PlainStep.TheVariants as plain
use Rattle.ref_base.specs.declared.reply.Reply.{Reply}
use Rattle.ref_base.specs.declared.reply.Reply.TheVariants as replies
use Rattle.ref_base.specs.declared.urgency.Urgency.{Urgency}
use Rattle.ref_base.proofs.Fitting.{Fits, saying, may, begun_to, loaded_to, got_to}
use Rattle.ref_base.proofs.PlainRows.{plain_row}
use Rattle.ref_judge.specs.ProfiledRows.{IsRowAs, IsButAs}
use Rattle.ref_judge.specs.Standing.{DecidesAs}
use Rattle.ref_judge.specs.declared.profile.Profile.{Profile}
use Rattle.ref_judge.proofs.FittingRows.{load_but_as, load_fits_as, fits_loaded_as, get_but_as, get_fits_as}
use Rattle.ref_judge.proofs.FittingRows.{fits_got_as, begin_but_as, begin_fits_as, fits_begun_as}

-- Where such a row leads: from each state that fitted to each that fits, and to no other.
pub record LeadsAnew (p : Profile) (a b : State) (step : PlainStep) (reply : Reply) (is_left : Bool) : Type 0 where
  pub on :
      (s t : State) (may_left may_none : Bool) → Fits a may_left may_none s → IsRowAs p s (plain_row step reply) t
      → Fits b is_left true t
  pub back :
      (s t : State) (may_left may_none : Bool) → Fits a may_left may_none s → Fits b is_left true t
      → IsRowAs p s (plain_row step reply) t

-- the state itself may be said
pub itself : (a : State) → Fits a true true a
itself a = (a.left, refl, of_bit a.left)
  where
    of_bit : (left : Bool) → may left true true ≡ true
    of_bit true = refl
    of_bit false = refl

-- what fits one state fits another that differs in what is said
pub alike : (c b t : State) (said is_left : Bool) → b ≡ saying c said → Fits c is_left true t → Fits b is_left true t
alike c b t said is_left is fits = (fits.0, fits.1 ∙ ap (λ (s : State). saying s fits.0) (sym is), fits.2)

pub back_alike : (c b t : State) (said is_left : Bool) → b ≡ saying c said → Fits b is_left true t
    → Fits c is_left true t
back_alike c b t said is_left is fits = (fits.0, fits.1 ∙ ap (λ (s : State). saying s fits.0) is, fits.2)

-- and what is left is left
pub decides_alike : (p : Profile) (c b : State) (said is_left : Bool) → b ≡ saying c said → DecidesAs p is_left b
    → DecidesAs p is_left c
decides_alike p c b said is_left is decides = subst (λ (s : State). DecidesAs p is_left s) is decides

-- from what it says at one state
anew_of : (p : Profile) (a b c : State) (step : PlainStep) (reply : Reply) (is_left : Bool) → IsButAs p c b
    → DecidesAs p is_left b
    → ((s t : State) (may_left may_none : Bool) → DecidesAs p is_left c → Fits a may_left may_none s
    → IsRowAs p s (plain_row step reply) t → Fits c is_left true t)
    → ((s t : State) (may_left may_none : Bool) → DecidesAs p is_left c → Fits a may_left may_none s
    → Fits c is_left true t → IsRowAs p s (plain_row step reply) t)
    → LeadsAnew p a b step reply is_left
anew_of p a b c step reply is_left but decides on back =
    let decided = decides_alike p c b but.0 is_left but.1 decides in record {
      on = λ s t l n fits h. alike c b t but.0 is_left but.1 (on s t l n decided fits h);
      back = λ s t l n fits after. back s t l n decided fits (back_alike c b t but.0 is_left but.1 after);
    }

module _ (p : Profile) (a b : State) (is_left : Bool) (decides : DecidesAs p is_left b) where
  pub load_leads : (m d r i n : ℕ) → is_in a.world.phase Marking ≡ true → plain_refusal a (plain.Load m d r i) ≡ None
      → IsRowAs p a (plain_row (plain.Load m d r i) (replies.Object n)) b
      → LeadsAnew p a b (plain.Load m d r i) (replies.Object n) is_left
  load_leads m d r i n marks none h =
      let here = load_but_as p a a b true true is_left marks (itself a) m d r i n none h in
      anew_of p a b (ticked (loaded_to a m d n)) (plain.Load m d r i) (replies.Object n) is_left here.1 decides
      (λ s t l o decided fits row. (load_fits_as p a s t l o is_left marks fits m d r i n none decided row).1)
      (λ s t l o decided fits after. fits_loaded_as p a s t l o is_left marks fits m d r i n none decided here.0 after)

  pub get_leads : (m d r n : ℕ) → is_in a.world.phase Marking ≡ true → plain_refusal a (plain.Get m d r) ≡ None
      → IsRowAs p a (plain_row (plain.Get m d r) (replies.Object n)) b
      → LeadsAnew p a b (plain.Get m d r) (replies.Object n) is_left
  get_leads m d r n marks none h =
      let here = get_but_as p a a b true true is_left marks (itself a) m d r n none h in
      anew_of p a b (ticked (got_to a m d r n)) (plain.Get m d r) (replies.Object n) is_left here.1 decides
      (λ s t l o decided fits row. (get_fits_as p a s t l o is_left marks fits m d r n none decided row).1)
      (λ s t l o decided fits after. fits_got_as p a s t l o is_left marks fits m d r n none decided here.0 after)

  pub begin_leads : (now : ℕ) (how : Urgency) (reply : Reply) → plain_refusal a (plain.Begin now how) ≡ None
      → IsRowAs p a (plain_row (plain.Begin now how) reply) b → LeadsAnew p a b (plain.Begin now how) reply is_left
  begin_leads now how reply none h =
      let here = begin_but_as p a a b now how reply true true none (itself a) h in
      anew_of p a b (ticked (begun_to a now how)) (plain.Begin now how) reply is_left here.1 decides
      (λ s t l o decided fits row. (begin_fits_as p a s t now how reply l o is_left none decided fits row).1)
      (λ s t l o decided fits after.
      subst (λ (r : Reply). IsRowAs p s (plain_row (plain.Begin now how) r) t) (sym here.0)
      (fits_begun_as p a s t now how l o is_left none decided fits after))
