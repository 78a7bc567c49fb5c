-- The states that fit what was answered so far in clearing: they differ in what workers found and have not looked at.
-- How each row takes their set on, from each of them to one, and to each from one of them.
use Rattle.ref_base.proofs.Common.{arith, ◌≡◌, ℕ, zero, suc, ◌<◌, Bool, true, false, if◌then◌else◌, List, [], ◌∷◌, ◌++◌}
use Rattle.ref_base.proofs.Common.{length, Option, Some, None, refl, sym, ap, ◌∙◌, subst, inl, inr, ◌⊎◌, cases_Bool}
use Rattle.ref_base.proofs.Common.{false≢true, true≢false, slice_set, length-set, has, joined, list_at, State, Clearing}
use Rattle.ref_base.proofs.Common.{Sweeping, WrongPhase, is_in, unless, ticked, with_world, with_phase, pended}
use Rattle.ref_base.proofs.Common.{registered_in, reference_at, looked_at, emptied, ClearsNext, IsAnswer, IsRow, World}
use Rattle.ref_base.proofs.Common.{Row, Reply}
use Rattle.ref_base.specs.Members.{AreDistinct}
use Rattle.ref_base.specs.Refusals.{is_empty, plain_refusal}
use Rattle.ref_base.specs.declared.fault.Fault.TheVariants.{ClearingLeft}
use Rattle.ref_base.proofs.FoundLists.{length-emptied, joined-emptied}
use Rattle.ref_base.proofs.PhaseLaws.{of_phase}
use Rattle.ref_base.proofs.FreeRows.{KeepsRow, freed, like, free_row, free_kept, cycle_kept, keeps_like}
use Rattle.ref_base.proofs.PlainRows.{plain_row, plain_accepted, accepted_plain}
use Rattle.ref_base.proofs.FoundFits.{NoneOf, MayFind, found_none, none_found}
use Rattle.ref_base.proofs.FoundStates.{MayHaveFound, standing_with, looked_on, looked_back, none_on, none_back, at_own}
use Rattle.ref_base.proofs.FoundStates.{some_on, some_back}
use Rattle.ref_base.specs.declared.heap_step.HeapStep.TheVariants as heap
use Rattle.ref_base.specs.declared.plain_step.PlainStep.TheVariants as plain
use Rattle.ref_base.specs.declared.step.Step.TheVariants as steps
use Rattle.ref_base.specs.declared.reply.Reply.TheVariants as replies

-- the state in which workers found these
abbrev pub finding : State → List (List ℕ) → State
finding a found = record a { found = found }

-- the states that fit: this one, with lists of which each may be what its worker found, of the references that stand
-- for it; and not all are empty where some are left
abbrev pub FitsFound : State → (ℕ → List ℕ) → Bool → State → Type 0
FitsFound a refs some s =
    (found : List (List ℕ)) × (s ≡ finding a found) × (length found ≡ length a.scanned)
    × MayHaveFound refs a.cleared some found

-- ---- rows that look at nothing

-- a row that keeps what is free leads each state that fits to one that fits
pub found_on : (a s t : State) (refs : ℕ → List ℕ) (some : Bool) (row : Row) → KeepsRow a row
    → FitsFound a refs some s → IsRow s row t → (b : State) × IsRow a row b × FitsFound b refs some t
found_on a s t refs some row keeps fits h =
    let all = free_row a t a.left fits.0 row keeps (subst (λ (u : State). IsRow u row t) fits.1 h) in (
      like t a,
      all.0,
      (
        fits.0,
        ap (λ (f : Bool × List (List ℕ)). freed t f.0 f.1) all.1,
        fits.2 ∙ ap (λ (c : List (List ℕ) × List ℕ × ℕ). length c.0) (sym all.2),
        subst (λ (clears : List ℕ). MayHaveFound refs clears some fits.0)
            (ap (λ (c : List (List ℕ) × List ℕ × ℕ). c.1) (sym all.2)) fits.3,
      ),
    )

-- and each that fits afterwards comes from one that fitted
pub found_back : (a b t : State) (refs : ℕ → List ℕ) (some : Bool) (row : Row) → KeepsRow a row → IsRow a row b
    → FitsFound b refs some t → (s : State) × FitsFound a refs some s × IsRow s row t
found_back a b t refs some row keeps h fits =
    let s : State = finding a fits.0 in
    let all = free_row s b a.left a.found row (keeps_like a b a.left fits.0 row keeps) h in
    let left : b.left ≡ a.left = ap (λ x. x.0) (free_kept a b row keeps h) in
    let cycle = cycle_kept a b row keeps h in (
      s,
      (
        fits.0,
        refl,
        fits.2 ∙ ap (λ (c : List (List ℕ) × List ℕ × ℕ). length c.0) cycle,
        subst (λ (clears : List ℕ). MayHaveFound refs clears some fits.0)
            (ap (λ (c : List (List ℕ) × List ℕ × ℕ). c.1) cycle) fits.3,
      ),
      subst (λ (u : State). IsRow s row u) (sym (fits.1 ∙ ap (λ (l : Bool). freed b l fits.0) left)) all.0,
    )

-- ---- a worker looks at the next that it found

-- in clearing there is no moment of a mark
ticked_clearing : (c : State) → c.world.phase ≡ Clearing → ticked c ≡ c
ticked_clearing c clears = simp clears refl

-- the state in which worker k has looked at n
abbrev pub looked_to : State → ℕ → ℕ → State
looked_to a k n = record a {
  world = if has a.cleared n then pended a.world k n (registered_in (reference_at a.world.heap n)) else a.world;
}

-- a look leaves the phase
phase_pended : (w : World) (k n : ℕ) (queue : Option ℕ) → (pended w k n queue).phase ≡ w.phase
phase_pended w k n None = refl
phase_pended w k n (Some q) = refl

phase_looked : (a : State) (k n : ℕ) → (looked_to a k n).world.phase ≡ a.world.phase
phase_looked a k n =
    elim (cases_Bool (has a.cleared n)) [
      | inl clear ↦ simp clear (phase_pended a.world k n (registered_in (reference_at a.world.heap n)))
      | inr keeps ↦ simp keeps refl
    ]

-- what was set in one place, and set back
set_back : (found : List (List ℕ)) (k : ℕ) (xs : List ℕ) → slice_set (slice_set found k xs) k (list_at found k) ≡ found
set_back [] k xs = refl
set_back (fs ∷ found) zero xs = refl
set_back (fs ∷ found) (suc k) xs = ap (λ l. fs ∷ l) (set_back found k xs)

module _ (a t : State) (refs : ℕ → List ℕ) (some : Bool) (k : ℕ) (none : plain_refusal a (plain.ClearNext k) ≡ None)
    (within : k < length a.scanned) where
  -- where a look is not refused, the phase is clearing
  clearing : a.world.phase ≡ Clearing
  clearing = of_phase a (heap.Plain (plain.ClearNext k)) none

  -- a worker tells that nothing is left for it, where no new clear is; or it looks at a reference that stands for it,
  -- in front of which there is no new clear
  abbrev pub Looks : Reply → Type 0
  Looks reply =
      ((reply ≡ replies.Nothing) × NoneOf a.cleared (refs k) × FitsFound a (standing_with refs k []) some t)
      ⊎ ((n : ℕ) × (front : List ℕ) × (back : List ℕ) × (reply ≡ looked_at a k n) × (refs k ≡ front ++ n ∷ back)
      × NoneOf a.cleared front × FitsFound (looked_to a k n) (standing_with refs k back) false t)

  -- each state that fits is led to one that fits
  pub look_fits : (s : State) (reply : Reply) → AreDistinct (refs k) → FitsFound a refs some s
      → IsRow s (plain_row (plain.ClearNext k) reply) t → Looks reply
  look_fits s reply distinct fits h =
      of_list (list_at fits.0 k) refl
      (plain_accepted (finding a fits.0) t (plain.ClearNext k) reply none
      (subst (λ (u : State). IsRow u (plain_row (plain.ClearNext k) reply) t) fits.1 h))
    where
      of_list : (fs : List ℕ) → list_at fits.0 k ≡ fs → ClearsNext (finding a fits.0) k fs reply t → Looks reply
      of_list [] is row =
          let on = none_on refs a.cleared some fits.0 k is fits.3 in
          inl (row.0, on.0, (fits.0, row.1 ∙ ticked_clearing (finding a fits.0) clearing, fits.2, on.1))
      of_list (n ∷ rest) is row =
          let on =
          looked_on refs a.cleared some fits.0 k n rest (subst (λ (count : ℕ). k < count) (sym fits.2) within) distinct
          is fits.3 in
          inr (
            n,
            on.0.front,
            on.0.back,
            row.0,
            on.0.is,
            on.0.none,
            (
              slice_set fits.0 k rest,
              row.1
                  ∙ ticked_clearing (finding (looked_to a k n) (slice_set fits.0 k rest))
                  (phase_looked a k n ∙ clearing),
              length-set fits.0 k rest ∙ fits.2,
              on.1,
            ),
          )

  -- and each that fits afterwards comes from one that fitted
  pub fits_looked : (n : ℕ) (front back : List ℕ) → refs k ≡ front ++ n ∷ back → NoneOf a.cleared front
      → FitsFound (looked_to a k n) (standing_with refs k back) false t
      → (s : State) × FitsFound a refs some s × IsRow s (plain_row (plain.ClearNext k) (looked_at a k n)) t
  fits_looked n front back is clear fits =
      let rest : List ℕ = list_at fits.0 k in
      let found : List (List ℕ) = slice_set fits.0 k (n ∷ rest) in
      let s : State = finding a found in
      let here : k < length fits.0 = subst (λ (count : ℕ). k < count) (sym fits.2) within in
      let left : t ≡ ticked (finding (looked_to a k n) (slice_set found k rest)) =
      fits.1 ∙ ap (finding (looked_to a k n)) (sym (set_back fits.0 k (n ∷ rest)))
      ∙ sym (ticked_clearing (finding (looked_to a k n) (slice_set found k rest)) (phase_looked a k n ∙ clearing)) in (
        s,
        (
          found,
          refl,
          length-set fits.0 k (n ∷ rest) ∙ fits.2,
          looked_back refs a.cleared some fits.0 k n front back here is clear fits.3,
        ),
        accepted_plain s t (plain.ClearNext k) (looked_at a k n) none
            (subst (λ (fs : List ℕ). ClearsNext s k fs (looked_at a k n) t) (sym (at_own fits.0 k (n ∷ rest) here))
            (refl, left)),
      )

  -- and where nothing is left for it, each that fits afterwards fitted before
  pub fits_none_looked : NoneOf a.cleared (refs k) → FitsFound a (standing_with refs k []) some t
      → (s : State) × FitsFound a refs some s × IsRow s (plain_row (plain.ClearNext k) replies.Nothing) t
  fits_none_looked clear fits =
      let s : State = finding a fits.0 in
      let back = none_back refs a.cleared some fits.0 k clear fits.3 in (
        s,
        (fits.0, refl, fits.2, back.1),
        accepted_plain s t (plain.ClearNext k) replies.Nothing none
            (subst (λ (fs : List ℕ). ClearsNext s k fs replies.Nothing t) (sym back.0)
            (refl, fits.1 ∙ sym (ticked_clearing s clearing))),
      )

-- ---- the end of clearing

-- its rows
abbrev pub left_row : Row
left_row = plain_row plain.EndClear (replies.Refused ClearingLeft)

-- and that where it ends
abbrev pub cleared_row : Row
cleared_row = plain_row plain.EndClear replies.Done

-- refused, or accepted
abbrev EndsAs : State → Bool → Bool → Reply → State → Type 0
EndsAs s clears none reply t =
    IsAnswer s (unless clears WrongPhase (unless none ClearingLeft None)) (steps.Plain plain.EndClear) reply t

-- one answer is not the other
no_refusal : replies.Refused ClearingLeft ≡ replies.Done → ⊥
no_refusal is = absurd cc

-- a refusal says that not all lists are empty
refused_as : (s t : State) (clears none : Bool) → clears ≡ true → EndsAs s clears none (replies.Refused ClearingLeft) t
    → (none ≡ false) × (t ≡ s)
refused_as s t false none is row = absurd (false≢true is)
refused_as s t true false is row = (refl, row.1)
refused_as s t true true is row = absurd (no_refusal row.1.0)

-- and where not all are empty, the end is refused
as_refused : (s : State) (clears none : Bool) → clears ≡ true → none ≡ false
    → EndsAs s clears none (replies.Refused ClearingLeft) s
as_refused s false none is some = absurd (false≢true is)
as_refused s true true is some = absurd (true≢false some)
as_refused s true false is some = (refl, refl)

-- the state in which clearing has ended
abbrev pub cleared_to : State → State
cleared_to a = with_world a (with_phase a.world Sweeping)

-- an end that is done says that all lists are empty
accepted_as : (s t : State) (clears none : Bool) → clears ≡ true → EndsAs s clears none replies.Done t
    → (none ≡ true) × (t ≡ cleared_to s)
accepted_as s t false none is row = absurd (false≢true is)
accepted_as s t true false is row = absurd (no_refusal (sym row.0))
accepted_as s t true true is row = (refl, row.2 ∙ row.1.1)

-- and where all are empty, the end is done
as_accepted : (s : State) (clears none : Bool) → clears ≡ true → none ≡ true
    → EndsAs s clears none replies.Done (cleared_to s)
as_accepted s false none is some = absurd (false≢true is)
as_accepted s true false is some = absurd (false≢true some)
as_accepted s true true is some = (cleared_to s, (refl, refl), refl)

-- where nothing is in all lists together, nothing is in each
none_in : (found : List (List ℕ)) → is_empty (joined found) ≡ true → (k : ℕ) → list_at found k ≡ []
none_in [] none k = refl
none_in ([] ∷ found) none zero = refl
none_in ([] ∷ found) none (suc k) = none_in found none k
none_in ((x ∷ xs) ∷ found) none k = absurd (false≢true none)

-- and they are as many empty lists
all_empty : (found lists : List (List ℕ)) → is_empty (joined found) ≡ true → length found ≡ length lists
    → found ≡ emptied lists
all_empty [] [] none same = refl
all_empty [] (l ∷ lists) none same = absurd (omega (arith, same))
all_empty (f ∷ found) [] none same = absurd (omega (arith, same))
all_empty ([] ∷ found) (l ∷ lists) none same =
    ap (λ fs. [] ∷ fs) (all_empty found lists none (omega (arith, same)))
all_empty ((x ∷ xs) ∷ found) (l ∷ lists) none same = absurd (false≢true none)

-- emptied lists have nothing
none_emptied : (lists : List (List ℕ)) → is_empty (joined (emptied lists)) ≡ true
none_emptied lists = ap is_empty (joined-emptied lists)

module _ (a t : State) (refs : ℕ → List ℕ) (clears : a.world.phase ≡ Clearing) where
  in_clearing : is_in a.world.phase Clearing ≡ true
  in_clearing = simp clears refl

  -- refused, since some are left to look at: then not all lists are empty
  pub left_fits : (s : State) (some : Bool) → FitsFound a refs some s → IsRow s left_row t → FitsFound a refs true t
  left_fits s some fits h =
      let told =
      refused_as (finding a fits.0) t (is_in a.world.phase Clearing) (is_empty (joined fits.0)) in_clearing
      (subst (λ (u : State). IsRow u left_row t) fits.1 h) in
      (fits.0, told.1, fits.2, some_on refs a.cleared some fits.0 told.0 fits.3)

  -- and each state that fits afterwards comes from one that fitted
  pub fits_left : (some : Bool) → FitsFound a refs true t
      → (s : State) × FitsFound a refs some s × IsRow s left_row t
  fits_left some fits =
      let s : State = finding a fits.0 in
      let back = some_back refs a.cleared some fits.0 fits.3 in (
        s,
        (fits.0, refl, fits.2, back.1),
        subst (λ (u : State). IsRow s left_row u) (sym fits.1)
            (as_refused s (is_in a.world.phase Clearing) (is_empty (joined fits.0)) in_clearing back.0),
      )

  -- done: then no new clear is left for any worker, and none was said to be left
  pub cleared_fits : (s : State) (some : Bool) → FitsFound a refs some s → IsRow s cleared_row t
      → (some ≡ false) × ((k : ℕ) → NoneOf a.cleared (refs k)) × (t ≡ finding (cleared_to a) (emptied a.scanned))
  cleared_fits s some fits h =
      let told =
      accepted_as (finding a fits.0) t (is_in a.world.phase Clearing) (is_empty (joined fits.0)) in_clearing
      (subst (λ (u : State). IsRow u cleared_row t) fits.1 h) in (
        elim (cases_Bool some) [
          | inl said ↦ absurd (false≢true (sym (fits.3.left said) ∙ told.0))
          | inr not_said ↦ not_said
        ],
        λ k. found_none (refs k) a.cleared
            (subst (MayFind (refs k) a.cleared) (none_in fits.0 told.0 k) (fits.3.each k)),
        told.1 ∙ ap (finding (cleared_to a)) (all_empty fits.0 a.scanned told.0 fits.2),
      )

  -- and where no new clear is left, a state that fits is led there
  pub fits_cleared : ((k : ℕ) → NoneOf a.cleared (refs k)) → t ≡ finding (cleared_to a) (emptied a.scanned)
      → (s : State) × FitsFound a refs false s × IsRow s cleared_row t
  fits_cleared none is =
      let found : List (List ℕ) = emptied a.scanned in
      let s : State = finding a found in (
        s,
        (
          found,
          refl,
          length-emptied a.scanned,
          record {
            each = λ k.
                subst (MayFind (refs k) a.cleared) (sym (none_in found (none_emptied a.scanned) k))
                (none_found (refs k) a.cleared (none k));
            left = λ no. absurd (false≢true no);
          },
        ),
        subst (λ (u : State). IsRow s cleared_row u) (sym is)
            (as_accepted s (is_in a.world.phase Clearing) (is_empty (joined found)) in_clearing
            (none_emptied a.scanned)),
      )
