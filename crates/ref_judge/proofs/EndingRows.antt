-- A mark's end of a collector of any profile: what it has to look at, which states lead to it, and which states then
-- fit.
use Rattle.ref_base.proofs.Common.{◌≡◌, ℕ, Bool, true, false, List, [], ◌∷◌, length, None, refl, sym, ap, ◌∙◌, subst}
use Rattle.ref_base.proofs.Common.{inl, inr, cases_Bool, ◌&&◌, true≢false, has, joined, Graph, Reference}
use Rattle.ref_base.proofs.Common.{is_there, numbers, targets_at, object_at, Allowed, EndsPath, is_soft, is_kept, State}
use Rattle.ref_base.proofs.Common.{graph_of, is_in, MayDoom, doomed_at, EndsMark, mark_ended, IsRow}
use Rattle.ref_base.specs.Members.{AreDistinct}
use Rattle.ref_base.specs.Refusals.{plain_refusal}
use Rattle.ref_base.proofs.PathLaws.{root_ends, path_within, ends-wider, targets_of-wider}
use Rattle.ref_base.proofs.Lookups.{is_there-has}
use Rattle.ref_base.proofs.DoomExact.{OffRoots}
use Rattle.ref_base.proofs.PlainRows.{plain_row, plain_accepted, accepted_plain}
use Rattle.ref_base.proofs.Fitting.{Fits, saying, may}
use Rattle.ref_base.proofs.FoundRows.{FitsFound, finding}
use Rattle.ref_base.proofs.MarkEndRows.{refs_of, AllScanned, ended_to, end_fits, fits_end}
use Rattle.ref_base.specs.declared.fault.Fault.TheVariants.{GreyLeft}
use Rattle.ref_base.specs.declared.phase.Phase.TheVariants.{Marking}
use Rattle.ref_base.specs.declared.urgency.Urgency.TheVariants.{Urgent}
use Rattle.ref_base.specs.declared.plain_step.PlainStep.TheVariants as plain
use Rattle.ref_base.specs.declared.row.Row.{Row}
use Rattle.ref_base.specs.declared.reply.Reply.{Reply}
use Rattle.ref_base.specs.declared.reply.Reply.TheVariants as replies
use Rattle.ref_judge.specs.KeptBounds.{MayBeKept, MayDoomAs, must_keep}
use Rattle.ref_judge.specs.ProfiledRows.{EndsMarkAs, IsRowAs}
use Rattle.ref_judge.specs.declared.profile.Profile.{Profile}
use Rattle.ref_judge.proofs.UnchangedRows.{plain_accepted_as, accepted_plain_as}

-- ---- what a mark's end has to look at

-- no edge that a path may go over leads into them from outside
abbrev pub OffEdgesBy : Allowed → Graph → List ℕ → Type 0
OffEdgesBy allow g d =
    (m n : ℕ) → is_there g.objects m ≡ true → has d m ≡ false → has (targets_at allow g.objects m) n ≡ true
    → has d n ≡ false

-- each that isn't among them may be kept
abbrev pub OthersMay : Profile → State → List ℕ → Type 0
OthersMay p a d = (n : ℕ) → is_there a.world.heap.objects n ≡ true → has d n ≡ false → MayBeKept p a n

-- no root is among them, and nothing that must be kept leads into them from outside
abbrev pub IsOff : Profile → State → List ℕ → Type 0
IsOff p a d = OffRoots (graph_of a.world) d × OffEdgesBy (must_keep p a.world.policy) (graph_of a.world) d

-- where paths lead neither from a root nor from outside into them, none ends at one of them
off_ends : (allow : Allowed) (g : Graph) (d : List ℕ) → OffRoots g d → OffEdgesBy allow g d → (n : ℕ)
    → EndsPath allow g n → has d n ≡ false
off_ends allow g d roots edges n ends =
    (path_within allow g (λ k. (is_there g.objects k ≡ true) × (has d k ≡ false))
    (λ k there root. (there, roots k there root))
    (λ k m before target there. (there, edges k m before.0 before.1 target)) n ends.0 ends.1).1

-- what a mark may doom is so
pub doom_parts_as : (p : Profile) (a : State) (d : List ℕ) → MayDoomAs p a d → IsOff p a d
doom_parts_as p a d dooms = (off, dooms.closed)
  where
    off : OffRoots (graph_of a.world) d
    off n there root =
        elim (cases_Bool (has d n)) [
          | inl doomed ↦
              absurd (dooms.none_kept n doomed
              (root_ends (must_keep p a.world.policy) (graph_of a.world) n there root))
          | inr out ↦ out
        ]

-- and where that is so, and all others may be kept, a mark may doom these
pub doom_from_as : (p : Profile) (a : State) (d : List ℕ) → IsOff p a d → OthersMay p a d → MayDoomAs p a d
doom_from_as p a d (roots, edges) others = record {
  none_kept = λ n doomed kept.
      true≢false (sym doomed ∙ off_ends (must_keep p a.world.policy) (graph_of a.world) d roots edges n kept);
  never_kept = λ n there never.
      elim (cases_Bool (has d n)) [ inl doomed ↦ doomed | inr out ↦ absurd (never (others n there out)) ];
  closed = edges;
}

-- ---- a mark that may doom what any may

-- all objects are roots
abbrev all_roots : State → Graph
all_roots a = record { objects = a.world.heap.objects; roots = numbers a.world.heap.objects }

-- the state where all was kept once, and no soft reference keeps anything now: what a collector of a profile may doom,
-- the abstract collector may doom here
abbrev eased : State → State
eased a = record a {
  world = record a.world { policy = record a.world.policy { urgency = Urgent } };
  moments = all_roots a ∷ [];
}

-- soft references keep nothing where the cycle is urgent
urgent_keeps_none : (a : State) (r : Reference) → is_kept (eased a).world.policy r ≡ false
urgent_keeps_none a r = nowhere (is_soft r.strength)
  where
    nowhere : (soft : Bool) → (soft && false) ≡ false
    nowhere true = refl
    nowhere false = refl

eased_dooms : (p : Profile) (a : State) (d : List ℕ) → MayDoomAs p a d
    → MayDoom (eased a).world.policy (graph_of a.world) (eased a).moments d
eased_dooms p a d dooms =
    let none : Allowed = is_kept (eased a).world.policy in
    let must : Allowed = must_keep p a.world.policy in
    let narrower : (r : Reference) → none r ≡ true → must r ≡ true =
    (λ r is. absurd (true≢false (sym is ∙ urgent_keeps_none a r))) in
    record {
      none_kept = λ n doomed ends. dooms.none_kept n doomed (ends-wider none must narrower (graph_of a.world) n ends);
      never_kept = λ n there never.
          let root = sym (is_there-has a.world.heap.objects n) ∙ there in
          absurd (never (inl (root_ends none (all_roots a) n there root)));
      closed = λ m n there outside target.
          dooms.closed m n there outside
          (targets_of-wider none must narrower (object_at a.world.heap.objects m) n target);
    }

-- what is said of what is left is no part of what may be doomed
doom_said : (p : Profile) (a : State) (left said : Bool) (d : List ℕ) → MayDoomAs p (saying a left) d
    → MayDoomAs p (saying a said) d
doom_said p a left said d dooms =
    record { none_kept = dooms.none_kept; never_kept = dooms.never_kept; closed = dooms.closed }

-- a mark's end is one of the abstract collector there
end_eased : (p : Profile) (a t : State) (count : ℕ) → (row : EndsMarkAs p (saying a false) (replies.Doomed count) t)
    → EndsMark (saying (eased a) false) (replies.Doomed count)
    (mark_ended (saying (eased a) false) (doomed_at a) row.found)
end_eased p a t count row = record {
  answer = row.answer;
  may_doom = eased_dooms p a (doomed_at a) (doom_said p a false a.left (doomed_at a) row.may_doom);
  found = row.found;
  are_found = row.are_found;
  all_found = row.all_found;
  after = refl;
}

-- ---- rows

-- where it is said that none is left, a mark may end
ends_as : (a : State) → is_in a.world.phase Marking ≡ true → plain_refusal (saying a false) plain.EndMark ≡ None
ends_as a marks = simp marks refl

-- and where it is said that one is, it is refused
no_doom : {count : ℕ} → replies.Doomed count ≡ replies.Refused GreyLeft → ⊥
no_doom is = absurd cc

-- what a mark's end answers, and its row
abbrev pub answer_at : State → Reply
answer_at a = replies.Doomed (length (doomed_at a))

abbrev pub end_row : State → Row
end_row a = plain_row plain.EndMark (answer_at a)

-- the state in which such a mark has ended, where workers found these
abbrev ended_eased : State → List (List ℕ) → State
ended_eased a found = finding (ended_to (eased a)) found

module _ (p : Profile) (a t : State) (may_left may_none : Bool) (marks : is_in a.world.phase Marking ≡ true) where
  -- each state that fits is led to one that fits, and it may say that none is left; the mark may doom what it does, and
  -- what it clears was scanned
  pub end_fits_as : (s : State) (count : ℕ) → AreDistinct (joined a.scanned) → Fits a may_left may_none s
      → IsRowAs p s (plain_row plain.EndMark (replies.Doomed count)) t
      → (may_none ≡ true) × (count ≡ length (doomed_at a)) × MayDoomAs p a (doomed_at a) × AllScanned a
      × FitsFound (ended_to a) (refs_of a) false t
  end_fits_as s count distinct fits h = of_value fits.0 fits.1 fits.2
    where
      of_value : (left : Bool) → s ≡ saying a left → may left may_left may_none ≡ true
          → (may_none ≡ true) × (count ≡ length (doomed_at a)) × MayDoomAs p a (doomed_at a) × AllScanned a
          × FitsFound (ended_to a) (refs_of a) false t
      of_value true same ok =
          let there : IsRowAs p (saying a true) (plain_row plain.EndMark (replies.Doomed count)) t =
          subst (λ (u : State). IsRowAs p u (plain_row plain.EndMark (replies.Doomed count)) t) same h in
          absurd (no_doom (simp marks at there).0)
      of_value false same ok =
          let row : EndsMarkAs p (saying a false) (replies.Doomed count) t =
          plain_accepted_as p (saying a false) t plain.EndMark (replies.Doomed count) (ends_as a marks)
          (subst (λ (u : State). IsRowAs p u (plain_row plain.EndMark (replies.Doomed count)) t) same h) in
          let ended : State = mark_ended (saying (eased a) false) (doomed_at a) row.found in
          let there : IsRow (saying (eased a) false) (plain_row plain.EndMark (replies.Doomed count)) ended =
          accepted_plain (saying (eased a) false) ended plain.EndMark (replies.Doomed count) (ends_as (eased a) marks)
          (end_eased p a t count row) in
          let all =
          end_fits (eased a) ended true true marks (saying (eased a) false) count distinct (false, refl, refl) there in
          let found : FitsFound (ended_to (eased a)) (refs_of a) false ended = all.4 in (
            ok,
            all.1,
            doom_said p a false a.left (doomed_at a) row.may_doom,
            all.3,
            (
              found.0,
              row.after ∙ ap (finding (ended_to a)) (ap (λ (u : State). u.found) found.1),
              found.2,
              found.3,
            ),
          )

  -- and each that fits afterwards comes from one that fitted
  pub fits_end_as : may_none ≡ true → MayDoomAs p a (doomed_at a) → AllScanned a
      → FitsFound (ended_to a) (refs_of a) false t
      → (s : State) × Fits a may_left may_none s × IsRowAs p s (end_row a) t
  fits_end_as ok dooms all fits =
      let from =
      fits_end (eased a) (ended_eased a fits.0) true true marks refl (eased_dooms p a (doomed_at a) dooms) all
      (fits.0, refl, fits.2, fits.3) in
      (saying a false, (false, refl, ok), of_value from.0 from.1.0 from.1.1 from.2)
    where
      of_value : (s : State) (left : Bool) → s ≡ saying (eased a) left → IsRow s (end_row a) (ended_eased a fits.0)
          → IsRowAs p (saying a false) (end_row a) t
      of_value s true same h =
          let there : IsRow (saying (eased a) true) (end_row a) (ended_eased a fits.0) =
          subst (λ (u : State). IsRow u (end_row a) (ended_eased a fits.0)) same h in
          absurd (no_doom (simp marks at there).0)
      of_value s false same h =
          let row : EndsMark (saying (eased a) false) (answer_at a) (ended_eased a fits.0) =
          plain_accepted (saying (eased a) false) (ended_eased a fits.0) plain.EndMark (answer_at a)
          (ends_as (eased a) marks) (subst (λ (u : State). IsRow u (end_row a) (ended_eased a fits.0)) same h) in
          accepted_plain_as p (saying a false) t plain.EndMark (answer_at a) (ends_as a marks)
          (record {
            answer = refl;
            may_doom = doom_said p a a.left false (doomed_at a) dooms;
            found = row.found;
            are_found = row.are_found;
            all_found = row.all_found;
            after = fits.1 ∙ ap (finding (ended_to a)) (ap (λ (u : State). u.found) row.after);
          })
