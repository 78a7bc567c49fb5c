-- Some state always fits what a judge was told.
use Rattle.ref_base.proofs.Common.{arith, ◌≡◌, ℕ, zero, suc, ◌+◌, ◌<◌, Bool, true, false, ◌||◌, List, [], ◌∷◌}
use Rattle.ref_base.proofs.Common.{length, map, drop, refl, sym, ap, ◌∙◌, subst, inl, inr, cases_Bool, State, is_in}
use Rattle.ref_base.proofs.Common.{joined}
use Rattle.ref_base.proofs.Common.{list_at, true≢false, false≢true, nat_lt, ◌⊎◌, slice_index_or}
use Rattle.ref_base.proofs.Common.{ltb-true, length-map}
use Rattle.std.proofs.Common.{lt-ltb}
use Rattle.ref_base.specs.Refusals.{is_empty}
use Rattle.ref_base.specs.declared.phase.Phase.TheVariants.{Marking, Clearing}
use Rattle.ref_base.proofs.Fitting.{Fits, saying}
use Rattle.ref_base.proofs.FoundFits.{MayFind}
use Rattle.ref_base.proofs.FoundRows.{FitsFound, finding}
use Rattle.ref_base.proofs.Subsequences.{sub_all}
use Rattle.ref_base.specs.Worlds.{Pending}
use Rattle.ref_judge.specs.Judged.{Judged, Finder, finder_at, found_by, still_left, no_finder}
use Rattle.ref_judge.specs.Standing.{StandsFor, IsSettled, FitsIn, FitsIt}
use Rattle.ref_judge.proofs.LegalFacts.{legal_facts}

-- one of two bits stands where the second does
pub either_true : (left : Bool) → (left || true) ≡ true
either_true true = refl
either_true false = refl

-- in a mark some state fits
pub some_said : (a : State) (may_left may_none : Bool) → (may_left || may_none) ≡ true
    → (s : State) × Fits a may_left may_none s
some_said a true may_none is = (saying a true, (true, refl, refl))
some_said a false true is = (saying a false, (false, refl, refl))
some_said a false false is = absurd (false≢true is)

-- ---- in clearing

-- the lists of so many workers, from this one on
abbrev all_lists : (refs : ℕ → List ℕ) (count from : ℕ) → List (List ℕ)
all_lists refs zero from = []
all_lists refs (suc count) from = refs from ∷ all_lists refs count (suc from)

length_lists : (refs : ℕ → List ℕ) (count from : ℕ) → length (all_lists refs count from) ≡ count
length_lists refs zero from = refl
length_lists refs (suc count) from = ap suc (length_lists refs count (suc from))

list_in : (refs : ℕ → List ℕ) (count from k : ℕ) → k < count → list_at (all_lists refs count from) k ≡ refs (k + from)
list_in refs zero from k within = absurd (omega arith)
list_in refs (suc count) from zero within = ap refs (grind arith)
list_in refs (suc count) from (suc k) within =
    list_in refs count (suc from) k (omega arith) ∙ ap refs (grind arith)

list_out : (refs : ℕ → List ℕ) (count from k : ℕ) → (k < count → ⊥) → list_at (all_lists refs count from) k ≡ []
list_out refs zero from zero out = refl
list_out refs zero from (suc k) out = refl
list_out refs (suc count) from zero out = absurd (out (omega arith))
list_out refs (suc count) from (suc k) out = list_out refs count (suc from) k (λ within. out (omega arith))

-- all of it may be found
finds_all : (refs clears : List ℕ) → MayFind refs clears refs
finds_all refs clears = (sub_all refs, λ m in_it cleared. in_it)

-- what stands in one list stands in all together
joined_some : (lists : List (List ℕ)) (k : ℕ) → (is_empty (list_at lists k) ≡ false) → is_empty (joined lists) ≡ false
joined_some [] zero some = absurd (true≢false some)
joined_some [] (suc k) some = absurd (true≢false some)
joined_some ([] ∷ lists) zero some = absurd (true≢false some)
joined_some ([] ∷ lists) (suc k) some = joined_some lists k some
joined_some ((n ∷ ns) ∷ lists) k some = refl

-- what stands behind a place in front of the end
some_behind : (ns : List ℕ) (at : ℕ) → at < length ns → is_empty (drop at ns) ≡ false
some_behind [] at within = absurd (omega arith)
some_behind (n ∷ ns) zero within = refl
some_behind (n ∷ ns) (suc at) within = some_behind ns at (omega arith)

module _ (j : Judged) (a : State) (settled : IsSettled j) (many : ℕ) (workers : length a.scanned ≡ many)
    (none_behind : (k : ℕ) → (k < many → ⊥) → still_left j k ≡ []) where
  abbrev all_left : List (List ℕ)
  all_left = all_lists (still_left j) many 0

  left_listed : (k : ℕ) → list_at all_left k ≡ still_left j k
  left_listed k = of_test (cases_Bool (nat_lt k many))
    where
      of_test : (nat_lt k many ≡ true) ⊎ (nat_lt k many ≡ false) → list_at all_left k ≡ still_left j k
      of_test (inl is) =
          list_in (still_left j) many 0 k (ltb-true k many is) ∙ ap (still_left j) (grind arith)
      of_test (inr not) =
          let out : k < many → ⊥ = (λ within. true≢false (sym (lt-ltb k many within) ∙ not)) in
          list_out (still_left j) many 0 k out ∙ sym (none_behind k out)

  -- in clearing what each worker may have found, all of it
  some_found : is_in j.phase Clearing ≡ true → FitsFound a (still_left j) j.some_left (finding a all_left)
  some_found clears = (
    all_left,
    refl,
    length_lists (still_left j) many 0 ∙ sym workers,
    record {
      each = λ k. subst (λ (ns : List ℕ). MayFind (still_left j k) a.cleared ns) (sym (left_listed k))
          (finds_all (still_left j k) a.cleared);
      left = λ says.
          let (k, more) = settled.waits clears says in
          joined_some all_left k
          (ap is_empty (left_listed k)
          ∙ some_behind (found_by j k) (finder_at j k).at
          (subst (λ (n : ℕ). (finder_at j k).at < n) (sym (length-map (finder_at j k).found (λ f. f.object))) more));
    },
  )

  -- so some state fits
  pub some_fits : (s : State) × FitsIt j a s
  some_fits = of_flags (is_in j.phase Marking) (is_in j.phase Clearing) refl refl
    where
      of_flags : (marks clears : Bool) → is_in j.phase Marking ≡ marks → is_in j.phase Clearing ≡ clears
          → (s : State) × FitsIn marks clears j a s
      of_flags true clears is also = some_said a j.may_be_left j.may_be_none (settled.may is)
      of_flags false true is also = (finding a all_left, some_found also)
      of_flags false false is also = (a, refl)

-- what stands behind the end is none
behind_end : (fs : List Finder) (k : ℕ) → (k < length fs → ⊥) → slice_index_or fs k no_finder ≡ no_finder
behind_end [] k out = refl
behind_end (f ∷ fs) zero out = absurd (out (omega arith))
behind_end (f ∷ fs) (suc k) out = behind_end fs k (λ within. out (omega arith))

none_left : (j : Judged) (many : ℕ) → length j.workers ≡ many → (k : ℕ) → (k < many → ⊥) → still_left j k ≡ []
none_left j many same k out =
    ap (λ (f : Finder). drop f.at (map (λ o. o.object) f.found))
    (behind_end j.workers k (λ within. out (subst (λ (n : ℕ). k < n) same within)))

-- between two rows some state fits
pub between : (j : Judged) (a : State) → StandsFor j a → IsSettled j → (s : State) × FitsIt j a s
between j a stands settled =
    let sizes = (legal_facts j.profile j.config a stands.lawful).sizes in
    let workers : length j.workers ≡ j.config.workers =
    sym (length-map j.workers (λ (w : Finder). w.pending))
    ∙ ap (λ (ps : List (List Pending)). length ps) stands.finders.pending ∙ sizes.pending in
    some_fits j a settled j.config.workers sizes.scanned (none_left j j.config.workers workers)
