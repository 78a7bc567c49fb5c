-- A mark's end that is accepted: which states lead to it, and which states then fit, as it leaves open what each worker
-- found among the references that it scanned.
use Rattle.ref_base.proofs.Common.{arith, ◌≡◌, ℕ, zero, suc, Bool, true, false, List, [], ◌∷◌, ◌++◌, length, None, refl}
use Rattle.ref_base.proofs.Common.{sym, ap, ◌∙◌, subst, inl, inr, ◌==◌, cases_Bool, false≢true, eqb-true, has, joined}
use Rattle.ref_base.proofs.Common.{list_at, Object, graph_of, State, is_in, Marking, MayDoom, doomed_at, new_clears}
use Rattle.ref_base.proofs.Common.{references_among, is_subsequence, AreFound, EndsMark, mark_ended, IsRow, GreyLeft}
use Rattle.ref_base.proofs.Common.{Option, Some, is_some, not, and_parts, Reference, reference_in, object_at, is_there}
use Rattle.ref_base.proofs.Common.{numbers, IsRising, refers_into}
use Rattle.ref_base.proofs.NewClears.{has-new_clears}
use Rattle.ref_base.specs.Members.{AreDistinct}
use Rattle.ref_base.specs.Refusals.{plain_refusal}
use Rattle.ref_base.proofs.HasLaws.{has-left, has-right, has-cases}
use Rattle.ref_base.proofs.Subsequences.{Sub, sub_none, sub_is}
use Rattle.ref_base.proofs.FoundLists.{references_among-has}
use Rattle.ref_base.proofs.PlainRows.{plain_row, plain_accepted, accepted_plain}
use Rattle.ref_base.proofs.Fitting.{Fits, saying, may}
use Rattle.ref_base.proofs.FoundFits.{sub_has}
use Rattle.ref_base.proofs.FoundRows.{FitsFound}
use Rattle.ref_base.specs.declared.plain_step.PlainStep.TheVariants as plain
use Rattle.ref_base.specs.declared.reply.Reply.TheVariants as replies

-- the references that the worker scanned, in order
abbrev pub refs_of : State → ℕ → List ℕ
refs_of a k = references_among a.world.heap.objects (list_at a.scanned k)

-- the mark may doom what was made before it and not scanned
abbrev pub MayEnd : State → Type 0
MayEnd a = MayDoom a.world.policy (graph_of a.world) a.moments (doomed_at a)

-- each reference that this clears was scanned by a worker
abbrev pub AllScanned : State → Type 0
AllScanned a =
    (n : ℕ) → has (new_clears a.world.heap.objects (doomed_at a)) n ≡ true → (k : ℕ) × (has (refs_of a k) n ≡ true)

-- the state in which the mark has ended, but for what workers found
abbrev pub ended_to : State → State
ended_to a = mark_ended (saying a false) (doomed_at a) []

-- ---- the lists of workers

-- what the test says
is_sub : (ms ns : List ℕ) → is_subsequence ms ns ≡ true → Sub ms ns
is_sub [] ns is = sub_none ns
is_sub (m ∷ ms) [] is = absurd (false≢true is)
is_sub (m ∷ ms) (n ∷ ns) is =
    elim (cases_Bool (m == n)) [
      | inl same ↦ inr (ms, ap (λ (k : ℕ). k ∷ ms) (eqb-true m n same), is_sub ms ns (simp same at is))
      | inr other ↦ inl (is_sub (m ∷ ms) ns (simp other at is))
    ]

-- each worker's list is what is left of the references that it scanned
found_each : (os : List Object) (scanned found : List (List ℕ)) → AreFound os scanned found → (k : ℕ)
    → Sub (list_at found k) (references_among os (list_at scanned k))
found_each os [] [] are k = refl
found_each os [] (fs ∷ found) are k = absurd are
found_each os (ss ∷ scanned) [] are k = absurd are
found_each os (ss ∷ scanned) (fs ∷ found) are zero = is_sub fs (references_among os ss) are.0
found_each os (ss ∷ scanned) (fs ∷ found) are (suc k) = found_each os scanned found are.1 k

-- there are as many lists as workers
found_as_many : (os : List Object) (scanned found : List (List ℕ)) → AreFound os scanned found
    → length found ≡ length scanned
found_as_many os [] [] are = refl
found_as_many os [] (fs ∷ found) are = absurd are
found_as_many os (ss ∷ scanned) [] are = absurd are
found_as_many os (ss ∷ scanned) (fs ∷ found) are = ap (λ n. suc n) (found_as_many os scanned found are.1)

-- and lists that are so may be found
each_found : (os : List Object) (scanned found : List (List ℕ)) → length found ≡ length scanned
    → ((k : ℕ) → Sub (list_at found k) (references_among os (list_at scanned k))) → AreFound os scanned found
each_found os [] [] same each = tt
each_found os [] (fs ∷ found) same each = absurd (omega (arith, same))
each_found os (ss ∷ scanned) [] same each = absurd (omega (arith, same))
each_found os (ss ∷ scanned) (fs ∷ found) same each = (
  sub_is fs (references_among os ss) (each 0),
  each_found os scanned found (omega (arith, same)) (λ k. each (suc k)),
)

-- what one of them has, all have together
joined_at : (lists : List (List ℕ)) (k n : ℕ) → has (list_at lists k) n ≡ true → has (joined lists) n ≡ true
joined_at [] k n h = absurd (false≢true h)
joined_at (l ∷ lists) zero n h = has-left l (joined lists) n h
joined_at (l ∷ lists) (suc k) n h = has-right l (joined lists) n (joined_at lists k n h)

-- and what all have together, one of them has
at_joined : (lists : List (List ℕ)) (n : ℕ) → has (joined lists) n ≡ true
    → (k : ℕ) × (has (list_at lists k) n ≡ true)
at_joined [] n h = absurd (false≢true h)
at_joined (l ∷ lists) n h =
    elim (has-cases l (joined lists) n h) [
      | inl here ↦ (0, here)
      | inr later ↦ let at = at_joined lists n later in (suc at.0, at.1)
    ]

-- where none stands twice, what is in the front isn't behind, and none stands twice there
distinct_apart : (front back : List ℕ) (n : ℕ) → AreDistinct (front ++ back) → has front n ≡ true → has back n ≡ true
    → ⊥
distinct_apart [] back n distinct h also = false≢true h
distinct_apart (f ∷ front) back n distinct h also =
    grind (arith, has-right front back n also, distinct_apart front back n distinct.1)

pub distinct_behind : (front back : List ℕ) → AreDistinct (front ++ back) → AreDistinct back
distinct_behind [] back distinct = distinct
distinct_behind (f ∷ front) back distinct = distinct_behind front back distinct.1

-- where none stands twice in all together, one list alone has a number
one_list : (lists : List (List ℕ)) (j k n : ℕ) → AreDistinct (joined lists) → has (list_at lists j) n ≡ true
    → has (list_at lists k) n ≡ true → j ≡ k
one_list [] j k n distinct h also = absurd (false≢true h)
one_list (l ∷ lists) zero zero n distinct h also = refl
one_list (l ∷ lists) zero (suc k) n distinct h also =
    absurd (distinct_apart l (joined lists) n distinct h (joined_at lists k n also))
one_list (l ∷ lists) (suc j) zero n distinct h also =
    absurd (distinct_apart l (joined lists) n distinct also (joined_at lists j n h))
one_list (l ∷ lists) (suc j) (suc k) n distinct h also =
    ap (λ i. suc i) (one_list lists j k n (distinct_behind l (joined lists) distinct) h also)

-- ---- what was scanned

-- none stands twice in one of them
distinct_at : (lists : List (List ℕ)) (k : ℕ) → AreDistinct (joined lists) → AreDistinct (list_at lists k)
distinct_at [] k distinct = tt
distinct_at (l ∷ lists) zero distinct = distinct_front l (joined lists) distinct
  where
    distinct_front : (front back : List ℕ) → AreDistinct (front ++ back) → AreDistinct front
    distinct_front [] back distinct = tt
    distinct_front (f ∷ front) back distinct =
        grind (arith, has-left front back f, distinct_front front back distinct.1)
distinct_at (l ∷ lists) (suc k) distinct = distinct_at lists k (distinct_behind l (joined lists) distinct)

-- none stands twice among the references of a list, where none does in the list
distinct_references : (os : List Object) (ns : List ℕ) → AreDistinct ns → AreDistinct (references_among os ns)
distinct_references os [] distinct = tt
distinct_references os (n ∷ ns) distinct =
    grind (arith, references_among-has os ns n, distinct_references os ns distinct.1)

-- nor among the references of a worker, where none does among all that was scanned
pub refs_distinct : (a : State) (k : ℕ) → AreDistinct (joined a.scanned) → AreDistinct (refs_of a k)
refs_distinct a k distinct =
    distinct_references a.world.heap.objects (list_at a.scanned k) (distinct_at a.scanned k distinct)

-- what a list has and is a reference is among its references
has_references : (os : List Object) (ns : List ℕ) (n : ℕ) → has ns n ≡ true
    → is_some (reference_in (object_at os n)) ≡ true → has (references_among os ns) n ≡ true
has_references os [] n h is = absurd (false≢true h)
has_references os (m ∷ ns) n h is = grind (arith, has_references os ns n)

-- what the end clears is a reference
clear_is : (os : List Object) (d : List ℕ) (n : ℕ) → IsRising (numbers os) → has (new_clears os d) n ≡ true
    → is_some (reference_in (object_at os n)) ≡ true
clear_is os d n rising clear =
    refers (reference_in (object_at os n))
    (and_parts (not (has d n)) _ (and_parts (is_there os n) _ (sym (has-new_clears os d n rising) ∙ clear)).1).1
  where
    refers : (r : Option Reference) → refers_into (has d) r ≡ true → is_some r ≡ true
    refers None is = absurd (false≢true is)
    refers (Some r) is = refl

-- all that the end clears was scanned by a worker exactly where it was scanned
pub all_scanned : (a : State) → IsRising (numbers a.world.heap.objects)
    → ((n : ℕ) → has (new_clears a.world.heap.objects (doomed_at a)) n ≡ true → has (joined a.scanned) n ≡ true)
    → AllScanned a
all_scanned a rising scanned n clear =
    let at = at_joined a.scanned n (scanned n clear) in (
      at.0,
      has_references a.world.heap.objects (list_at a.scanned at.0) n at.1
          (clear_is a.world.heap.objects (doomed_at a) n rising clear),
    )

-- and where each was scanned by a worker, each was scanned
pub scanned_all : (a : State) → AllScanned a → (n : ℕ)
    → has (new_clears a.world.heap.objects (doomed_at a)) n ≡ true → has (joined a.scanned) n ≡ true
scanned_all a all n clear =
    let at = all n clear in
    joined_at a.scanned at.0 n (references_among-has a.world.heap.objects (list_at a.scanned at.0) n at.1)

-- ---- rows

-- where it is said that none is left, a mark may end
ends_none : (a : State) → is_in a.world.phase Marking ≡ true → plain_refusal (saying a false) plain.EndMark ≡ None
ends_none a marks = simp marks refl

module _ (a t : State) (may_left may_none : Bool) (marks : is_in a.world.phase Marking ≡ true) where
  -- each state that fits is led to one that fits, and it may say that none is left; the mark may doom what it does, and
  -- what it clears was scanned
  pub end_fits : (s : State) (count : ℕ) → AreDistinct (joined a.scanned) → Fits a may_left may_none s
      → IsRow s (plain_row plain.EndMark (replies.Doomed count)) t
      → (may_none ≡ true) × (count ≡ length (doomed_at a)) × MayEnd a × AllScanned a
      × FitsFound (ended_to a) (refs_of a) false t
  end_fits s count distinct fits h = of_value fits.0 fits.1 fits.2
    where
      no_end : replies.Doomed count ≡ replies.Refused GreyLeft → ⊥
      no_end is = absurd cc

      ended : may_none ≡ true → EndsMark (saying a false) (replies.Doomed count) t
          → (may_none ≡ true) × (count ≡ length (doomed_at a)) × MayEnd a × AllScanned a
          × FitsFound (ended_to a) (refs_of a) false t
      ended ok row =
          let os : List Object = a.world.heap.objects in
          let each : (k : ℕ) → Sub (list_at row.found k) (refs_of a k) =
          found_each os a.scanned row.found row.are_found in
          let told : replies.Doomed count ≡ replies.Doomed (length (doomed_at a)) = row.answer in
          let same : count ≡ length (doomed_at a) = cc in (
            ok,
            same,
            row.may_doom,
            λ n clear.
                let at = at_joined row.found n (row.all_found n clear) in
                (at.0, sub_has (list_at row.found at.0) (refs_of a at.0) n (each at.0) at.1),
            (
              row.found,
              row.after,
              found_as_many os a.scanned row.found row.are_found,
              record {
                each = λ k. (
                  each k,
                  λ m ref clear.
                      let at = at_joined row.found m (row.all_found m clear) in
                      let by : has (refs_of a at.0) m ≡ true =
                      sub_has (list_at row.found at.0) (refs_of a at.0) m (each at.0) at.1 in
                      subst (λ (j : ℕ). has (list_at row.found j) m ≡ true)
                      (one_list a.scanned at.0 k m distinct (references_among-has os (list_at a.scanned at.0) m by)
                      (references_among-has os (list_at a.scanned k) m ref)) at.1,
                );
                left = λ no. absurd (false≢true no);
              },
            ),
          )

      of_value : (left : Bool) → s ≡ saying a left → may left may_left may_none ≡ true
          → (may_none ≡ true) × (count ≡ length (doomed_at a)) × MayEnd a × AllScanned a
          × FitsFound (ended_to a) (refs_of a) false t
      of_value true same ok =
          let there : IsRow (saying a true) (plain_row plain.EndMark (replies.Doomed count)) t =
          subst (λ (u : State). IsRow u (plain_row plain.EndMark (replies.Doomed count)) t) same h in
          absurd (no_end (simp marks at there).0)
      of_value false same ok =
          ended ok
          (plain_accepted (saying a false) t plain.EndMark (replies.Doomed count) (ends_none a marks)
          (subst (λ (u : State). IsRow u (plain_row plain.EndMark (replies.Doomed count)) t) same h))

  -- and each that fits afterwards comes from one that fitted
  pub fits_end : may_none ≡ true → MayEnd a → AllScanned a → FitsFound (ended_to a) (refs_of a) false t
      → (s : State) × Fits a may_left may_none s
      × IsRow s (plain_row plain.EndMark (replies.Doomed (length (doomed_at a)))) t
  fits_end ok ends all fits = (
    saying a false,
    (false, refl, ok),
    accepted_plain (saying a false) t plain.EndMark (replies.Doomed (length (doomed_at a))) (ends_none a marks)
        (record {
          answer = refl;
          may_doom = ends;
          found = fits.0;
          are_found = each_found a.world.heap.objects a.scanned fits.0 fits.2 (λ k. (fits.3.each k).0);
          all_found = λ n clear.
              let at = all n clear in joined_at fits.0 at.0 n ((fits.3.each at.0).1 n at.1 clear);
          after = fits.1;
        }),
  )
