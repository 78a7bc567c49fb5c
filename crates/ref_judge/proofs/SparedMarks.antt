-- How the end of a mark goes over the objects: each that is spared is marked, and cleared if it refers to a doomed one.
use Rattle.std.proofs.Common.{arith, ◌≡◌, ℕ, ◌+◌, ◌==◌, ◌||◌, ◌&&◌, nat_lt, Bool, true, false, if◌then◌else◌}
use Rattle.std.proofs.Common.{List, [], ◌∷◌, map, Option, Some, None, refl, ap, ◌∙◌, sym, inl, inr, subst}
use Rattle.ref_base.proofs.Common.{has, numbers, Object, IsRising, is_there, false≢true, cases_Bool, object_at, is_some}
use Rattle.ref_base.proofs.Common.{refers_into, reference_at, cleared, with_reference, Heap, reference_in, eqb-true}
use Rattle.ref_base.proofs.Lookups.{is_there-has}
use Rattle.ref_base.proofs.OneMore.{has-one_more}
use Rattle.ref_base.proofs.Common.{one_more}
use Rattle.ref_objects.specs.Grounds.{Ground, least_from, ground_marked, ground_with_heap, is_unmarked}
use Rattle.ref_base.specs.Heaps.{with_changed}
use Rattle.ref_judge.specs.MarkEnding.{spares, dooms, is_passed, ended, ended_if, EndsTo, AreFew, next_behind}
use Rattle.ref_judge.specs.declared.survivors.MarkEnd.{MarkEnd}
use Rattle.ref_judge.proofs.ObjectWalks.{map-same, numbers-map, changed_one, found_same, one_passed, none_passed}
use Rattle.std.proofs.lemmas.List.{map-id}

-- it changes no number
ended_no : (so : Bool) (end : MarkEnd) (old : Ground) (o : Object) → (ended_if so end old.tags o).no ≡ o.no
ended_no so end old o = grind arith

-- nothing has changed at first
pub ends_begin : (end : MarkEnd) (old : Ground) → AreFew old → old.marked ≡ []
    → EndsTo (least_from (numbers old.heap.objects) 0) end old old
ends_begin end old few none = record {
  heap =
      ap (λ os. record old.heap { objects = os }) (sym (map-same
      (λ o. ended_if (is_passed (least_from (numbers old.heap.objects) 0) o.no) end old.tags o) (λ o. o)
      old.heap.objects
      few.rising (λ o at.
      let no = none_passed (numbers old.heap.objects) o.no few.rising
      (sym (is_there-has old.heap.objects o.no) ∙ ap is_some at) in
      simp no refl) ∙ map-id old.heap.objects));
  next = refl;
  tags = refl;
  condemning = refl;
  space = refl;
  marked = λ n. ap (λ ns. has ns n) none ∙ of_there n (is_there old.heap.objects n) refl;
}
  where
    of_there : (n : ℕ) (there : Bool) → is_there old.heap.objects n ≡ there
        → false ≡ (there && (is_passed (least_from (numbers old.heap.objects) 0) n && spares end old.tags n))
    of_there n true is =
        let no = none_passed (numbers old.heap.objects) n few.rising (sym (is_there-has old.heap.objects n) ∙ is) in
        simp no refl
    of_there n false is = refl

module _ (end : MarkEnd) (old now : Ground) (k : ℕ) (few : AreFew old) (walked : EndsTo (Some k) end old now)
    (there : has (numbers old.heap.objects) k ≡ true) where
  abbrev os : List Object
  os = old.heap.objects

  -- what is done at this object, and was done before
  abbrev stepped : Object → Object
  stepped o = if o.no == k then ended end old.tags o else ended_if (nat_lt o.no k) end old.tags o

  stepped_on : (o : Object) → object_at os o.no ≡ Some o
      → stepped o ≡ ended_if (is_passed (least_from (numbers os) (k + 1)) o.no) end old.tags o
  stepped_on o at =
      let passed = one_passed (numbers os) k o.no few.rising (sym (is_there-has os o.no) ∙ ap is_some at) in
      elim (cases_Bool (o.no == k)) [
        | inl here ↦
            let turned : (k == o.no) ≡ true = grind arith in
            let is : is_passed (least_from (numbers os) (k + 1)) o.no ≡ true = passed ∙ grind arith in
            simp (here, is) refl
        | inr other ↦
            let turned : (k == o.no) ≡ false = grind arith in
            let is : is_passed (least_from (numbers os) (k + 1)) o.no ≡ nat_lt o.no k = passed ∙ grind arith in
            simp (other, is) refl
      ]

  now_numbers : numbers now.heap.objects ≡ numbers os
  now_numbers =
      ap (λ (h : Heap). numbers h.objects) walked.heap
      ∙ numbers-map (λ o. ended_if (nat_lt o.no k) end old.tags o) os (λ o. ended_no (nat_lt o.no k) end old o)

  pub behind_same : next_behind now k ≡ least_from (numbers os) (k + 1)
  behind_same = ap (λ (ns : List ℕ). least_from ns (k + 1)) now_numbers

  pub few_now : AreFew now
  few_now = record {
    rising = subst IsRising (sym now_numbers) few.rising;
    few = λ n h. few.few n (ap (λ ns. has ns n) (sym now_numbers) ∙ h);
  }

  -- a ground in which this object was passed
  module _ (new : Ground) (heap : new.heap ≡ record old.heap { objects = map (λ o. stepped o) os })
      (next : new.next ≡ now.next) (tags : new.tags ≡ now.tags) (condemning : new.condemning ≡ now.condemning)
      (space : new.space ≡ now.space)
      (marked : (n : ℕ) → has new.marked n ≡ (has now.marked n || ((k == n) && spares end old.tags k))) where
    marked_on : (n : ℕ)
        → has new.marked n
        ≡ (is_there os n && (is_passed (least_from (numbers os) (k + 1)) n && spares end old.tags n))
    marked_on n =
        marked n ∙ ap (λ (b : Bool). b || ((k == n) && spares end old.tags k)) (walked.marked n)
        ∙ of_there (is_there os n) refl
      where
        of_there : (at : Bool) → is_there os n ≡ at
            → ((at && (nat_lt n k && spares end old.tags n)) || ((k == n) && spares end old.tags k))
            ≡ (at && (is_passed (least_from (numbers os) (k + 1)) n && spares end old.tags n))
        of_there true is =
            let passed = one_passed (numbers os) k n few.rising (sym (is_there-has os n) ∙ is) in
            rw passed (elim (cases_Bool (k == n)) [
              | inl here ↦ let same = eqb-true k n here in grind arith
              | inr other ↦ grind arith
            ])
        of_there false is =
            elim (cases_Bool (k == n)) [
              | inl here ↦
                  absurd (false≢true (sym is ∙ ap (λ m. is_there os m) (sym (eqb-true k n here))
                  ∙ is_there-has os k ∙ there))
              | inr other ↦ simp other refl
            ]

    pub passed : EndsTo (next_behind now k) end old new
    passed =
        subst (λ (ns : List ℕ). EndsTo (least_from ns (k + 1)) end old new) (sym now_numbers) (record {
          heap = heap ∙ ap (λ ps. record old.heap { objects = ps }) (map-same (λ o. stepped o)
              (λ o. ended_if (is_passed (least_from (numbers os) (k + 1)) o.no) end old.tags o) os few.rising
              stepped_on);
          next = next ∙ walked.next;
          tags = tags ∙ walked.tags;
          condemning = condemning ∙ walked.condemning;
          space = space ∙ walked.space;
          marked = marked_on;
        })

  -- ---- the kinds of rounds

  not_passed : nat_lt k k ≡ false
  not_passed = grind arith

  -- the object of this number, which is as it was
  own : (o : Object) × (object_at os k ≡ Some o)
  own = of_found (object_at os k) refl (is_there-has os k ∙ there)
    where
      of_found : (found : Option Object) → object_at os k ≡ found → is_some found ≡ true
          → (o : Object) × (object_at os k ≡ Some o)
      of_found None is some = absurd (false≢true some)
      of_found (Some o) is some = (o, is)

  own_no : (o : Object) → object_at os k ≡ Some o → o.no ≡ k
  own_no o at = found_no os k o at
    where
      found_no : (os : List Object) (k : ℕ) (o : Object) → object_at os k ≡ Some o → o.no ≡ k
      found_no [] k o at = absurd cc
      found_no (p ∷ os) k o at = grind (arith, found_no os k o)

  own_now : (o : Object) → object_at os k ≡ Some o → object_at now.heap.objects k ≡ Some o
  own_now o at =
      ap (λ (h : Heap). object_at h.objects k) walked.heap
      ∙ found_same (λ p. ended_if (nat_lt p.no k) end old.tags p) os k o (λ p. ended_no (nat_lt p.no k) end old p) at
      (let before : nat_lt o.no k ≡ false = ap (λ n. nat_lt n k) (own_no o at) ∙ not_passed in simp before refl)

  reference_same : reference_at now.heap k ≡ reference_at old.heap k
  reference_same = ap (λ found. reference_in found) (own_now own.0 own.1 ∙ sym own.1)

  -- at this object nothing is to be cleared
  module _ (stays : (spares end old.tags k && refers_into (dooms end old.tags) (reference_at old.heap k)) ≡ false) where
    stepped_same : (o : Object) → object_at os o.no ≡ Some o → ended_if (nat_lt o.no k) end old.tags o ≡ stepped o
    stepped_same o at =
        elim (cases_Bool (o.no == k)) [
          | inl here ↦
              let same = eqb-true o.no k here in
              let read : reference_at old.heap k ≡ o.reference =
              ap (λ n. reference_at old.heap n) (sym same) ∙ ap (λ found. reference_in found) at in
              let none : (spares end old.tags o.no && refers_into (dooms end old.tags) o.reference) ≡ false =
              rw (same, sym read) stays in
              let before : nat_lt o.no k ≡ false = ap (λ n. nat_lt n k) same ∙ not_passed in
              simp (here, none, before) refl
          | inr other ↦ simp other refl
        ]

    heap_same : now.heap ≡ record old.heap { objects = map (λ o. stepped o) os }
    heap_same =
        walked.heap
        ∙ ap (λ ps. record old.heap { objects = ps })
        (map-same (λ o. ended_if (nat_lt o.no k) end old.tags o) (λ o. stepped o) os few.rising stepped_same)

  -- what is doomed stays as it is
  pub pass_doomed : spares end now.tags k ≡ false → EndsTo (next_behind now k) end old now
  pass_doomed doomed =
      let was : spares end old.tags k ≡ false = ap (λ ts. spares end ts k) (sym walked.tags) ∙ doomed in
      passed now (heap_same (simp was refl)) refl refl refl refl
      (λ n. simp was (grind arith))

  -- what is spared is marked
  unmarked_here : is_unmarked now k ≡ true
  unmarked_here =
      let there_now : is_there now.heap.objects k ≡ true = ap is_some (own_now own.0 own.1) in
      let not_yet : has now.marked k ≡ false =
      walked.marked k ∙ (let there_old = is_there-has os k ∙ there in simp (there_old, not_passed) refl) in
      simp (there_now, not_yet) refl

  marked_is : ground_marked now k ≡ record now { marked = one_more now.marked k }
  marked_is = simp unmarked_here refl

  marked_here : spares end old.tags k ≡ true → (n : ℕ)
      → has (one_more now.marked k) n ≡ (has now.marked n || ((k == n) && spares end old.tags k))
  marked_here spared n = has-one_more now.marked k n ∙ simp spared (either (k == n) (has now.marked n))
    where
      either : (a b : Bool) → (a || b) ≡ (b || (a && true))
      either a b = grind arith

  spared_old : spares end now.tags k ≡ true → spares end old.tags k ≡ true
  spared_old spared = ap (λ ts. spares end ts k) (sym walked.tags) ∙ spared

  refers_old : (bit : Bool) → refers_into (dooms end now.tags) (reference_at now.heap k) ≡ bit
      → refers_into (dooms end old.tags) (reference_at old.heap k) ≡ bit
  refers_old bit is =
      ap (λ ts. refers_into (dooms end ts) (reference_at old.heap k)) (sym walked.tags)
      ∙ ap (λ r. refers_into (dooms end now.tags) r) (sym reference_same) ∙ is

  pub pass_kept : spares end now.tags k ≡ true
      → refers_into (dooms end (ground_marked now k).tags) (reference_at (ground_marked now k).heap k) ≡ false
      → EndsTo (next_behind now k) end old (ground_marked now k)
  pass_kept spared refers =
      let was = spared_old spared in
      let none =
      refers_old false (subst (λ (g : Ground). refers_into (dooms end g.tags) (reference_at g.heap k) ≡ false) marked_is
      refers) in
      subst (λ (g : Ground). EndsTo (next_behind now k) end old g) (sym marked_is)
      (passed (record now { marked = one_more now.marked k }) (heap_same (simp (was, none) refl)) refl refl refl refl
      (marked_here was))

  -- and cleared where it refers to a doomed one
  abbrev pub cut_in : Ground → Ground
  cut_in g = ground_with_heap g (with_changed g.heap k (with_reference cleared))

  heap_cut : (spares end old.tags k && refers_into (dooms end old.tags) (reference_at old.heap k)) ≡ true
      → with_changed now.heap k (with_reference cleared) ≡ record old.heap { objects = map (λ o. stepped o) os }
  heap_cut goes =
      ap (λ (h : Heap). with_changed h k (with_reference cleared)) walked.heap
      ∙ ap (λ ps. record old.heap { objects = ps }) (changed_one (λ o. ended_if (nat_lt o.no k) end old.tags o)
      (with_reference cleared) os k (λ o. ended_no (nat_lt o.no k) end old o) few.rising
      ∙ map-same
      (λ o.
      if o.no == k then with_reference cleared (ended_if (nat_lt o.no k) end old.tags o)
      else ended_if (nat_lt o.no k) end old.tags o) (λ o. stepped o) os few.rising at_each)
    where
      at_each : (o : Object) → object_at os o.no ≡ Some o
          → (if o.no == k then with_reference cleared (ended_if (nat_lt o.no k) end old.tags o)
          else ended_if (nat_lt o.no k) end old.tags o) ≡ stepped o
      at_each o at =
          elim (cases_Bool (o.no == k)) [
            | inl here ↦
                let same = eqb-true o.no k here in
                let read : reference_at old.heap k ≡ o.reference =
                ap (λ n. reference_at old.heap n) (sym same) ∙ ap (λ found. reference_in found) at in
                let all : (spares end old.tags o.no && refers_into (dooms end old.tags) o.reference) ≡ true =
                rw (same, sym read) goes in
                let before : nat_lt o.no k ≡ false = ap (λ n. nat_lt n k) same ∙ not_passed in
                simp (here, all, before) refl
            | inr other ↦ simp other refl
          ]

  pub pass_cut : spares end now.tags k ≡ true
      → refers_into (dooms end (ground_marked now k).tags) (reference_at (ground_marked now k).heap k) ≡ true
      → EndsTo (next_behind now k) end old (cut_in (ground_marked now k))
  pass_cut spared refers =
      let was = spared_old spared in
      let all =
      refers_old true (subst (λ (g : Ground). refers_into (dooms end g.tags) (reference_at g.heap k) ≡ true) marked_is
      refers) in
      subst (λ (g : Ground). EndsTo (next_behind now k) end old (cut_in g)) (sym marked_is)
      (passed (cut_in (record now { marked = one_more now.marked k })) (heap_cut (simp (was, all) refl)) refl refl refl
      refl (marked_here was))
