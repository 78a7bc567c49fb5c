-- What a put may answer, by the judge's numbers of what was put in.
use Rattle.ref_base.proofs.Common.{◌≡◌, ℕ, ◌||◌, ◌&&◌, Bool, true, false, not, List, []}
use Rattle.ref_base.proofs.Common.{◌∷◌, ◌++◌, map, refl, sym, ap, ◌∙◌, has, Notice, Lists, object_of}
use Rattle.ref_base.proofs.Common.{map-append, and_parts, false≢true}
use Rattle.std.proofs.lemmas.List.{append-nil}
use Rattle.std.proofs.Common.{append_assoc}
use Rattle.std.specs.List.{AllByRecursion}
use Rattle.ref_base.specs.QueueBatches.{Becomes, Become, EndsBatch, after_one, gone_in}
use Rattle.ref_base.specs.QueueLists.{enqueued, was_put, with_parcel}
use Rattle.ref_base.specs.declared.fault.Fault.TheVariants.{NoMemory}
use Rattle.ref_base.specs.declared.out.Done.{Done}
use Rattle.ref_base.specs.declared.out.Done.TheVariants.{Added, Already, Closed, Refused}
use Rattle.ref_base.proofs.HasLaws.{has-append}
use Rattle.ref_space.specs.Tables.{Tag}
use Rattle.ref_judge.specs.Judged.{is_put}
use Rattle.ref_judge.specs.Queueing.{may_become, may_become_each}

-- ---- one

abbrev pub queue_of : Notice → ℕ
queue_of notice = notice.queue

-- what may become of a notice by the numbers may become of it
pub one_becomes : (l : Lists Notice) (x : Notice) (d : Done) → x.queue ≡ l.queue
    → may_become (was_put object_of l x) l.closed d ≡ true → Becomes object_of queue_of l x d
one_becomes l x Added own may = of_tests (was_put object_of l x) l.closed may
  where
    of_tests : (was closed : Bool) → (not was && not closed) ≡ true
        → (x.queue ≡ l.queue) × (was ≡ false) × (closed ≡ false)
    of_tests false false may = (own, refl, refl)
    of_tests false true may = absurd cc
    of_tests true closed may = absurd cc
one_becomes l x Already own may = may
one_becomes l x Closed own may = of_tests (was_put object_of l x) l.closed may
  where
    of_tests : (was closed : Bool) → (not was && closed) ≡ true → (was ≡ false) × (closed ≡ true)
    of_tests false true may = (refl, refl)
    of_tests false false may = absurd cc
    of_tests true closed may = absurd cc
one_becomes l x (Refused NoMemory) own may = of_tests (was_put object_of l x) l.closed may
  where
    of_tests : (was closed : Bool) → (not was && not closed) ≡ true
        → (NoMemory ≡ NoMemory) × ((x.queue ≡ l.queue) × (was ≡ false) × (closed ≡ false))
    of_tests false false may = (refl, (own, refl, refl))
    of_tests false true may = absurd cc
    of_tests true closed may = absurd cc
one_becomes l x (Refused fault) own may = absurd (false≢true may)

-- and back
pub becomes_one : (l : Lists Notice) (x : Notice) (d : Done) → Becomes object_of queue_of l x d
    → may_become (was_put object_of l x) l.closed d ≡ true
becomes_one l x Added is = rw (is.1, is.2) refl
becomes_one l x Already is = is
becomes_one l x Closed is = rw (is.0, is.1) refl
becomes_one l x (Refused fault) is = rw (is.0, is.1.1, is.1.2) refl

-- ---- several

-- the queue has these numbers, and behind them those of the batch
abbrev HasBoth : Lists Notice → List ℕ → List ℕ → Type 0
HasBoth l before added = enqueued object_of l ≡ before ++ added

-- a notice is for the queue, and its reference's link tells whether it was put in before the batch
abbrev pub IsLinked : List Tag → ℕ → List ℕ → Notice → Type 0
IsLinked ts q before x = (x.queue ≡ q) × (is_put ts x.object ≡ has before x.object)

module _ (ts : List Tag) (q : ℕ) (before : List ℕ) where
  was_put_is : (l : Lists Notice) (added : List ℕ) (x : Notice) → HasBoth l before added → IsLinked ts q before x
      → was_put object_of l x ≡ (is_put ts x.object || has added x.object)
  was_put_is l added x both linked =
      ap (λ ns. has ns x.object) both ∙ has-append before added x.object
      ∙ ap (λ (b : Bool). b || has added x.object) (sym linked.1)

  -- one more that became of the first
  both_after : (l : Lists Notice) (added : List ℕ) (x : Notice) (d : Done) → HasBoth l before added
      → HasBoth (after_one l x d) before (added ++ gone_in x.object d)
  both_after l added x Added both =
      ap (λ ns. l.taken ++ ns) (map-append object_of l.stands (x ∷ []))
      ∙ sym (append_assoc l.taken (map object_of l.stands) (x.object ∷ []))
      ∙ ap (λ ns. ns ++ x.object ∷ []) both ∙ append_assoc before added (x.object ∷ [])
  both_after l added x Already both = both ∙ ap (λ ns. before ++ ns) (sym (append-nil added))
  both_after l added x Closed both = both ∙ ap (λ ns. before ++ ns) (sym (append-nil added))
  both_after l added x (Refused fault) both = both ∙ ap (λ ns. before ++ ns) (sym (append-nil added))

  first_becomes : (l : Lists Notice) (added : List ℕ) (x : Notice) (d : Done) (rest : Bool) → HasBoth l before added
      → l.queue ≡ q → IsLinked ts q before x
      → (may_become (is_put ts x.object || has added x.object) l.closed d && rest) ≡ true
      → Becomes object_of queue_of l x d
  first_becomes l added x d rest both named linked may =
      one_becomes l x d (linked.0 ∙ sym named)
      (ap (λ (was : Bool). may_become was l.closed d) (was_put_is l added x both linked)
      ∙ (and_parts (may_become (is_put ts x.object || has added x.object) l.closed d) rest may).0)

  becomes_first : (l : Lists Notice) (added : List ℕ) (x : Notice) (d : Done) → HasBoth l before added
      → IsLinked ts q before x → Becomes object_of queue_of l x d
      → may_become (is_put ts x.object || has added x.object) l.closed d ≡ true
  becomes_first l added x d both linked becomes =
      ap (λ (was : Bool). may_become was l.closed d) (sym (was_put_is l added x both linked)) ∙ becomes_one l x d
      becomes

  -- what may become of them by the numbers may become of them
  pub each_becomes : (l : Lists Notice) (added : List ℕ) (xs : List Notice) (ds : List Done) → HasBoth l before added
      → l.queue ≡ q → AllByRecursion (IsLinked ts q before) xs
      → may_become_each ts added l.closed (map object_of xs) ds ≡ true
      → Become object_of queue_of l xs ds × EndsBatch xs ds
  each_becomes l added [] [] both named linked may = (tt, tt)
  each_becomes l added [] (d ∷ ds) both named linked may = absurd (false≢true may)
  each_becomes l added (x ∷ xs) [] both named linked may = absurd (false≢true may)
  each_becomes l added (x ∷ xs) (Refused fault ∷ []) both named linked may =
      ((first_becomes l added x (Refused fault) true both named linked.0 may, tt), refl)
  each_becomes l added (x ∷ xs) (Refused fault ∷ d ∷ ds) both named linked may =
      absurd (false≢true (and_parts _ _ may).1)
  each_becomes l added (x ∷ xs) (Added ∷ ds) both named linked may =
      let rest =
      each_becomes (with_parcel l x) (added ++ x.object ∷ []) xs ds (both_after l added x Added both) named linked.1
      (and_parts _ _ may).1 in
      ((first_becomes l added x Added _ both named linked.0 may, rest.0), rest.1)
  each_becomes l added (x ∷ xs) (Already ∷ ds) both named linked may =
      let rest =
      each_becomes l (added ++ []) xs ds (both_after l added x Already both) named linked.1 (and_parts _ _ may).1 in
      ((first_becomes l added x Already _ both named linked.0 may, rest.0), rest.1)
  each_becomes l added (x ∷ xs) (Closed ∷ ds) both named linked may =
      let rest =
      each_becomes l (added ++ []) xs ds (both_after l added x Closed both) named linked.1 (and_parts _ _ may).1 in
      ((first_becomes l added x Closed _ both named linked.0 may, rest.0), rest.1)

  -- and back
  pub becomes_each : (l : Lists Notice) (added : List ℕ) (xs : List Notice) (ds : List Done) → HasBoth l before added
      → AllByRecursion (IsLinked ts q before) xs → Become object_of queue_of l xs ds → EndsBatch xs ds
      → may_become_each ts added l.closed (map object_of xs) ds ≡ true
  becomes_each l added [] [] both linked become ends = refl
  becomes_each l added [] (d ∷ ds) both linked become ends = absurd become
  becomes_each l added (x ∷ xs) [] both linked become ends = absurd ends
  becomes_each l added (x ∷ xs) (Refused fault ∷ ds) both linked become ends =
      rw (becomes_first l added x (Refused fault) both linked.0 become.0, ends) refl
  becomes_each l added (x ∷ xs) (Added ∷ ds) both linked become ends =
      rw (becomes_first l added x Added both linked.0 become.0)
      (becomes_each (with_parcel l x) (added ++ x.object ∷ []) xs ds (both_after l added x Added both) linked.1 become.1
      ends)
  becomes_each l added (x ∷ xs) (Already ∷ ds) both linked become ends =
      rw (becomes_first l added x Already both linked.0 become.0)
      (becomes_each l (added ++ []) xs ds (both_after l added x Already both) linked.1 become.1 ends)
  becomes_each l added (x ∷ xs) (Closed ∷ ds) both linked become ends =
      rw (becomes_first l added x Closed both linked.0 become.0)
      (becomes_each l (added ++ []) xs ds (both_after l added x Closed both) linked.1 become.1 ends)
