-- What is added of a hand's notices and what is left of them, and what is handed on of what is pending, are parts of
-- them; and what holds of the whole holds of these.
use Rattle.ref_base.proofs.Common.{arith, ◌≡◌, ℕ, zero, suc, List, [], ◌∷◌, ◌++◌, map, take, drop, refl, ap, ◌∙◌}
use Rattle.ref_base.proofs.Common.{AllByRecursion, map-append, and_parts, eqb-true, added_among, not_added, Notice}
use Rattle.ref_base.proofs.Common.{Pending}
use Rattle.ref_base.proofs.Common.{notice_from, told_notices, one_handed, all_handed, batch_of, Cycle, Done}
use Rattle.ref_base.proofs.Common.{object_of, told_taken, one_taken}
use Rattle.ref_base.specs.QueueBatches.{gone_in, come_back}
use Rattle.ref_base.proofs.Common.{sym, cases_Bool, inl, inr, take-append-drop, append_assoc}
use Rattle.ref_base.specs.Refusals.{front_with, goes_with}
use Rattle.ref_base.specs.declared.out.Done.TheVariants.{Added, Already, Closed, Refused}

module _ {X : Type 0} (P : X → Type 0) where
  pub all_joined : (xs ys : List X) → AllByRecursion P xs → AllByRecursion P ys → AllByRecursion P (xs ++ ys)
  all_joined [] ys all more = more
  all_joined (x ∷ xs) ys all more = (all.0, all_joined xs ys all.1 more)

  all_gone_in : (x : X) (d : Done) → P x → AllByRecursion P (gone_in x d)
  all_gone_in x Added is = (is, tt)
  all_gone_in x Already is = tt
  all_gone_in x Closed is = tt
  all_gone_in x (Refused fault) is = tt

  all_come_back : (x : X) (d : Done) → P x → AllByRecursion P (come_back x d)
  all_come_back x Added is = tt
  all_come_back x Already is = (is, tt)
  all_come_back x Closed is = (is, tt)
  all_come_back x (Refused fault) is = (is, tt)

  pub all_added : (xs : List X) (ds : List Done) → AllByRecursion P xs → AllByRecursion P (added_among xs ds)
  all_added xs [] all = tt
  all_added [] (d ∷ ds) all = tt
  all_added (x ∷ xs) (d ∷ ds) all =
      all_joined (gone_in x d) (added_among xs ds) (all_gone_in x d all.0) (all_added xs ds all.1)

  pub all_left : (xs : List X) (ds : List Done) → AllByRecursion P xs → AllByRecursion P (not_added xs ds)
  all_left [] ds all = tt
  all_left (x ∷ xs) [] all = all
  all_left (x ∷ xs) (d ∷ ds) all =
      all_joined (come_back x d) (not_added xs ds) (all_come_back x d all.0) (all_left xs ds all.1)

  pub all_take : (n : ℕ) (xs : List X) → AllByRecursion P xs → AllByRecursion P (take n xs)
  all_take zero xs all = tt
  all_take (suc n) [] all = tt
  all_take (suc n) (x ∷ xs) all = (all.0, all_take n xs all.1)

module _ {X Y : Type 0} (f : X → Y) where
  map-gone_in : (x : X) (d : Done) → map f (gone_in x d) ≡ gone_in (f x) d
  map-gone_in x Added = refl
  map-gone_in x Already = refl
  map-gone_in x Closed = refl
  map-gone_in x (Refused fault) = refl

  map-come_back : (x : X) (d : Done) → map f (come_back x d) ≡ come_back (f x) d
  map-come_back x Added = refl
  map-come_back x Already = refl
  map-come_back x Closed = refl
  map-come_back x (Refused fault) = refl

  pub map-added : (xs : List X) (ds : List Done) → map f (added_among xs ds) ≡ added_among (map f xs) ds
  map-added xs [] = refl
  map-added [] (d ∷ ds) = refl
  map-added (x ∷ xs) (d ∷ ds) =
      map-append f (gone_in x d) (added_among xs ds)
      ∙ rw (map-gone_in x d, map-added xs ds) refl

  pub map-left : (xs : List X) (ds : List Done) → map f (not_added xs ds) ≡ not_added (map f xs) ds
  map-left [] ds = refl
  map-left (x ∷ xs) [] = refl
  map-left (x ∷ xs) (d ∷ ds) =
      map-append f (come_back x d) (not_added xs ds)
      ∙ rw (map-come_back x d, map-left xs ds) refl

-- ---- what is handed on

-- it is what the answer tells
pub tells_one : (k : ℕ) (ps : List Pending) → told_notices (one_handed k (take 1 ps)) ≡ map (notice_from k) (take 1 ps)
tells_one k [] = refl
tells_one k (p ∷ ps) = refl

tells_alike : (k : ℕ) (p : Pending) (count : ℕ) (ps : List Pending)
    → map (λ n. record { object = n; queue = p.queue; cause = Cycle p.cycle k })
    (map (λ r. r.object) (take count (front_with p ps)))
    ≡ map (notice_from k) (take count (front_with p ps))
tells_alike k p zero ps = refl
tells_alike k p (suc count) [] = refl
tells_alike k p (suc count) (r ∷ ps) = grind (arith, and_parts, eqb-true, tells_alike k p count ps)

pub tells_all : (k max : ℕ) (ps : List Pending)
    → told_notices (all_handed k (batch_of max ps)) ≡ map (notice_from k) (batch_of max ps)
tells_all k max [] = refl
tells_all k zero (p ∷ ps) = refl
tells_all k (suc max) (p ∷ ps) = ap (λ ns. notice_from k p ∷ ns) (tells_alike k p max ps)

all_front : (P : Pending → Type 0) (p : Pending) (ps : List Pending) → AllByRecursion P ps
    → AllByRecursion P (front_with p ps)
all_front P p [] all = tt
all_front P p (r ∷ ps) all = grind (arith, all_front P p ps all.1)

pub all_batch : (P : Pending → Type 0) (max : ℕ) (ps : List Pending) → AllByRecursion P ps
    → AllByRecursion P (batch_of max ps)
all_batch P max [] all = tt
all_batch P max (p ∷ ps) all = all_take P max (p ∷ front_with p ps) (all.0, all_front P p ps all.1)

front_rest : (p : Pending) (ps : List Pending) → (rest : List Pending) × (ps ≡ front_with p ps ++ rest)
front_rest p [] = ([], refl)
front_rest p (r ∷ ps) =
    let more = front_rest p ps in
    elim (cases_Bool (goes_with p r)) [
      | inl is ↦ (more.0, rw is (ap (λ xs. r ∷ xs) more.1))
      | inr isnt ↦ (r ∷ ps, rw isnt refl)
    ]

-- and a front of what is pending
pub batch_front : (max : ℕ) (ps : List Pending) → (rest : List Pending) × (ps ≡ batch_of max ps ++ rest)
batch_front max [] = ([], refl)
batch_front max (p ∷ ps) =
    let front : List Pending = p ∷ front_with p ps in
    let more = front_rest p ps in (
      drop max front ++ more.0,
      ap (λ xs. p ∷ xs) more.1 ∙ ap (λ xs. xs ++ more.0) (sym (take-append-drop max front))
          ∙ append_assoc (take max front) (drop max front) more.0,
    )

pub all_given : (P : Notice → Type 0) (k : ℕ) (ps : List Pending) → AllByRecursion (λ p. P (notice_from k p)) ps
    → AllByRecursion P (map (notice_from k) ps)
all_given P k [] all = tt
all_given P k (p ∷ ps) all = (all.0, all_given P k ps all.1)

-- ---- what is taken from a queue

-- it is what a poll of one tells
pub told_one : (notices : List Notice)
    → told_taken (one_taken (map object_of (take 1 notices))) ≡ map object_of (take 1 notices)
told_one [] = refl
told_one (notice ∷ rest) = refl
