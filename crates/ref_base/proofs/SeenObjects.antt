-- How objects read where some are gone and some references read as cleared: changes of objects go through.
use Rattle.ref_base.proofs.Common.{◌≡◌, ℕ, Bool, true, false, ◌==◌, refl, sym, ap, ◌∙◌, arith, List, [], ◌∷◌, ◌++◌, map}
use Rattle.ref_base.proofs.Common.{Option, Some, None, inl, inr, cases_Bool, eqb-true, ne_eqb, true≢false, map-append}
use Rattle.ref_base.proofs.Common.{has, Object, object_at, numbers, IsRising, Heap, reference_in, registered_in}
use Rattle.ref_base.proofs.Common.{changed_at, changed_in, with_reference, cleared, without, cleared_if, objects_under}
use Rattle.ref_base.proofs.Common.{heap_under}
use Rattle.ref_base.proofs.HasLaws.{has-append}
use Rattle.ref_base.proofs.Reshaping.{KeepsShape, map-changed_at, at-reshaped}

-- ---- objects that are gone

pub without-changed_at : (gone : List ℕ) (os : List Object) (n : ℕ) (f : Object → Object)
    → ((o : Object) → (f o).no ≡ o.no) → without gone (changed_at os n f) ≡ changed_at (without gone os) n f
without-changed_at gone [] n f keeps = refl
without-changed_at gone (o ∷ os) n f keeps =
    elim (cases_Bool (o.no == n)) [
      | inl here ↦
          let number : o.no ≡ n = eqb-true o.no n here in
          elim (cases_Bool (has gone o.no)) [
            | inl out ↦
                let still : has gone (f o).no ≡ true = ap (has gone) (keeps o) ∙ out in
                simp (here, out, still) (sym (changed_at-gone gone os n f (ap (has gone) (sym number) ∙ out)))
            | inr kept ↦
                let still : has gone (f o).no ≡ false = ap (has gone) (keeps o) ∙ kept in
                simp (here, kept, still) refl
          ]
      | inr later ↦
          elim (cases_Bool (has gone o.no)) [
            | inl out ↦ simp (later, out) (without-changed_at gone os n f keeps)
            | inr kept ↦ simp (later, kept) (ap (λ ps. o ∷ ps) (without-changed_at gone os n f keeps))
          ]
    ]
  where
    -- no object of a number that is gone is left to be changed
    changed_at-gone : (gone : List ℕ) (os : List Object) (n : ℕ) (f : Object → Object) → has gone n ≡ true
        → changed_at (without gone os) n f ≡ without gone os
    changed_at-gone gone [] n f out = refl
    changed_at-gone gone (o ∷ os) n f out =
        elim (cases_Bool (has gone o.no)) [
          | inl also ↦ simp also (changed_at-gone gone os n f out)
          | inr kept ↦
              let other : (o.no == n) ≡ false =
              ne_eqb o.no n (λ same. true≢false (sym out ∙ ap (has gone) (sym same) ∙ kept)) in
              simp (kept, other) (ap (λ ps. o ∷ ps) (changed_at-gone gone os n f out))
        ]

without-push : (gone : List ℕ) (os : List Object) (o : Object) → has gone o.no ≡ false
    → without gone (os ++ o ∷ []) ≡ without gone os ++ o ∷ []
without-push gone [] o kept = simp kept refl
without-push gone (p ∷ os) o kept = grind (arith, without-push gone os o kept)

pub object_at-without : (gone : List ℕ) (os : List Object) (n : ℕ) → has gone n ≡ false
    → object_at (without gone os) n ≡ object_at os n
object_at-without gone [] n kept = refl
object_at-without gone (o ∷ os) n kept = grind (arith, object_at-without gone os n kept)

pub object_at-gone : (gone : List ℕ) (os : List Object) (n : ℕ) → has gone n ≡ true
    → object_at (without gone os) n ≡ None
object_at-gone gone [] n out = refl
object_at-gone gone (o ∷ os) n out = grind (arith, object_at-gone gone os n out)

-- numbers rise among fewer objects
below_all : (m : ℕ) (gone : List ℕ) (os : List Object) → IsRising (m ∷ numbers os)
    → IsRising (m ∷ numbers (without gone os))
below_all m gone [] rising = tt
below_all m gone (o ∷ os) rising = grind (arith, below_all o.no gone os rising.1)

pub rising-without : (gone : List ℕ) (os : List Object) → IsRising (numbers os) → IsRising (numbers (without gone os))
rising-without gone [] rising = tt
rising-without gone (o ∷ os) rising = grind (arith, below_all, rising-without gone os)

-- what is gone first and what is gone then are gone together
without-more : (gone ns : List ℕ) (os : List Object) → without ns (without gone os) ≡ without (gone ++ ns) os
without-more gone ns [] = refl
without-more gone ns (o ∷ os) = grind (arith, has-append, without-more gone ns os)

-- ---- references that read as cleared

module _ (these : ℕ → Bool) where
  cleared_if-no : (o : Object) → (cleared_if these o).no ≡ o.no
  cleared_if-no o = elim (cases_Bool (these o.no)) [ inl clear ↦ simp clear refl | inr keeps ↦ simp keeps refl ]

  pub cleared_if-shape : KeepsShape (λ o. cleared_if these o)
  cleared_if-shape = grind arith

  pub numbers-cleared_if : (os : List Object) → numbers (map (λ o. cleared_if these o) os) ≡ numbers os
  numbers-cleared_if [] = refl
  numbers-cleared_if (o ∷ os) = search (cleared_if-no, numbers-cleared_if os)

  -- a change of an object that leaves its number goes through, if it does so for what is cleared
  through : (f : Object → Object) (o : Object) → (f o).no ≡ o.no
      → with_reference cleared (f o) ≡ f (with_reference cleared o) → cleared_if these (f o) ≡ f (cleared_if these o)
  through f o keeps clears = grind arith

  module _ (gone : List ℕ) where
    seen_changed : (os : List Object) (n : ℕ) (f : Object → Object) → ((o : Object) → (f o).no ≡ o.no)
        → ((o : Object) → with_reference cleared (f o) ≡ f (with_reference cleared o))
        → objects_under gone these (changed_at os n f) ≡ changed_at (objects_under gone these os) n f
    seen_changed os n f keeps clears = search (without-changed_at, map-changed_at, cleared_if-no, through f)

    pub heap_changed : (h : Heap) (held : Option ℕ) (f : Object → Object) → ((o : Object) → (f o).no ≡ o.no)
        → ((o : Object) → with_reference cleared (f o) ≡ f (with_reference cleared o))
        → changed_in (heap_under gone these h) held f ≡ heap_under gone these (changed_in h held f)
    heap_changed h None f keeps clears = refl
    heap_changed h (Some n) f keeps clears =
        ap (λ (os : List Object). record h { objects = os }) (sym (seen_changed h.objects n f keeps clears))

    -- one object more that is neither gone nor cleared
    pub seen_push : (os : List Object) (o : Object) → has gone o.no ≡ false → these o.no ≡ false
        → objects_under gone these (os ++ o ∷ []) ≡ objects_under gone these os ++ o ∷ []
    seen_push os o kept stays = grind (arith, without-push, map-append)

    -- a reference that isn't gone has its queue
    pub seen_queue : (os : List Object) (n : ℕ) → has gone n ≡ false
        → registered_in (reference_in (object_at (objects_under gone these os) n))
        ≡ registered_in (reference_in (object_at os n))
    seen_queue os n kept =
        at-reshaped (λ o. cleared_if these o) cleared_if-shape (λ o. registered_in (reference_in o)) (without gone os) n
        (λ o. cleared_if-shape.queue o)
        ∙ ap (λ (o : Option Object). registered_in (reference_in o)) (object_at-without gone os n kept)

    -- more of them are gone
    pub seen_swept : (ns : List ℕ) (os : List Object)
        → without ns (objects_under gone these os) ≡ objects_under (gone ++ ns) these os
    seen_swept ns os =
        map-without ns (without gone os) ∙ ap (map (λ o. cleared_if these o)) (without-more gone ns os)
      where
        map-without : (ns : List ℕ) (os : List Object)
            → without ns (map (λ o. cleared_if these o) os) ≡ map (λ o. cleared_if these o) (without ns os)
        map-without ns [] = refl
        map-without ns (o ∷ os) =
            let number : has ns (cleared_if these o).no ≡ has ns o.no = ap (has ns) (cleared_if-no o) in
            elim (cases_Bool (has ns o.no)) [
              | inl out ↦
                  let also : has ns (cleared_if these o).no ≡ true = number ∙ out in
                  simp (out, also) (map-without ns os)
              | inr kept ↦
                  let also : has ns (cleared_if these o).no ≡ false = number ∙ kept in
                  simp (kept, also) (ap (λ ps. cleared_if these o ∷ ps) (map-without ns os))
            ]
