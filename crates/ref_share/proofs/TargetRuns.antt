-- What a call tells of objects: what no object refers to, none refers to after the call, unless it puts that into one.
use Rattle.ref_share.proofs.Common.{◌≡◌, ◌≢◌, ℕ, Bool, true, false, List, [], ◌∷◌, ◌++◌, Option, Some, None, refl}
use Rattle.ref_share.proofs.Common.{arith, sym, ap, ◌∙◌, inl, inr, cases_Bool, false≢true, subst, has, map, NamedStep}
use Rattle.ref_share.proofs.Common.{World}
use Rattle.ref_share.proofs.Common.{State, Reply, told_notices}
use Rattle.std.proofs.Common.{if◌then◌else◌, slice_set, ◌==◌}
use Rattle.std.proofs.lemmas.Bool.{false_from_ne_true}
use Rattle.ref_base.specs.AgreeingWorlds.{Agrees, is_waiting, objects_under, cleared_if}
use Rattle.ref_base.specs.CollectorRows.{without}
use Rattle.ref_base.specs.Graphs.{Object, Reference, object_at, plain_object}
use Rattle.ref_base.specs.Heaps.{Heap, slot_at, changed_in, changed_reference, with_changed, with_field, with_reference}
use Rattle.ref_base.specs.Heaps.{cleared, got_at, stored, cut, got, made, nulls, new_reference, registered_in}
use Rattle.ref_base.specs.Heaps.{reference_at}
use Rattle.ref_base.specs.Paths.{any_referent, targets_of, present, allowed_referent, if_any, is_soft}
use Rattle.ref_base.specs.Replay.{after_heap, if_told, unhooked, pended, cleared_for, handed_each, handed_on}
use Rattle.ref_base.specs.Told.{told_cleared, told_object, told_value, is_nothing}
use Rattle.ref_base.specs.Worlds.{Notice, with_heap}
use Rattle.ref_base.proofs.ApartWorlds.{refers_cleared}
use Rattle.ref_base.proofs.HasLaws.{has-cases, has-left, has-right, has-single}
use Rattle.ref_base.proofs.Lookups.{lookup-changed, has-present_set}
use Rattle.ref_base.proofs.ObjectTargets.{no_nulls}
use Rattle.ref_base.proofs.SeenObjects.{object_at-without, object_at-gone}
use Rattle.ref_base.specs.declared.heap_step.HeapStep.TheVariants as heap
use Rattle.ref_base.specs.declared.plain_step.PlainStep.TheVariants as plain
use Rattle.ref_base.specs.declared.reply.Reply.TheVariants as told

-- what a step copies from a slot into an object, as a field or as the referent of a new one
abbrev pub stored_by : World → NamedStep → Option ℕ
stored_by w (heap.Plain (plain.Store m s i v)) = slot_at w.heap m v
stored_by w (heap.Plain (plain.Refer m strength d s q k)) = slot_at w.heap m s
stored_by w step = None

module _ (n : ℕ) where
  -- the object, if it is there, doesn't refer to n
  abbrev pub Lacks : Option Object → Type 0
  Lacks o = has (targets_of any_referent o) n ≡ false

  -- no object refers to it, as a record that search can see
  pub record InNoObject (w : World) : Type 0 where
    pub each : (m : ℕ) → Lacks (object_at w.heap.objects m)

  -- ---- one object

  lacks_field : (i : ℕ) (value : Option ℕ) (o : Object) → value ≢ Some n → Lacks (Some o)
      → Lacks (Some (with_field i value o))
  lacks_field i value o other lacks =
      false_from_ne_true (has (targets_of any_referent (Some (with_field i value o))) n) (λ there.
      elim (has-cases (present (slice_set o.fields i value)) (allowed_referent any_referent o.reference) n there) [
        | inl field ↦
            elim (has-present_set o.fields i value n field) [
              | inl old ↦
                  false≢true (sym lacks ∙ has-left (present o.fields) (allowed_referent any_referent o.reference) n old)
              | inr is ↦ other is
            ]
        | inr referent ↦
            false≢true (sym lacks ∙ has-right (present o.fields) (allowed_referent any_referent o.reference) n referent)
      ])

  lacks_cleared : (o : Object) → Lacks (Some o) → Lacks (Some (with_reference cleared o))
  lacks_cleared o lacks =
      false_from_ne_true (has (targets_of any_referent (Some (with_reference cleared o))) n) (λ there.
      elim (refers_cleared any_referent (λ k. k ≢ n) o n there) [
        | inl old ↦ false≢true (sym lacks ∙ old)
        | inr other ↦ other refl
      ])

  same_referent : (clock : ℕ) (r : Option Reference)
      → allowed_referent any_referent (changed_reference (got_at clock) r) ≡ allowed_referent any_referent r
  same_referent clock None = refl
  same_referent clock (Some r) =
      elim (cases_Bool (is_soft r.strength)) [ inl soft ↦ simp soft refl | inr other ↦ simp other refl ]

  lacks_got : (clock : ℕ) (o : Object) → Lacks (Some o) → Lacks (Some (with_reference (got_at clock) o))
  lacks_got clock o lacks = ap (λ ns. has (present o.fields ++ ns) n) (same_referent clock o.reference) ∙ lacks

  lacks_nulls : (k : ℕ) (referent : Option ℕ) → referent ≢ Some n → has (present (nulls k) ++ if_any referent) n ≡ false
  lacks_nulls k None other =
      false_from_ne_true (has (present (nulls k) ++ []) n) (λ there. elim (has-cases (present (nulls k)) [] n there) [
        | inl null ↦ no_nulls k n null
        | inr none ↦ false≢true none
      ])
  lacks_nulls k (Some m) other =
      false_from_ne_true (has (present (nulls k) ++ m ∷ []) n) (λ there.
      elim (has-cases (present (nulls k)) (m ∷ []) n there) [
        | inl null ↦ no_nulls k n null
        | inr one ↦ other (ap (λ (j : ℕ). Some j) (has-single m n one))
      ])

  -- ---- all objects

  pushed : (os : List Object) (o : Object) (m : ℕ) → Lacks (object_at os m) → Lacks (Some o)
      → Lacks (object_at (os ++ o ∷ []) m)
  pushed [] o m lacks new = elim (cases_Bool (o.no == m)) [ inl same ↦ simp same new | inr other ↦ simp other refl ]
  pushed (p ∷ os) o m lacks new =
      elim (cases_Bool (p.no == m)) [
        | inl same ↦ simp same (simp same at lacks)
        | inr other ↦ simp other (pushed os o m (simp other at lacks) new)
      ]

  pended_objects : (w : World) (k m : ℕ) (queue : Option ℕ) → (pended w k m queue).heap.objects ≡ w.heap.objects
  pended_objects w k m None = refl
  pended_objects w k m (Some q) = refl

  handed_objects : (w : World) (k : ℕ) (notices : List Notice) → (handed_each w k notices).heap.objects ≡ w.heap.objects
  handed_objects w k [] = refl
  handed_objects w k (notice ∷ rest) = handed_objects (handed_on w k notice.object) k rest

  same_objects : (v w : World) → w.heap.objects ≡ v.heap.objects → InNoObject v → InNoObject w
  same_objects v w same none = record {
    each = λ m. subst (λ (os : List Object). Lacks (object_at os m)) (sym same) (none.each m);
  }

  module _ (w : World) (none : InNoObject w) where
    before : InNoObject w
    before = none

    changes : (held : Option ℕ) (f : Object → Object) → ((o : Object) → (f o).no ≡ o.no)
        → ((o : Object) → Lacks (Some o) → Lacks (Some (f o))) → InNoObject (with_heap w (changed_in w.heap held f))
    changes None f keeps lacks = none
    changes (Some k) f keeps lacks = record {
      each = λ m.
          lookup-changed (λ o p. Lacks o → Lacks p) w.heap.objects k f keeps (λ o is. is) (λ o at. lacks o) m
          (none.each m);
    }

    stores : (m s i v : ℕ) → slot_at w.heap m v ≢ Some n → InNoObject (with_heap w (stored w.heap m s i v))
    stores m s i v other =
        let value : Option ℕ = slot_at w.heap m v in
        changes (slot_at w.heap m s) (with_field i value) (λ o. refl) (λ o. lacks_field i value o other)

    cuts : (m s : ℕ) → InNoObject (with_heap w (cut w.heap m s))
    cuts m s = changes (slot_at w.heap m s) (with_reference cleared) (λ o. refl) lacks_cleared

    gets : (m d s : ℕ) (value : Option ℕ) → InNoObject (with_heap w (got w.heap m d s value))
    gets m d s None = record { each = none.each }
    gets m d s (Some k) = record {
      each = (changes (slot_at w.heap m s) (with_reference (got_at w.heap.clock)) (λ o. refl)
          (lacks_got w.heap.clock)).each;
    }

    slots : (h : Heap) → InNoObject (with_heap w (record h { objects = w.heap.objects }))
    slots h = record { each = none.each }

    makes : (m d : ℕ) (o : Object) → Lacks (Some o) → InNoObject (with_heap w (made w.heap m d o))
    makes m d o lacks = record { each = λ k. pushed w.heap.objects o k (none.each k) lacks }

    clears : (k : ℕ) (reply : Reply) → InNoObject (if_told (told_cleared reply) (λ m. cleared_for w k m) w)
    clears k (told.Cleared m) =
        let changed : World = with_heap w (with_changed w.heap m (with_reference cleared)) in
        same_objects changed (cleared_for w k m)
        (pended_objects changed k m (registered_in (reference_at w.heap m)))
        (changes (Some m) (with_reference cleared) (λ o. refl) lacks_cleared)
    clears k reply = none

    hands : (k : ℕ) (notices : List Notice) → InNoObject (handed_each w k notices)
    hands k notices = same_objects w (handed_each w k notices) (handed_objects w k notices) none

    unhooks : (m s : ℕ) (nothing : Bool) (notices : List Notice)
        → InNoObject (if nothing then with_heap w (cut w.heap m s) else unhooked w m s notices)
    unhooks m s true notices = cuts m s
    unhooks m s false [] = none
    unhooks m s false (notice ∷ rest) = record { each = (cuts m s).each }

    told_of : {T : Type 0} (of : Option T) (change : T → World) → ((t : T) → InNoObject (change t))
        → InNoObject (if_told of change w)
    told_of None change changed = none
    told_of (Some t) change changed = changed t

    done : (is : Bool) (u : World) → InNoObject u → InNoObject (if is then u else w)
    done true u after = after
    done false u after = none

    -- a step with this reply leaves it so, where it isn't what the step puts into an object
    pub objects_then : (step : NamedStep) (reply : Reply) → stored_by w step ≢ Some n
        → InNoObject (after_heap w step reply)
    objects_then (heap.Plain (plain.New m d k)) reply other =
        told_of (told_object reply) _ (λ j. makes m d (plain_object j (nulls k)) (lacks_nulls k None (λ is. absurd cc)))
    objects_then (heap.Plain (plain.Refer m strength d s q k)) reply other =
        told_of (told_object reply) _
        (λ j. makes m d (new_reference w.heap j strength (slot_at w.heap m s) q k)
        (lacks_nulls k (slot_at w.heap m s) other))
    objects_then (heap.Plain (plain.Store m s i v)) reply other = done _ _ (stores m s i v other)
    objects_then (heap.Plain (plain.ClearNext k)) reply other = clears k reply
    objects_then (heap.Plain (plain.Get m d s)) reply other = told_of (told_value reply) _ (gets m d s)
    objects_then (heap.Unhook m s) reply other = unhooks m s (is_nothing reply) (told_notices reply)
    objects_then (heap.Hand k) reply other = hands k (told_notices reply)
    objects_then (heap.Hands k max batch) reply other = hands k (told_notices reply)
    objects_then step reply other = search (told_of, done, before, cuts, slots)

  -- ---- the collector's objects

  cleared_if_lacks : (these : ℕ → Bool) (o : Object) → Lacks (Some o) → Lacks (Some (cleared_if these o))
  cleared_if_lacks these o lacks =
      elim (cases_Bool (these o.no)) [ inl is ↦ simp is (lacks_cleared o lacks) | inr isnt ↦ simp isnt lacks ]

  cleared_number : (these : ℕ → Bool) (o : Object) → (cleared_if these o).no ≡ o.no
  cleared_number these o = elim (cases_Bool (these o.no)) [ inl is ↦ simp is refl | inr isnt ↦ simp isnt refl ]

  mapped : (these : ℕ → Bool) (os : List Object) (m : ℕ) → Lacks (object_at os m)
      → Lacks (object_at (map (λ o. cleared_if these o) os) m)
  mapped these [] m lacks = refl
  mapped these (o ∷ os) m lacks = grind (arith, cleared_if_lacks, cleared_number, mapped these os m)

  under_lacks : (gone : List ℕ) (these : ℕ → Bool) (os : List Object) (m : ℕ) → Lacks (object_at os m)
      → Lacks (object_at (objects_under gone these os) m)
  under_lacks gone these os m lacks =
      mapped these (without gone os) m
      (elim (cases_Bool (has gone m)) [
        | inl out ↦ subst Lacks (sym (object_at-gone gone os m out)) refl
        | inr kept ↦ subst Lacks (sym (object_at-without gone os m kept)) lacks
      ])

  -- what no object of the replay refers to, none of the collector does
  pub none_under : (gone : List ℕ) (w : World) (a : State) → Agrees gone w a → InNoObject w → InNoObject a.world
  none_under gone w a agrees none = record {
    each = λ m.
        subst (λ (v : World). Lacks (object_at v.heap.objects m)) (sym agrees)
        (under_lacks gone (is_waiting a) w.heap.objects m (none.each m));
  }
