-- How objects read where references to the doomed read as cleared: with their shape, and changes of objects go through.
use Rattle.ref_base.proofs.Common.{arith, ◌≡◌, ℕ, true, false, if◌then◌else◌, refl, ◌∙◌, ap, inl, inr, List, [], ◌∷◌}
use Rattle.ref_base.proofs.Common.{◌++◌, map, Option, Some, None, slice_index_or, cases_Bool, has, Object, Reference}
use Rattle.ref_base.proofs.Common.{object_at, is_soft, any_is, refers_into, is_new_clear, Heap, reference_in}
use Rattle.ref_base.proofs.Common.{changed_at, with_field, changed_reference, with_reference, cleared, got_at, shown}
use Rattle.ref_base.proofs.Common.{field_of, field_in, referent_of, referent_got}
use Rattle.ref_base.proofs.Reshaping.{KeepsShape, reshaped, at-reshaped}

-- an object is shown with its number
pub shown-no : (d : List ℕ) (o : Object) → (shown d o).no ≡ o.no
shown-no d o =
    elim (cases_Bool (is_new_clear d o)) [ inl clear ↦ simp clear refl | inr keeps ↦ simp keeps refl ]

-- an object is shown with its fields
shown-fields : (d : List ℕ) (o : Object) → (shown d o).fields ≡ o.fields
shown-fields d o =
    elim (cases_Bool (is_new_clear d o)) [ inl clear ↦ simp clear refl | inr keeps ↦ simp keeps refl ]

pub shown-shape : (d : List ℕ) → KeepsShape (λ o. shown d o)
shown-shape d = grind arith

pub field_in-shown : (d : List ℕ) (h : Heap) (held : Option ℕ) (i : ℕ)
    → field_in (reshaped (λ o. shown d o) h) held i ≡ field_in h held i
field_in-shown d h None i = refl
field_in-shown d h (Some n) i =
    at-reshaped (λ o. shown d o) (shown-shape d) (λ (o : Option Object). field_of o i) h.objects n
    (λ o. ap (λ (fields : List (Option ℕ)). slice_index_or fields i None) (shown-fields d o))

-- ---- changes

-- one more object that is no new clear is shown as it is
pub map-shown_push : (d : List ℕ) (os : List Object) (o : Object) → is_new_clear d o ≡ false
    → map (λ p. shown d p) (os ++ o ∷ []) ≡ map (λ p. shown d p) os ++ o ∷ []
map-shown_push d [] o keeps = simp keeps refl
map-shown_push d (p ∷ os) o keeps = ap (λ ps. shown d p ∷ ps) (map-shown_push d os o keeps)

-- a field goes through
pub shown-field : (d : List ℕ) (i : ℕ) (value : Option ℕ) (o : Object)
    → shown d (with_field i value o) ≡ with_field i value (shown d o)
shown-field d i value o =
    elim (cases_Bool (is_new_clear d o)) [ inl clear ↦ simp clear refl | inr keeps ↦ simp keeps refl ]

pub cleared_got : (clock : ℕ) (r : Option Reference) → changed_reference cleared (changed_reference (got_at clock) r)
    ≡ changed_reference (got_at clock) (changed_reference cleared r)
cleared_got clock None = refl
cleared_got clock (Some r) =
    elim (cases_Bool (is_soft r.strength)) [ inl soft ↦ simp soft refl | inr other ↦ simp other refl ]

-- a stamp goes through
pub shown-got : (d : List ℕ) (clock : ℕ) (o : Object)
    → shown d (with_reference (got_at clock) o) ≡ with_reference (got_at clock) (shown d o)
shown-got d clock o = grind arith

-- a cut goes through
pub shown-cleared : (d : List ℕ) (o : Object) → shown d (with_reference cleared o) ≡ with_reference cleared (shown d o)
shown-cleared d o = grind arith

-- an object outside the doomed reads as cleared where its referent is doomed, and a cut then changes nothing
pub changed_at-cleared : (d : List ℕ) (os : List Object) (n : ℕ) → has d n ≡ false
    → refers_into (has d) (reference_in (object_at os n)) ≡ true
    → changed_at (map (λ o. shown d o) os) n (with_reference cleared) ≡ map (λ o. shown d o) os
changed_at-cleared d [] n out met = refl
changed_at-cleared d (o ∷ os) n out met = grind (arith, changed_at-cleared d os n out)

-- ---- references outside the doomed

abbrev pub shown_reference : List ℕ → Option Reference → Option Reference
shown_reference d r = if refers_into (has d) r then changed_reference cleared r else r

pub reference_in-shown : (d : List ℕ) (os : List Object) (n : ℕ) → has d n ≡ false
    → reference_in (object_at (map (λ o. shown d o) os) n) ≡ shown_reference d (reference_in (object_at os n))
reference_in-shown d [] n out = refl
reference_in-shown d (o ∷ os) n out = grind (arith, reference_in-shown d os n out)

-- none where it is one of these
abbrev pub unless_among : List ℕ → Option ℕ → Option ℕ
unless_among d value = if any_is (has d) value then None else value

pub referent_of-shown : (d : List ℕ) (r : Option Reference)
    → referent_of (shown_reference d r) ≡ unless_among d (referent_of r)
referent_of-shown d None = refl
referent_of-shown d (Some r) =
    elim (cases_Bool (any_is (has d) r.referent)) [ inl met ↦ simp met refl | inr unmet ↦ simp unmet refl ]

pub referent_got-shown : (d : List ℕ) (r : Option Reference)
    → referent_got (shown_reference d r) ≡ unless_among d (referent_got r)
referent_got-shown d None = refl
referent_got-shown d (Some r) = grind arith

-- ---- where nothing is doomed

any_is-none : (referent : Option ℕ) → any_is (has []) referent ≡ false
any_is-none None = refl
any_is-none (Some n) = refl

refers_into-none : (r : Option Reference) → refers_into (has []) r ≡ false
refers_into-none None = refl
refers_into-none (Some r) = any_is-none r.referent

pub is_new_clear-none : (o : Object) → is_new_clear [] o ≡ false
is_new_clear-none o = refers_into-none o.reference

shown-none : (o : Object) → shown [] o ≡ o
shown-none o = let none : is_new_clear [] o ≡ false = is_new_clear-none o in simp none refl

pub map-shown_none : (os : List Object) → map (λ o. shown [] o) os ≡ os
map-shown_none [] = refl
map-shown_none (o ∷ os) = ap (λ p. p ∷ map (λ q. shown [] q) os) (shown-none o) ∙ ap (λ ps. o ∷ ps) (map-shown_none os)
