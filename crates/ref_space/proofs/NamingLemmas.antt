-- Objects by number: what is read of them, and what becomes of the names of words as a cell is written.
use Rattle.ref_space.specs.Pages.{is_chosen_place}
use Rattle.ref_space.proofs.Common.{◌≡◌, ℕ, zero, suc, Bool, true, false, not, ◌==◌, ◌&&◌, refl, sym, ◌∙◌, ap, arith}
use Rattle.ref_space.proofs.Common.{List, []}
use Rattle.ref_space.proofs.Common.{◌∷◌, ◌++◌, map, set, Option, Some, None, slice_index_or, is_some, option_map}
use Rattle.ref_space.proofs.Common.{has, present, Tabled, tabled_at, first_where}
use Rattle.ref_space.proofs.Common.{numbers_by, changed_tabled, without_tabled, values_in, NoneNames, Each, EachHeld}
use Rattle.ref_space.proofs.Common.{by_number, reference_by_number, tabled_if, Reference, referent_of}
use Rattle.ref_space.specs.Tables.{is_number, is_healed, AllDated}
use Rattle.ref_space.specs.Naming.{IsHeldIn}
use Rattle.ref_space.proofs.Common.{cases_Bool, inl, inr}
use Rattle.ref_space.proofs.Common.{leads_by}
use Rattle.ref_space.proofs.WordLemmas.{IsGood}
use Rattle.ref_space.specs.declared.colour.Colour.{Colour}
use Rattle.ref_space.specs.Moves.{Ways}
use Rattle.ref_space.specs.ColouredWords.{place_by, has_colour}
use Rattle.ref_space.specs.Naming.{stays_at, leads_from}

-- ---- what is read

module _ (name : Option ℕ → Option ℕ) where
  pub tabled_at-named : (ks : List Tabled) (n : ℕ)
      → tabled_at (map (by_number name) ks) n ≡ option_map (by_number name) (tabled_at ks n)
  tabled_at-named [] n = refl
  tabled_at-named (k ∷ ks) n = grind (arith, tabled_at-named ks n)

  pub tabled_if-named : (ks : List Tabled) (n : Option ℕ)
      → tabled_if (map (by_number name) ks) n ≡ option_map (by_number name) (tabled_if ks n)
  tabled_if-named ks None = refl
  tabled_if-named ks (Some n) = tabled_at-named ks n

  pub first_where-named : (passes : Tabled → Bool) → ((k : Tabled) → passes (by_number name k) ≡ passes k)
      → (ks : List Tabled) (n : ℕ) → first_where passes (map (by_number name) ks) n ≡ first_where passes ks n
  first_where-named passes blind [] n = refl
  first_where-named passes blind (k ∷ ks) n = grind (arith, blind, first_where-named passes blind ks n)

  pub numbers_by-named : (count : Tabled → ℕ) → ((k : Tabled) → count (by_number name k) ≡ count k)
      → (ks : List Tabled) → numbers_by count (map (by_number name) ks) ≡ numbers_by count ks
  numbers_by-named count blind [] = refl
  numbers_by-named count blind (k ∷ ks) = grind (arith, blind, numbers_by-named count blind ks)

  -- ---- what is written

  pub changed-named_at : (f h : Tabled → Tabled) → ((k : Tabled) → (f k).object.no ≡ k.object.no) → (ks : List Tabled)
      (n : ℕ) → ((k : Tabled) → tabled_at ks n ≡ Some k → by_number name (f k) ≡ h (by_number name k))
      → map (by_number name) (changed_tabled ks n f) ≡ changed_tabled (map (by_number name) ks) n h
  changed-named_at f h keeps [] n same = refl
  changed-named_at f h keeps (k ∷ ks) n same =
      elim (cases_Bool (k.object.no == n)) [
        | inl own ↦ simp own (ap (λ l. l ∷ map (by_number name) ks) (same k (simp own refl)))
        | inr other ↦
            simp other
            (ap (λ ls. by_number name k ∷ ls)
            (changed-named_at f h keeps ks n (λ l at. same l (simp other at))))
      ]

  pub without-named : (ks : List Tabled) (n : ℕ)
      → map (by_number name) (without_tabled ks n) ≡ without_tabled (map (by_number name) ks) n
  without-named [] n = refl
  without-named (k ∷ ks) n = grind (arith, without-named ks n)

-- ---- what each passes

module _ (p : Option ℕ → Bool) where
  pub each_at : (vs : List (Option ℕ)) (i : ℕ) → p None ≡ true → Each p vs → p (slice_index_or vs i None) ≡ true
  each_at [] i null each = null
  each_at (v ∷ vs) zero null each = each.0
  each_at (v ∷ vs) (suc i) null each = each_at vs i null each.1

  pub each_set : (vs : List (Option ℕ)) (i : ℕ) (v : Option ℕ) → p v ≡ true → Each p vs → Each p (set vs i v)
  each_set [] i v is each = each
  each_set (w ∷ ws) zero v is each = (is, each.1)
  each_set (w ∷ ws) (suc i) v is each = (each.0, each_set ws i v is each.1)

module _ (r : ℕ) (p : Bool → Option ℕ → Bool) where
  pub each_held : (ks : List Tabled) (n : ℕ) (k : Tabled) → tabled_at ks n ≡ Some k → EachHeld r p ks → IsHeldIn r p k
  each_held [] n k at held = absurd (cc)
  each_held (l ∷ ls) n k at held = grind (arith, each_held ls n k)

  -- a change of an object keeps what holds of it
  abbrev pub Keeps : (Tabled → Tabled) → Type 0
  Keeps f = (k : Tabled) → IsHeldIn r p k → IsHeldIn r p (f k)

  pub held_changed : (f : Tabled → Tabled) → Keeps f → (ks : List Tabled) (n : ℕ) → EachHeld r p ks
      → EachHeld r p (changed_tabled ks n f)
  held_changed f keeps [] n held = held
  held_changed f keeps (k ∷ ks) n held =
      elim (cases_Bool (k.object.no == n)) [
        | inl own ↦ simp own (keeps k held.0, held.1)
        | inr other ↦ simp other (held.0, held_changed f keeps ks n held.1)
      ]

  pub held_without : (ks : List Tabled) (n : ℕ) → EachHeld r p ks → EachHeld r p (without_tabled ks n)
  held_without [] n held = held
  held_without (k ∷ ks) n held =
      elim (cases_Bool (k.object.no == n)) [
        | inl own ↦ simp own held.1
        | inr other ↦ simp other (held.0, held_without ks n held.1)
      ]

  pub held_push : (ks : List Tabled) (k : Tabled) → EachHeld r p ks → IsHeldIn r p k → EachHeld r p (ks ++ k ∷ [])
  held_push [] k held own = (own, tt)
  held_push (l ∷ ls) k held own = (held.0, held_push ls k held.1 own)

  -- where they hold words they hold numbers, and were marked and healed in the same rounds
  pub dated : (name : Option ℕ → Option ℕ) (ks : List Tabled) → EachHeld r p ks → AllDated r (map (by_number name) ks)
  dated name [] held = tt
  dated name (k ∷ ks) held = (held.0.0, held.0.1, dated name ks held.1)

module _ (q : ℕ) (p : Bool → Option ℕ → Bool) (r : ℕ) (o : Bool → Option ℕ → Bool) where
  pub held_map : (f : Tabled → Tabled) → ((k : Tabled) → IsHeldIn q p k → IsHeldIn r o (f k)) → (ks : List Tabled)
      → EachHeld q p ks → EachHeld r o (map f ks)
  held_map f keeps [] held = tt
  held_map f keeps (k ∷ ks) held = (keeps k held.0, held_map f keeps ks held.1)

module _ (r : ℕ) (p q : Bool → Option ℕ → Bool) (to : (b : Bool) (v : Option ℕ) → p b v ≡ true → q b v ≡ true) where
  pub each_to : (b : Bool) (vs : List (Option ℕ)) → Each (p b) vs → Each (q b) vs
  each_to b [] each = tt
  each_to b (v ∷ vs) each = (to b v each.0, each_to b vs each.1)

  pub held_to : (ks : List Tabled) → EachHeld r p ks → EachHeld r q ks
  held_to [] held = tt
  held_to (k ∷ ks) held =
      ((held.0.0, held.0.1, each_to (is_healed r k) (values_in k) held.0.2), held_to ks held.1)

-- ---- names that stay

module _ (r : ℕ) (p : Bool → Option ℕ → Bool) (f h : Option ℕ → Option ℕ)
    (same : (b : Bool) (v : Option ℕ) → p b v ≡ true → f v ≡ h v) where
  pub map_same : (b : Bool) (vs : List (Option ℕ)) → Each (p b) vs → map f vs ≡ map h vs
  map_same b [] each = refl
  map_same b (v ∷ vs) each =
      ap (λ w. w ∷ map f vs) (same b v each.0) ∙ ap (λ ws. h v ∷ ws) (map_same b vs each.1)

  reference_same : (b : Bool) (r : Option Reference) → p b (referent_of r) ≡ true
      → option_map (reference_by_number f) r ≡ option_map (reference_by_number h) r
  reference_same b None is = refl
  reference_same b (Some r) is = ap (λ (n : Option ℕ). Some (record r { referent = n })) (same b r.referent is)

  object_same : (k : Tabled) → Each (p (is_healed r k)) (values_in k) → by_number f k ≡ by_number h k
  object_same k each =
      λ i. record k {
        object = record k.object {
          fields = map_same (is_healed r k) k.object.fields each.1 i;
          reference = reference_same (is_healed r k) k.object.reference each.0 i;
        };
      }

  pub named_same : (ks : List Tabled) → EachHeld r p ks → map (by_number f) ks ≡ map (by_number h) ks
  named_same [] held = refl
  named_same (k ∷ ks) held =
      ap (λ l. l ∷ map (by_number f) ks) (object_same k held.0.2)
      ∙ ap (λ ls. by_number h k ∷ ls) (named_same ks held.1)

-- ---- what has to have the good colour

module _ (good : Colour) (ways : Ways) (os : List (Option ℕ)) where
  -- a word of the good colour may stand anywhere, and each word where none has to have it
  pub good_anywhere : (b : Bool) (v : Option ℕ) → leads_by good ways os true v ≡ true
      → leads_by good ways os b v ≡ true
  good_anywhere true v leads = leads
  good_anywhere false None leads = refl
  good_anywhere false (Some w) leads = grind arith

  -- and each that has it is healed, and null is
  pub coloured_leads : (v : Option ℕ) → leads_by good ways os false v ≡ true → has_colour good v ≡ true
      → leads_by good ways os true v ≡ true
  coloured_leads None leads colour = refl
  coloured_leads (Some w) leads colour = grind arith

  -- a word of the good colour of a place at which an object lies that needn't move
  pub good_word : (p : ℕ) (v : Option ℕ) → place_by v ≡ Some p → stays_at ways os p ≡ true → IsGood good v
      → leads_by good ways os true v ≡ true
  good_word p None at stays is = refl
  good_word p (Some w) at stays is =
      let from : leads_from ways os (has_colour ways.last (Some w)) (place_by (Some w)) ≡ true =
      ap (leads_from ways os (has_colour ways.last (Some w))) at ∙ simp stays refl in
      let word = is.word in
      let coloured = is.coloured in
      grind arith

  -- or a word from before, where one lies that is still to move
  pub unmoved_word : (p : ℕ) (v : Option ℕ) → place_by v ≡ Some p → is_chosen_place ways.pages.uses p ≡ true
      → is_some (slice_index_or os p None) ≡ true → ways.tuned ≡ false → IsGood ways.last v
      → leads_by good ways os true v ≡ true
  unmoved_word p None at leaves lies untuned is = refl
  unmoved_word p (Some w) at leaves lies untuned is =
      let from : leads_from ways os (has_colour ways.last (Some w)) (place_by (Some w)) ≡ true =
      ap (leads_from ways os (has_colour ways.last (Some w))) at
      ∙ (let coloured = is.coloured in simp (coloured, leaves, lies) refl) in
      let word = is.word in
      grind arith

  pub leads_anyhow : (b : Bool) (v : Option ℕ) → leads_by good ways os b v ≡ true
      → leads_by good ways os false v ≡ true
  leads_anyhow false v leads = leads
  leads_anyhow true v leads = good_anywhere false v leads

  pub each_anyhow : (b : Bool) (vs : List (Option ℕ)) → Each (leads_by good ways os b) vs
      → Each (leads_by good ways os false) vs
  each_anyhow b [] each = tt
  each_anyhow b (v ∷ vs) each = (leads_anyhow b v each.0, each_anyhow b vs each.1)

-- where none has to have the good colour, it is all the same which one that is
module _ (old new : Colour) (ways : Ways) (os : List (Option ℕ)) where
  in_none : (v : Option ℕ) → leads_by old ways os false v ≡ true → leads_by new ways os false v ≡ true
  in_none None leads = leads
  in_none (Some w) leads = leads

  pub each_in_none : (b : Bool) (vs : List (Option ℕ)) → Each (leads_by old ways os b) vs
      → Each (leads_by new ways os false) vs
  each_in_none b [] each = tt
  each_in_none b (v ∷ vs) each = (in_none v (leads_anyhow old ways os b v each.0), each_in_none b vs each.1)

-- ---- what nothing names

module _ (name : Option ℕ → Option ℕ) (n : ℕ) where
  pub each_unnamed : (p : Option ℕ → Bool) (vs : List (Option ℕ)) → Each p vs → has (present (map name vs)) n ≡ false
      → Each (λ v. p v && not (is_number (name v) n)) vs
  each_unnamed p [] each none = tt
  each_unnamed p (v ∷ vs) each none = grind (arith, each_unnamed p vs each.1)

  values-named : (k : Tabled) → name None ≡ None → values_in (by_number name k) ≡ map name (values_in k)
  values-named k null = grind arith

  pub held_unnamed : (r : ℕ) (p : Bool → Option ℕ → Bool) → name None ≡ None → (ks : List Tabled) → EachHeld r p ks
      → NoneNames (map (by_number name) ks) n → EachHeld r (λ b v. p b v && not (is_number (name v) n)) ks
  held_unnamed r p null [] held none = tt
  held_unnamed r p null (k ∷ ks) held none = (
    (
      held.0.0,
      held.0.1,
      each_unnamed (p (is_healed r k)) (values_in k) held.0.2 (ap (λ vs. has (present vs) n) (sym
          (values-named k null)) ∙ none.0),
    ),
    held_unnamed r p null ks held.1 none.1,
  )
