-- Words lead where they led after an object was placed, after one went, and after one moved.
use Rattle.std.proofs.Common.{[], ◌∷◌, zero, suc, length-set}
use Rattle.std.proofs.lemmas.Option.{none-some}
use Rattle.std.proofs.Common.{◌≡◌, ℕ, ◌<◌, ◌==◌, ◌&&◌, ◌||◌, Bool, true, false, not, refl, sym, ap, ◌∙◌, arith, List}
use Rattle.std.proofs.Common.{length}
use Rattle.std.proofs.Common.{set, Option, Some, None, is_some, inl, inr, if◌then◌else◌}
use Rattle.std.specs.Prelude.{slice_index_or}
use Rattle.std.proofs.lemmas.Bool.{cases_Bool, eqb-true, eqb-false, true≢false, false≢true, and_parts}
use Rattle.std.proofs.lemmas.List.{get_or-set_same, get_or-set_other}
use Rattle.ref_space.specs.Pages.{is_chosen_place}
use Rattle.ref_space.specs.Moves.{Ways, forward_of}
use Rattle.ref_space.specs.Naming.{way_from, way_of, stays_at, moves_from, leads_from, occupant_at, leads_by, target_by}
use Rattle.ref_space.specs.ColouredWords.{place_by, has_colour, is_word}
use Rattle.std.specs.Option.{is_none}
use Rattle.std.proofs.lemmas.Bool.{eq-eqb}
use Rattle.std.proofs.Common.{subst}
use Rattle.ref_space.specs.Tables.{is_number}
use Rattle.ref_space.specs.declared.colour.Colour.{Colour}
use Rattle.ref_space.specs.Naming.{taken_way}

-- what a place leads to, if anything
abbrev pub reached : Ways → List (Option ℕ) → ℕ → Option ℕ
reached ways os place = slice_index_or os (way_from ways os place) None

within_of : (os : List (Option ℕ)) (p n : ℕ) → slice_index_or os p None ≡ Some n → p < length os
within_of [] p n is = absurd (none-some n is)
within_of (o ∷ os) zero n is = omega arith
within_of (o ∷ os) (suc p) n is = let rest = within_of os p n is in omega (arith, rest)

-- ---- where something lies

pub there_way : (ways : Ways) (os : List (Option ℕ)) (q : ℕ) → is_some (slice_index_or os q None) ≡ true
    → way_from ways os q ≡ q
there_way ways os q some = simp some refl

pub gone_way : (ways : Ways) (os : List (Option ℕ)) (q : ℕ) → is_some (slice_index_or os q None) ≡ false
    → way_from ways os q ≡ forward_of ways.forwards q
gone_way ways os q none = simp none refl

-- a place that leads to an object, leads to one
pub reaches : (ways : Ways) (os : List (Option ℕ)) (is_last : Bool) (q : ℕ) → leads_from ways os is_last (Some q) ≡ true
    → is_some (reached ways os q) ≡ true
reaches ways os is_last q leads =
    elim (cases_Bool (is_some (slice_index_or os q None))) [
      | inl there ↦ ap (λ p. is_some (slice_index_or os p None)) (there_way ways os q there) ∙ there
      | inr gone ↦ ap (λ p. is_some (slice_index_or os p None)) (gone_way ways os q gone) ∙ grind arith
    ]

-- ---- a change of what lies at some places

-- what a place leads to lies where it did
pub record IsAlike (ways : Ways) (os now : List (Option ℕ)) (q : ℕ) : Type 0 where
  pub here : slice_index_or now q None ≡ slice_index_or os q None
  pub to : is_some (slice_index_or os q None) ≡ false
      → slice_index_or now (forward_of ways.forwards q) None ≡ slice_index_or os (forward_of ways.forwards q) None

pub alike-way : (ways : Ways) (os now : List (Option ℕ)) (q : ℕ) → IsAlike ways os now q
    → way_from ways now q ≡ way_from ways os q
alike-way ways os now q alike = ap (λ (o : Option ℕ). if is_some o then q else forward_of ways.forwards q) alike.here

pub alike-reached : (ways : Ways) (os now : List (Option ℕ)) (q : ℕ) → IsAlike ways os now q
    → reached ways now q ≡ reached ways os q
alike-reached ways os now q alike =
    ap (λ p. slice_index_or now p None) (alike-way ways os now q alike)
    ∙ elim (cases_Bool (is_some (slice_index_or os q None))) [
      | inl there ↦
          ap (λ p. slice_index_or now p None) (there_way ways os q there) ∙ alike.here
          ∙ ap (λ p. slice_index_or os p None) (sym (there_way ways os q there))
      | inr gone ↦
          ap (λ p. slice_index_or now p None) (gone_way ways os q gone) ∙ alike.to gone
          ∙ ap (λ p. slice_index_or os p None) (sym (gone_way ways os q gone))
    ]

pub alike-leads : (ways : Ways) (os now : List (Option ℕ)) (is_last : Bool) (q : ℕ) → IsAlike ways os now q
    → leads_from ways os is_last (Some q) ≡ true → leads_from ways now is_last (Some q) ≡ true
alike-leads ways os now is_last q alike leads =
    elim (cases_Bool (is_some (slice_index_or os q None))) [
      | inl there ↦ let here = ap is_some alike.here ∙ there in grind arith
      | inr gone ↦ let here = ap is_some alike.here ∙ gone in let to = alike.to gone in grind arith
    ]

pub alike_set : (ways : Ways) (os : List (Option ℕ)) (p : ℕ) (new : Option ℕ) (q : ℕ) → (q ≡ p → ⊥)
    → (is_some (slice_index_or os q None) ≡ false → forward_of ways.forwards q ≡ p → ⊥)
    → IsAlike ways os (set os p new) q
alike_set ways os p new q apart far = record {
  here = get_or-set_other os p q new None apart;
  to = λ gone. get_or-set_other os p (forward_of ways.forwards q) new None (far gone);
}

-- a place that leads to an object is one of a chosen page, where nothing lies there
pub old_place : (ways : Ways) (os : List (Option ℕ)) (is_last : Bool) (q : ℕ)
    → leads_from ways os is_last (Some q) ≡ true
    → is_some (slice_index_or os q None) ≡ false → is_chosen_place ways.pages.uses q ≡ true
old_place ways os is_last q leads gone = grind arith

pub old_reached : (ways : Ways) (os : List (Option ℕ)) (is_last : Bool) (q : ℕ)
    → leads_from ways os is_last (Some q) ≡ true
    → is_some (slice_index_or os q None) ≡ false
    → stays_at ways os (forward_of ways.forwards q) ≡ true
old_reached ways os is_last q leads gone = grind arith

module _ (ways : Ways) (os : List (Option ℕ)) (p : ℕ) (stays : is_chosen_place ways.pages.uses p ≡ false)
    (is_last : Bool) (q : ℕ) (leads : leads_from ways os is_last (Some q) ≡ true) where
  -- an object is placed
  pub alike_placed : (new : Option ℕ) → slice_index_or os p None ≡ None → IsAlike ways os (set os p new) q
  alike_placed new free =
      alike_set ways os p new q
      (λ is.
      let gone : is_some (slice_index_or os q None) ≡ false = ap (λ r. is_some (slice_index_or os r None)) is
      ∙ ap is_some free in
      true≢false (sym (old_place ways os is_last q leads gone) ∙ ap (is_chosen_place ways.pages.uses) is ∙ stays))
      (λ gone is.
      let there = (and_parts (is_some (slice_index_or os (forward_of ways.forwards q) None))
      (not (is_chosen_place ways.pages.uses (forward_of ways.forwards q)))
      (old_reached ways os is_last q leads gone)).0 in
      true≢false (sym there ∙ ap (λ r. is_some (slice_index_or os r None)) is ∙ ap is_some free))

  -- an object goes that it doesn't lead to
  pub alike_gone : (n : ℕ) → slice_index_or os p None ≡ Some n → is_number (reached ways os q) n ≡ false
      → IsAlike ways os (set os p None) q
  alike_gone n own other =
      alike_set ways os p None q
      (λ is.
      let here : slice_index_or os q None ≡ Some n = ap (λ r. slice_index_or os r None) is ∙ own in
      let at : reached ways os q ≡ Some n =
      ap (λ r. slice_index_or os r None) (there_way ways os q (ap is_some here)) ∙ here in
      true≢false (sym (ap (λ o. is_number o n) at ∙ eq-eqb n n refl) ∙ other))
      (λ gone is.
      let at : reached ways os q ≡ Some n =
      ap (λ r. slice_index_or os r None) (gone_way ways os q gone ∙ is) ∙ own in
      true≢false (sym (ap (λ o. is_number o n) at ∙ eq-eqb n n refl) ∙ other))

-- ---- what is held

-- what a place leads to is led to still
abbrev pub IsKept : Ways → List (Option ℕ) → List (Option ℕ) → Bool → ℕ → Type 0
IsKept ways os now is_last q =
    (reached ways now q ≡ reached ways os q) × (leads_from ways now is_last (Some q) ≡ true)

pub alike_kept : (ways : Ways) (os now : List (Option ℕ)) (is_last : Bool) (q : ℕ) → IsAlike ways os now q
    → leads_from ways os is_last (Some q) ≡ true → IsKept ways os now is_last q
alike_kept ways os now is_last q alike leads =
    (alike-reached ways os now q alike, alike-leads ways os now is_last q alike leads)

-- an object moves to where it was to go
module _ (ways : Ways) (os : List (Option ℕ)) (from n : ℕ) (lies : slice_index_or os from None ≡ Some n)
    (leaves : is_chosen_place ways.pages.uses from ≡ true)
    (free : slice_index_or os (forward_of ways.forwards from) None ≡ None)
    (within : forward_of ways.forwards from < length os)
    (stays : is_chosen_place ways.pages.uses (forward_of ways.forwards from) ≡ false) where
  abbrev to : ℕ
  to = forward_of ways.forwards from

  abbrev pub moved : List (Option ℕ)
  moved = set (set os to (Some n)) from None

  not_same : to ≡ from → ⊥
  not_same same = true≢false (sym leaves ∙ ap (is_chosen_place ways.pages.uses) (sym same) ∙ stays)

  gone_from : slice_index_or moved from None ≡ None
  gone_from =
      get_or-set_same (set os to (Some n)) from None None
      (let size = length-set os to (Some n) in let inside = within_of os from n lies in omega (arith, size, inside))

  lies_to : slice_index_or moved to None ≡ Some n
  lies_to =
      get_or-set_other (set os to (Some n)) from to None None not_same ∙ get_or-set_same os to (Some n) None within

  as_before : (q : ℕ) → (q ≡ from → ⊥) → (q ≡ to → ⊥) → slice_index_or moved q None ≡ slice_index_or os q None
  as_before q not_from not_to =
      get_or-set_other (set os to (Some n)) from q None None not_from
      ∙ get_or-set_other os to q (Some n) None not_to

  own_kept : (is_last : Bool) → leads_from ways os is_last (Some from) ≡ true → IsKept ways os moved is_last from
  own_kept is_last leads = (
    ap (λ r. slice_index_or moved r None) (gone_way ways moved from (ap is_some gone_from)) ∙ lies_to ∙ sym lies
        ∙ ap (λ r. slice_index_or os r None) (sym (there_way ways os from (ap is_some lies))),
    grind (arith, gone_from, lies_to),
  )

  pub moved_kept : (is_last : Bool) (q : ℕ) → leads_from ways os is_last (Some q) ≡ true
      → IsKept ways os moved is_last q
  moved_kept is_last q leads =
      elim (cases_Bool (q == from)) [
        | inl own ↦
            let same = eqb-true q from own in
            subst (IsKept ways os moved is_last) (sym same)
            (own_kept is_last (ap (λ r. leads_from ways os is_last (Some r)) (sym same) ∙ leads))
        | inr differs ↦
            let not_from = eqb-false q from differs in
            alike_kept ways os moved is_last q (record {
              here = as_before q not_from (λ is. not_to is);
              to = λ gone. as_before (forward_of ways.forwards q)
                  (λ is. true≢false (sym (there gone).1 ∙ ap (λ r. not (is_chosen_place ways.pages.uses r)) is
                  ∙ ap not leaves))
                  (λ is. true≢false (sym (there gone).0 ∙ ap (λ r. is_some (slice_index_or os r None)) is
                  ∙ ap is_some free));
            }) leads
      ]
    where
      there : is_some (slice_index_or os q None) ≡ false
          → (is_some (slice_index_or os (forward_of ways.forwards q) None) ≡ true)
          × (not (is_chosen_place ways.pages.uses (forward_of ways.forwards q)) ≡ true)
      there gone =
          and_parts (is_some (slice_index_or os (forward_of ways.forwards q) None))
          (not (is_chosen_place ways.pages.uses (forward_of ways.forwards q)))
          (old_reached ways os is_last q leads gone)

      not_to : q ≡ to → ⊥
      not_to is =
          let gone : is_some (slice_index_or os q None) ≡ false =
          ap (λ r. is_some (slice_index_or os r None)) is ∙ ap is_some free in
          true≢false (sym (old_place ways os is_last q leads gone) ∙ ap (is_chosen_place ways.pages.uses) is ∙ stays)

module _ (good : Colour) (ways : Ways) (os now : List (Option ℕ)) (b : Bool) (v : Option ℕ)
    (leads : leads_by good ways os b v ≡ true)
    (kept : (q : ℕ) → place_by v ≡ Some q → leads_from ways os (has_colour ways.last v) (Some q) ≡ true
    → IsKept ways os now (has_colour ways.last v) q) where
  by_place : (at : Option ℕ) → place_by v ≡ at → leads_from ways os (has_colour ways.last v) at ≡ true
      → (occupant_at now (way_of ways now at) ≡ occupant_at os (way_of ways os at))
      × (leads_from ways now (has_colour ways.last v) at ≡ true)
  by_place None is from = absurd (false≢true from)
  by_place (Some q) is from = kept q is from

  pub held_named : target_by ways now v ≡ target_by ways os v
  held_named = named v refl leads
    where
      named : (w : Option ℕ) → v ≡ w → leads_by good ways os b w ≡ true → target_by ways now w ≡ target_by ways os w
      named None is from = refl
      named (Some w) is from =
          subst (λ u. target_by ways now u ≡ target_by ways os u) is
          (by_place (place_by v) refl
          (subst (λ u. leads_from ways os (has_colour ways.last u) (place_by u) ≡ true) (sym is) (grind arith))).0

  pub held_leads : leads_by good ways now b v ≡ true
  held_leads = led v refl leads
    where
      led : (w : Option ℕ) → v ≡ w → leads_by good ways os b w ≡ true → leads_by good ways now b w ≡ true
      led None is from = refl
      led (Some w) is from =
          let still =
          subst (λ u. leads_from ways now (has_colour ways.last u) (place_by u) ≡ true) is
          (by_place (place_by v) refl
          (subst (λ u. leads_from ways os (has_colour ways.last u) (place_by u) ≡ true) (sym is) (grind arith))).1 in
          grind arith

-- ---- ways that tell the same

pub record AreSame (ways more : Ways) : Type 0 where
  pub forwards : more.forwards ≡ ways.forwards
  pub last : more.last ≡ ways.last
  pub tuned : more.tuned ≡ ways.tuned
  pub chosen : (q : ℕ) → is_chosen_place more.pages.uses q ≡ is_chosen_place ways.pages.uses q

module _ {ways more : Ways} (same : AreSame ways more) (os : List (Option ℕ)) where
  way-same : (q : ℕ) → way_from more os q ≡ way_from ways os q
  way-same q = ap (λ fs. if is_some (slice_index_or os q None) then q else forward_of fs q) same.forwards

  ways-same : (at : Option ℕ) → way_of more os at ≡ way_of ways os at
  ways-same None = refl
  ways-same (Some q) = ap Some (way-same q)

  stays-same : (q : ℕ) → stays_at more os q ≡ stays_at ways os q
  stays-same q = ap (λ b. is_some (slice_index_or os q None) && not b) (same.chosen q)

  moves-same : (q : ℕ) → moves_from more os q ≡ moves_from ways os q
  moves-same q =
      ap (λ b. b && (is_some (slice_index_or os q None) || stays_at more os (forward_of more.forwards q)))
      (same.chosen q)
      ∙ ap (λ b. is_chosen_place ways.pages.uses q && (is_some (slice_index_or os q None) || b))
      (stays-same (forward_of more.forwards q) ∙ ap (λ fs. stays_at ways os (forward_of fs q)) same.forwards)

  from-same : (is_last : Bool) (at : Option ℕ) → leads_from more os is_last at ≡ leads_from ways os is_last at
  from-same is_last None = refl
  from-same is_last (Some q) =
      ap (λ b. b || (is_last && moves_from more os q)) (stays-same q)
      ∙ ap (λ b. stays_at ways os q || (is_last && b)) (moves-same q)

  pub target-same : (v : Option ℕ) → target_by more os v ≡ target_by ways os v
  target-same v = ap (occupant_at os) (ways-same (place_by v))

  pub leads-same : (good : Colour) (b : Bool) (v : Option ℕ) → leads_by good more os b v ≡ leads_by good ways os b v
  leads-same good b v =
      ap (λ f. is_none v || (f && (is_word v && (not (b && more.tuned) || has_colour good v))))
      (ap (λ c. leads_from more os (has_colour c v) (place_by v)) same.last
      ∙ from-same (has_colour ways.last v) (place_by v))
      ∙ ap (λ t. is_none v || (leads_from ways os (has_colour ways.last v) (place_by v)
      && (is_word v && (not (b && t) || has_colour good v)))) same.tuned

-- where what a word leads to lies, if an object lies there
pub taken_some : (ways : Ways) (os : List (Option ℕ)) (at : Option ℕ) {p : ℕ} → taken_way ways os at ≡ Some p
    → (is_some (slice_index_or os p None) ≡ true) × (occupant_at os (way_of ways os at) ≡ slice_index_or os p None)
taken_some ways os None {p} is = absurd (none-some p is)
taken_some ways os (Some q) {p} is =
    elim (cases_Bool (is_some (slice_index_or os (way_from ways os q) None))) [
      | inl some ↦
          let same : way_from ways os q ≡ p =
          of_some (sym (ap (λ b. if b then Some (way_from ways os q) else None) some) ∙ is) in (
            ap (λ r. is_some (slice_index_or os r None)) (sym same) ∙ some,
            ap (λ r. slice_index_or os r None) same,
          )
      | inr none ↦
          absurd (none-some p (sym (ap (λ b. if b then Some (way_from ways os q) else None) none) ∙ is))
    ]
  where
    of_some : {a b : ℕ} → (let l : Option ℕ = Some a in l) ≡ Some b → a ≡ b
    of_some {a} is = ap (λ (o : Option ℕ). or_else a o) is
      where
        or_else : ℕ → Option ℕ → ℕ
        or_else a None = a
        or_else a (Some b) = b

pub taken_none : (ways : Ways) (os : List (Option ℕ)) (at : Option ℕ) → taken_way ways os at ≡ None
    → occupant_at os (way_of ways os at) ≡ None
taken_none ways os None is = refl
taken_none ways os (Some q) is =
    elim (cases_Bool (is_some (slice_index_or os (way_from ways os q) None))) [
      | inl some ↦
          absurd (none-some (way_from ways os q)
          (sym is ∙ ap (λ b. if b then Some (way_from ways os q) else None) some))
      | inr none ↦ is_none_then (slice_index_or os (way_from ways os q) None) none
    ]
  where
    is_none_then : (o : Option ℕ) → is_some o ≡ false → o ≡ None
    is_none_then None none = refl
    is_none_then (Some n) none = absurd (true≢false none)
