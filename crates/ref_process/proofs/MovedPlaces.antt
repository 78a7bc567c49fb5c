-- What the places hold once objects have moved.
use Rattle.std.proofs.Common.{arith, ◌≡◌, ◌∷◌, [], refl, subst, sym, ap, ◌∙◌, ℕ, Bool, true, false, List}
use Rattle.std.proofs.Common.{Option, Some, None, is_some, zero, suc, length, take, drop, ◌++◌}
use Rattle.std.proofs.Math.Seq.{take-append_seam}
use Rattle.std.proofs.lemmas.Bool.{cases_eq, true≢false}
use Rattle.std.proofs.lemmas.List.{length-map}
use Rattle.ref_process.proofs.PlaceRounds.{Onward, same, moved, EachOnward}
use Rattle.ref_process.specs.DeskRows.{Crew, Relocates, IsRowBy, at_desk}
use Rattle.ref_process.specs.Desks.{Desk, is_resting}
use Rattle.ref_process.specs.Looks.{reads}
use Rattle.ref_process.specs.Places.{AreVacant, is_vacancy, is_vacant_place, place_at, held_by, reference_under}
use Rattle.ref_process.specs.Relocations.{relocated_handle, relocated_reference, relocated_held, relocated_place}
use Rattle.ref_process.specs.Relocations.{relocated_places}
use Rattle.ref_process.specs.declared.key.Key.{Key}
use Rattle.ref_process.specs.declared.phase.Phase.{Phase}
use Rattle.ref_process.specs.declared.phase.Phase.TheVariants.{Idle, Marking, Clearing}
use Rattle.ref_process.specs.declared.place.Place.{Place}
use Rattle.ref_process.specs.declared.place.Reference.{Reference}

module _ (to : ℕ → ℕ) where
  pub moved_at : (ps : List Place) (n : ℕ) → place_at (relocated_places to ps) n ≡ relocated_place to (place_at ps n)
  moved_at [] n = refl
  moved_at (p ∷ ps) zero = refl
  moved_at (p ∷ ps) (suc n) = moved_at ps n

  pub moved_by : (p q : Place) → q ≡ relocated_place to p → (o : Option Reference) → p.held ≡ o → Onward false p q
  moved_by p q is None holds = same (grind (arith, is, holds))
  moved_by p q is (Some r) holds =
      moved r (relocated_reference to r) holds (grind (arith, is, holds)) (grind (arith, is)) refl refl refl

  pub moved_onward : (ps : List Place) → EachOnward false ps (relocated_places to ps)
  moved_onward ps n =
      moved_by (place_at ps n) (place_at (relocated_places to ps) n) (moved_at ps n) (place_at ps n).held refl

  pub moved_some : (o : Option Reference) → is_some (relocated_held to o) ≡ is_some o
  moved_some None = refl
  moved_some (Some r) = refl

  pub moved_vacant : (p : Place) → is_vacant_place (relocated_place to p) ≡ is_vacant_place p
  moved_vacant p = grind (arith, moved_some p.held)

  pub moved_vacancy : (ps : List Place) (n : ℕ) → is_vacancy (relocated_places to ps) n ≡ is_vacancy ps n
  moved_vacancy ps n =
      grind (arith, moved_at ps n, moved_vacant (place_at ps n), length-map)

  -- the same places are vacant
  pub moved_are_vacant : (ps : List Place) (free : List ℕ) → AreVacant ps free → AreVacant (relocated_places to ps) free
  moved_are_vacant ps free vacant = record {
    all = λ n. vacant.all n ∙ sym (moved_vacancy ps n);
    once = vacant.once;
    rounds = λ n holds.
        let held : is_some (place_at ps n).held ≡ true =
        grind (arith, holds, moved_at ps n, moved_some (place_at ps n).held) in
        grind (arith, moved_at ps n, vacant.rounds n held);
  }

  -- each key has its reference, which has moved
  pub moved_held_by : (p : Place) (round : ℕ)
      → held_by (relocated_place to p) round ≡ relocated_held to (held_by p round)
  moved_held_by p round = grind (arith, cases_eq)

  pub moved_under : (ps : List Place) (k : Key)
      → reference_under (relocated_places to ps) k ≡ relocated_held to (reference_under ps k)
  moved_under ps k =
      ap (λ p. held_by p k.round) (moved_at ps k.place) ∙ moved_held_by (place_at ps k.place) k.round

-- what is written over all of a vector's items, of which it was read
pub all_moved : (to : ℕ → ℕ) (ps read qs : List Place) (n : ℕ) → read ≡ ps → qs ≡ relocated_places to read
    → n ≡ length ps → take n (qs ++ drop (length qs) ps) ≡ relocated_places to ps
all_moved to ps read qs n was is many =
    let long : n ≡ length qs =
    many ∙ sym (length-map ps (relocated_place to)) ∙ ap length (ap (relocated_places to) (sym was) ∙ sym is) in
    rw (long, take-append_seam qs (drop (length qs) ps), is, was) refl

-- ---- by the row

module _ (marked : ℕ → Bool) (c : Crew) (to : ℕ → ℕ) (e : Crew) (leads : IsRowBy marked c (Relocates to) e)
    (k : Key) where
  pub relocated_at : at_desk e k ≡ relocated_held to (at_desk c k)
  relocated_at =
      subst (λ (x : Crew). at_desk x k ≡ relocated_held to (at_desk c k)) (sym leads.1) (moved_under to c.desk.places k)

  pub moved_reads : (phase : Phase) → is_resting phase ≡ true → (d f : Desk) → d.phase ≡ phase → f.phase ≡ phase
      → (o : Option Reference) → reads marked f (relocated_held to o) ≡ relocated_handle to (reads marked d o)
  moved_reads Idle rests d f at_d at_f None = refl
  moved_reads Idle rests d f at_d at_f (Some r) = grind (arith, at_d, at_f)
  moved_reads Marking rests d f at_d at_f o = absurd (true≢false (sym rests))
  moved_reads Clearing rests d f at_d at_f o = absurd (true≢false (sym rests))

  pub relocation_rests : is_resting c.desk.phase ≡ true
  relocation_rests = let allowed = leads.0 in grind (arith, cases_eq, allowed)

  pub relocated_reads : reads marked e.desk (at_desk e k) ≡ relocated_handle to (reads marked c.desk (at_desk c k))
  relocated_reads =
      ap (reads marked e.desk) relocated_at
      ∙ moved_reads c.desk.phase relocation_rests c.desk e.desk refl (ap (λ (x : Crew). x.desk.phase) leads.1)
      (at_desk c k)
