-- What a contract sees of a heap's objects as one is marked, as a cycle begins, and as what isn't marked is condemned.
use Rattle.ref_objects.proofs.Common.{◌≡◌, ℕ, ◌<◌, true, refl, ap, arith, List, [], ◌∷◌, false, not, suc, map}
use Rattle.ref_objects.proofs.Common.{false≢true, Object, is_there, numbers, IsRising, Tabled, objects_of, changed}
use Rattle.ref_objects.proofs.Common.{with_marked, AllUpTo, seen_ground, IsSoundGround, unmarked_of, tags_of, Stored}
use Rattle.ref_objects.proofs.Common.{table_blanked, blanked_unless_marked, ground_marked, marks_begun, table_begun}
use Rattle.ref_objects.proofs.Common.{Colour}
use Rattle.ref_objects.proofs.Common.{with_nothing_done, with_healed, ground_healed}
use Rattle.ref_objects.proofs.Common.{with_condemned, forgotten, from_bool}
use Rattle.ref_space.proofs.CountLemmas.{numbers_by-changed, IsRising-tail}
use Rattle.ref_objects.proofs.NumberLemmas.{has-from, AllFrom-numbers_by}
use Rattle.ref_space.proofs.TabledLemmas.{map-changed, map-each}
use Rattle.ref_space.proofs.MarkCounts.{marked_of-marked_again}
use Rattle.ref_objects.proofs.MarkLemmas.{is_unmarked-tabled, unmarked-tabled, marked_of-marked}
use Rattle.ref_space.proofs.EachLemmas.{marked_of-anew, numbers_by-each, blanked_keeps, blanked_marked}
use Rattle.ref_space.proofs.EachLemmas.{blanked_holds}
use Rattle.ref_objects.proofs.HealedLemmas.{unhealed_of-next, unhealed_of-anew, unhealed_of-healed, marked_of-next}
use Rattle.ref_space.specs.Tables.{is_marked, is_healed, AllDated}
use Rattle.ref_objects.proofs.Common.{◌==◌, ◌^◌, ◌-◌, nat_lt, cases_Bool, inl, inr}
use Rattle.ref_objects.specs.declared.stage.Stage.TheVariants.{Tuned}

-- a number below those of the objects forgets none of them
forgotten-above : (d : List ℕ) (os : List Object) (m : ℕ) → IsRising (m ∷ numbers os)
    → map (λ o. forgotten (m ∷ d) o) os ≡ map (λ o. forgotten d o) os
forgotten-above d [] m rising = refl
forgotten-above d (o ∷ os) m rising = grind (arith, forgotten-above d os m)

-- what isn't marked is forgotten
objects_of-blanked : (r : ℕ) (ks : List Tabled) → IsRising (numbers (objects_of ks))
    → objects_of (map (blanked_unless_marked r) ks) ≡ map (λ o. forgotten (unmarked_of r ks) o) (objects_of ks)
objects_of-blanked r [] rising = refl
objects_of-blanked r (k ∷ ks) rising =
    let below = has-from (unmarked_of r ks) k.object.no
    (AllFrom-numbers_by (λ k. from_bool (not (is_marked r k))) ks (suc k.object.no) k.object.no (omega arith) rising) in
    grind (
      arith,
      forgotten-above (unmarked_of r ks)
          (objects_of ks) k.object.no,
      objects_of-blanked r ks,
      IsRising-tail,
    )

blanked_healed : (r : ℕ) (k : Tabled) → (blanked_unless_marked r k).healed_in ≡ k.healed_in
blanked_healed r k = grind arith

tags_of-blanked : (r : ℕ) (ks : List Tabled) → tags_of (map (blanked_unless_marked r) ks) ≡ tags_of ks
tags_of-blanked r [] = refl
tags_of-blanked r (k ∷ ks) = grind (arith, tags_of-blanked r ks)

module _ {s : Stored} (sound : IsSoundGround s) where
  -- no object is marked, and this colour is good
  module _ (good : Colour) (dated : AllDated s.table.round.number s.table.tabled) where
    pub sound_begun : IsSoundGround
        (record s { table = table_begun s.table good; condemning = false; last = good; stage = Tuned })
    sound_begun =
        elim (cases_Bool (nat_lt s.table.round.number (2 ^ 8 - 1))) [
          | inl next ↦ simp next (search numbers_by-each)
          | inr spent ↦ simp spent (search numbers_by-each)
        ]

    pub seen_begun : seen_ground
        (record s { table = table_begun s.table good; condemning = false; last = good; stage = Tuned })
        ≡ marks_begun (seen_ground s) good
    seen_begun =
        elim (cases_Bool (nat_lt s.table.round.number (2 ^ 8 - 1))) [
          | inl next ↦
              simp next
              (search (
                marked_of-next s.table.round.number s.table.tabled dated,
                unhealed_of-next s.table.round.number s.table.tabled dated,
              ))
          | inr spent ↦
              simp spent
              (search (
                map-each,
                numbers_by-each with_nothing_done (λ k. refl) (λ k. k.holds) (λ k. refl),
                marked_of-anew,
                unhealed_of-anew,
              ))
        ]

  -- what isn't marked is condemned
  pub sound_blanked : IsSoundGround (record s { table = table_blanked s.table; condemning = true })
  sound_blanked = search (numbers_by-each, blanked_keeps, blanked_holds)

  module _ (rising : IsRising (numbers (objects_of s.table.tabled))) where
    pub seen_condemned : seen_ground (record s { table = table_blanked s.table; condemning = true })
        ≡ with_condemned (seen_ground s)
    seen_condemned =
        search (
          objects_of-blanked s.table.round.number s.table.tabled rising,
          unmarked-tabled s.table.round.number s.table.tabled rising,
          tags_of-blanked,
          numbers_by-each (blanked_unless_marked s.table.round.number) (blanked_keeps s.table.round.number)
              (λ k. k.holds)
              (blanked_holds s.table.round.number),
          numbers_by-each (blanked_unless_marked s.table.round.number) (blanked_keeps s.table.round.number)
              (λ k. from_bool (is_marked s.table.round.number k))
              (λ k. ap (λ m. from_bool (m == s.table.round.number)) (blanked_marked s.table.round.number k)),
          numbers_by-each (blanked_unless_marked s.table.round.number) (blanked_keeps s.table.round.number)
              (λ k. from_bool (not (is_healed s.table.round.number k)))
              (λ k. ap (λ m. from_bool (not (m == s.table.round.number))) (blanked_healed s.table.round.number k)),
        )

    -- one object is marked
    pub seen_marked : (n : ℕ)
        → seen_ground (record s { table = changed s.table n (with_marked s.table.round.number) })
        ≡ ground_marked (seen_ground s) n
    seen_marked n =
        grind (arith, is_unmarked-tabled, map-changed, numbers_by-changed, marked_of-marked, marked_of-marked_again)

    -- one object is healed
    pub seen_healed : (n : ℕ)
        → seen_ground (record s { table = changed s.table n (with_healed s.table.round.number) })
        ≡ ground_healed (seen_ground s) n
    seen_healed n = grind (arith, map-changed, numbers_by-changed, unhealed_of-healed)

-- numbers up to the last are below the next
pub there_below : (os : List Object) (last next : ℕ) → last < next → AllUpTo last (numbers os) → (n : ℕ)
    → is_there os n ≡ true → n < next
there_below [] last next under all n there = absurd (false≢true there)
there_below (o ∷ os) last next under all n there = grind (arith, there_below os last next under all.1 n)
