-- The definitions of graphs and strengths at work on a graph that one can read off by hand.
use Rattle.ref_base.proofs.Common.{arith, ◌≡◌, ℕ, false, [], ◌∷◌, Some, refl, sym, ◌∙◌, true≢false, false≢true, has}
use Rattle.ref_base.proofs.Common.{Graph, plain_object, numbers, with_object, EndsPath, no_referents, soft_referents}
use Rattle.ref_base.proofs.Common.{soft_and_weak_referents, HasStrength, HangsOnPhantom}
use Rattle.ref_base.specs.Graphs.{reference_object}
use Rattle.ref_base.proofs.ClosedSets.{closed_has}
use Rattle.ref_base.proofs.PathLaws.{path_within}
use Rattle.ref_base.specs.declared.strength.Strength.TheVariants as strength
use Rattle.ref_base.specs.declared.reach.Reach.TheVariants as reach

-- object 1 is the root
abbrev pub example : Graph
example = record {
  objects = plain_object 1 (Some 2 ∷ Some 4 ∷ Some 6 ∷ [])
      ∷ reference_object 2 strength.Soft (Some 3) []
      ∷ plain_object 3 []
      ∷ reference_object 4 strength.Weak (Some 5) []
      ∷ plain_object 5 (Some 8 ∷ [])
      ∷ reference_object 6 strength.Phantom (Some 7) []
      ∷ plain_object 7 (Some 9 ∷ [])
      ∷ plain_object 8 []
      ∷ plain_object 9 []
      ∷ plain_object 10 []
      ∷ [];
  roots = 1 ∷ [];
}

-- ---- no path leads out of these

no_strong_path : (n : ℕ) → has (1 ∷ 2 ∷ 4 ∷ 6 ∷ []) n ≡ false → ¬ (EndsPath no_referents example n)
no_strong_path n out = λ ends. true≢false (sym (closed_has no_referents example (1 ∷ 2 ∷ 4 ∷ 6 ∷ []) refl n ends) ∙ out)

no_soft_path : (n : ℕ) → has (1 ∷ 2 ∷ 3 ∷ 4 ∷ 6 ∷ []) n ≡ false → ¬ (EndsPath soft_referents example n)
no_soft_path n out =
    λ ends. true≢false (sym (closed_has soft_referents example (1 ∷ 2 ∷ 3 ∷ 4 ∷ 6 ∷ []) refl n ends) ∙ out)

no_weak_path : (n : ℕ) → has (1 ∷ 2 ∷ 3 ∷ 4 ∷ 5 ∷ 6 ∷ 8 ∷ []) n ≡ false → ¬ (EndsPath soft_and_weak_referents example n)
no_weak_path n out =
    λ ends. true≢false
    (sym (closed_has soft_and_weak_referents example (1 ∷ 2 ∷ 3 ∷ 4 ∷ 5 ∷ 6 ∷ 8 ∷ []) refl n ends) ∙ out)

-- the one phantom reference among them is 6, to 7
not_hung : (n : ℕ) → has (7 ∷ []) n ≡ false → ¬ (HangsOnPhantom example n)
not_hung n out = grind arith

-- ---- the strengths

a_root_is_strong : HasStrength example 1 reach.Strong
a_root_is_strong = ([], (refl, refl))

a_reference_in_a_field_is_strong : HasStrength example 2 reach.Strong
a_reference_in_a_field_is_strong = (1 ∷ [], (refl, refl, (refl, refl)))

the_referent_of_a_soft_one_is_soft : HasStrength example 3 reach.Soft
the_referent_of_a_soft_one_is_soft = (no_strong_path 3 refl, (2 ∷ 1 ∷ [], (refl, refl, (refl, refl, (refl, refl)))))

a_weak_reference_in_a_field_is_strong : HasStrength example 4 reach.Strong
a_weak_reference_in_a_field_is_strong = (1 ∷ [], (refl, refl, (refl, refl)))

the_referent_of_a_weak_one_is_weak : HasStrength example 5 reach.Weak
the_referent_of_a_weak_one_is_weak = (no_soft_path 5 refl, (4 ∷ 1 ∷ [], (refl, refl, (refl, refl, (refl, refl)))))

a_phantom_reference_in_a_field_is_strong : HasStrength example 6 reach.Strong
a_phantom_reference_in_a_field_is_strong = (1 ∷ [], (refl, refl, (refl, refl)))

the_referent_of_a_phantom_one_is_phantom : HasStrength example 7 reach.Phantom
the_referent_of_a_phantom_one_is_phantom =
    (no_weak_path 7 refl, (6, (1 ∷ [], (refl, refl, (refl, refl))), (refl, refl)))

a_field_of_a_weak_object_is_weak : HasStrength example 8 reach.Weak
a_field_of_a_weak_object_is_weak =
    (no_soft_path 8 refl, (5 ∷ 4 ∷ 1 ∷ [], (refl, refl, (refl, refl, (refl, refl, (refl, refl))))))

a_field_of_a_phantom_object_is_unreachable : HasStrength example 9 reach.Unreachable
a_field_of_a_phantom_object_is_unreachable = (no_weak_path 9 refl, not_hung 9 refl)

what_nothing_refers_to_is_unreachable : HasStrength example 10 reach.Unreachable
what_nothing_refers_to_is_unreachable = (no_weak_path 10 refl, not_hung 10 refl)

-- ---- objects come by number, each number once

an_object_comes_to_its_place : numbers (with_object example.objects (plain_object 0 []))
    ≡ 0 ∷ 1 ∷ 2 ∷ 3 ∷ 4 ∷ 5 ∷ 6 ∷ 7 ∷ 8 ∷ 9 ∷ 10 ∷ []
an_object_comes_to_its_place = refl

an_object_that_is_there_stays : with_object example.objects (plain_object 5 []) ≡ example.objects
an_object_that_is_there_stays = refl

-- a root that is no object begins no path
bare_root : Graph
bare_root = record { objects = []; roots = 1 ∷ [] }

a_root_without_an_object_ends_no_path : ¬ (EndsPath no_referents bare_root 1)
unfolding bare_root
a_root_without_an_object_ends_no_path =
    λ ends. path_within no_referents bare_root (λ _. ⊥) (λ n there root. false≢true there)
    (λ m n before target there. before) 1 ends.0 ends.1
