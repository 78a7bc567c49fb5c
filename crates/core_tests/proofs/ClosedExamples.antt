-- A heap in which nothing outside refers to what isn't marked, and four in which something does.
use Rattle.std.proofs.Common.{ℕ, refl, arith, List, [], ◌∷◌, Option, Some, None}
use Rattle.std.proofs.lemmas.Bool.{false≢true}
use Rattle.ref_base.specs.Members.{has}
use Rattle.ref_base.specs.Graphs.{Object, Reference}
use Rattle.ref_base.specs.Heaps.{Heap, first_heap}
use Rattle.ref_base.specs.declared.config.Config.{Config}
use Rattle.ref_base.specs.declared.strength.Strength.TheVariants.{Phantom}
use Rattle.ref_objects.specs.Grounds.{IsClosed}

-- object 1 is marked, with one field; object 2 isn't, and its field holds object 1
abbrev one : Option ℕ → Option Reference → Object
one value reference = record { no = 1; fields = value ∷ []; reference = reference }

abbrev two : Object
two = record { no = 2; fields = Some 1 ∷ []; reference = None }

abbrev heap_of : Config → Option ℕ → Option Reference → Option ℕ → List ℕ → Heap
heap_of config value reference slot holds = record (first_heap config 0) {
  objects = one value reference ∷ two ∷ [];
  slots = slot ∷ [];
  holds = holds;
}

module _ (config : Config) where
  -- object 1 is in the slot and held, and refers to itself
  closed : IsClosed (heap_of config (Some 1) None (Some 1) (1 ∷ [])) (has (1 ∷ []))
  closed = record { rooted = λ n root. grind arith; closed = λ m n marked by. grind arith }

  -- the slot holds object 2
  not_with_a_slot : IsClosed (heap_of config None None (Some 2) []) (has (1 ∷ [])) → ⊥
  not_with_a_slot is = false≢true (is.rooted 2 refl)

  -- object 2 is held
  not_with_a_hold : IsClosed (heap_of config None None None (2 ∷ [])) (has (1 ∷ [])) → ⊥
  not_with_a_hold is = false≢true (is.rooted 2 refl)

  -- the field of object 1 holds object 2
  not_with_a_field : IsClosed (heap_of config (Some 2) None None []) (has (1 ∷ [])) → ⊥
  not_with_a_field is = false≢true (is.closed 1 2 refl refl)

  -- object 1 is a phantom reference to object 2
  not_with_a_referent :
      IsClosed (heap_of config None
      (Some (record { strength = Phantom; referent = Some 2; stamp = 0; queue = None })) None []) (has (1 ∷ [])) → ⊥
  not_with_a_referent is = false≢true (is.closed 1 2 refl refl)
