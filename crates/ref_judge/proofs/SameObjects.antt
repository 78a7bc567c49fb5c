-- Heaps with the same objects, of which the same are references, registered alike: what they refer to may differ.
use Rattle.ref_base.proofs.Common.{arith, ◌≡◌, ℕ, refl, List, [], ◌∷◌, Option, Some, None, is_some, Object, object_at}
use Rattle.ref_base.proofs.Common.{is_there, Heap, reference_in, registered_in, reference_at, changed_in, with_slot}
use Rattle.ref_base.proofs.Common.{length-set, Reference}
use Rattle.ref_base.specs.Heaps.{stored, cut, got, with_field, with_reference, changed_reference, cleared, got_at}
use Rattle.ref_base.specs.Heaps.{slot_at}
use Rattle.ref_base.specs.CollectorRows.{references_among}
use Rattle.ref_base.proofs.Lookups.{lookup-changed}
use Rattle.ref_base.proofs.Reshaping.{KeepsShape, queue-cleared}

pub record SameObjects (h g : Heap) : Type 0 where
  pub there : (n : ℕ) → is_there g.objects n ≡ is_there h.objects n
  pub references : (n : ℕ) → is_some (reference_at g n) ≡ is_some (reference_at h n)
  pub registered : (n : ℕ) → registered_in (reference_at g n) ≡ registered_in (reference_at h n)

pub same_itself : (h : Heap) → SameObjects h h
same_itself h = record { there = λ n. refl; references = λ n. refl; registered = λ n. refl }

-- the same of them are references
pub references_same : (h g : Heap) (ns : List ℕ) → SameObjects h g
    → references_among g.objects ns ≡ references_among h.objects ns
references_same h g [] same = refl
references_same h g (n ∷ ns) same = grind (arith, references_same h g ns same, same.references n)

-- ---- changes of one object

module _ (h : Heap) (f : Object → Object) (keeps : KeepsShape f) where
  told_same : {T : Type 0} (F : Option Object → T) → ((o : Object) → F (Some (f o)) ≡ F (Some o)) → (m n : ℕ)
      → F (object_at (changed_in h (Some m) f).objects n) ≡ F (object_at h.objects n)
  told_same F same m n =
      lookup-changed (λ o p. F p ≡ F o) h.objects m f keeps.number (λ o. refl) (λ o is. same o) n

  pub same_changed : (held : Option ℕ) → SameObjects h (changed_in h held f)
  same_changed None = same_itself h
  same_changed (Some m) = record {
    there = told_same (λ o. is_some o) (λ o. refl) m;
    references = told_same (λ o. is_some (reference_in o)) keeps.is_reference m;
    registered = told_same (λ o. registered_in (reference_in o)) keeps.queue m;
  }

-- and the same is held
pub holds_changed : (h : Heap) (held : Option ℕ) (f : Object → Object) → (changed_in h held f).holds ≡ h.holds
holds_changed h None f = refl
holds_changed h (Some n) f = refl

pub field_shape : (i : ℕ) (value : Option ℕ) → KeepsShape (with_field i value)
field_shape i value = record {
  number = λ o. refl;
  fields = λ o. length-set o.fields i value;
  is_reference = λ o. refl;
  queue = λ o. refl;
}

some_changed : (f : Reference → Reference) (r : Option Reference) → is_some (changed_reference f r) ≡ is_some r
some_changed f None = refl
some_changed f (Some r) = refl

pub cleared_shape : KeepsShape (with_reference cleared)
cleared_shape = record {
  number = λ o. refl;
  fields = λ o. refl;
  is_reference = λ o. some_changed cleared o.reference;
  queue = λ o. queue-cleared o.reference;
}

queue-got : (clock : ℕ) (r : Option Reference) → registered_in (changed_reference (got_at clock) r) ≡ registered_in r
queue-got clock None = refl
queue-got clock (Some r) = grind arith

pub got_shape : (clock : ℕ) → KeepsShape (with_reference (got_at clock))
got_shape clock = record {
  number = λ o. refl;
  fields = λ o. refl;
  is_reference = λ o. some_changed (got_at clock) o.reference;
  queue = λ o. queue-got clock o.reference;
}

-- ---- what calls change

pub same_slot : (h : Heap) (m s : ℕ) (value : Option ℕ) → SameObjects h (with_slot h m s value)
same_slot h m s value = record { there = λ n. refl; references = λ n. refl; registered = λ n. refl }

pub same_stored : (h : Heap) (m s i v : ℕ) → SameObjects h (stored h m s i v)
same_stored h m s i v =
    same_changed h (with_field i (slot_at h m v)) (field_shape i (slot_at h m v)) (slot_at h m s)

pub same_cut : (h : Heap) (m s : ℕ) → SameObjects h (cut h m s)
same_cut h m s = same_changed h (with_reference cleared) cleared_shape (slot_at h m s)

pub same_got : (h : Heap) (m d s : ℕ) (value : Option ℕ) → SameObjects h (got h m d s value)
same_got h m d s None = same_slot h m d None
same_got h m d s (Some n) =
    let same = same_changed h (with_reference (got_at h.clock)) (got_shape h.clock) (slot_at h m s) in
    record { there = same.there; references = same.references; registered = same.registered }
