-- What is forgotten keeps its shape, and a call reads and changes the rest as if nothing were.
use Rattle.ref_base.proofs.Common.{arith, ◌≡◌, ℕ, false, refl, ap, List, [], ◌∷◌, map, Option, Some, None, length-map}
use Rattle.ref_base.proofs.Common.{map-append, has, Object, object_at, Heap, reference_in, changed_in, made, field_of}
use Rattle.ref_base.proofs.Common.{field_in, reference_of}
use Rattle.ref_base.specs.Forgetting.{forgotten, heap_but}
use Rattle.ref_base.proofs.Reshaping.{KeepsShape, map-changed_at}

-- ---- one object

pub forgotten-kept : (d : List ℕ) (o : Object) → has d o.no ≡ false → forgotten d o ≡ o
forgotten-kept d o kept = simp kept refl

pub forgotten-shape : (d : List ℕ) → KeepsShape (λ o. forgotten d o)
forgotten-shape d = grind (arith, length-map)

-- ---- what isn't forgotten

-- it is there as it was
object_at-but : (d : List ℕ) (os : List Object) (n : ℕ) → has d n ≡ false
    → object_at (map (λ o. forgotten d o) os) n ≡ object_at os n
object_at-but d [] n kept = refl
object_at-but d (o ∷ os) n kept = grind (arith, object_at-but d os n kept)

-- what a slot holds isn't one of these
abbrev pub IsSaid : List ℕ → Option ℕ → Type 0
IsSaid d None = Unit {0}
IsSaid d (Some n) = has d n ≡ false

pub field_in-but : (d : List ℕ) (h : Heap) (held : Option ℕ) (i : ℕ) → IsSaid d held
    → field_in (heap_but d h) held i ≡ field_in h held i
field_in-but d h None i said = refl
field_in-but d h (Some n) i said = ap (λ o. field_of o i) (object_at-but d h.objects n said)

pub reference_of-but : (d : List ℕ) (h : Heap) (held : Option ℕ) → IsSaid d held
    → reference_of (heap_but d h) held ≡ reference_of h held
reference_of-but d h None said = refl
reference_of-but d h (Some n) said = ap reference_in (object_at-but d h.objects n said)

-- ---- what a call changes

pub changed_in-but : (d : List ℕ) (h : Heap) (held : Option ℕ) (f : Object → Object) → IsSaid d held
    → ((o : Object) → (f o).no ≡ o.no) → heap_but d (changed_in h held f) ≡ changed_in (heap_but d h) held f
changed_in-but d h None f said number = refl
changed_in-but d h (Some n) f said number = grind (arith, map-changed_at)

pub made-but : (d : List ℕ) (h : Heap) (m t : ℕ) (o : Object) → has d o.no ≡ false
    → heap_but d (made h m t o) ≡ made (heap_but d h) m t o
made-but d h m t o kept = search (map-append, forgotten-kept)

-- ---- where nothing is forgotten

map-same : (os : List Object) → map (λ o. o) os ≡ os
map-same [] = refl
map-same (o ∷ os) = ap (λ ps. o ∷ ps) (map-same os)

pub heap_but-none : (h : Heap) → heap_but [] h ≡ h
heap_but-none h = ap (λ (os : List Object). record h { objects = os }) (map-same h.objects)
