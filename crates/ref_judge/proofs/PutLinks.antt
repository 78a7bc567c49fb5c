-- What was ever put in, by the links of the objects, once some more were put in.
use Rattle.ref_base.proofs.Common.{arith, ◌≡◌, ℕ, ◌==◌, ◌||◌, Bool, true, false, List, [], ◌∷◌, map, refl, sym, ap, ◌∙◌}
use Rattle.ref_base.proofs.Common.{has, false≢true, is_there, Object, Some, object_at}
use Rattle.ref_base.specs.Heaps.{registered_in, reference_in}
use Rattle.ref_base.proofs.Lookups.{is_there-has}
use Rattle.ref_space.specs.Tables.{Tag}
use Rattle.ref_objects.specs.Grounds.{Ground, IsWellFormed, cleared_in_at, with_link}
use Rattle.ref_judge.specs.Judged.{is_put}
use Rattle.ref_judge.specs.Queueing.{linked_each}

-- the objects that have a tag
abbrev pub tagged : List Tag → List ℕ
tagged ts = map (λ (t : Tag). t.no) ts

tagged_link : (ts : List Tag) (m to : ℕ) → tagged (with_link ts m to) ≡ tagged ts
tagged_link [] m to = refl
tagged_link (t ∷ ts) m to = grind (arith, tagged_link ts m to)

link_one : (ts : List Tag) (m n : ℕ) → has (tagged ts) n ≡ true
    → is_put (with_link ts m 1) n ≡ (is_put ts n || (m == n))
link_one [] m n there = absurd (false≢true there)
link_one (t ∷ ts) m n there = grind (arith, link_one ts m n)

or_both : (a b c : Bool) → ((a || b) || c) ≡ (a || (b || c))
or_both true b c = refl
or_both false b c = refl

or_none : (a : Bool) → a ≡ (a || false)
or_none true = refl
or_none false = refl

-- what has a tag was put in where it was before, or is one of these
pub linked_put : (ts : List Tag) (ns : List ℕ) (n : ℕ) → has (tagged ts) n ≡ true
    → is_put (linked_each ts ns) n ≡ (is_put ts n || has ns n)
linked_put ts [] n there = or_none (is_put ts n)
linked_put ts (m ∷ ns) n there =
    linked_put (with_link ts m 1) ns n (ap (λ ms. has ms n) (tagged_link ts m 1) ∙ there)
    ∙ ap (λ (was : Bool). was || has ns n) (link_one ts m n there) ∙ or_both (is_put ts n) (m == n) (has ns n)

cleared_link : (ts : List Tag) (m to n : ℕ) → cleared_in_at (with_link ts m to) n ≡ cleared_in_at ts n
cleared_link [] m to n = refl
cleared_link (t ∷ ts) m to n = grind (arith, cleared_link ts m to n)

-- no object was cleared in another cycle then
pub cleared_linked : (ts : List Tag) (ns : List ℕ) (n : ℕ) → cleared_in_at (linked_each ts ns) n ≡ cleared_in_at ts n
cleared_linked ts [] n = refl
cleared_linked ts (m ∷ ns) n = cleared_linked (with_link ts m 1) ns n ∙ cleared_link ts m 1 n

-- a reference with a queue has a tag
pub registered_tagged : (g : Ground) (n q : ℕ) → IsWellFormed g → is_there g.heap.objects n ≡ true
    → has (tagged g.tags) n ≡ true
registered_tagged g n q formed there =
    ap (λ ns. has ns n) formed.tagged ∙ sym (is_there-has g.heap.objects n) ∙ there

pub registered_there : (os : List Object) (n q : ℕ) → registered_in (reference_in (object_at os n)) ≡ Some q
    → is_there os n ≡ true
registered_there [] n q is = absurd cc
registered_there (o ∷ os) n q is = grind (arith, registered_there os n q)
