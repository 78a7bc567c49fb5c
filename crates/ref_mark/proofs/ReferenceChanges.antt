-- How references change as they are got or cleared, and what their referents read as.
use Rattle.ref_mark.proofs.Common.{arith, ◌≡◌, ℕ, true, false, refl, List, Option, Some, None, is_some, and_parts}
use Rattle.ref_mark.proofs.Common.{false≢true, refers_into, any_is, has, Object, Reference, object_at, is_there}
use Rattle.ref_mark.proofs.Common.{allowed_referent, targets_of, targets_at, soft_and_weak_referents, Heap}
use Rattle.ref_mark.proofs.Common.{reference_in, changed_in, with_reference, cleared, got_at, got, reference_refusal}
use Rattle.ref_mark.proofs.Common.{reference_of, referent_got, CycleHeap, is_white, is_past_mark, is_doomed, undoomed}
use Rattle.ref_mark.proofs.Common.{barred}
use Rattle.ref_base.proofs.HasLaws.{has-left, has-right, has-cases}
use Rattle.ref_base.proofs.Lookups.{lookup-changed}
use Rattle.ref_mark.proofs.MutationKinds.{MayBecome}

-- ---- what is read

pub reference_refusal-there : (h : Heap) (held : Option ℕ) → reference_refusal h held ≡ None → (n : ℕ) × (held ≡ Some n)
reference_refusal-there h None none = absurd (cc)
reference_refusal-there h (Some n) none = (n, refl)

-- ---- clears

any_doomed-past : (k : CycleHeap) (value : Option ℕ) → any_is (is_doomed k) value ≡ true → is_past_mark k.phase ≡ true
any_doomed-past k None met = absurd (false≢true met)
any_doomed-past k (Some n) met = (and_parts (is_past_mark k.phase) (is_white k n) met).0

-- nothing is doomed before a mark has ended
pub refers_into_doomed-past : (k : CycleHeap) (r : Option Reference) → refers_into (is_doomed k) r ≡ true
    → is_past_mark k.phase ≡ true
refers_into_doomed-past k None met = absurd (false≢true met)
refers_into_doomed-past k (Some r) met = any_doomed-past k r.referent met

-- a reference may be cleared but where it refers to the doomed
pub cleared_becomes : (k : CycleHeap) (roots : List ℕ) (o : Object) → refers_into (is_doomed k) o.reference ≡ false
    → MayBecome k roots o (with_reference cleared o)
cleared_becomes k roots o keeps = grind (arith, has-cases, has-left)

-- ---- gets

-- what is undoomed is what was asked for, and isn't doomed
pub undoomed-some : (k : CycleHeap) (value : Option ℕ) (n : ℕ) → undoomed k value ≡ Some n
    → (value ≡ Some n) × (is_doomed k n ≡ false)
undoomed-some k None n is = absurd (cc)
undoomed-some k (Some i) n is = grind arith

got_allowed : (r : Option Reference) (n : ℕ) → referent_got r ≡ Some n
    → has (allowed_referent soft_and_weak_referents r) n ≡ true
got_allowed None n is = absurd (cc)
got_allowed (Some r) n is = grind arith

got_target : (o : Option Object) (n : ℕ) → referent_got (reference_in o) ≡ Some n
    → has (targets_of soft_and_weak_referents o) n ≡ true
got_target None n is = absurd (cc)
got_target (Some o) n is = search (has-right, got_allowed)

-- a reference leads to what it gives
pub gives_target : (h : Heap) (i n : ℕ) → referent_got (reference_of h (Some i)) ≡ Some n
    → has (targets_at soft_and_weak_referents h.objects i) n ≡ true
gives_target h i n is = got_target (object_at h.objects i) n is

-- a reference that gave what is a root may be got
pub got_becomes : (k : CycleHeap) (clock : ℕ) (roots : List ℕ) (o : Object) (n : ℕ)
    → undoomed k (referent_got o.reference) ≡ Some n
    → has roots n ≡ true → MayBecome k roots o (with_reference (got_at clock) o)
got_becomes k clock roots o n is root = grind (arith, has-cases, has-left)

is_there-changed_in : (h : Heap) (held : Option ℕ) (f : Object → Object) (n : ℕ) → ((o : Object) → (f o).no ≡ o.no)
    → is_there (changed_in h held f).objects n ≡ is_there h.objects n
is_there-changed_in h None f n keeps = refl
is_there-changed_in h (Some i) f n keeps =
    lookup-changed (λ o p. is_some p ≡ is_some o) h.objects i f keeps (λ o. refl) (λ o found. refl) n

-- slot d holds what was got, before it is known whether the object has to move
abbrev pub got_there : CycleHeap → ℕ → ℕ → ℕ → Option ℕ → CycleHeap
got_there k m d s value = let after = barred k value in record after { heap = got after.heap m d s value }

-- the barrier may as well come after what is got
pub with_got-barred : (k : CycleHeap) (m d s n : ℕ)
    → got_there k m d s (Some n) ≡ barred (record k { heap = got k.heap m d s (Some n) }) (Some n)
with_got-barred k m d s n = grind (arith, is_there-changed_in)

pub reference_of-held : (k : CycleHeap) (held : Option ℕ) (n : ℕ)
    → undoomed k (referent_got (reference_of k.heap held)) ≡ Some n
    → (i : ℕ) × (held ≡ Some i)
reference_of-held k None n is = absurd (cc)
reference_of-held k (Some i) n is = (i, refl)
