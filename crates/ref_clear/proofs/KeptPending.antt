-- What is pending is seen as before where each reference keeps its queue and the cycle in which it was cleared.
use Rattle.ref_clear.proofs.Common.{arith, ◌≡◌, ℕ, true, List, [], ◌∷◌, refl, ap, subst, sym, unwrap_or, IsSome}
use Rattle.ref_clear.proofs.Common.{or_right, has, is_there, Object, reference_at, registered_in, Pending, joined}
use Rattle.ref_clear.proofs.Common.{CycleHeap, shaded_all, with_mark, seen_lists, AreSoundLists, pending_in}
use Rattle.ref_clear.proofs.Common.{pendings_in, pending_lists_of, AreRegistered, Tag, cleared_in_at}
use Rattle.ref_base.proofs.HasLaws.{has-first, has-left, has-right}
use Rattle.ref_mark.proofs.KeptParts.{KeepsCycles, shaded_all-tags}
use Rattle.ref_mark.proofs.LoopLemmas.{shaded_heap}
use Rattle.ref_clear.proofs.KeptReferences.{KeepsReferences}

-- ---- one reference

-- it has the same queue in the other heap, and was cleared in the same cycle
abbrev pub IsKept : CycleHeap → CycleHeap → ℕ → Type 0
IsKept k j n =
    (registered_in (reference_at j.heap n) ≡ registered_in (reference_at k.heap n))
    × (cleared_in_at j.tags n ≡ cleared_in_at k.tags n)

pub told_same : (k j : CycleHeap) (n : ℕ) → IsKept k j n
    → pending_in j.heap.objects j.tags n ≡ pending_in k.heap.objects k.tags n
told_same k j n kept = λ i. record { object = n; queue = unwrap_or (kept.0 i) 0; cycle = kept.1 i }

-- ---- all

-- each number in the lists is that of one that is kept so
abbrev pub AreKept : CycleHeap → CycleHeap → List (List ℕ) → Type 0
AreKept k j lists = (n : ℕ) → has (joined lists) n ≡ true → IsKept k j n

module _ (os us : List Object) (ts vs : List Tag) where
  pub pendings_in-same : (ns : List ℕ) → ((n : ℕ) → has ns n ≡ true → pending_in us vs n ≡ pending_in os ts n)
      → pendings_in us vs ns ≡ pendings_in os ts ns
  pendings_in-same [] same = refl
  pendings_in-same (n ∷ ns) same = search (has-first, or_right, pendings_in-same ns)

  lists_of-same : (ls : List (List ℕ))
      → ((n : ℕ) → has (joined ls) n ≡ true → pending_in us vs n ≡ pending_in os ts n)
      → pending_lists_of us vs ls ≡ pending_lists_of os ts ls
  lists_of-same [] same = refl
  lists_of-same (l ∷ ls) same = search (pendings_in-same, has-left, has-right, lists_of-same ls)

pub lists_kept : (k j : CycleHeap) (lists : List (List ℕ)) → AreKept k j lists
    → pending_lists_of j.heap.objects j.tags lists ≡ pending_lists_of k.heap.objects k.tags lists
lists_kept k j lists kept =
    lists_of-same k.heap.objects j.heap.objects k.tags j.tags lists (λ n within. told_same k j n (kept n within))

pub seen_kept : (k j : CycleHeap) (lists : List (List ℕ)) → AreKept k j lists
    → seen_lists j lists ≡ with_mark (seen_lists k lists) j
seen_kept k j lists kept =
    ap (λ (pss : List (List Pending)). record { mark = j; pending = pss }) (lists_kept k j lists kept)

pub registered_kept : (k j : CycleHeap) (lists : List (List ℕ)) → AreKept k j lists
    → AreRegistered k.heap.objects lists → AreRegistered j.heap.objects lists
registered_kept k j lists kept registered n within = subst IsSome (sym (kept n within).0) (registered n within)

-- ---- what keeps them

-- shading does
pub kept_shaded : (k j : CycleHeap) (ns : List ℕ) (n : ℕ) → IsKept k j n → IsKept k (shaded_all j ns) n
kept_shaded k j ns n kept = grind (arith, shaded_all-tags, shaded_heap j)

module _ {k : CycleHeap} {lists : List (List ℕ)} {condemned : List ℕ} (sound : AreSoundLists k lists condemned) where
  -- what is pending is there
  pub waits_there : (n : ℕ) → has (joined lists) n ≡ true → is_there k.heap.objects n ≡ true
  waits_there n within = grind arith

  -- and so does whatever keeps the reference and the cycle of each object
  pub kept_by : (j : CycleHeap) → KeepsReferences k.heap j.heap → KeepsCycles k.tags j.tags → AreKept k j lists
  kept_by j references cycles n within = ((references n (waits_there n within)).1, cycles n)
