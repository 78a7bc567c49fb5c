-- What the loops of a begin and of a scan shade, turn by turn.
use Rattle.ref_mark.proofs.Common.{◌≡◌, ℕ, ◌+◌, ◌<◌, ◌≤◌, true, false, refl, sym, ap, ◌∙◌, arith, List, [], ◌∷◌, ◌++◌}
use Rattle.ref_mark.proofs.Common.{length, take, Option, Some, None, inl, inr, slice_index_or}
use Rattle.ref_mark.proofs.Common.{if◌then◌else◌, cases_Bool, append-nil, append_assoc, all_marked}
use Rattle.ref_mark.proofs.Common.{all_newly_marked, ground_of, present}
use Rattle.ref_mark.proofs.Common.{Urgency, least_from}
use Rattle.ref_mark.proofs.Common.{IsInOrder, first_in, CycleHeap, shaded, shaded_all, shaded_if_any, whitened}
use Rattle.ref_mark.proofs.Common.{cycle_begun, is_white, one_more, roots_of}
use Rattle.std.proofs.Common.{nat_le}
use Rattle.std.proofs.lemmas.Bool.{le-leb}
use Rattle.std.proofs.lemmas.List.{take_more}
use Rattle.ref_objects.specs.Grounds.{AllFrom}
use Rattle.ref_mark.proofs.Shading.{shaded-only, shaded_all-only, shaded_all-append, own-greyed}

-- ---- place by place

present-append : (xs ys : List (Option ℕ)) → present (xs ++ ys) ≡ present xs ++ present ys
present-append [] ys = refl
present-append (Some n ∷ xs) ys = ap (λ ns. n ∷ ns) (present-append xs ys)
present-append (None ∷ xs) ys = present-append xs ys

-- what is held at one place more is shaded
pub shaded_more : (start k : CycleHeap) (held : List (Option ℕ)) (place : ℕ) → place < length held
    → k ≡ shaded_all start (present (take place held))
    → shaded_if_any k (slice_index_or held place None) ≡ shaded_all start (present (take (place + 1) held))
shaded_more start k held place within so_far =
    grind (arith, shaded_all-append, present-append, take_more held place None within)

-- shading leaves the heap as it is
pub shaded_heap : (start k : CycleHeap) (ns : List ℕ) → k ≡ shaded_all start ns → k.heap ≡ start.heap
shaded_heap start k ns is = ap (λ (j : CycleHeap). j.heap) (is ∙ shaded_all-only start ns)

pub shaded_once-heap : (k : CycleHeap) (n : ℕ) → (shaded k n).heap ≡ k.heap
shaded_once-heap k n = ap (λ (j : CycleHeap). j.heap) (shaded-only k n)

-- ---- the parts of a scan and of a begin

-- all objects become white, then the slots are shaded, and then the holds
pub begun_by_parts : (k white slots held : CycleHeap) (now : ℕ) (how : Urgency) → white ≡ whitened k now how
    → slots ≡ shaded_all white (present white.heap.slots) → held ≡ shaded_all slots slots.heap.holds
    → held ≡ cycle_begun k now how
begun_by_parts k white slots held now how whitened_is slots_is held_is =
    grind (arith, shaded_all-append, shaded_heap white slots)

pub begun_cycle : (k : CycleHeap) (now : ℕ) (how : Urgency) → (cycle_begun k now how).cycle ≡ k.cycle + 1
begun_cycle k now how =
    ap (λ (j : CycleHeap). j.cycle) (shaded_all-only (whitened k now how) (roots_of k.heap))

-- ---- hold by hold

-- the numbers without those in front that are below n
abbrev pub drop_below : ℕ → List ℕ → List ℕ
drop_below n [] = []
drop_below n (m ∷ ms) = if nat_le n m then m ∷ ms else drop_below n ms

-- what is still to be shaded where this is the next
abbrev pub still_held : Option ℕ → List ℕ → List ℕ
still_held None ns = []
still_held (Some n) ns = drop_below n ns

-- What holds as the loop goes on: what is still to be shaded begins with the next, and then all will be shaded.
pub record IsHeldFrom (start k : CycleHeap) (next : Option ℕ) (holds : List ℕ) : Type 0 where
  pub first : first_in (still_held next holds) ≡ next
  pub rest : shaded_all k (still_held next holds) ≡ shaded_all start holds

first-drop_below : (n : ℕ) (ns : List ℕ) → least_from ns n ≡ first_in (drop_below n ns)
first-drop_below n [] = refl
first-drop_below n (m ∷ ms) =
    elim (cases_Bool (nat_le n m)) [ inl le ↦ simp le refl | inr above ↦ simp above (first-drop_below n ms) ]

-- what is left is from n on
from-drop_below : (n m : ℕ) (ns rest : List ℕ) → drop_below n ns ≡ m ∷ rest → n ≤ m
from-drop_below n m [] rest is = absurd (cc)
from-drop_below n m (k ∷ ks) rest is = grind (arith, from-drop_below n m ks rest)

-- dropping up to the first that is left drops no more
drop_below-first : (n m : ℕ) (ns rest : List ℕ) → drop_below n ns ≡ m ∷ rest → drop_below m ns ≡ m ∷ rest
drop_below-first n m [] rest is = absurd (cc)
drop_below-first n m (k ∷ ks) rest is = grind (arith, from-drop_below, drop_below-first n m ks rest)

still-of : (n : ℕ) (ns left : List ℕ) → drop_below n ns ≡ left → still_held (least_from ns n) ns ≡ left
still-of n ns [] is =
    let none : least_from ns n ≡ None = first-drop_below n ns ∙ ap first_in is in ap (λ next. still_held next ns) none
still-of n ns (m ∷ rest) is = grind (arith, first-drop_below, drop_below-first)

-- what the next leaves is what is left from n on
still-least_from : (n : ℕ) (ns : List ℕ) → still_held (least_from ns n) ns ≡ drop_below n ns
still-least_from n ns = still-of n ns (drop_below n ns) refl

drop_below-all : (ns : List ℕ) → drop_below 0 ns ≡ ns
drop_below-all [] = refl
drop_below-all (n ∷ ns) =
    let from : nat_le 0 n ≡ true = le-leb 0 n (omega arith) in simp from refl

-- dropping less before drops the same
drop_below-twice : (n m : ℕ) (ns : List ℕ) → n ≤ m → drop_below m (drop_below n ns) ≡ drop_below m ns
drop_below-twice n m [] le = refl
drop_below-twice n m (k ∷ ks) le = grind (arith, drop_below-twice n m ks le)

in_order-drop_below : (n : ℕ) (ns : List ℕ) → IsInOrder ns → IsInOrder (drop_below n ns)
in_order-drop_below n [] order = tt
in_order-drop_below n (m ∷ ms) order = grind (arith, in_order-drop_below n ms order.1)

length-drop_below : (n : ℕ) (ns : List ℕ) → length (drop_below n ns) ≤ length ns
length-drop_below n [] = omega arith
length-drop_below n (m ∷ ms) = grind (arith, length-drop_below n ms)

none_is_some : {n : ℕ} → None ≡ Some n → ⊥
none_is_some is = absurd (cc)

-- an object that is shaded already isn't shaded again
shaded_again : (k : CycleHeap) (n : ℕ) → shaded (shaded k n) n ≡ shaded k n
shaded_again k n = grind (arith, own-greyed)

-- where the numbers are in order, further holds of an object that is shaded may be passed over
passed_over : (k : CycleHeap) (n : ℕ) (ns : List ℕ) → AllFrom n ns
    → shaded_all (shaded k n) (drop_below (n + 1) ns) ≡ shaded_all (shaded k n) ns
passed_over k n [] all = refl
passed_over k n (m ∷ ms) all = grind (arith, shaded_again, passed_over k n ms all.1)

-- one turn, of what is left and begins with n
turn : (k : CycleHeap) (n : ℕ) (holds left : List ℕ) → IsInOrder holds → drop_below n holds ≡ left
    → first_in (drop_below n holds) ≡ Some n
    → shaded_all (shaded k n) (drop_below (n + 1) holds) ≡ shaded_all k (drop_below n holds)
turn k n holds [] order is first = absurd (none_is_some (sym (ap first_in is) ∙ first))
turn k n holds (m ∷ rest) order is first = grind (arith, in_order-drop_below, drop_below-twice, passed_over)

fewer : (n : ℕ) (holds left : List ℕ) → drop_below n holds ≡ left → first_in (drop_below n holds) ≡ Some n
    → length (drop_below (n + 1) holds) < length (drop_below n holds)
fewer n holds [] is first = absurd (none_is_some (sym (ap first_in is) ∙ first))
fewer n holds (m ∷ rest) is first = grind (arith, drop_below-twice, length-drop_below)

-- at first all is still to be shaded
pub held_from_first : (k : CycleHeap) (holds : List ℕ) → IsHeldFrom k k (least_from holds 0) holds
held_from_first k holds = search (still-least_from 0 holds, first-drop_below 0 holds, drop_below-all holds)

-- a turn shades the next
pub held_after_turn : (start k : CycleHeap) (n : ℕ) (holds : List ℕ) → IsInOrder holds
    → IsHeldFrom start k (Some n) holds
    → IsHeldFrom start (shaded k n) (least_from holds (n + 1)) holds
held_after_turn start k n holds order so_far = grind (arith, still-least_from, first-drop_below, turn)

-- and leaves fewer
pub fewer_after_turn : (start k : CycleHeap) (n : ℕ) (holds : List ℕ) → IsHeldFrom start k (Some n) holds
    → length (still_held (least_from holds (n + 1)) holds) < length (still_held (Some n) holds)
fewer_after_turn start k n holds so_far = grind (arith, still-least_from, fewer)

-- ---- what is marked anew becomes grey, one by one

shaded_white : (k : CycleHeap) (n : ℕ) → is_white k n ≡ true
    → shaded k n ≡ record k { marked = one_more k.marked n; grey = k.grey ++ n ∷ [] }
shaded_white k n white = simp white refl

shaded_other : (k : CycleHeap) (n : ℕ) → is_white k n ≡ false → shaded k n ≡ k
shaded_other k n other = simp other refl

-- objects that become grey are marked, and what is marked anew is grey
pub shaded_marks : (k : CycleHeap) (held : List (Option ℕ))
    → record k {
      marked = (all_marked (ground_of k) held).marked;
      grey = k.grey ++ all_newly_marked (ground_of k) held;
    }
    ≡ shaded_all k (present held)
shaded_marks k [] = ap (λ ns. record k { grey = ns }) (append-nil k.grey)
shaded_marks k (None ∷ held) = shaded_marks k held
shaded_marks k (Some n ∷ held) =
    elim (cases_Bool (is_white k n)) [
      | inl white ↦ simp white (ap (λ ns. record k {
        marked = (all_marked (ground_of (record k { marked = one_more k.marked n })) held).marked;
        grey = ns;
      })
          (sym (append_assoc k.grey (n ∷ []) (all_newly_marked (ground_of
          (record k { marked = one_more k.marked n })) held)))
          ∙ shaded_marks (record k { marked = one_more k.marked n; grey = k.grey ++ n ∷ [] }) held
          ∙ ap (λ j. shaded_all j (present held)) (sym (shaded_white k n white)))
      | inr other ↦
          simp other
          (shaded_marks k held ∙ ap (λ j. shaded_all j (present held)) (sym (shaded_other k n other)))
    ]
