-- What the loop of a sweep frees, turn by turn.
use Rattle.ref_clear.proofs.Common.{◌≡◌, ℕ, ◌+◌, ◌<◌, ◌≤◌, true, false, ◌==◌, ◌&&◌, not, is_some, refl, sym, ap, ◌∙◌}
use Rattle.ref_clear.proofs.Common.{arith, List, [], ◌∷◌, ◌++◌, length, take, drop, Some, None, ◌⊎◌, inl, inr, subst}
use Rattle.ref_clear.proofs.Common.{and_parts, take_all, cases_Bool, false≢true, true≢false, false_from_ne_true, has}
use Rattle.ref_clear.proofs.Common.{Object, is_there, numbers, IsRising, without, is_in, Sweeping, unmarked, first_in}
use Rattle.ref_clear.proofs.Common.{CycleHeap, is_white, doomed, swept_some, MaySweep, Tag, without_tags}
use Rattle.std.proofs.Common.{min}
use Rattle.std.specs.Int.{from_bool}
use Rattle.std.proofs.lemmas.Bool.{eqb-true}
use Rattle.std.proofs.lemmas.List.{take_more, drop_more, drop_all}
use Rattle.ref_base.specs.Members.{rest_of}
use Rattle.ref_objects.specs.Grounds.{Space}
use Rattle.ref_clear.specs.ClearHeaps.{vacated_all}
use Rattle.ref_mark.specs.CycleHeaps.{is_swept, swept}
use Rattle.ref_base.proofs.HasLaws.{has-first}
use Rattle.ref_base.proofs.RisingLists.{rising-above, rising-tail}
use Rattle.ref_mark.proofs.DoomedLists.{has-doomed}
use Rattle.ref_mark.proofs.MutatedStates.{sweeping_is_past}
use Rattle.ref_clear.proofs.GoneObjects.{without-none, without-append, object_at-left, left_from_there, rising-without}
use Rattle.ref_clear.proofs.GoneObjects.{without_tags-append, vacated_all-append, unmarked-swept, rising-unmarked}

-- ---- lists

-- in a list that rises, the least is the first
first_least : (ns : List ℕ) (n : ℕ) → IsRising ns → has ns n ≡ true → ((m : ℕ) → has ns m ≡ true → n ≤ m)
    → first_in ns ≡ Some n
first_least [] n rising within least = absurd (false≢true within)
first_least (m ∷ ns) n rising within least =
    elim (cases_Bool (m == n)) [
      | inl same ↦ ap Some (eqb-true m n same)
      | inr other ↦
          let later : has ns n ≡ true = grind arith in
          absurd (omega (arith, least m (has-first m ns), rising-above m ns rising n later))
    ]

-- the first of what is left of a list where so many are taken
first_left : (ns : List ℕ) (i n : ℕ) → first_in (drop i ns) ≡ Some n
    → (i < length ns) × (take (i + 1) ns ≡ take i ns ++ n ∷ [])
first_left ns i n first = grind (arith, drop_more, drop_all, take_more ns i 0)

none_left : (ns : List ℕ) (i : ℕ) → first_in (drop i ns) ≡ None → length ns ≤ i
none_left ns i first = grind (arith, drop_more ns i 0)

-- one of these that isn't the first comes later
has-later : (n : ℕ) (ns : List ℕ) (m : ℕ) → has (n ∷ ns) m ≡ true → has (n ∷ []) m ≡ false → has ns m ≡ true
has-later n ns m within other = grind arith

single_is : (n m : ℕ) → has (n ∷ []) m ≡ true → n ≡ m
single_is n m within = grind arith

none_has : (ns : List ℕ) → ((n : ℕ) → has ns n ≡ false) → ns ≡ []
none_has [] none = refl
none_has (n ∷ ns) none = absurd (true≢false (sym (has-first n ns) ∙ none n))

-- ---- heaps

abbrev with_objects : CycleHeap → List Object → List Tag → Space → CycleHeap
with_objects k os ts s = record k { heap = record k.heap { objects = os }; tags = ts; space = s }

-- these objects are freed
abbrev without_objects : CycleHeap → List ℕ → CycleHeap
without_objects k ns =
    with_objects k (without ns k.heap.objects) (without_tags ns k.tags) (vacated_all ns k.space)

-- so many of the doomed are freed, those of least number
abbrev swept_so_many : CycleHeap → ℕ → CycleHeap
swept_so_many k i = without_objects k (take i (doomed k))

-- in a sweep what isn't marked is doomed
pub doomed-sweeping : (k : CycleHeap) → is_in k.phase Sweeping ≡ true → doomed k ≡ unmarked k.heap.objects k.marked
doomed-sweeping k sweeping = search sweeping_is_past

-- and the later ones are still doomed
pub doomed-so_many : (k : CycleHeap) (i : ℕ) → is_in k.phase Sweeping ≡ true → IsRising (numbers k.heap.objects)
    → doomed (swept_so_many k i) ≡ drop i (doomed k)
doomed-so_many k i sweeping rising = grind (arith, unmarked-swept)

-- what is white in a sweep is doomed
pub white_is_doomed : (k : CycleHeap) → is_in k.phase Sweeping ≡ true → (n : ℕ) → has (doomed k) n ≡ is_white k n
white_is_doomed k sweeping n =
    has-doomed k n ∙ ap (λ b. b && is_white k n) (sweeping_is_past k.phase sweeping)

-- ---- turns

-- So many of the doomed were freed so far, at most 64; the others stand in this list.
pub record IsSwept (start k : CycleHeap) (i : ℕ) (condemned : List ℕ) : Type 0 where
  pub so_far : k ≡ swept_so_many start i
  pub few : i ≤ length (doomed start)
  pub at_most : i ≤ 64
  pub may : MaySweep k condemned

pub nothing_swept : (k : CycleHeap) (condemned : List ℕ) → MaySweep k condemned → IsSwept k k 0 condemned
nothing_swept k condemned may = grind (arith, without-none)

-- what is left is doomed still
left_doomed : (start k : CycleHeap) (i : ℕ) (condemned : List ℕ) → IsRising (numbers start.heap.objects)
    → IsSwept start k i condemned → doomed k ≡ drop i (doomed start)
left_doomed start k i condemned rising swept_so_far = grind (arith, doomed-so_many)

-- in a sweep where this list may be taken from, whose first has number n
module _ (k : CycleHeap) (n : ℕ) (ns : List ℕ) (may : MaySweep k (n ∷ ns)) where
  rises : IsRising ns
  rises = rising-tail n ns may.listed.rising

  -- nothing doomed is less
  least_listed : (m : ℕ) → has (doomed k) m ≡ true → n ≤ m
  least_listed m within =
      let listed : has (n ∷ ns) m ≡ true = may.listed.all m (sym (white_is_doomed k may.sweeping m) ∙ within) in
      elim (cases_Bool (n == m)) [
        | inl same ↦ omega (arith, eqb-true n m same)
        | inr other ↦
            let later : has ns m ≡ true = grind arith in omega (arith, rising-above n ns may.listed.rising m later)
      ]

  -- so it is the first that is doomed, if it is
  first_doomed : is_white k n ≡ true → first_in (doomed k) ≡ Some n
  first_doomed white =
      first_least (doomed k) n
      (subst IsRising (sym (doomed-sweeping k may.sweeping)) (rising-unmarked k.heap.objects k.marked may.rising))
      (white_is_doomed k may.sweeping n ∙ white) least_listed

  -- then it goes
  may_go_on : MaySweep (without_objects k (n ∷ [])) ns
  may_go_on =
      let os = k.heap.objects in
      let was : (m : ℕ) → (is_there (without (n ∷ []) os) m && not (has k.marked m)) ≡ true
      → (is_white k m ≡ true) × (has (n ∷ []) m ≡ false) =
      λ m white.
      let parts = and_parts (is_there (without (n ∷ []) os) m) (not (has k.marked m)) white in
      let stays = left_from_there (n ∷ []) os m parts.0 in
      let left = object_at-left (n ∷ []) os m stays in
      let there : is_there os m ≡ true = ap is_some (sym left) ∙ parts.0 in (simp (there, parts.1) refl, stays) in
      record {
        sweeping = may.sweeping;
        rising = rising-without (n ∷ []) os may.rising;
        free = λ m white. may.free m (was m white).0;
        listed = record {
          rising = rises;
          all = λ m white. has-later n ns m (may.listed.all m (was m white).0) (was m white).1;
        };
      }

  -- and else nothing does
  may_pass : is_white k n ≡ false → MaySweep k ns
  may_pass other = record {
    sweeping = may.sweeping;
    rising = may.rising;
    free = may.free;
    listed = record {
      rising = rises;
      all = λ m white. has-later n ns m (may.listed.all m white) (other_number m white);
    };
  }
    where
      other_number : (m : ℕ) → is_white k m ≡ true → has (n ∷ []) m ≡ false
      other_number m white =
          false_from_ne_true (has (n ∷ []) m)
          (λ within.
          false≢true (sym other ∙ ap (is_white k) (single_is n m within) ∙ white))

  -- what is freed is white: nobody holds it
  swept_is_white : is_swept k n ≡ is_white k n
  swept_is_white = let free = may.free n in let sweeping = may.sweeping in grind arith

-- a turn frees one more where it is doomed
one_taken : (start k : CycleHeap) (i n : ℕ) (ns : List ℕ) → IsRising (numbers start.heap.objects) → i < 64
    → IsSwept start k i (n ∷ ns) → IsSwept start (swept k n) (i + from_bool (is_swept k n)) ns
one_taken start k i n ns rising more so_far =
    elim (cases_Bool (is_white k n)) [
      | inl white ↦
          grind (
            arith,
            first_left,
            without-append,
            without_tags-append,
            vacated_all-append,
            first_doomed k n ns so_far.may,
            left_doomed start k i (n ∷ ns) rising so_far,
            swept_is_white k n ns so_far.may,
            may_go_on k n ns so_far.may,
          )
      | inr other ↦ grind (arith, swept_is_white k n ns so_far.may, may_pass k n ns so_far.may)
    ]

pub next_taken : (start k : CycleHeap) (i n : ℕ) (ns : List ℕ) → IsRising (numbers start.heap.objects) → i < 64
    → IsSwept start k i ns → Some n ≡ first_in ns → {j : CycleHeap} → j ≡ swept k n → {more : ℕ}
    → more ≡ from_bool (is_swept k n) → {left : List ℕ} → left ≡ rest_of ns → IsSwept start j (i + more) left
next_taken start k i n [] rising few so_far next {j} after {more} freed {left} rest = absurd (cc)
next_taken start k i n (m ∷ ms) rising few so_far next {j} after {more} freed {left} rest =
    grind (arith, one_taken start k i m ms rising few so_far)

-- ---- the end

none_next : (ns : List ℕ) → None ≡ first_in ns → ns ≡ []
none_next [] none = refl
none_next (n ∷ ns) none = absurd (cc)

-- where none is listed, none is doomed
none_doomed : (k : CycleHeap) → MaySweep k [] → doomed k ≡ []
none_doomed k may =
    none_has (doomed k)
    (λ n. false_from_ne_true (has (doomed k) n)
    (λ within. false≢true (may.listed.all n (sym (white_is_doomed k may.sweeping n) ∙ within))))

-- where 64 are freed or none is listed, the sweep is done
pub sweep_is_done : (start k : CycleHeap) (i : ℕ) (condemned : List ℕ) → IsRising (numbers start.heap.objects)
    → IsSwept start k i condemned → (64 ≤ i) ⊎ (None ≡ first_in condemned)
    → (i ≡ min 64 (length (doomed start))) × (k ≡ swept_some start)
sweep_is_done start k i condemned rising so_far done =
    let ds = doomed start in
    let few : i ≤ length ds = so_far.few in
    let at_most : i ≤ 64 = so_far.at_most in
    elim done [
      | inl full ↦
          let same : i ≡ 64 = omega (arith, full, at_most) in
          (omega (arith, same, few), so_far.so_far ∙ ap (swept_so_many start) same)
      | inr none ↦
          let all : length ds ≤ i =
          none_left ds i
          (ap first_in (sym (left_doomed start k i condemned rising so_far)
          ∙ none_doomed k (subst (MaySweep k) (none_next condemned none) so_far.may))) in
          let same : take i ds ≡ take 64 ds =
          take_all i ds all ∙ sym (take_all 64 ds (omega (arith, all, at_most))) in (
            omega (arith, all, few, at_most),
            so_far.so_far ∙ ap (without_objects start) same,
          )
    ]
