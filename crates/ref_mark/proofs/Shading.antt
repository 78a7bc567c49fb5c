-- What holds in a mark goes on holding as white objects become grey.
use Rattle.ref_mark.proofs.Common.{arith, ◌≡◌, ℕ, true, false, not, ◌==◌, refl, sym, ap, subst, ◌∙◌, List, [], ◌∷◌}
use Rattle.ref_mark.proofs.Common.{◌++◌, inl, inr, cases_Bool, and_parts, or_right, false≢true, AreDistinct, has}
use Rattle.ref_mark.proofs.Common.{is_there, EverKept, one_more, graph_of, is_empty, State, CycleHeap, is_white}
use Rattle.ref_mark.proofs.Common.{is_black, shaded, shaded_all, FactsBut, Coloured, Reached, FoundBut}
use Rattle.ref_base.specs.CollectorRows.{IsLeft}
use Rattle.ref_base.proofs.HasLaws.{has-append, has-first}
use Rattle.ref_base.proofs.OneMore.{has-one_more}

-- what holds in a mark, but for some numbers that are still to be shaded, and some references that are found late
pub record MarkingBut (k : CycleHeap) (a : State) (todo late : List ℕ) : Type 0 where
  pub facts : FactsBut k (graph_of a.world).roots todo
  pub coloured : Coloured k a.born a.scanned
  pub reached : Reached k a.moments
  pub found : FoundBut k a.scanned late

-- ---- what shading changes

-- the object is marked, and the last of the grey list
abbrev pub greyed : CycleHeap → ℕ → CycleHeap
greyed k n = record k { marked = one_more k.marked n; grey = k.grey ++ n ∷ [] }

pub shaded_white : (k : CycleHeap) (n : ℕ) → is_white k n ≡ true → shaded k n ≡ greyed k n
shaded_white k n white = simp white refl

pub shaded_other : (k : CycleHeap) (n : ℕ) → is_white k n ≡ false → shaded k n ≡ k
shaded_other k n other = simp other refl

-- shading changes what is marked and grey, and nothing else
pub shaded-only : (k : CycleHeap) (n : ℕ)
    → shaded k n ≡ record k { marked = (shaded k n).marked; grey = (shaded k n).grey }
shaded-only k n = grind arith

pub shaded_all-only : (k : CycleHeap) (ns : List ℕ)
    → shaded_all k ns ≡ record k { marked = (shaded_all k ns).marked; grey = (shaded_all k ns).grey }
shaded_all-only k [] = refl
shaded_all-only k (n ∷ ns) =
    let j = shaded_all (shaded k n) ns in
    shaded_all-only (shaded k n) ns
    ∙ ap (λ (i : CycleHeap). record i { marked = j.marked; grey = j.grey }) (shaded-only k n)

-- one list may be shaded after another
pub shaded_all-append : (k : CycleHeap) (ms ns : List ℕ) → shaded_all k (ms ++ ns) ≡ shaded_all (shaded_all k ms) ns
shaded_all-append k [] ns = refl
shaded_all-append k (m ∷ ms) ns = shaded_all-append (shaded k m) ms ns

-- ---- colours

-- the object isn't white any more, and each other one is as white as it was
pub white-greyed : (k : CycleHeap) (n m : ℕ) → is_white (greyed k n) m ≡ true
    → ((n == m) ≡ false) × (is_white k m ≡ true)
white-greyed k n m white = grind (arith, has-one_more)

pub not_white-greyed : (k : CycleHeap) (n m : ℕ) → is_white k m ≡ false → is_white (greyed k n) m ≡ false
not_white-greyed k n m other = grind (arith, white-greyed)

pub own-greyed : (k : CycleHeap) (n m : ℕ) → (n == m) ≡ true → is_white (greyed k n) m ≡ false
own-greyed k n m same = grind (arith, white-greyed)

-- what isn't white is marked, where it is there
pub not_white_marked : (k : CycleHeap) (n : ℕ) → is_there k.heap.objects n ≡ true → is_white k n ≡ false
    → has k.marked n ≡ true
not_white_marked k n there other = grind arith

pub white_there : (k : CycleHeap) (n : ℕ) → is_white k n ≡ true → is_there k.heap.objects n ≡ true
white_there k n white = (and_parts (is_there k.heap.objects n) (not (has k.marked n)) white).0

-- nothing becomes black
pub black-greyed : (k : CycleHeap) (n m : ℕ) → is_black (greyed k n) m ≡ true → is_black k m ≡ true
black-greyed k n m black = grind (arith, has-one_more, has-append)

-- ---- lists

-- a list with a number more that it hasn't has none twice
pub AreDistinct-push : (ns : List ℕ) (n : ℕ) → AreDistinct ns → has ns n ≡ false → AreDistinct (ns ++ n ∷ [])
AreDistinct-push [] n distinct new = (refl, tt)
AreDistinct-push (m ∷ ms) n distinct new = grind (arith, has-append, AreDistinct-push ms n distinct.1)

-- ---- the marking

facts-greyed : (k : CycleHeap) (n : ℕ) (roots todo : List ℕ) → FactsBut k roots (n ∷ todo)
    → FactsBut (greyed k n) roots todo
facts-greyed k n roots todo facts = grind (arith, not_white-greyed, own-greyed, black-greyed)

coloured-greyed : (k : CycleHeap) (a : State) (n : ℕ) → is_white k n ≡ true → Coloured k a.born a.scanned
    → Coloured (greyed k n) a.born a.scanned
coloured-greyed k a n white coloured = grind (arith, AreDistinct-push, has-one_more, has-append)

reached-greyed : (k : CycleHeap) (a : State) (n : ℕ) → EverKept k.policy a.moments n → Reached k a.moments
    → Reached (greyed k n) a.moments
reached-greyed k a n ever reached = grind (arith, has-one_more)

found-greyed : (k : CycleHeap) (a : State) (n : ℕ) (late : List ℕ) → FoundBut k a.scanned late
    → FoundBut (greyed k n) a.scanned late
found-greyed k a n late found = grind (arith, black-greyed, white-greyed)

greyed_marking : (k : CycleHeap) (a : State) (n : ℕ) (todo late : List ℕ) → is_white k n ≡ true
    → EverKept k.policy a.moments n → MarkingBut k a (n ∷ todo) late → MarkingBut (greyed k n) a todo late
greyed_marking k a n todo late white ever but = search (facts-greyed, coloured-greyed, reached-greyed, found-greyed)

-- a number that isn't white needs no shading
facts-other : (k : CycleHeap) (n : ℕ) (roots todo : List ℕ) → is_white k n ≡ false → FactsBut k roots (n ∷ todo)
    → FactsBut k roots todo
facts-other k n roots todo other facts = grind arith

other_marking : (k : CycleHeap) (a : State) (n : ℕ) (todo late : List ℕ) → is_white k n ≡ false
    → MarkingBut k a (n ∷ todo) late → MarkingBut k a todo late
other_marking k a n todo late other but = search facts-other

-- a number that was to be shaded is shaded, if it was ever kept
pub shaded_marking : (k : CycleHeap) (a : State) (n : ℕ) (todo late : List ℕ)
    → (is_there k.heap.objects n ≡ true → EverKept k.policy a.moments n) → MarkingBut k a (n ∷ todo) late
    → MarkingBut (shaded k n) a todo late
shaded_marking k a n todo late ever but = grind (arith, shaded_other, greyed_marking k a n todo late)

pub shaded_all_marking : (k : CycleHeap) (a : State) (ns todo late : List ℕ)
    → ((n : ℕ) → has ns n ≡ true → is_there k.heap.objects n ≡ true → EverKept k.policy a.moments n)
    → MarkingBut k a (ns ++ todo) late → MarkingBut (shaded_all k ns) a todo late
shaded_all_marking k a [] todo late ever but = but
shaded_all_marking k a (n ∷ ns) todo late ever but =
    let first : is_there k.heap.objects n ≡ true → EverKept k.policy a.moments n = ever n (has-first n ns) in
    let rest : (m : ℕ) → has ns m ≡ true → is_there k.heap.objects m ≡ true → EverKept k.policy a.moments m =
    λ m listed. ever m (or_right (n == m) (has ns m) listed) in
    elim (cases_Bool (is_white k n)) [
      | inl white ↦
          subst (λ (j : CycleHeap). MarkingBut (shaded_all j ns) a todo late) (sym (shaded_white k n white))
          (shaded_all_marking (greyed k n) a ns todo late rest
          (greyed_marking k a n (ns ++ todo) late white (first (white_there k n white)) but))
      | inr other ↦
          subst (λ (j : CycleHeap). MarkingBut (shaded_all j ns) a todo late) (sym (shaded_other k n other))
          (shaded_all_marking k a ns todo late rest (other_marking k a n (ns ++ todo) late other but))
    ]

-- ---- an object is left where one is grey

-- what is grey is left
pub grey_is_left : (k : CycleHeap) (a : State) (n : ℕ) → Coloured k a.born a.scanned → Reached k a.moments
    → a.world.policy ≡ k.policy
    → has k.grey n ≡ true → IsLeft a n
grey_is_left k a n coloured reached same grey = grind arith

some_grey : (ns : List ℕ) → not (is_empty ns) ≡ true → (n : ℕ) × (has ns n ≡ true)
some_grey [] some = absurd (false≢true some)
some_grey (n ∷ ns) some = (n, has-first n ns)

-- the first of the grey list is left
pub some_left : (k : CycleHeap) (a : State) → Coloured k a.born a.scanned → Reached k a.moments
    → a.world.policy ≡ k.policy
    → not (is_empty k.grey) ≡ true → (n : ℕ) × IsLeft a n
some_left k a coloured reached same some =
    let first = some_grey k.grey some in (first.0, grey_is_left k a first.0 coloured reached same first.1)
