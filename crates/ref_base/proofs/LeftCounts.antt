-- How many objects are left to scan: those of what was ever kept that were made before the mark began and not scanned
-- in it. An object is left exactly where they are not none; a scan makes them one fewer.
use Rattle.ref_base.proofs.Common.{arith, ◌≡◌, ℕ, ◌+◌, ◌<◌, ◌≤◌, ◌==◌, ◌&&◌, ◌||◌, Bool, true, false, not, nat_lt}
use Rattle.ref_base.proofs.Common.{if◌then◌else◌, List, [], ◌∷◌, ◌++◌, length, refl, ap, ◌∙◌, inl, inr, cases_Bool}
use Rattle.ref_base.proofs.Common.{and_parts, ltb-true, false≢true, true≢false, has, joined, State, IsLeft}
use Rattle.std.proofs.lemmas.Bool.{lt-ltb}
use Rattle.ref_base.specs.Members.{AreDistinct}
use Rattle.ref_base.specs.Refusals.{is_empty}
use Rattle.ref_base.proofs.FoundLists.{with_last, has-with_last}
use Rattle.ref_base.proofs.Fitting.{Decides}
use Rattle.ref_base.proofs.EverRows.{IsEver}

-- whether the number is of before the mark and wasn't scanned in it
abbrev pub is_left : ℕ → List ℕ → ℕ → Bool
is_left born scanned n = nat_lt n born && not (has scanned n)

-- those of these
abbrev pub left_among : ℕ → List ℕ → List ℕ → List ℕ
left_among born scanned [] = []
left_among born scanned (n ∷ ns) =
    if is_left born scanned n then n ∷ left_among born scanned ns else left_among born scanned ns

-- those of what was ever kept
abbrev pub left_of : State → List ℕ → List ℕ
left_of a ever = left_among a.born (joined a.scanned) ever

-- ---- which they are

-- those that are left are among these, and are left
left_has : (born : ℕ) (scanned ns : List ℕ) (n : ℕ) → has (left_among born scanned ns) n ≡ true
    → (has ns n ≡ true) × (is_left born scanned n ≡ true)
left_has born scanned [] n h = absurd (false≢true h)
left_has born scanned (m ∷ ns) n h = grind (arith, left_has born scanned ns n)

-- and what is among these and is left is one of them
has_left : (born : ℕ) (scanned ns : List ℕ) (n : ℕ) → has ns n ≡ true → is_left born scanned n ≡ true
    → has (left_among born scanned ns) n ≡ true
has_left born scanned [] n h left = absurd (false≢true h)
has_left born scanned (m ∷ ns) n h left = grind (arith, has_left born scanned ns n)

-- some stand in a list exactly where it isn't empty
first_of : (ns : List ℕ) → is_empty ns ≡ false → (n : ℕ) × (has ns n ≡ true)
first_of [] some = absurd (true≢false some)
first_of (n ∷ ns) some = (n, own n ns)
  where
    own : (n : ℕ) (ns : List ℕ) → has (n ∷ ns) n ≡ true
    own n ns = grind arith

not_empty : (ns : List ℕ) (n : ℕ) → has ns n ≡ true → is_empty ns ≡ false
not_empty [] n h = absurd (false≢true h)
not_empty (m ∷ ns) n h = refl

-- what is not so is false
not_true : (b : Bool) → not b ≡ true → b ≡ false
not_true true is = absurd (false≢true is)
not_true false is = refl

-- an object is left exactly where one of what was ever kept is
pub left_decides : (a : State) (ever : List ℕ) → IsEver (λ n. has ever n ≡ true) a
    → Decides (not (is_empty (left_of a ever))) a
left_decides a ever is = (some, one)
  where
    some : not (is_empty (left_of a ever)) ≡ true → (n : ℕ) × IsLeft a n
    some said =
        let first = first_of (left_of a ever) (not_true (is_empty (left_of a ever)) said) in
        let tells = left_has a.born (joined a.scanned) ever first.0 first.1 in
        let parts = and_parts (nat_lt first.0 a.born) (not (has (joined a.scanned) first.0)) tells.1 in (
          first.0,
          (
            is.sound first.0 tells.0,
            ltb-true first.0 a.born parts.0,
            not_true (has (joined a.scanned) first.0) parts.1,
          ),
        )

    one : (n : ℕ) → IsLeft a n → not (is_empty (left_of a ever)) ≡ true
    one n left =
        let old : nat_lt n a.born ≡ true = lt-ltb n a.born left.1 in
        let new : has (joined a.scanned) n ≡ false = left.2 in
        let both : is_left a.born (joined a.scanned) n ≡ true = simp (old, new) refl in
        ap not (not_empty (left_of a ever) n (has_left a.born (joined a.scanned) ever n (is.complete n left.0) both))

-- ---- how many they are

-- what isn't among them is scanned: they stay
left_stays : (born : ℕ) (scanned more ns : List ℕ) (n : ℕ) → has ns n ≡ false
    → ((m : ℕ) → (n == m) ≡ false → has more m ≡ has scanned m)
    → left_among born more ns ≡ left_among born scanned ns
left_stays born scanned more [] n lacks others = refl
left_stays born scanned more (m ∷ ns) n lacks others = grind (arith, left_stays born scanned more ns n, others m)

-- one of them is scanned: they are one fewer
left_fewer : (born : ℕ) (scanned more ns : List ℕ) (n : ℕ) → AreDistinct ns → has ns n ≡ true
    → is_left born scanned n ≡ true → has more n ≡ true → ((m : ℕ) → (n == m) ≡ false → has more m ≡ has scanned m)
    → length (left_among born scanned ns) ≡ length (left_among born more ns) + 1
left_fewer born scanned more [] n distinct h left now others = absurd (false≢true h)
left_fewer born scanned more (m ∷ ns) n distinct h left now others =
    grind (arith, left_fewer born scanned more ns n distinct.1, left_stays born scanned more ns n, others m)

-- a scan of one that is left makes them one fewer
pub count_scanned : (a : State) (ever : List ℕ) (k n : ℕ) → AreDistinct ever → k < length a.scanned
    → has ever n ≡ true → is_left a.born (joined a.scanned) n ≡ true
    → length (left_of a ever) ≡ length (left_among a.born (joined (with_last a.scanned k n)) ever) + 1
count_scanned a ever k n distinct within h left =
    left_fewer a.born (joined a.scanned) (joined (with_last a.scanned k n)) ever n distinct h left
    (has-with_last a.scanned k n n within ∙ own n)
    (λ m other. has-with_last a.scanned k n m within ∙ of_other m other)
  where
    own : (n : ℕ) → ((n == n) || has (joined a.scanned) n) ≡ true
    own n = grind arith

    of_other : (m : ℕ) → (n == m) ≡ false → ((n == m) || has (joined a.scanned) m) ≡ has (joined a.scanned) m
    of_other m other = simp other refl

-- what joins what was ever kept adds those of it, as after a get
pub count_more : (born : ℕ) (scanned ever more : List ℕ)
    → length (left_among born scanned (ever ++ more))
    ≡ length (left_among born scanned ever) + length (left_among born scanned more)
count_more born scanned [] more = grind arith
count_more born scanned (n ∷ ever) more = grind (arith, count_more born scanned ever more)

-- and a new object none
pub count_new : (born : ℕ) (scanned : List ℕ) (next : ℕ) → born ≤ next → left_among born scanned (next ∷ []) ≡ []
count_new born scanned next young =
    elim (cases_Bool (nat_lt next born)) [
      | inl old ↦ let less = ltb-true next born old in absurd (omega (arith, less, young))
      | inr new ↦ simp new refl
    ]

-- as a mark begins all that is kept is left
pub count_begun : (born : ℕ) (ever : List ℕ) → ((n : ℕ) → has ever n ≡ true → n < born)
    → left_among born [] ever ≡ ever
count_begun born [] below = refl
count_begun born (n ∷ ever) below =
    let old : nat_lt n born ≡ true = lt-ltb n born (below n (own n ever)) in
    simp old (ap (λ ns. n ∷ ns) (count_begun born ever (λ m h. below m (later m h))))
  where
    own : (n : ℕ) (ns : List ℕ) → has (n ∷ ns) n ≡ true
    own n ns = grind arith

    later : (m : ℕ) → has ever m ≡ true → has (n ∷ ever) m ≡ true
    later m h = grind arith
