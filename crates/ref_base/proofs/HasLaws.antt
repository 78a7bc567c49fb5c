-- What `has` says of lists that are put together.
use Rattle.ref_base.proofs.Common.{◌≡◌, ℕ, ◌+◌, ◌<◌, ◌≤◌, Bool, true, false, not, ◌||◌, ◌==◌, nat_eq, nat_lt, refl, sym}
use Rattle.ref_base.proofs.Common.{ap, subst, ◌∙◌, arith, Some, None, List, [], ◌∷◌, ◌++◌, length, get_or, take, drop}
use Rattle.ref_base.proofs.Common.{◌⊎◌, inl, inr, zero, suc, cases_Bool, or_cases, or_left, or_right, true≢false}
use Rattle.ref_base.proofs.Common.{eq-eqb, eqb-true, ltb-true, take-append-le, take-append-drop, position, nat_eq_equiv}
use Rattle.ref_base.proofs.Common.{has}
use Rattle.std.proofs.lemmas.List.{take_more, get_or_default}
use Rattle.std.proofs.lemmas.List.Sums.{prefix_len_stops}
use Rattle.std.specs.List.{list_any, position_or_len}

not-false : (b : Bool) → not b ≡ false → b ≡ true
not-false true e = refl
not-false false e = absurd (true≢false e)

-- `has` answers as the search of a set does
pub has-list_any : (ns : List ℕ) (n : ℕ) → has ns n ≡ list_any (nat_eq n) ns
has-list_any [] n = refl
has-list_any (m ∷ ms) n = rw (nat_eq_equiv.symm m n, has-list_any ms n) refl

-- the first is in the list
pub has-first : (n : ℕ) (ns : List ℕ) → has (n ∷ ns) n ≡ true
has-first n ns = or_left (n == n) (has ns n) (eq-eqb n n refl)

pub has-append : (ms ns : List ℕ) (n : ℕ) → has (ms ++ ns) n ≡ (has ms n || has ns n)
has-append [] ns n = refl
has-append (m ∷ ms) ns n =
    elim (cases_Bool (m == n)) [ inl same ↦ simp same refl | inr other ↦ simp other (has-append ms ns n) ]

-- what is in a list is in each longer one
pub has-left : (ms ns : List ℕ) (n : ℕ) → has ms n ≡ true → has (ms ++ ns) n ≡ true
has-left ms ns n h = has-append ms ns n ∙ or_left (has ms n) (has ns n) h

pub has-right : (ms ns : List ℕ) (n : ℕ) → has ns n ≡ true → has (ms ++ ns) n ≡ true
has-right ms ns n h = has-append ms ns n ∙ or_right (has ms n) (has ns n) h

-- what is in a list put together is in one of the two
pub has-cases : (ms ns : List ℕ) (n : ℕ) → has (ms ++ ns) n ≡ true → (has ms n ≡ true) ⊎ (has ns n ≡ true)
has-cases ms ns n h = or_cases (has ms n) (has ns n) (sym (has-append ms ns n) ∙ h)

-- the list of one number has that one
pub has-single : (m n : ℕ) → has (m ∷ []) n ≡ true → m ≡ n
has-single m n h =
    elim (or_cases (m == n) false h) [ inl same ↦ eqb-true m n same | inr none ↦ absurd (true≢false (sym none)) ]

-- the element at an index is in the list
pub has-get_or : (ns : List ℕ) (i : ℕ) → i < length ns → has ns (get_or ns i 0) ≡ true
has-get_or [] i h = absurd (omega arith)
has-get_or (n ∷ ns) zero h = has-first n ns
has-get_or (n ∷ ns) (suc i) h = or_right (n == get_or ns i 0) (has ns (get_or ns i 0)) (has-get_or ns i (omega arith))

-- an element of a front is in it
pub has-take_at : (ns : List ℕ) (i j : ℕ) → i < j → i < length ns → has (take j ns) (get_or ns i 0) ≡ true
has-take_at [] i j below within = absurd (omega arith)
has-take_at (n ∷ ns) i zero below within = absurd (omega arith)
has-take_at (n ∷ ns) zero (suc j) below within = has-first n (take j ns)
has-take_at (n ∷ ns) (suc i) (suc j) below within = grind (arith, has-take_at ns i j)

-- what is in a front is in the list
pub has-take : (i : ℕ) (ns : List ℕ) (n : ℕ) → has (take i ns) n ≡ true → has ns n ≡ true
has-take i ns n h = subst (λ ms. has ms n ≡ true) (take-append-drop i ns) (has-left (take i ns) (drop i ns) n h)

pub lacks-take : (i : ℕ) (ns : List ℕ) (n : ℕ) → has ns n ≡ false → has (take i ns) n ≡ false
lacks-take i ns n lacks = grind (arith, has-take)

-- a front that ends before a number's first place doesn't have it
front-lacks : (ns : List ℕ) (n i : ℕ) → i ≤ position_or_len (nat_eq n) ns → has (take i ns) n ≡ false
front-lacks ns n zero before = refl
front-lacks [] n (suc i) before = refl
front-lacks (m ∷ ns) n (suc i) before = grind (arith, front-lacks ns n i)

-- a front has a number where it goes on beyond the number's first place, and else doesn't
pub has-front : (ns : List ℕ) (n place i : ℕ) → Some place ≡ position (nat_eq n) ns → place < i
    → has (take i ns) n ≡ true
has-front ns n place i found beyond =
    let first : ℕ = position_or_len (nat_eq n) ns in
    elim (cases_Bool (nat_lt first (length ns))) [
      | inl below ↦
          let within : first < length ns = ltb-true first (length ns) below in
          let is : Some place ≡ Some first = simp below at found in
          let same : place ≡ first = cc in
          let stops : not (nat_eq n (get_or ns first 0)) ≡ false =
          prefix_len_stops (λ m. not (nat_eq n m)) ns 0 within in
          let number : n ≡ get_or ns first 0 =
          eqb-true n (get_or ns first 0) (not-false (nat_eq n (get_or ns first 0)) stops) in
          subst (λ m. has (take i ns) m ≡ true) (sym number) (has-take_at ns first i (omega arith) within)
      | inr none ↦ absurd (let wrong : Some place ≡ None = simp none at found in cc)
    ]

pub lacks-front : (ns : List ℕ) (n place i : ℕ) → Some place ≡ position (nat_eq n) ns → i ≤ place
    → has (take i ns) n ≡ false
lacks-front ns n place i found before = grind (arith, front-lacks)

-- the first i + 1 of a list that grew are the first i, and the element at i
pub has-take_more : (ns more : List ℕ) (i n : ℕ) → i < length ns → has (take (i + 1) (ns ++ more)) n ≡ true
    → (has (take i ns) n ≡ true) ⊎ (get_or ns i 0 ≡ n)
has-take_more ns more i n h front = grind (arith, take-append-le, has-cases, take_more ns i 0 h)

-- what a read of a list gives, at the default 0 that clauses write
pub get_or-number : (ms ns : List ℕ) (i n : ℕ) → n ≡ get_or ms i n → ms ≡ ns → i < length ns → n ≡ get_or ns i 0
get_or-number ms ns i n at same within = at ∙ ap (λ ks. get_or ks i n) same ∙ get_or_default ns i n 0 within
