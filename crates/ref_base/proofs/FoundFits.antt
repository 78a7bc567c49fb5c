-- The lists that a worker may have found, of which each is a part of the references that it scanned and has all new
-- clears: how one begins.
use Rattle.ref_base.proofs.Common.{arith, ◌≡◌, ℕ, true, false, List, [], ◌∷◌, ◌++◌, inl, inr, refl, sym, ap, subst, ◌∙◌}
use Rattle.ref_base.proofs.Common.{◌==◌, has, cases_Bool, true≢false, false≢true, or_cases, or_left, or_right, eqb-true}
use Rattle.ref_base.specs.Members.{AreDistinct}
use Rattle.ref_base.proofs.Subsequences.{Sub, sub_none}

-- none of these is among those
abbrev pub NoneOf : List ℕ → List ℕ → Type 0
NoneOf clears refs = (m : ℕ) → has refs m ≡ true → has clears m ≡ false

-- a list that a worker may have found, of what it scanned
abbrev pub MayFind : List ℕ → List ℕ → List ℕ → Type 0
MayFind refs clears found =
    Sub found refs × ((m : ℕ) → has refs m ≡ true → has clears m ≡ true → has found m ≡ true)

-- what is left of a list has only what the list has
pub sub_has : (ms ns : List ℕ) (m : ℕ) → Sub ms ns → has ms m ≡ true → has ns m ≡ true
sub_has ms [] m sub h = subst (λ (l : List ℕ). has l m ≡ true) sub h
sub_has ms (n ∷ ns) m sub h =
    elim sub [
      | inl passed ↦ or_right (n == m) (has ns m) (sub_has ms ns m passed h)
      | inr taken ↦
          elim (or_cases (n == m) (has taken.0 m) (subst (λ (l : List ℕ). has l m ≡ true) taken.1 h)) [
            | inl same ↦ or_left (n == m) (has ns m) same
            | inr later ↦ or_right (n == m) (has ns m) (sub_has taken.0 ns m taken.2 later)
          ]
    ]

-- nothing is left to look at exactly where no new clear is
pub found_none : (refs clears : List ℕ) → MayFind refs clears [] → NoneOf clears refs
found_none refs clears fits m h =
    elim (cases_Bool (has clears m)) [ inl cleared ↦ absurd (false≢true (fits.1 m h cleared)) | inr other ↦ other ]

-- and where no new clear is, nothing may be left to look at
pub none_found : (refs clears : List ℕ) → NoneOf clears refs → MayFind refs clears []
none_found refs clears none = (sub_none refs, λ m h cleared. absurd (true≢false (sym cleared ∙ none m h)))

-- the first that is left, and what stands behind it: in front of it stands no new clear
pub record Begins (refs clears : List ℕ) (n : ℕ) (rest : List ℕ) : Type 0 where
  pub front : List ℕ
  pub back : List ℕ
  pub is : refs ≡ front ++ n ∷ back
  pub none : NoneOf clears front
  pub fits : MayFind back clears rest

-- one more in front, that is no new clear
passed_on : (r : ℕ) (refs clears : List ℕ) (n : ℕ) (rest : List ℕ) → has clears r ≡ false
    → Begins refs clears n rest → Begins (r ∷ refs) clears n rest
passed_on r refs clears n rest other begins = record {
  front = r ∷ begins.front;
  back = begins.back;
  is = ap (λ ns. r ∷ ns) begins.is;
  none = none;
  fits = begins.fits;
}
  where
    none : NoneOf clears (r ∷ begins.front)
    none m h = grind (arith, begins.none)

-- where a worker may have found a list, the first of it stands somewhere, behind no new clear
pub found_first : (refs clears : List ℕ) (n : ℕ) (rest : List ℕ) → AreDistinct refs → MayFind refs clears (n ∷ rest)
    → Begins refs clears n rest
found_first [] clears n rest distinct fits = absurd cc
found_first (r ∷ rs) clears n rest distinct fits =
    elim fits.0 [
      | inl passed ↦
          passed_on r rs clears n rest (not_cleared passed)
          (found_first rs clears n rest distinct.1 (passed, λ m h cleared. fits.1 m (later m h) cleared))
      | inr taken ↦ taken_first taken
    ]
  where
    later : (m : ℕ) → has rs m ≡ true → has (r ∷ rs) m ≡ true
    later m h = grind arith

    not_cleared : Sub (n ∷ rest) rs → has clears r ≡ false
    not_cleared passed = grind (arith, sub_has (n ∷ rest) rs r passed, fits.1 r)

    BeginsAs : List ℕ → Type 0
    BeginsAs [] = ⊥
    BeginsAs (k ∷ ks) = Begins (r ∷ rs) clears k ks

    behind : (taken : (tail : List ℕ) × (n ∷ rest ≡ r ∷ tail) × Sub tail rs) → (m : ℕ) → has rs m ≡ true
        → has clears m ≡ true → has taken.0 m ≡ true
    behind taken m h cleared =
        elim (or_cases (r == m) (has taken.0 m)
        (subst (λ (l : List ℕ). has l m ≡ true) taken.1 (fits.1 m (later m h) cleared))) [
          | inl same ↦
              absurd (true≢false (sym (subst (λ (k : ℕ). has rs k ≡ true) (sym (eqb-true r m same)) h) ∙ distinct.0))
          | inr tail ↦ tail
        ]

    taken_first : (tail : List ℕ) × (n ∷ rest ≡ r ∷ tail) × Sub tail rs → Begins (r ∷ rs) clears n rest
    taken_first taken =
        subst BeginsAs (sym taken.1) (record {
          front = [];
          back = rs;
          is = refl;
          none = λ m h. absurd (false≢true h);
          fits = (taken.2, behind taken);
        })

-- and where one stands behind no new clear, a worker may have found a list that begins with it
pub first_found : (refs clears : List ℕ) (n : ℕ) (rest front back : List ℕ) → refs ≡ front ++ n ∷ back
    → NoneOf clears front → MayFind back clears rest → MayFind refs clears (n ∷ rest)
first_found refs clears n rest [] back is none fits = grind arith
first_found refs clears n rest (f ∷ front) back is none fits =
    let behind : MayFind (front ++ n ∷ back) clears (n ∷ rest) =
    first_found (front ++ n ∷ back) clears n rest front back refl (λ m h. none m (later m h)) fits in
    subst (λ (l : List ℕ). MayFind l clears (n ∷ rest)) (sym is) (inl behind.0, one_more behind)
  where
    later : (m : ℕ) → has front m ≡ true → has (f ∷ front) m ≡ true
    later m h = grind arith

    one_more : MayFind (front ++ n ∷ back) clears (n ∷ rest) → (m : ℕ) → has (f ∷ front ++ n ∷ back) m ≡ true
        → has clears m ≡ true → has (n ∷ rest) m ≡ true
    one_more behind m h cleared = grind (arith, behind.1 m, none m)
