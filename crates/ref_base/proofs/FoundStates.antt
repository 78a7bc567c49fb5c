-- The found lists of all workers that fit what was answered so far in Clearing: each is one that its worker may have
-- found, of the references that stand from its place on; and where it is said that some are left, not all are empty. A
-- look takes one worker on.
use Rattle.ref_base.proofs.Common.{arith, ◌≡◌, ℕ, zero, suc, ◌<◌, ◌==◌, Bool, true, false, if◌then◌else◌, List, [], ◌∷◌}
use Rattle.ref_base.proofs.Common.{◌++◌, length, refl, sym, ap, ◌∙◌, subst, inl, inr, cases_Bool, false≢true, joined}
use Rattle.ref_base.proofs.Common.{list_at, slice_set, eqb-true, ◌≤◌, true≢false}
use Rattle.ref_base.proofs.Subsequences.{Sub, sub_all}
use Rattle.ref_base.specs.Members.{AreDistinct}
use Rattle.ref_base.specs.Refusals.{is_empty}
use Rattle.ref_base.proofs.FoundFits.{NoneOf, MayFind, Begins, found_none, none_found, found_first, first_found}

-- what stands for each worker, with another list for one of them
abbrev pub standing_with : (ℕ → List ℕ) → ℕ → List ℕ → ℕ → List ℕ
standing_with refs k back j = if j == k then back else refs j

-- each list may be what its worker found; and where some are said to be left, not all lists are empty
pub record MayHaveFound (refs : ℕ → List ℕ) (clears : List ℕ) (some : Bool) (found : List (List ℕ)) : Type 0 where
  pub each : (k : ℕ) → MayFind (refs k) clears (list_at found k)
  pub left : some ≡ true → is_empty (joined found) ≡ false

-- ---- the list of one worker replaced

-- what stands at each place, after one list is replaced
at_set : (found : List (List ℕ)) (k : ℕ) (xs : List ℕ) (j : ℕ) → k < length found
    → list_at (slice_set found k xs) j ≡ (if j == k then xs else list_at found j)
at_set [] k xs j within = absurd (omega arith)
at_set (f ∷ fs) zero xs zero within = refl
at_set (f ∷ fs) zero xs (suc j) within = grind arith
at_set (f ∷ fs) (suc k) xs zero within = grind arith
at_set (f ∷ fs) (suc k) xs (suc j) within = grind (arith, at_set fs k xs j)

-- what holds of it and of the others
each_set : (P : ℕ → List ℕ → Type 0) (found : List (List ℕ)) (k : ℕ) (xs : List ℕ) → k < length found → P k xs
    → ((j : ℕ) → (j == k) ≡ false → P j (list_at found j)) → (j : ℕ) → P j (list_at (slice_set found k xs) j)
each_set P found k xs within here others j =
    elim (cases_Bool (j == k)) [
      | inl same ↦
          subst (P j) (sym (at_set found k xs j within ∙ ap (λ (t : Bool). if t then xs else list_at found j) same))
          (subst (λ (i : ℕ). P i xs) (sym (eqb-true j k same)) here)
      | inr other ↦
          subst (P j) (sym (at_set found k xs j within ∙ ap (λ (t : Bool). if t then xs else list_at found j) other))
          (others j other)
    ]

-- what stands for the one, and for the others
here_with : (refs : ℕ → List ℕ) (k : ℕ) (back : List ℕ) (j : ℕ) → (j == k) ≡ true → standing_with refs k back j ≡ back
here_with refs k back j same = simp same refl

else_with : (refs : ℕ → List ℕ) (k : ℕ) (back : List ℕ) (j : ℕ) → (j == k) ≡ false
    → standing_with refs k back j ≡ refs j
else_with refs k back j other = simp other refl

own : (k : ℕ) → (k == k) ≡ true
own k = grind arith

-- what was set stands there
pub at_own : (found : List (List ℕ)) (k : ℕ) (xs : List ℕ) → k < length found → list_at (slice_set found k xs) k ≡ xs
at_own found k xs within =
    at_set found k xs k within ∙ ap (λ (t : Bool). if t then xs else list_at found k) (own k)

-- where one list has something, not all are empty
filled : (found : List (List ℕ)) (k n : ℕ) (rest : List ℕ) → k < length found
    → is_empty (joined (slice_set found k (n ∷ rest))) ≡ false
filled [] k n rest within = absurd (omega arith)
filled (f ∷ fs) zero n rest within = refl
filled ([] ∷ fs) (suc k) n rest within = filled fs k n rest (omega arith)
filled ((x ∷ xs) ∷ fs) (suc k) n rest within = refl

module _ (refs : ℕ → List ℕ) (clears : List ℕ) where
  -- ---- a worker looks at the first that it found

  -- lists that fit go on to lists that fit, where what stands for the worker is what stands behind the one
  pub looked_on : (some : Bool) (found : List (List ℕ)) (k n : ℕ) (rest : List ℕ) → k < length found
      → AreDistinct (refs k) → list_at found k ≡ n ∷ rest → MayHaveFound refs clears some found
      → (begins : Begins (refs k) clears n rest)
      × MayHaveFound (standing_with refs k begins.back) clears false (slice_set found k rest)
  looked_on some found k n rest within distinct first may =
      let begins : Begins (refs k) clears n rest =
      found_first (refs k) clears n rest distinct (subst (MayFind (refs k) clears) first (may.each k)) in (
        begins,
        record {
          each = each_set (λ j xs. MayFind (standing_with refs k begins.back j) clears xs) found k rest within
              (subst (λ (l : List ℕ). MayFind l clears rest) (sym (here_with refs k begins.back k (own k))) begins.fits)
              (λ j other.
              subst (λ (l : List ℕ). MayFind l clears (list_at found j)) (sym (else_with refs k begins.back j other))
              (may.each j));
          left = λ no. absurd (false≢true no);
        },
      )

  -- and each that fits afterwards comes from one that fitted
  pub looked_back : (some : Bool) (found : List (List ℕ)) (k n : ℕ) (front back : List ℕ) → k < length found
      → refs k ≡ front ++ n ∷ back → NoneOf clears front
      → MayHaveFound (standing_with refs k back) clears false found
      → MayHaveFound refs clears some (slice_set found k (n ∷ list_at found k))
  looked_back some found k n front back within is none may = record {
    each = each_set (λ j xs. MayFind (refs j) clears xs) found k (n ∷ list_at found k) within
        (first_found (refs k) clears n (list_at found k) front back is none
        (subst (λ (l : List ℕ). MayFind l clears (list_at found k)) (here_with refs k back k (own k)) (may.each k)))
        (λ j other.
        subst (λ (l : List ℕ). MayFind l clears (list_at found j)) (else_with refs k back j other) (may.each j));
    left = λ yes. filled found k n (list_at found k) within;
  }

  -- ---- a worker tells that nothing is left for it

  -- lists that fit go on fitting, where nothing stands for the worker any more
  pub none_on : (some : Bool) (found : List (List ℕ)) (k : ℕ) → list_at found k ≡ []
      → MayHaveFound refs clears some found
      → NoneOf clears (refs k) × MayHaveFound (standing_with refs k []) clears some found
  none_on some found k empty may = (
    found_none (refs k) clears (subst (MayFind (refs k) clears) empty (may.each k)),
    record { each = each; left = may.left },
  )
    where
      each : (j : ℕ) → MayFind (standing_with refs k [] j) clears (list_at found j)
      each j =
          elim (cases_Bool (j == k)) [
            | inl same ↦
                subst (λ (l : List ℕ). MayFind l clears (list_at found j)) (sym (here_with refs k [] j same))
                (subst (λ (i : ℕ). MayFind [] clears (list_at found i)) (sym (eqb-true j k same))
                (subst (MayFind [] clears) (sym empty) (none_found [] clears (λ m h. absurd (false≢true h)))))
            | inr other ↦
                subst (λ (l : List ℕ). MayFind l clears (list_at found j)) (sym (else_with refs k [] j other))
                (may.each j)
          ]

  -- and lists that fit then fitted before
  pub none_back : (some : Bool) (found : List (List ℕ)) (k : ℕ) → NoneOf clears (refs k)
      → MayHaveFound (standing_with refs k []) clears some found
      → (list_at found k ≡ []) × MayHaveFound refs clears some found
  none_back some found k none may = (empty, record { each = each; left = may.left })
    where
      at_k : MayFind [] clears (list_at found k)
      at_k = subst (λ (l : List ℕ). MayFind l clears (list_at found k)) (here_with refs k [] k (own k)) (may.each k)

      empty : list_at found k ≡ []
      empty = at_k.0

      each : (j : ℕ) → MayFind (refs j) clears (list_at found j)
      each j =
          elim (cases_Bool (j == k)) [
            | inl same ↦
                subst (λ (i : ℕ). MayFind (refs i) clears (list_at found i)) (sym (eqb-true j k same))
                (subst (MayFind (refs k) clears) (sym empty) (none_found (refs k) clears none))
            | inr other ↦
                subst (λ (l : List ℕ). MayFind l clears (list_at found j)) (else_with refs k [] j other) (may.each j)
          ]

  -- ---- the end of the clearing, refused and accepted

  -- refused: then not all are empty
  pub some_on : (some : Bool) (found : List (List ℕ)) → is_empty (joined found) ≡ false
      → MayHaveFound refs clears some found → MayHaveFound refs clears true found
  some_on some found left may = record { each = may.each; left = λ yes. left }

  -- and lists that fit then fitted before
  pub some_back : (some : Bool) (found : List (List ℕ)) → MayHaveFound refs clears true found
      → (is_empty (joined found) ≡ false) × MayHaveFound refs clears some found
  some_back some found may = (may.left refl, record { each = may.each; left = λ yes. may.left refl })

-- ---- where a description has a member

-- the lists that stand for so many workers
abbrev pub lists_for : (ℕ → List ℕ) → ℕ → List (List ℕ)
lists_for refs zero = []
lists_for refs (suc count) = refs 0 ∷ lists_for (λ k. refs (suc k)) count

length_for : (refs : ℕ → List ℕ) (count : ℕ) → length (lists_for refs count) ≡ count
length_for refs zero = refl
length_for refs (suc count) = ap (λ n. suc n) (length_for (λ k. refs (suc k)) count)

-- each is what stands for its worker
list_for : (refs : ℕ → List ℕ) (count : ℕ) → ((k : ℕ) → count ≤ k → refs k ≡ []) → (k : ℕ)
    → list_at (lists_for refs count) k ≡ refs k
list_for refs zero none k = sym (none k (omega arith))
list_for refs (suc count) none zero = refl
list_for refs (suc count) none (suc k) =
    list_for (λ j. refs (suc j)) count (λ j beyond. none (suc j) (omega (arith, beyond))) k

-- not all lists are empty where one is not
filled_at : (found : List (List ℕ)) (k : ℕ) → is_empty (list_at found k) ≡ false → is_empty (joined found) ≡ false
filled_at [] k some = absurd (true≢false some)
filled_at ([] ∷ found) zero some = absurd (true≢false some)
filled_at ([] ∷ found) (suc k) some = filled_at found k some
filled_at ((x ∷ xs) ∷ found) k some = refl

-- and where not all are empty, one is not
at_filled : (found : List (List ℕ)) → is_empty (joined found) ≡ false
    → (k : ℕ) × (is_empty (list_at found k) ≡ false)
at_filled [] some = absurd (true≢false some)
at_filled ([] ∷ found) some = let at = at_filled found some in (suc at.0, at.1)
at_filled ((x ∷ xs) ∷ found) some = (0, refl)

-- a list of which something is left is not empty
sub_filled : (fs refs : List ℕ) → Sub fs refs → is_empty fs ≡ false → is_empty refs ≡ false
sub_filled fs [] sub some = absurd (true≢false (ap is_empty (sym sub) ∙ some))
sub_filled fs (r ∷ refs) sub some = refl

-- lists fit, of so many workers, where nothing is said to be left, or something does stand for one of them
pub some_fit : (refs : ℕ → List ℕ) (clears : List ℕ) (some : Bool) (count : ℕ)
    → ((k : ℕ) → count ≤ k → refs k ≡ []) → (some ≡ true → (k : ℕ) × (is_empty (refs k) ≡ false))
    → (found : List (List ℕ)) × (length found ≡ count) × MayHaveFound refs clears some found
some_fit refs clears some count none stands = (
  lists_for refs count,
  length_for refs count,
  record {
    each = λ k.
        subst (λ (fs : List ℕ). MayFind (refs k) clears fs) (sym (list_for refs count none k))
        (sub_all (refs k), λ m ref clear. ref);
    left = λ said.
        let at = stands said in
        filled_at (lists_for refs count) at.0 (ap is_empty (list_for refs count none at.0) ∙ at.1);
  },
)

-- and only there
pub fit_some : (refs : ℕ → List ℕ) (clears : List ℕ) (found : List (List ℕ)) → MayHaveFound refs clears true found
    → (k : ℕ) × (is_empty (refs k) ≡ false)
fit_some refs clears found fits =
    let at = at_filled found (fits.left refl) in
    (at.0, sub_filled (list_at found at.0) (refs at.0) (fits.each at.0).0 at.1)
