-- Where a worker goes on once it has looked at a reference that it may look at next.
use Rattle.ref_base.proofs.Common.{arith, ◌≡◌, ℕ, suc, ◌+◌, ◌==◌, Bool, false, List, [], ◌∷◌, ◌++◌, length, map, drop}
use Rattle.ref_base.proofs.Common.{Some, None, refl, sym, ap, ◌∙◌, inl, inr, cases_Bool, false≢true, has, eqb-true}
use Rattle.ref_base.proofs.Common.{eq-eqb}
use Rattle.ref_base.proofs.FoundFits.{NoneOf}
use Rattle.ref_judge.specs.Finding.{found_from}
use Rattle.ref_judge.specs.Judged.{AreToldCleared}
use Rattle.ref_judge.specs.declared.worker.Found.{Found}

abbrev pub objects : List Found → List ℕ
objects fs = map (λ (f : Found). f.object) fs

-- the reference n among these, which stand from this place on: none in front of it is a new clear
pub record GoesOn (clears : List ℕ) (n at : ℕ) (fs : List Found) (next : ℕ) (is_cleared : Bool) : Type 0 where
  pub front : List ℕ
  pub back : List ℕ
  pub is : objects fs ≡ front ++ n ∷ back
  pub none : NoneOf clears front
  pub cleared : is_cleared ≡ has clears n
  pub next_is : next ≡ at + suc (length front)
  pub behind : back ≡ drop (suc (length front)) (objects fs)

-- one more in front, that is no new clear
one_more : (clears : List ℕ) (n at next : ℕ) (is_cleared : Bool) (f : Found) (fs : List Found)
    → has clears f.object ≡ false → GoesOn clears n (at + 1) fs next is_cleared
    → GoesOn clears n at (f ∷ fs) next is_cleared
one_more clears n at next is_cleared f fs other goes = record {
  front = f.object ∷ goes.front;
  back = goes.back;
  is = ap (λ ns. f.object ∷ ns) goes.is;
  none = none;
  cleared = goes.cleared;
  next_is = next_is;
  behind = goes.behind;
}
  where
    none : NoneOf clears (f.object ∷ goes.front)
    none m h = grind (arith, goes.none)

    next_is : next ≡ at + suc (suc (length goes.front))
    next_is = let is = goes.next_is in omega (arith, is)

-- something isn't nothing
some_apart : (found : ℕ × Bool) → Some found ≡ None → ⊥
some_apart found is = cc

-- what is found stands there
pub found_goes : (clears : List ℕ) (n at next : ℕ) (is_cleared : Bool) (fs : List Found) → AreToldCleared clears fs
    → found_from n at fs ≡ Some (next, is_cleared) → GoesOn clears n at fs next is_cleared
found_goes clears n at next is_cleared [] told is = absurd cc
found_goes clears n at next is_cleared (f ∷ fs) told is =
    elim (cases_Bool (f.object == n)) [
      | inl same ↦
          let found : Some (at + 1, f.is_cleared) ≡ Some (next, is_cleared) = simp same at is in
          let own = eqb-true f.object n same in record {
            front = [];
            back = objects fs;
            is = ap (λ m. m ∷ objects fs) own;
            none = λ m h. absurd (false≢true h);
            cleared = grind (arith, found, told.0, own);
            next_is = grind (arith, found);
            behind = refl;
          }
      | inr apart ↦ elim (cases_Bool f.is_cleared) [
        | inl cleared ↦ absurd (some_apart (next, is_cleared) (sym (simp (apart, cleared) at is)))
        | inr other ↦
            let later : found_from n (at + 1) fs ≡ Some (next, is_cleared) = simp (apart, other) at is in
            one_more clears n at next is_cleared f fs (sym told.0 ∙ other)
            (found_goes clears n (at + 1) next is_cleared fs told.1 later)
      ]
    ]

-- and where nothing is found, it stands behind no references of which none is a new clear
pub unfound : (clears : List ℕ) (n at : ℕ) (fs : List Found) (front back : List ℕ) → AreToldCleared clears fs
    → found_from n at fs ≡ None → objects fs ≡ front ++ n ∷ back → NoneOf clears front → ⊥
unfound clears n at [] [] back told none is clear = absurd cc
unfound clears n at [] (m ∷ front) back told none is clear = absurd cc
unfound clears n at (f ∷ fs) [] back told none is clear =
    let own : f.object ≡ n = cc in
    absurd (some_apart (at + 1, f.is_cleared) (simp (eq-eqb f.object n own) at none))
unfound clears n at (f ∷ fs) (m ∷ front) back told none is clear =
    let own : f.object ≡ m = cc in
    let rest : objects fs ≡ front ++ n ∷ back = cc in
    let behind : NoneOf clears front = (λ j h. clear j (grind (arith, h))) in
    let other : f.is_cleared ≡ false = grind (arith, told.0, own, clear m) in
    elim (cases_Bool (f.object == n)) [
      | inl same ↦ absurd (some_apart (at + 1, f.is_cleared) (simp same at none))
      | inr apart ↦
          let later : found_from n (at + 1) fs ≡ None = simp (apart, other) at none in
          unfound clears n (at + 1) fs front back told.1 later rest behind
    ]
