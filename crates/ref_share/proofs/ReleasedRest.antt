-- The notices of a batch are taken out one after the other, and their holds go back to the heap.
use Rattle.ref_share.proofs.Common.{◌≡◌, ◌<◌, List, [], ◌∷◌, length, Option, Some, None, Result, Ok, Err, inl, inr}
use Rattle.ref_share.proofs.Common.{refl}
use Rattle.ref_share.proofs.Common.{sym, ap, subst, arith, Fault, HoldName, HeldNotice, HeapView, Releases}
use Rattle.std.proofs.Common.{drop}
use Rattle.std.specs.Option.{unwrap_or}
use Rattle.ref_base.specs.Members.{first_of}
use Rattle.ref_share.specs.Deliveries.{GoBack}

-- where all went back, none is left
pub all_back_leaves_none : (ns : List HeldNotice) (v w : HeapView) (left : List HeldNotice)
    → GoBack ns v (Ok tt) left w → left ≡ []
all_back_leaves_none [] v w left goes = goes.0
all_back_leaves_none (n ∷ ns) v w left goes =
    elim goes [
      | inl more ↦ all_back_leaves_none ns more.0 w left more.2
      | inr kept ↦ let other : Ok tt ≡ Err kept.0 = kept.1 in absurd cc
    ]

-- what has a first is that and the rest
pub first_and_rest : (xs : List HeldNotice) (x : HeldNotice) → first_of xs ≡ Some x → xs ≡ x ∷ drop 1 xs
first_and_rest [] x is = absurd cc
first_and_rest (y ∷ xs) x is = ap (λ (o : Option HeldNotice). unwrap_or o x ∷ xs) is

-- which is shorter
pub shorter : (xs : List HeldNotice) (x : HeldNotice) → first_of xs ≡ Some x → length (drop 1 xs) < length xs
shorter [] x is = absurd cc
shorter (y ∷ xs) x is = omega arith

-- the batch goes back once these do, from there on
abbrev pub GoesOn : List HeldNotice → HeapView → List HeldNotice → HeapView → Type 0
GoesOn batch v rest u =
    (released : Result (Unit {0}) (Fault × HoldName)) (left : List HeldNotice) (w : HeapView)
    → GoBack rest u released left w → GoBack batch v released left w

module _ (batch rest : List HeldNotice) (v u : HeapView) (on : GoesOn batch v rest u) where
  module _ (notice : HeldNotice) (hold : HoldName) (next : HeapView) (first : first_of rest ≡ Some notice)
      (same : hold ≡ notice.hold) where
    -- one more is released
    pub one_more : Releases u hold (Ok tt) next → GoesOn batch v (drop 1 rest) next
    one_more releases released left w goes =
        on released left w
        (subst (λ (ns : List HeldNotice). GoBack ns u released left w) (sym (first_and_rest rest notice first))
        (inl (next, subst (λ (h : HoldName). Releases u h (Ok tt) next) same releases, goes)))

    -- or one is not, and those behind it are left
    pub one_kept : (back : Fault × HoldName) → Releases u hold (Err back) next
        → GoBack batch v (Err back) (drop 1 rest) next
    one_kept back releases =
        on (Err back) (drop 1 rest) next
        (subst (λ (ns : List HeldNotice). GoBack ns u (Err back) (drop 1 rest) next)
        (sym (first_and_rest rest notice first))
        (inr (back, refl, subst (λ (h : HoldName). Releases u h (Err back) next) same releases, refl)))

  -- none is left
  pub none_left : first_of rest ≡ None → GoBack batch v (Ok tt) (drop 1 rest) u
  none_left none = on (Ok tt) (drop 1 rest) u (all_gone rest none)
    where
      all_gone : (ns : List HeldNotice) → first_of ns ≡ None → GoBack ns u (Ok tt) (drop 1 ns) u
      all_gone [] is = (refl, refl)
      all_gone (n ∷ ns) is = absurd cc
