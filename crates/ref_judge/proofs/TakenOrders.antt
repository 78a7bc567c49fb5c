-- What a poll may take in each order, by the numbers of what stands.
use Rattle.ref_base.proofs.Common.{arith, ◌≡◌, ℕ, zero, suc, ◌+◌, ◌<◌, ◌==◌, Bool, true, false, not, List, []}
use Rattle.ref_base.proofs.Common.{◌∷◌, ◌++◌, length, take, refl, sym, ap, ◌∙◌, subst, has, slice_index_or, inl, inr}
use Rattle.ref_base.proofs.Common.{false≢true, and_parts, eqb-true}
use Rattle.std.specs.Prelude.{reverse, min, ◌≤◌}
use Rattle.std.proofs.lemmas.List.{take_more, get_or-reverse, get_or-take, length-take, length-reverse}
use Rattle.std.proofs.Math.Seq.{take-length}
use Rattle.ref_base.specs.Members.{AreDistinct}
use Rattle.ref_base.proofs.HasLaws.{has-append, has-cases, has-single}
use Rattle.ref_judge.specs.Queueing.{may_be_next, MayTakeNos}
use Rattle.ref_judge.specs.declared.order.Order.{Order}
use Rattle.ref_judge.specs.declared.order.Order.TheVariants.{First, Last, Any}
use Rattle.ref_judge.proofs.TakenSets.{AreTaken, all_taken, first_taken, last_taken}

-- ---- lists that are the same at each place

pub same_list : (ns ms : List ℕ) → length ns ≡ length ms
    → ((i : ℕ) → i < length ns → (slice_index_or ms i 0 == slice_index_or ns i 0) ≡ true) → ns ≡ ms
same_list [] [] len each = refl
same_list [] (m ∷ ms) len each = absurd (omega (arith, len))
same_list (n ∷ ns) [] len each = absurd (omega (arith, len))
same_list (n ∷ ns) (m ∷ ms) len each =
    ap (λ k. k ∷ ns) (sym (eqb-true m n (each zero (omega arith))))
    ∙ ap (λ ks. m ∷ ks) (same_list ns ms (omega (arith, len)) (λ i within. each (suc i) (omega (arith, within))))

-- ---- of the judge's numbers

module _ (stands ns : List ℕ) (count : ℕ) (len : length ns ≡ min count (length stands)) where
  few : (i : ℕ) → i < length ns → (i < count) × (i < length stands)
  few i within =
      let below : i < min count (length stands) = subst (λ k. i < k) len within in
      (omega (arith, below), omega (arith, below))

  pub first_is : ((i : ℕ) → i < length ns → may_be_next First stands ns i ≡ true) → ns ≡ take count stands
  first_is each =
      same_list ns (take count stands) (len ∙ sym (length-take count stands))
      (λ i within. rw (get_or-take count stands i 0 (few i within).0) (each i within))

  pub last_is : ((i : ℕ) → i < length ns → may_be_next Last stands ns i ≡ true) → ns ≡ take count (reverse stands)
  last_is each =
      same_list ns (take count (reverse stands))
      (len ∙ ap (min count) (sym (length-reverse stands)) ∙ sym (length-take count (reverse stands)))
      (λ i within.
      rw (get_or-take count (reverse stands) i 0 (few i within).0, get_or-reverse stands i 0 (few i within).1)
      (each i within))

  distinct_push : (ms : List ℕ) (n : ℕ) → AreDistinct ms → has ms n ≡ false → AreDistinct (ms ++ n ∷ [])
  distinct_push [] n once none = (refl, tt)
  distinct_push (m ∷ ms) n once none = grind (arith, has-append, distinct_push ms n once.1)

  not_so : (b : Bool) → not b ≡ true → b ≡ false
  not_so true is = absurd (false≢true is)
  not_so false is = refl

  any_upto : ((i : ℕ) → i < length ns → may_be_next Any stands ns i ≡ true) → (i : ℕ) → i ≤ length ns
      → AreDistinct (take i ns) × ((m : ℕ) → has (take i ns) m ≡ true → has stands m ≡ true)
  any_upto each zero within = (tt, λ m h. absurd (false≢true h))
  any_upto each (suc i) within =
      let here : i < length ns = omega (arith, within) in
      let n : ℕ = slice_index_or ns i 0 in
      let so_far = any_upto each i (omega (arith, within)) in
      let next = and_parts (has stands n) (not (has (take i ns) n)) (each i here) in
      let more : take (suc i) ns ≡ take i ns ++ n ∷ [] = rw (← one i) (take_more ns i 0 here) in (
        subst AreDistinct (sym more) (distinct_push (take i ns) n so_far.0 (not_so (has (take i ns) n) next.1)),
        λ m h.
            elim (has-cases (take i ns) (n ∷ []) m (ap (λ ks. has ks m) (sym more) ∙ h)) [
              | inl front ↦ so_far.1 m front
              | inr last ↦ subst (λ k. has stands k ≡ true) (has-single n m last) next.0
            ],
      )
    where
      one : (i : ℕ) → i + 1 ≡ suc i
      one i = omega arith

-- what the judge takes, each stands and is taken once
pub may_taken : (order : Order) (count : ℕ) (stands ns : List ℕ) → AreDistinct stands
    → MayTakeNos order count stands ns → AreTaken stands ns
may_taken First count stands ns once may =
    subst (AreTaken stands) (sym (first_is stands ns count may.0 may.2)) (first_taken count stands once)
may_taken Last count stands ns once may =
    subst (AreTaken stands) (sym (last_is stands ns count may.0 may.2)) (last_taken count stands once)
may_taken Any count stands ns once may =
    let all = any_upto stands ns count may.0 may.2 (length ns) (omega arith) in
    let whole = take-length ns in
    all_taken stands ns (λ m h. all.1 m (ap (λ ks. has ks m) whole ∙ h)) (subst AreDistinct whole all.0)
