-- What is doomed is listed in the order of the objects; what a sweep takes off that list goes from them, one object for
-- each number.
use Rattle.ref_base.proofs.Common.{arith, ◌≡◌, ℕ, ◌+◌, false, List, [], ◌∷◌, ◌++◌, map, length, inl, inr, refl}
use Rattle.ref_base.proofs.Common.{sym, subst, ap, ◌∙◌, has, Object, numbers}
use Rattle.ref_base.proofs.Common.{IsRising, without, true≢false}
use Rattle.std.proofs.lemmas.Bool.{false_from_ne_true}
use Rattle.ref_base.specs.DoomedSets.{unscanned}
use Rattle.ref_base.specs.CollectorRows.{shown}
use Rattle.ref_base.proofs.HasLaws.{has-left, has-first}
use Rattle.ref_base.proofs.RisingLists.{rising-lacks, rising-tail}
use Rattle.ref_base.proofs.Subsequences.{Sub}

-- what was never scanned is listed in the order of the objects
pub unscanned-sub : (os : List Object) (born : ℕ) (scanned : List ℕ) → Sub (unscanned os born scanned) (numbers os)
unscanned-sub [] born scanned = refl
unscanned-sub (o ∷ os) born scanned = grind (arith, unscanned-sub os born scanned)

-- clearing leaves the numbers
pub numbers-shown : (os : List Object) (d : List ℕ) → numbers (map (λ o. shown d o) os) ≡ numbers os
numbers-shown [] d = refl
numbers-shown (o ∷ os) d = grind (arith, numbers-shown os d)

-- what isn't in a list isn't in what is left of it
sub_lacks : (ms ns : List ℕ) (n : ℕ) → Sub ms ns → has ns n ≡ false → has ms n ≡ false
sub_lacks ms [] n sub lacks = ap (λ l. has l n) sub
sub_lacks ms (k ∷ ns) n sub lacks =
    elim sub [
      | inl passed ↦ grind (arith, sub_lacks ms ns n passed)
      | inr taken ↦ grind (arith, sub_lacks taken.0 ns n taken.2)
    ]

-- a number that no object has takes none away
without-lacks : (n : ℕ) (gone : List ℕ) (os : List Object) → has (numbers os) n ≡ false
    → without (n ∷ gone) os ≡ without gone os
without-lacks n gone [] lacks = refl
without-lacks n gone (o ∷ os) lacks = grind (arith, without-lacks n gone os)

-- what is behind is still listed in order, and each number in front took one object away
pub swept_front : (front back : List ℕ) (os : List Object) → IsRising (numbers os) → Sub (front ++ back) (numbers os)
    → Sub back (numbers (without front os))
    × (length (numbers (without front os)) + length front ≡ length (numbers os))
swept_front [] back [] rising sub = (sub, refl)
swept_front (m ∷ front) back [] rising sub = absurd cc
swept_front [] back (o ∷ os) rising sub =
    let tail = rising-tail o.no (numbers os) rising in
    elim sub [
      | inl passed ↦ grind (arith, swept_front [] back os tail passed)
      | inr taken ↦ grind (arith, swept_front [] taken.0 os tail taken.2)
    ]
swept_front (m ∷ front) back (o ∷ os) rising sub =
    let tail = rising-tail o.no (numbers os) rising in
    let lacks : has (numbers os) o.no ≡ false = rising-lacks o.no (numbers os) rising o.no (omega arith) in
    elim sub [
      | inl passed ↦
          let out : has (m ∷ front ++ back) o.no ≡ false =
          sub_lacks (m ∷ front ++ back) (numbers os) o.no passed lacks in
          let kept : has (m ∷ front) o.no ≡ false =
          false_from_ne_true (has (m ∷ front) o.no)
          (λ also. true≢false (sym (has-left (m ∷ front) back o.no also) ∙ out)) in
          let left = swept_front (m ∷ front) back os tail passed in
          simp kept (inl left.0, let e = left.1 in omega (arith, e))
      | inr taken ↦
          let own : m ≡ o.no = cc in
          let rest : front ++ back ≡ taken.0 = cc in
          let left = swept_front front back os tail (subst (λ (l : List ℕ). Sub l (numbers os)) (sym rest) taken.2) in
          grind (arith, without-lacks, has-first, left)
    ]
