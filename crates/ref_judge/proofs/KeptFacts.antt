-- What a collector of any profile may keep, by a set that has just that: whether an object is left to scan, and that a
-- mark may end exactly where no root is doomed, and nothing that must be kept leads into the doomed from outside.
use Rattle.ref_base.proofs.Common.{arith, ◌≡◌, ℕ, Bool, true, false, not, nat_lt, List, [], ◌∷◌, refl}
use Rattle.ref_base.proofs.Common.{inl, inr, ◌⊎◌, and_parts, ltb-true, false≢true, has, joined, Object}
use Rattle.ref_base.proofs.Common.{is_there, State, doomed_at}
use Rattle.std.proofs.lemmas.Bool.{lt-ltb}
use Rattle.ref_base.specs.DoomedSets.{unscanned}
use Rattle.ref_base.specs.Refusals.{is_empty}
use Rattle.ref_base.proofs.MarkFacts.{HasSeen}
use Rattle.ref_base.proofs.LeftCounts.{is_left, left_among, left_of}
use Rattle.ref_judge.specs.KeptBounds.{MayBeKept, MayDoomAs}
use Rattle.ref_judge.specs.ProfiledRows.{IsLeftAs}
use Rattle.ref_judge.specs.declared.profile.Profile.{Profile}
use Rattle.ref_judge.proofs.FittingRows.{DecidesAs}
use Rattle.ref_judge.proofs.EndingRows.{IsOff, OthersMay, doom_from_as}

-- the set has just what may be kept
pub record IsKeptSet (p : Profile) (V : ℕ → Type 0) (a : State) : Type 0 where
  pub sound : (n : ℕ) → V n → MayBeKept p a n
  pub complete : (n : ℕ) → MayBeKept p a n → V n

-- ---- what is left

-- those that are left are among these, and are left
left_member : (born : ℕ) (scanned ns : List ℕ) (n : ℕ) → has (left_among born scanned ns) n ≡ true
    → (has ns n ≡ true) × (is_left born scanned n ≡ true)
left_member born scanned [] n h = absurd (false≢true h)
left_member born scanned (m ∷ ns) n h = grind (arith, left_member born scanned ns n)

-- and what is among these and is left is one of them
member_left : (born : ℕ) (scanned ns : List ℕ) (n : ℕ) → has ns n ≡ true → is_left born scanned n ≡ true
    → has (left_among born scanned ns) n ≡ true
member_left born scanned [] n h left = absurd (false≢true h)
member_left born scanned (m ∷ ns) n h left = grind (arith, member_left born scanned ns n)

-- some stand in a list exactly where it isn't empty
pub some_member : (ns : List ℕ) → not (is_empty ns) ≡ true → (n : ℕ) × (has ns n ≡ true)
some_member [] some = absurd (false≢true some)
some_member (n ∷ ns) some = (n, own n ns)
  where
    own : (n : ℕ) (ns : List ℕ) → has (n ∷ ns) n ≡ true
    own n ns = grind arith

pub member_some : (ns : List ℕ) (n : ℕ) → has ns n ≡ true → not (is_empty ns) ≡ true
member_some [] n h = absurd (false≢true h)
member_some (m ∷ ns) n h = refl

-- what is not so is false
pub isnt : (b : Bool) → not b ≡ true → b ≡ false
isnt true is = absurd (false≢true is)
isnt false is = refl

-- an object is left exactly where one of what may be kept is
pub left_decides_as : (p : Profile) (a : State) (kept : List ℕ) → IsKeptSet p (λ n. has kept n ≡ true) a
    → DecidesAs p (not (is_empty (left_of a kept))) a
left_decides_as p a kept knows = (some, one)
  where
    some : not (is_empty (left_of a kept)) ≡ true → (n : ℕ) × IsLeftAs p a n
    some is =
        let first = some_member (left_of a kept) is in
        let tells = left_member a.born (joined a.scanned) kept first.0 first.1 in
        let parts = and_parts (nat_lt first.0 a.born) (not (has (joined a.scanned) first.0)) tells.1 in (
          first.0,
          (
            knows.sound first.0 tells.0,
            ltb-true first.0 a.born parts.0,
            isnt (has (joined a.scanned) first.0) parts.1,
          ),
        )

    one : (n : ℕ) → IsLeftAs p a n → not (is_empty (left_of a kept)) ≡ true
    one n left =
        let old : nat_lt n a.born ≡ true = lt-ltb n a.born left.1 in
        let new : has (joined a.scanned) n ≡ false = left.2 in
        let both : is_left a.born (joined a.scanned) n ≡ true = simp (old, new) refl in
        member_some (left_of a kept) n
        (member_left a.born (joined a.scanned) kept n (knows.complete n left.0) both)

-- ---- a mark's end

-- what isn't among the unscanned is scanned or young
seen_or_unscanned : (os : List Object) (born : ℕ) (scanned : List ℕ) (n : ℕ) → is_there os n ≡ true
    → has (unscanned os born scanned) n ≡ false → (nat_lt n born ≡ false) ⊎ (has scanned n ≡ true)
seen_or_unscanned [] born scanned n there out = absurd (false≢true there)
seen_or_unscanned (o ∷ os) born scanned n there out = grind (arith, seen_or_unscanned os born scanned n)

-- each object outside what a mark's end dooms may be kept, where a set of what may be has all that was seen
pub others_may : (p : Profile) (V : ℕ → Type 0) (a : State) → ((n : ℕ) → V n → MayBeKept p a n) → HasSeen V a
    → OthersMay p a (doomed_at a)
others_may p V a sound seen n there out =
    elim (seen_or_unscanned a.world.heap.objects a.born (joined a.scanned) n there out) [
      | inl young ↦ sound n (seen.young n there young)
      | inr scanned ↦ sound n (seen.scanned n scanned)
    ]

-- and where a collector keeps more
pub others_may_more : (p : Profile) (a : State) (d : List ℕ) → p.keeps_more ≡ true → OthersMay p a d
others_may_more p a d more n there out = inr (more, there)

-- so where no root is doomed and nothing that must be kept leads in from outside, the mark may end
pub ends_where_as : (p : Profile) (V : ℕ → Type 0) (a : State) → ((n : ℕ) → V n → MayBeKept p a n) → HasSeen V a
    → IsOff p a (doomed_at a) → MayDoomAs p a (doomed_at a)
ends_where_as p V a sound seen off = doom_from_as p a (doomed_at a) off (others_may p V a sound seen)

pub ends_where_more : (p : Profile) (a : State) → p.keeps_more ≡ true → IsOff p a (doomed_at a)
    → MayDoomAs p a (doomed_at a)
ends_where_more p a more off = doom_from_as p a (doomed_at a) off (others_may_more p a (doomed_at a) more)
