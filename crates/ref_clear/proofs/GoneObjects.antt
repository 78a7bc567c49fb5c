-- What is left of some objects, of their tags and of their cells, where those of some numbers go.
use Rattle.ref_clear.proofs.Common.{◌≡◌, ℕ, zero, suc, true, false, refl, ap, arith, List, [], ◌∷◌, ◌++◌, take}
use Rattle.ref_clear.proofs.Common.{drop, None, has, Object, object_at, is_there, numbers, IsRising}
use Rattle.ref_clear.proofs.Common.{without, unmarked, is_tagged, Tag, cleared_in_at, without_tags}
use Rattle.ref_objects.specs.Grounds.{Space, link_at, vacated, without_tag}
use Rattle.ref_clear.specs.ClearHeaps.{vacated_all}
use Rattle.ref_mark.proofs.LinkLemmas.{link_at-gone, is_tagged-gone}
use Rattle.ref_objects.proofs.TagLemmas.{cleared_in_at-without}
use Rattle.ref_base.proofs.HasLaws.{has-append}
use Rattle.ref_base.proofs.NewClears.{is_there-rising}
use Rattle.ref_objects.proofs.HealedLemmas.{has-without_number}

-- ---- one after the other

pub without-none : (os : List Object) → without [] os ≡ os
without-none [] = refl
without-none (o ∷ os) = ap (λ ps. o ∷ ps) (without-none os)

pub without-append : (ms ns : List ℕ) (os : List Object) → without ns (without ms os) ≡ without (ms ++ ns) os
without-append ms ns [] = refl
without-append ms ns (o ∷ os) = grind (arith, has-append, without-append ms ns os)

pub without_tags-append : (ms : List ℕ) (n : ℕ) (ts : List Tag)
    → without_tag (without_tags ms ts) n ≡ without_tags (ms ++ n ∷ []) ts
without_tags-append [] n ts = refl
without_tags-append (m ∷ ms) n ts = without_tags-append ms n (without_tag ts m)

pub vacated_all-append : (ms : List ℕ) (n : ℕ) (s : Space) → vacated (vacated_all ms s) n ≡ vacated_all (ms ++ n ∷ []) s
vacated_all-append [] n s = refl
vacated_all-append (m ∷ ms) n s = vacated_all-append ms n (vacated s m)

-- ---- look-ups

-- those of other objects tell the cycle that they told
pub cleared_in_at-left : (gone : List ℕ) (ts : List Tag) (n : ℕ) → has gone n ≡ false
    → cleared_in_at (without_tags gone ts) n ≡ cleared_in_at ts n
cleared_in_at-left [] ts n left = refl
cleared_in_at-left (m ∷ ms) ts n left = grind (arith, cleared_in_at-without, cleared_in_at-left ms)

-- and have their links
pub link_at-left : (gone : List ℕ) (ts : List Tag) (n : ℕ) → has gone n ≡ false
    → link_at (without_tags gone ts) n ≡ link_at ts n
link_at-left [] ts n left = refl
link_at-left (m ∷ ms) ts n left = grind (arith, link_at-gone, link_at-left ms)

pub is_tagged-left : (gone : List ℕ) (ts : List Tag) (n : ℕ) → has gone n ≡ false
    → is_tagged (without_tags gone ts) n ≡ is_tagged ts n
is_tagged-left [] ts n left = refl
is_tagged-left (m ∷ ms) ts n left = grind (arith, is_tagged-gone, is_tagged-left ms)

-- what is unhealed still was before, and is none of them
pub unhealed-left : (gone : List ℕ) (s : Space) (n : ℕ) → has (vacated_all gone s).unhealed n ≡ true
    → (has s.unhealed n ≡ true) × (has gone n ≡ false)
unhealed-left [] s n unhealed = (unhealed, refl)
unhealed-left (m ∷ ms) s n unhealed = grind (arith, has-without_number, unhealed-left ms (vacated s m) n)

-- whether objects were chosen to move doesn't change
pub has_choice-left : (gone : List ℕ) (s : Space) → (vacated_all gone s).has_choice ≡ s.has_choice
has_choice-left [] s = refl
has_choice-left (m ∷ ms) s = has_choice-left ms (vacated s m)

-- what goes isn't there any more
pub object_at-gone : (gone : List ℕ) (os : List Object) (n : ℕ) → has gone n ≡ true
    → object_at (without gone os) n ≡ None
object_at-gone gone [] n out = refl
object_at-gone gone (o ∷ os) n out = grind (arith, object_at-gone gone os n out)

-- and the others are as they were
pub object_at-left : (gone : List ℕ) (os : List Object) (n : ℕ) → has gone n ≡ false
    → object_at (without gone os) n ≡ object_at os n
object_at-left gone [] n left = refl
object_at-left gone (o ∷ os) n left = grind (arith, object_at-left gone os n left)

pub left_from_there : (gone : List ℕ) (os : List Object) (n : ℕ) → is_there (without gone os) n ≡ true
    → has gone n ≡ false
left_from_there gone os n there = grind (arith, object_at-gone)

-- ---- order

rising_from-without : (n : ℕ) (gone : List ℕ) (os : List Object) → IsRising (n ∷ numbers os)
    → IsRising (n ∷ numbers (without gone os))
rising_from-without n gone [] rising = tt
rising_from-without n gone (o ∷ os) rising = grind (arith, rising_from-without o.no gone os rising.1)

pub rising-without : (gone : List ℕ) (os : List Object) → IsRising (numbers os)
    → IsRising (numbers (without gone os))
rising-without gone [] rising = tt
rising-without gone (o ∷ os) rising = grind (arith, rising_from-without, rising-without gone os)

-- ---- what isn't marked

-- no number is missed that isn't there
without-absent : (n : ℕ) (ns : List ℕ) (os : List Object) → is_there os n ≡ false
    → without (n ∷ ns) os ≡ without ns os
without-absent n ns [] absent = refl
without-absent n ns (o ∷ os) absent = grind (arith, without-absent n ns os)

pub has-take : (i : ℕ) (ns : List ℕ) (n : ℕ) → has ns n ≡ false → has (take i ns) n ≡ false
has-take zero ns n absent = refl
has-take (suc i) [] n absent = refl
has-take (suc i) (m ∷ ns) n absent = grind (arith, has-take i ns n)

-- where the first so many go that aren't marked, the later ones are left of these
pub unmarked-swept : (i : ℕ) (os : List Object) (marked : List ℕ) → IsRising (numbers os)
    → unmarked (without (take i (unmarked os marked)) os) marked ≡ drop i (unmarked os marked)
unmarked-swept zero os marked rising = ap (λ ps. unmarked ps marked) (without-none os)
unmarked-swept (suc i) [] marked rising = refl
unmarked-swept (suc i) (o ∷ os) marked rising =
    grind (arith, is_there-rising, without-absent, unmarked-swept (suc i) os marked, unmarked-swept i os marked)

-- the numbers of what isn't marked rise
rising_from-unmarked : (n : ℕ) (os : List Object) (marked : List ℕ) → IsRising (n ∷ numbers os)
    → IsRising (n ∷ unmarked os marked)
rising_from-unmarked n [] marked rising = tt
rising_from-unmarked n (o ∷ os) marked rising = grind (arith, rising_from-unmarked o.no os marked rising.1)

pub rising-unmarked : (os : List Object) (marked : List ℕ) → IsRising (numbers os) → IsRising (unmarked os marked)
rising-unmarked [] marked rising = tt
rising-unmarked (o ∷ os) marked rising = grind (arith, rising_from-unmarked, rising-unmarked os marked)
