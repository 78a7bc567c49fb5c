-- A judge tells by counting whether an object is left to scan: there are more objects than those that may not be kept,
-- those that were scanned and those that were made in the mark.
use Rattle.ref_base.proofs.Common.{arith, ◌≡◌, ℕ, ◌+◌, ◌<◌, ◌&&◌, Bool, true, false, not, nat_lt, List, [], ◌∷◌, ◌++◌}
use Rattle.ref_base.proofs.Common.{and_parts, length, refl, sym, ap, ◌∙◌, subst, inl, inr, if◌then◌else◌, false≢true}
use Rattle.ref_base.proofs.Common.{has, joined}
use Rattle.ref_base.proofs.Common.{Object, is_there, numbers, IsRising, State, is_in, zero, suc}
use Rattle.std.specs.Prelude.{◌≤◌, ◌-◌, ◌||◌}
use Rattle.std.proofs.lemmas.List.{length-append}
use Rattle.ref_base.specs.Members.{AreDistinct}
use Rattle.ref_base.specs.Refusals.{is_empty}
use Rattle.ref_base.specs.Forgetting.{heap_but}
use Rattle.ref_base.specs.Heaps.{Heap}
use Rattle.ref_base.specs.declared.config.Config.{Config}
use Rattle.ref_base.specs.declared.phase.Phase.{Phase}
use Rattle.ref_base.specs.declared.phase.Phase.TheVariants.{Marking}
use Rattle.ref_base.proofs.EverWorlds.{Knows}
use Rattle.ref_base.proofs.Forgetting.{heap_but-none}
use Rattle.ref_base.proofs.Lookups.{is_there-has}
use Rattle.ref_base.proofs.HasLaws.{has-append}
use Rattle.ref_base.proofs.LeftCounts.{is_left, left_among, left_of}
use Rattle.ref_objects.specs.Grounds.{unmarked}
use Rattle.ref_judge.specs.Judged.{Judged, is_behind_mark, unheld}
use Rattle.ref_judge.specs.KeptBounds.{MayBeKept}
use Rattle.ref_judge.specs.Policies.{profiled}
use Rattle.ref_judge.specs.declared.profile.Profile.{Profile}
use Rattle.ref_judge.specs.LeftCounts.{unmarked_if}
use Rattle.ref_judge.specs.Standing.{StandsFor, DecidesAs}
use Rattle.ref_judge.proofs.KeptFacts.{IsKeptSet, left_decides_as}
use Rattle.ref_judge.proofs.KnownRows.{known_kept_set}
use Rattle.ref_judge.proofs.LegalFacts.{Facts, legal_facts}
use Rattle.ref_judge.proofs.MarkRuns.{IsYoungThere, lawful_rising, lawful_all_there}
use Rattle.ref_judge.proofs.MemberCounts.{same_many, rising_distinct}
use Rattle.ref_judge.proofs.MoreKept.{IsAllThere, ever_there}

-- ---- which are left

-- those of these numbers that aren't left
abbrev seen_among : ℕ → List ℕ → List ℕ → List ℕ
seen_among born scanned [] = []
seen_among born scanned (n ∷ ns) =
    if is_left born scanned n then seen_among born scanned ns else n ∷ seen_among born scanned ns

parted : (born : ℕ) (scanned ns : List ℕ)
    → length ns ≡ length (seen_among born scanned ns) + length (left_among born scanned ns)
parted born scanned [] = refl
parted born scanned (n ∷ ns) = grind (arith, parted born scanned ns)

has-seen : (born : ℕ) (scanned ns : List ℕ) (n : ℕ)
    → has (seen_among born scanned ns) n ≡ (has ns n && not (is_left born scanned n))
has-seen born scanned [] n = refl
has-seen born scanned (m ∷ ns) n = grind (arith, has-seen born scanned ns n)

distinct-seen : (born : ℕ) (scanned ns : List ℕ) → AreDistinct ns → AreDistinct (seen_among born scanned ns)
distinct-seen born scanned [] distinct = tt
distinct-seen born scanned (n ∷ ns) distinct =
    grind (arith, has-seen born scanned ns n, distinct-seen born scanned ns)

-- ---- numbers from one on

abbrev numbers_from : ℕ → ℕ → List ℕ
numbers_from first zero = []
numbers_from first (suc count) = first ∷ numbers_from (first + 1) count

from_has : (first count n : ℕ) → first ≤ n → n < first + count → has (numbers_from first count) n ≡ true
from_has first zero n least most = absurd (omega (arith, least, most))
from_has first (suc count) n least most = grind (arith, from_has (first + 1) count n)

has_from : (first count n : ℕ) → has (numbers_from first count) n ≡ true → (first ≤ n) × (n < first + count)
has_from first zero n h = absurd (false≢true h)
has_from first (suc count) n h = grind (arith, has_from (first + 1) count n)

length-from : (first count : ℕ) → length (numbers_from first count) ≡ count
length-from first zero = refl
length-from first (suc count) = grind (arith, length-from (first + 1) count)

from_lacks : (first count n : ℕ) → n < first → has (numbers_from first count) n ≡ false
from_lacks first zero n less = refl
from_lacks first (suc count) n less = grind (arith, from_lacks (first + 1) count n)

distinct-from : (first count : ℕ) → AreDistinct (numbers_from first count)
distinct-from first zero = tt
distinct-from first (suc count) = (from_lacks (first + 1) count first (omega arith), distinct-from (first + 1) count)

distinct-both : (ms ns : List ℕ) → AreDistinct ms → AreDistinct ns
    → ((n : ℕ) → has ms n ≡ true → has ns n ≡ false) → AreDistinct (ms ++ ns)
distinct-both [] ns first second apart = second
distinct-both (m ∷ ms) ns first second apart =
    grind (arith, has-append, apart m, distinct-both ms ns first.1 second)

-- ---- how many are left

module _ (born next : ℕ) (scanned kept : List ℕ) (old : (n : ℕ) → has scanned n ≡ true → n < born)
    (within : (n : ℕ) → has scanned n ≡ true → has kept n ≡ true)
    (young : (n : ℕ) → born ≤ n → n < next → has kept n ≡ true)
    (below : (n : ℕ) → has kept n ≡ true → n < next) where
  -- what is kept and isn't left was scanned, or made in the mark
  seen_told : (count n : ℕ) → born + count ≡ next → has (seen_among born scanned kept) n ≡ true
      → has (scanned ++ numbers_from born count) n ≡ true
  seen_told count n sum h =
      grind (arith, has-append, has-seen born scanned kept n, below n, from_has born count n, sum)

  told_seen : (count n : ℕ) → born + count ≡ next → has (scanned ++ numbers_from born count) n ≡ true
      → has (seen_among born scanned kept) n ≡ true
  told_seen count n sum h =
      grind (arith, has-append, has-seen born scanned kept n, within n, young n, old n, has_from born count n, sum)

  pub left_counts : born ≤ next → AreDistinct scanned → AreDistinct kept
      → length kept + born ≡ next + length scanned + length (left_among born scanned kept)
  left_counts least once distinct =
      let count : ℕ = next - born in
      let sum : born + count ≡ next = omega (arith, least) in
      let told : List ℕ = scanned ++ numbers_from born count in
      let same : length (seen_among born scanned kept) ≡ length told =
      same_many (seen_among born scanned kept) told (distinct-seen born scanned kept distinct)
      (distinct-both scanned (numbers_from born count) once (distinct-from born count)
      (λ n h. from_lacks born count n (old n h)))
      (λ n h. seen_told count n sum h) (λ n h. told_seen count n sum h) in
      let many : length told ≡ length scanned + length (numbers_from born count) =
      length-append scanned (numbers_from born count) in
      let long : length (numbers_from born count) ≡ count = length-from born count in
      let parts = parted born scanned kept in
      omega (arith, same, many, long, parts, sum)

-- ---- what may be kept

-- what may be kept: those that are marked, or all where the collector keeps more
abbrev pub kept_if : Bool → List ℕ → List Object → List ℕ
kept_if keeps_more marked [] = []
kept_if keeps_more marked (o ∷ os) =
    if keeps_more || has marked o.no then o.no ∷ kept_if keeps_more marked os else kept_if keeps_more marked os

has-kept : (more : Bool) (marked : List ℕ) (os : List Object) (n : ℕ)
    → has (kept_if more marked os) n ≡ (is_there os n && (more || has marked n))
has-kept more marked [] n = refl
has-kept more marked (o ∷ os) n = grind (arith, has-kept more marked os n)

distinct-kept : (more : Bool) (marked : List ℕ) (os : List Object) → AreDistinct (numbers os)
    → AreDistinct (kept_if more marked os)
distinct-kept more marked [] distinct = tt
distinct-kept more marked (o ∷ os) distinct =
    grind (arith, has-kept more marked os, is_there-has os, distinct-kept more marked os)

others_counted : (more : Bool) (marked : List ℕ) (os : List Object)
    → length os ≡ length (kept_if more marked os) + (if more then 0 else length (unmarked os marked))
others_counted true marked [] = refl
others_counted true marked (o ∷ os) = grind (arith, others_counted true marked os)
others_counted false marked [] = refl
others_counted false marked (o ∷ os) = grind (arith, others_counted false marked os)

-- ---- a judge's value in a mark

-- in a mark nothing is doomed: the judge has the objects of the state
pub marking_objects : (j : Judged) (a : State) → StandsFor j a → is_in j.phase Marking ≡ true
    → j.ground.heap.objects ≡ a.world.heap.objects
marking_objects j a stands marks =
    let facts = legal_facts j.profile j.config a stands.lawful in
    let past : is_behind_mark a.world.phase ≡ false =
    not_past a.world.phase (subst (λ (p : Phase). is_in p Marking ≡ true) stands.phase marks) in
    ap (λ (h : Heap). h.objects) (stands.heap
    ∙ ap (λ (d : List ℕ). heap_but d (unheld a.world.heap)) (facts.names.none_doomed past)
    ∙ heap_but-none (unheld a.world.heap))
  where
    not_past : (p : Phase) → is_in p Marking ≡ true → is_behind_mark p ≡ false
    not_past Marking is = refl
    not_past p is = absurd (false≢true is)

pub kept_parts : (more : Bool) (marked : List ℕ) (os : List Object) (n : ℕ) → has (kept_if more marked os) n ≡ true
    → (is_there os n ≡ true) × ((more || has marked n) ≡ true)
kept_parts more marked os n h =
    and_parts (is_there os n) (more || has marked n) (sym (has-kept more marked os n) ∙ h)

pub parts_kept : (more : Bool) (marked : List ℕ) (os : List Object) (n : ℕ) → is_there os n ≡ true
    → (more || has marked n) ≡ true → has (kept_if more marked os) n ≡ true
parts_kept more marked os n there may = has-kept more marked os n ∙ simp (there, may) refl

not_less : (n m : ℕ) → m ≤ n → nat_lt n m ≡ false
not_less n m least = grind arith

-- some are left where the one number is less by so many as these
some_left : (left : List ℕ) (few many : ℕ) → many ≡ few + length left → not (is_empty left) ≡ nat_lt few many
some_left [] few many is = grind arith
some_left (n ∷ left) few many is = grind arith

-- in a mark an object is left where counting says so
module _ (p : Profile) (config : Config) (a : State) (facts : Facts config a)
    (marks : is_in a.world.phase Marking ≡ true) (rising : IsRising (numbers a.world.heap.objects))
    (there : IsAllThere a × IsYoungThere a) (marked : List ℕ)
    (knows : p.keeps_more ≡ false → Knows (λ n. has marked n ≡ true) (profiled p a)) where
  may_there : (n : ℕ) → MayBeKept p a n → is_there a.world.heap.objects n ≡ true
  may_there n (inl ever) = ever_there _ a.moments a.world.heap.objects n there.0 ever
  may_there n (inr more) = more.1

  -- where it keeps no more
  module _ (less : p.keeps_more ≡ false) where
    marked_set : IsKeptSet p (λ n. has marked n ≡ true) a
    marked_set = known_kept_set p (λ n. has marked n ≡ true) a less (knows less)

    marked_kept : (n : ℕ) → has marked n ≡ true → has (kept_if false marked a.world.heap.objects) n ≡ true
    marked_kept n h =
        parts_kept false marked a.world.heap.objects n (may_there n (marked_set.sound n h)) h

  abbrev pub kept_by : Bool → List ℕ
  kept_by more = kept_if more marked a.world.heap.objects

  pub is_kept_set : (more : Bool) → p.keeps_more ≡ more → IsKeptSet p (λ n. has (kept_by more) n ≡ true) a
  is_kept_set true is = record {
    sound = λ n h. inr (is, (kept_parts true marked a.world.heap.objects n h).0);
    complete = λ n may. parts_kept true marked a.world.heap.objects n (may_there n may) refl;
  }
  is_kept_set false is = record {
    sound = λ n h. (marked_set is).sound n (kept_parts false marked a.world.heap.objects n h).1;
    complete = λ n may. marked_kept is n ((marked_set is).complete n may);
  }

  has_scanned : (more : Bool) → p.keeps_more ≡ more → (n : ℕ) → has (joined a.scanned) n ≡ true
      → has (kept_by more) n ≡ true
  has_scanned true is n h =
      parts_kept true marked a.world.heap.objects n (facts.scanned.there marks n h) refl
  has_scanned false is n h = marked_kept is n ((knows is).1.scanned n h)

  has_young : (more : Bool) → p.keeps_more ≡ more → (n : ℕ) → a.born ≤ n → n < a.next
      → has (kept_by more) n ≡ true
  has_young true is n least most = parts_kept true marked a.world.heap.objects n (there.1 n least most) refl
  has_young false is n least most =
      marked_kept is n ((knows is).1.young n (there.1 n least most) (not_less n a.born least))

  kept_decides : (more : Bool) → p.keeps_more ≡ more
      → DecidesAs p
      (nat_lt (a.next + length (joined a.scanned) + (if more then 0 else length (unmarked a.world.heap.objects marked)))
      (length a.world.heap.objects + a.born)) a
  kept_decides more is =
      let os : List Object = a.world.heap.objects in
      let kept : List ℕ = kept_by more in
      let left : List ℕ = left_of a kept in
      let many = left_counts a.born a.next (joined a.scanned) kept facts.scanned.old (has_scanned more is)
      (has_young more is)
      (λ n h. facts.numbers.below n (kept_parts more marked os n h).0) facts.numbers.born facts.scanned.once
      (distinct-kept more marked os (rising_distinct (numbers os) rising)) in
      let others = others_counted more marked os in
      subst (λ (bit : Bool). DecidesAs p bit a)
      (some_left left (a.next + length (joined a.scanned) + (if more then 0 else length (unmarked os marked)))
      (length os + a.born) (omega (arith, many, others)))
      (left_decides_as p a kept (is_kept_set more is))

-- a judge tells so whether an object is left
pub left_decides : (j : Judged) (b : State) → StandsFor j b → is_in j.phase Marking ≡ true
    → DecidesAs j.profile
    (nat_lt (j.ground.next + j.scanned + unmarked_if j.profile.keeps_more j.ground)
    (length j.ground.heap.objects + j.born)) b
left_decides j b stands marks =
    let phase : is_in b.world.phase Marking ≡ true =
    subst (λ (p : Phase). is_in p Marking ≡ true) stands.phase marks in
    let rising = lawful_rising j.profile j.config b stands.lawful in
    let facts = legal_facts j.profile j.config b stands.lawful in
    let decides = kept_decides j.profile j.config b facts phase rising
    (lawful_all_there j.profile j.config b stands.lawful phase) j.ground.marked (stands.kept marks)
    j.profile.keeps_more refl in
    rw (marking_objects j b stands marks, stands.next, stands.count marks, stands.born) decides
