-- The objects of a judge once several of them are freed, none of which is marked while what isn't is condemned.
use Rattle.ref_base.proofs.Common.{arith, ◌≡◌, ℕ, ◌≤◌, ◌==◌, Bool, true, false, List, [], ◌∷◌, ◌++◌, map, refl, sym, ap}
use Rattle.ref_base.proofs.Common.{◌∙◌, inl, inr, cases_Bool, eqb-true, true≢false, has, Object, is_there, without}
use Rattle.ref_base.proofs.Common.{IsRising, Heap}
use Rattle.ref_base.specs.Forgetting.{forgotten}
use Rattle.ref_base.proofs.HasLaws.{has-append, has-first, has-right}
use Rattle.ref_base.proofs.RisingLists.{rising-tail, rising-lacks, rising-cons, rising-above}
use Rattle.ref_objects.proofs.TagLemmas.{cleared_in_at-without}
use Rattle.ref_space.specs.Tables.{Tag}
use Rattle.ref_space.specs.declared.colour.Colour.{Colour}
use Rattle.ref_objects.specs.Grounds.{Ground, after_freeing, is_condemned, cleared_in_at, link_at, without_tag}
use Rattle.ref_objects.specs.declared.stage.Stage.{Stage}
use Rattle.ref_judge.specs.FreedGrounds.{all_freed}

-- ---- objects

-- what isn't there takes nothing away
without-absent : (n : ℕ) (os : List Object) → is_there os n ≡ false → without (n ∷ []) os ≡ os
without-absent n [] absent = refl
without-absent n (o ∷ os) absent = grind (arith, without-absent n os)

-- nor does nothing
without-none : (os : List Object) → without [] os ≡ os
without-none [] = refl
without-none (o ∷ os) = ap (λ l. o ∷ l) (without-none os)

-- one more is taken away
without-more : (n : ℕ) (ns : List ℕ) (os : List Object) → without ns (without (n ∷ []) os) ≡ without (n ∷ ns) os
without-more n ns [] = refl
without-more n ns (o ∷ os) = grind (arith, without-more n ns os)

-- what is forgotten of what is left
pub without-forgotten : (front back : List ℕ) (os : List Object)
    → without front (map (λ o. forgotten (front ++ back) o) os) ≡ map (λ o. forgotten back o) (without front os)
without-forgotten front back [] = refl
without-forgotten front back (o ∷ os) = grind (arith, has-append, without-forgotten front back os)

-- ---- one object

module _ (g : Ground) (n : ℕ) (condemns : g.condemning ≡ true) (unmarked : has g.marked n ≡ false) where
  -- what is freed is there no more
  freed_heap : (after_freeing g n).heap ≡ record g.heap { objects = without (n ∷ []) g.heap.objects }
  freed_heap = grind (arith, condemns, unmarked, without-absent)

-- the rest is as it was
pub record Rest : Type 0 where
  pub next : ℕ
  pub marked : List ℕ
  pub condemning : Bool
  pub stage : Stage
  pub last : Colour
  pub still_to_move : List ℕ
  pub has_choice : Bool

abbrev pub rest_of_ground : Ground → Rest
rest_of_ground g = record {
  next = g.next;
  marked = g.marked;
  condemning = g.condemning;
  stage = g.space.stage;
  last = g.space.last;
  still_to_move = g.space.still_to_move;
  has_choice = g.space.has_choice;
}

freed_rest : (g : Ground) (n : ℕ) → rest_of_ground (after_freeing g n) ≡ rest_of_ground g
freed_rest g n = elim (cases_Bool (is_condemned g n)) [ inl is ↦ simp is refl | inr other ↦ simp other refl ]

-- ---- several

pub all_freed_rest : (g : Ground) (ns : List ℕ) → rest_of_ground (all_freed g ns) ≡ rest_of_ground g
all_freed_rest g [] = refl
all_freed_rest g (n ∷ ns) = all_freed_rest (after_freeing g n) ns ∙ freed_rest g n

pub all_freed_heap : (g : Ground) (ns : List ℕ) → g.condemning ≡ true
    → ((n : ℕ) → has ns n ≡ true → has g.marked n ≡ false)
    → (all_freed g ns).heap ≡ record g.heap { objects = without ns g.heap.objects }
all_freed_heap g [] condemns unmarked =
    ap (λ (os : List Object). record g.heap { objects = os }) (sym (without-none g.heap.objects))
all_freed_heap g (n ∷ ns) condemns unmarked =
    let rest = freed_rest g n in
    all_freed_heap (after_freeing g n) ns (ap (λ (r : Rest). r.condemning) rest ∙ condemns)
    (λ m h. ap (λ (r : Rest). has r.marked m) rest ∙ unmarked m (has-right (n ∷ []) ns m h))
    ∙ ap (λ (h : Heap). record h { objects = without ns h.objects })
    (freed_heap g n condemns (unmarked n (has-first n ns)))
    ∙ ap (λ (os : List Object). record g.heap { objects = os }) (without-more n ns g.heap.objects)

-- ---- tags

-- where no tag has the number
none_cleared : (ts : List Tag) (n : ℕ) → has (map (λ t. t.no) ts) n ≡ false → cleared_in_at ts n ≡ 0
none_cleared [] n lacks = refl
none_cleared (t ∷ ts) n lacks = grind (arith, none_cleared ts n)

-- tags stay in order, and none is of a cycle to come
pub record AreOld (ts : List Tag) (cycle : ℕ) : Type 0 where
  pub rising : IsRising (map (λ t. t.no) ts)
  pub old : (n : ℕ) → cleared_in_at ts n ≤ cycle

still_tagged : (ts : List Tag) (n m : ℕ) → has (map (λ t. t.no) (without_tag ts n)) m ≡ true
    → has (map (λ t. t.no) ts) m ≡ true
still_tagged [] n m h = h
still_tagged (t ∷ ts) n m h = grind (arith, still_tagged ts n m)

rising_tags : (ts : List Tag) (n : ℕ) → IsRising (map (λ t. t.no) ts) → IsRising (map (λ t. t.no) (without_tag ts n))
rising_tags [] n rising = rising
rising_tags (t ∷ ts) n rising =
    let nos : List ℕ = map (λ t. t.no) ts in
    elim (cases_Bool (t.no == n)) [
      | inl same ↦ simp same (rising-tail t.no nos rising)
      | inr other ↦
          simp other
          (rising-cons t.no (map (λ t. t.no) (without_tag ts n))
          (λ m h. rising-above t.no nos rising m (still_tagged ts n m h))
          (rising_tags ts n (rising-tail t.no nos rising)))
    ]

tag_gone : (ts : List Tag) (n : ℕ) → IsRising (map (λ t. t.no) ts) → cleared_in_at (without_tag ts n) n ≡ 0
tag_gone [] n rising = refl
tag_gone (t ∷ ts) n rising =
    let nos : List ℕ = map (λ t. t.no) ts in
    elim (cases_Bool (t.no == n)) [
      | inl same ↦
          let own = eqb-true t.no n same in
          simp same (none_cleared ts n (rising-lacks t.no nos rising n (omega (arith, own))))
      | inr other ↦ simp other (tag_gone ts n (rising-tail t.no nos rising))
    ]

old_without : (ts : List Tag) (n cycle : ℕ) → AreOld ts cycle → AreOld (without_tag ts n) cycle
old_without ts n cycle are = record { rising = rising_tags ts n are.rising; old = old }
  where
    old : (m : ℕ) → cleared_in_at (without_tag ts n) m ≤ cycle
    old m =
        elim (cases_Bool (n == m)) [
          | inl same ↦
              let own = eqb-true n m same in
              let gone = ap (λ (i : ℕ). cleared_in_at (without_tag ts n) i) (sym own) ∙ tag_gone ts n are.rising in
              omega (arith, gone)
          | inr other ↦ let is = cleared_in_at-without ts n m other in let old = are.old m in omega (arith, is, old)
        ]

old_freed : (g : Ground) (n cycle : ℕ) → AreOld g.tags cycle → AreOld (after_freeing g n).tags cycle
old_freed g n cycle are =
    elim (cases_Bool (is_condemned g n)) [
      | inl is ↦ simp is (old_without g.tags n cycle are)
      | inr other ↦ simp other are
    ]

pub all_freed_old : (g : Ground) (ns : List ℕ) (cycle : ℕ) → AreOld g.tags cycle → AreOld (all_freed g ns).tags cycle
all_freed_old g [] cycle are = are
all_freed_old g (n ∷ ns) cycle are = all_freed_old (after_freeing g n) ns cycle (old_freed g n cycle are)

-- and what isn't freed links to what it did
link-without : (ts : List Tag) (m n : ℕ) → (m == n) ≡ false → link_at (without_tag ts m) n ≡ link_at ts n
link-without [] m n apart = refl
link-without (t ∷ ts) m n apart = grind (arith, link-without ts m n apart)

link_freed : (g : Ground) (m n : ℕ) → (m == n) ≡ false → link_at (after_freeing g m).tags n ≡ link_at g.tags n
link_freed g m n apart =
    elim (cases_Bool (is_condemned g m)) [
      | inl is ↦ simp is (link-without g.tags m n apart)
      | inr other ↦ simp other refl
    ]

pub all_freed_link : (g : Ground) (ns : List ℕ) (n : ℕ) → has ns n ≡ false
    → link_at (all_freed g ns).tags n ≡ link_at g.tags n
all_freed_link g [] n lacks = refl
all_freed_link g (m ∷ ns) n lacks =
    elim (cases_Bool (m == n)) [
      | inl same ↦ absurd (let wrong : true ≡ false = simp same at lacks in true≢false wrong)
      | inr other ↦
          all_freed_link (after_freeing g m) ns n (simp other at lacks) ∙ link_freed g m n other
    ]
