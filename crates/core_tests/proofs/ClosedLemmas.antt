-- What a walk over slots, fields and numbers has found marked so far.
use Rattle.std.proofs.Common.{◌≡◌, ℕ, ◌+◌, ◌<◌, ◌≤◌, true, false, refl, sym, ap, ◌∙◌, arith}
use Rattle.std.proofs.Common.{List, [], ◌∷◌, ◌++◌, length, take, Option, Some, None, inl, inr, Bool}
use Rattle.std.specs.Bool.{OnTrue}
use Rattle.std.specs.Prelude.{slice_index_or}
use Rattle.std.proofs.lemmas.Bool.{false≢true}
use Rattle.std.proofs.lemmas.List.{take_more, take_all}
use Rattle.ref_base.specs.Members.{has}
use Rattle.ref_base.specs.Graphs.{Object, is_there, numbers, object_at}
use Rattle.ref_base.specs.Strengths.{IsRising}
use Rattle.ref_base.specs.Heaps.{reference_in}
use Rattle.ref_base.specs.CollectorRows.{referent_of}
use Rattle.ref_base.specs.Paths.{present, if_any}
use Rattle.ref_space.specs.Tables.{fields_in}
use Rattle.ref_objects.specs.Grounds.{Ground, IsWellFormed, IsClosed, named_in, least_from}
use Rattle.ref_base.proofs.HasLaws.{has-cases, has-right, has-single}
use Rattle.ref_base.proofs.NewClears.{is_there-rising}

-- what these values name is in the list
abbrev pub AreIn : List (Option ℕ) → List ℕ → Type 0
AreIn values ns = (n : ℕ) → has (present values) n ≡ true → has ns n ≡ true

present-push : (values : List (Option ℕ)) (value : Option ℕ)
    → present (values ++ value ∷ []) ≡ present values ++ if_any value
present-push [] None = refl
present-push [] (Some n) = refl
present-push (None ∷ vs) value = present-push vs value
present-push (Some m ∷ vs) value = ap (λ ns. m ∷ ns) (present-push vs value)

-- at first there is none
pub none_in : (values : List (Option ℕ)) (ns : List ℕ) → AreIn (take 0 values) ns
none_in [] ns n within = absurd (false≢true within)
none_in (v ∷ vs) ns n within = absurd (false≢true within)

one_in : (value : Option ℕ) (ns : List ℕ) (n : ℕ) → ((m : ℕ) → value ≡ Some m → has ns m ≡ true)
    → has (if_any value) n ≡ true → has ns n ≡ true
one_in None ns n is within = absurd (false≢true within)
one_in (Some m) ns n is within = ap (has ns) (sym (has-single m n within)) ∙ is m refl

-- one value more
pub more_in : (values : List (Option ℕ)) (ns : List ℕ) (i : ℕ) (value : Option ℕ) → i < length values
    → value ≡ slice_index_or values i None → ((m : ℕ) → value ≡ Some m → has ns m ≡ true)
    → AreIn (take i values) ns → AreIn (take (i + 1) values) ns
more_in values ns i value within reads is so_far n named =
    let more = take_more values i None within in
    elim (has-cases (present (take i values)) (if_any value) n
    (ap (λ ms. has ms n)
    (sym (present-push (take i values) value)
    ∙ ap (λ v. present (take i values ++ v ∷ [])) reads ∙ ap present (sym more)) ∙ named)) [
      | inl before ↦ so_far n before
      | inr now ↦ one_in value ns n is now
    ]

-- and in the end all are
pub all_in : (values : List (Option ℕ)) (ns : List ℕ) (i : ℕ) → length values ≤ i → AreIn (take i values) ns
    → AreIn values ns
all_in values ns i all so_far n named = so_far n (ap (λ vs. has (present vs) n) (take_all i values all) ∙ named)

-- what an object names is, where its fields and its referent are
pub names_in : (o : Option Object) (ns : List ℕ) → AreIn (fields_in o) ns
    → ((m : ℕ) → referent_of (reference_in o) ≡ Some m → has ns m ≡ true) → (n : ℕ) → has (named_in o) n ≡ true
    → has ns n ≡ true
names_in o ns fields referent n named =
    elim (has-cases (present (fields_in o)) (if_any (referent_of (reference_in o))) n named) [
      | inl field ↦ fields n field
      | inr is ↦ one_in (referent_of (reference_in o)) ns n referent is
    ]

pub on_true : {P Q : Type 0} (b : Bool) → OnTrue b P → (P → Q) → OnTrue b Q
on_true true is then_is = then_is is
on_true false is then_is = tt

pub both_on_true : {P Q R : Type 0} (b : Bool) → OnTrue b P → OnTrue b Q → (P → Q → R) → OnTrue b R
both_on_true true one other then_is = then_is one other
both_on_true false one other then_is = tt

-- ---- objects by their numbers

-- of each number below this, what is held is marked, and what the marked names is
pub record ClosedBelow (g : Ground) (k : ℕ) : Type 0 where
  pub held : (n : ℕ) → n < k → has g.heap.holds n ≡ true → has g.marked n ≡ true
  pub names : (m n : ℕ) → m < k → has g.marked m ≡ true → has (named_in (object_at g.heap.objects m)) n ≡ true
      → has g.marked n ≡ true

before_first : (os : List Object) (first n : ℕ) → IsRising (numbers os) → least_from (numbers os) 0 ≡ Some first
    → n < first → is_there os n ≡ false
before_first [] first n rising is below = refl
before_first (o ∷ os) first n rising is below = grind (arith, is_there-rising)

none_there : (os : List Object) (n : ℕ) → least_from (numbers os) 0 ≡ None → is_there os n ≡ false
none_there [] n is = refl
none_there (o ∷ os) n is = grind arith

module _ (g : Ground) (formed : IsWellFormed g) where
  held_there : (n : ℕ) → has g.heap.holds n ≡ true → is_there g.heap.objects n ≡ true
  held_there n held =
      let spared = formed.closed.rooted n (has-right (present g.heap.slots) g.heap.holds n held) in grind arith

  -- below the first object there is none
  pub closed_first : (first : ℕ) → Some first ≡ least_from (numbers g.heap.objects) 0 → ClosedBelow g first
  closed_first first is = record {
    held = λ n below held. absurd (false≢true (sym (absent n below) ∙ held_there n held));
    names = λ m n below marked by. absurd (false≢true (sym (absent m below) ∙ formed.marked m marked));
  }
    where
      absent : (n : ℕ) → n < first → is_there g.heap.objects n ≡ false
      absent n below = before_first g.heap.objects first n formed.orderly.rising (sym is) below

  -- behind the last object there is none
  pub closed_last : (k : ℕ) → g.next ≤ k → ClosedBelow g k
      → ((n : ℕ) → has g.heap.holds n ≡ true → has g.marked n ≡ true)
      × ((m n : ℕ) → has g.marked m ≡ true → has (named_in (object_at g.heap.objects m)) n ≡ true
      → has g.marked n ≡ true)
  closed_last k all so_far = (
    λ n held. so_far.held n (within n (held_there n held)) held,
    λ m n marked by. so_far.names m n (within m (formed.marked m marked)) marked by,
  )
    where
      within : (n : ℕ) → is_there g.heap.objects n ≡ true → n < k
      within n there = let below = formed.orderly.below n there in omega (arith, below, all)

  -- where there is no object at all
  pub closed_none : None ≡ least_from (numbers g.heap.objects) 0
      → ((n : ℕ) → has g.heap.holds n ≡ true → has g.marked n ≡ true)
      × ((m n : ℕ) → has g.marked m ≡ true → has (named_in (object_at g.heap.objects m)) n ≡ true
      → has g.marked n ≡ true)
  closed_none is = (
    λ n held. absurd (false≢true (sym (none_there g.heap.objects n (sym is)) ∙ held_there n held)),
    λ m n marked by. absurd (false≢true (sym (none_there g.heap.objects m (sym is)) ∙ formed.marked m marked)),
  )

-- slots, holds and objects together
pub closed_all : (g : Ground) → AreIn g.heap.slots g.marked
    → ((n : ℕ) → has g.heap.holds n ≡ true → has g.marked n ≡ true)
    → ((m n : ℕ) → has g.marked m ≡ true → has (named_in (object_at g.heap.objects m)) n ≡ true → has g.marked n ≡ true)
    → IsClosed g.heap (has g.marked)
closed_all g slots holds names = record {
  rooted = λ n root.
      elim (has-cases (present g.heap.slots) g.heap.holds n root) [
        | inl slot ↦ slots n slot
        | inr held ↦ holds n held
      ];
  closed = names;
}
