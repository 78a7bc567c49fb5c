-- The tags of a table's objects, as one of them changes, comes or goes.
use Rattle.ref_objects.proofs.Common.{arith, ◌≡◌, ℕ, ◌==◌, refl, ap, List, [], ◌∷◌, map, true, false, inl, inr}
use Rattle.ref_objects.proofs.Common.{cases_Bool, false≢true, Tabled, tabled_at, changed_tabled, without_tabled, has}
use Rattle.ref_objects.proofs.Common.{numbers, objects_of, tags_of, tag_of, Tag, changed_tag}
use Rattle.ref_space.specs.Tables.{tabled_cleared_in, tabled_link}
use Rattle.ref_objects.specs.Grounds.{cleared_in_at, link_at, with_new_tag, without_tag, with_cleared_tag}

pub tags_of-without : (ks : List Tabled) (n : ℕ) → tags_of (without_tabled ks n) ≡ without_tag (tags_of ks) n
tags_of-without [] n = refl
tags_of-without (k ∷ ks) n = grind (arith, tags_of-without ks n)

-- ---- the cycle in which an object was cleared

pub cleared_in-tabled : (ks : List Tabled) (n : ℕ)
    → tabled_cleared_in (tabled_at ks n) ≡ cleared_in_at (tags_of ks) n
cleared_in-tabled [] n = refl
cleared_in-tabled (k ∷ ks) n = grind (arith, cleared_in-tabled ks n)

-- ---- its link

pub link-tabled : (ks : List Tabled) (n : ℕ) → tabled_link (tabled_at ks n) ≡ link_at (tags_of ks) n
link-tabled [] n = refl
link-tabled (k ∷ ks) n = grind (arith, link-tabled ks n)

-- ---- a change of one object is one of its tag

pub tags_of-changed : (ks : List Tabled) (n : ℕ) (f : Tabled → Tabled) (g : Tag → Tag)
    → ((k : Tabled) → tag_of (f k) ≡ g (tag_of k)) → tags_of (changed_tabled ks n f) ≡ changed_tag (tags_of ks) n g
tags_of-changed [] n f g is = refl
tags_of-changed (k ∷ ks) n f g is = grind (arith, tags_of-changed ks n f g is)

-- ---- what is read of tags

-- each object has its tag
pub numbers-tags_of : (ks : List Tabled) → map (λ t. t.no) (tags_of ks) ≡ numbers (objects_of ks)
numbers-tags_of [] = refl
numbers-tags_of (k ∷ ks) = ap (λ ns. k.object.no ∷ ns) (numbers-tags_of ks)

-- a new object was never cleared
pub cleared_in_at-new : (ts : List Tag) (m n : ℕ) → cleared_in_at (with_new_tag ts m) n ≡ cleared_in_at ts n
cleared_in_at-new [] m n =
    elim (cases_Bool (m == n)) [ inl same ↦ simp same refl | inr other ↦ simp other refl ]
cleared_in_at-new (t ∷ ts) m n = search (cleared_in_at-new ts m n)

-- where one object goes, the others are as they were
pub cleared_in_at-without : (ts : List Tag) (m n : ℕ) → (m == n) ≡ false
    → cleared_in_at (without_tag ts m) n ≡ cleared_in_at ts n
cleared_in_at-without [] m n apart = refl
cleared_in_at-without (t ∷ ts) m n apart = grind (arith, cleared_in_at-without ts m n apart)

-- where one is cleared, the others are as they were
pub cleared_in_at-other : (ts : List Tag) (m n cycle : ℕ) → (m == n) ≡ false
    → cleared_in_at (with_cleared_tag ts m cycle) n ≡ cleared_in_at ts n
cleared_in_at-other [] m n cycle apart = refl
cleared_in_at-other (t ∷ ts) m n cycle apart = grind (arith, cleared_in_at-other ts m n cycle apart)

-- and that one in this cycle
pub cleared_in_at-own : (ts : List Tag) (n cycle : ℕ) → has (map (λ t. t.no) ts) n ≡ true
    → cleared_in_at (with_cleared_tag ts n cycle) n ≡ cycle
cleared_in_at-own [] n cycle there = absurd (false≢true there)
cleared_in_at-own (t ∷ ts) n cycle there = grind (arith, cleared_in_at-own ts n cycle)
