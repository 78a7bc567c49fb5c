-- Links and tags that are read after one is written, or after an object came or went.
use Rattle.ref_mark.proofs.Common.{◌≡◌, ℕ, true, false, ◌==◌, refl, sym, arith, List, [], ◌∷◌, true≢false, Tag, link_at}
use Rattle.ref_mark.proofs.Common.{cleared_in_at, with_link, with_new_tag, without_tag, with_cleared_tag, is_tagged}

-- ---- a link is written

pub link_at-other : (ts : List Tag) (n to m : ℕ) → (n == m) ≡ false → link_at (with_link ts n to) m ≡ link_at ts m
link_at-other [] n to m other = refl
link_at-other (t ∷ ts) n to m other = grind (arith, link_at-other ts n to m other)

pub link_at-same : (ts : List Tag) (n to : ℕ) → is_tagged ts n ≡ true → link_at (with_link ts n to) n ≡ to
link_at-same [] n to there = absurd (true≢false (sym there))
link_at-same (t ∷ ts) n to there = grind (arith, link_at-same ts n to)

pub is_tagged-written : (ts : List Tag) (n to m : ℕ) → is_tagged (with_link ts n to) m ≡ is_tagged ts m
is_tagged-written [] n to m = refl
is_tagged-written (t ∷ ts) n to m = grind (arith, is_tagged-written ts n to m)

-- no object was cleared in another cycle then
pub cleared_in_at-written : (ts : List Tag) (n to m : ℕ) → cleared_in_at (with_link ts n to) m ≡ cleared_in_at ts m
cleared_in_at-written [] n to m = refl
cleared_in_at-written (t ∷ ts) n to m = grind (arith, cleared_in_at-written ts n to m)

-- ---- an object is cleared

pub link_at-cleared : (ts : List Tag) (n cycle m : ℕ) → link_at (with_cleared_tag ts n cycle) m ≡ link_at ts m
link_at-cleared [] n cycle m = refl
link_at-cleared (t ∷ ts) n cycle m = grind (arith, link_at-cleared ts n cycle m)

pub is_tagged-cleared : (ts : List Tag) (n cycle m : ℕ) → is_tagged (with_cleared_tag ts n cycle) m ≡ is_tagged ts m
is_tagged-cleared [] n cycle m = refl
is_tagged-cleared (t ∷ ts) n cycle m = grind (arith, is_tagged-cleared ts n cycle m)

-- ---- an object comes

pub link_at-new : (ts : List Tag) (n m : ℕ) → link_at (with_new_tag ts n) m ≡ link_at ts m
link_at-new [] n m = grind arith
link_at-new (t ∷ ts) n m = grind (arith, link_at-new ts n m)

pub is_tagged-new : (ts : List Tag) (n m : ℕ) → is_tagged ts m ≡ true → is_tagged (with_new_tag ts n) m ≡ true
is_tagged-new [] n m there = absurd (true≢false (sym there))
is_tagged-new (t ∷ ts) n m there = grind (arith, is_tagged-new ts n m)

-- and what had no tag has one then only if it is that one
pub untagged-new : (ts : List Tag) (n m : ℕ) → (n == m) ≡ false → is_tagged ts m ≡ false
    → is_tagged (with_new_tag ts n) m ≡ false
untagged-new [] n m other none = grind arith
untagged-new (t ∷ ts) n m other none = grind (arith, untagged-new ts n m other)

-- ---- an object goes

pub link_at-gone : (ts : List Tag) (n m : ℕ) → (n == m) ≡ false → link_at (without_tag ts n) m ≡ link_at ts m
link_at-gone [] n m other = refl
link_at-gone (t ∷ ts) n m other = grind (arith, link_at-gone ts n m other)

pub is_tagged-gone : (ts : List Tag) (n m : ℕ) → (n == m) ≡ false → is_tagged (without_tag ts n) m ≡ is_tagged ts m
is_tagged-gone [] n m other = refl
is_tagged-gone (t ∷ ts) n m other = grind (arith, is_tagged-gone ts n m other)

-- and what had no tag has none then
pub untagged-gone : (ts : List Tag) (n m : ℕ) → is_tagged ts m ≡ false → is_tagged (without_tag ts n) m ≡ false
untagged-gone [] n m none = refl
untagged-gone (t ∷ ts) n m none = grind (arith, untagged-gone ts n m)
