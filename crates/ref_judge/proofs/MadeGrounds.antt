-- What a judge's objects are once one was made: what is marked, what tags and look-ups tell.
use Rattle.ref_base.proofs.Common.{arith, ◌≡◌, ℕ, Bool, true, false, ◌||◌, ◌==◌, refl, sym, ap, ◌∙◌, List, []}
use Rattle.ref_base.proofs.Common.{◌∷◌, ◌++◌, map, Some, has, Object, object_at, is_there, numbers, false≢true}
use Rattle.ref_base.specs.CollectorRows.{references_among}
use Rattle.ref_base.specs.declared.phase.Phase.{Phase}
use Rattle.ref_base.specs.declared.phase.Phase.TheVariants.{Idle, Marking, Clearing, Sweeping, Moving}
use Rattle.ref_base.proofs.Lookups.{is_there-has}
use Rattle.ref_base.proofs.OneMore.{has-one_more}
use Rattle.ref_space.specs.Tables.{Tag}
use Rattle.ref_objects.specs.Grounds.{Ground, ground_marked, with_new_object, with_new_tag, cleared_in_at, link_at}
use Rattle.ref_objects.specs.Grounds.{marks_with_new}
use Rattle.ref_judge.specs.Judged.{is_behind_mark, is_going}
use Rattle.ref_judge.specs.MadeGrounds.{kept_made}

-- ---- marks

has_marked : (g : Ground) (n k : ℕ) → is_there g.heap.objects n ≡ true
    → has (ground_marked g n).marked k ≡ ((n == k) || has g.marked k)
has_marked g n k there = grind (arith, has-one_more)

pub last_there : (os : List Object) (o : Object) → is_there (os ++ o ∷ []) o.no ≡ true
last_there [] o = grind arith
last_there (p ∷ os) o = grind (arith, last_there os o)

-- in a cycle what was made is marked, and nothing else anew
pub has_made : (phase : Phase) (g : Ground) (m d : ℕ) (o : Object) → g.condemning ≡ is_behind_mark phase
    → is_going phase ≡ true → (k : ℕ)
    → has (kept_made phase (with_new_object g m d o) o.no).marked k ≡ ((o.no == k) || has g.marked k)
has_made Idle g m d o condemns going k = absurd (false≢true going)
has_made Marking g m d o condemns going k =
    has_marked (with_new_object g m d o) o.no k (last_there g.heap.objects o)
    ∙ ap (λ (condemning : Bool). (o.no == k) || has (marks_with_new (record g { condemning = condemning }) o.no) k)
    condemns
has_made Clearing g m d o condemns going k =
    ap (λ (condemning : Bool). has (marks_with_new (record g { condemning = condemning }) o.no) k) condemns
    ∙ has-one_more g.marked o.no k
has_made Sweeping g m d o condemns going k =
    ap (λ (condemning : Bool). has (marks_with_new (record g { condemning = condemning }) o.no) k) condemns
    ∙ has-one_more g.marked o.no k
has_made Moving g m d o condemns going k = absurd (false≢true going)

-- nothing but marks changes as that is marked
pub made_marks : (phase : Phase) (g : Ground) (n : ℕ)
    → kept_made phase g n ≡ record g { marked = (kept_made phase g n).marked }
made_marks phase g n = grind arith

-- ---- tags

-- no tag has a number that no object has
cleared_in_none : (ts : List Tag) (n : ℕ) → has (map (λ t. t.no) ts) n ≡ false → cleared_in_at ts n ≡ 0
cleared_in_none [] n none = refl
cleared_in_none (t ∷ ts) n none = grind (arith, cleared_in_none ts n)

link_none : (ts : List Tag) (n : ℕ) → has (map (λ t. t.no) ts) n ≡ false → link_at ts n ≡ 0
link_none [] n none = refl
link_none (t ∷ ts) n none = grind (arith, link_none ts n)

no_tag : (ts : List Tag) (os : List Object) (n : ℕ) → map (λ t. t.no) ts ≡ numbers os → is_there os n ≡ false
    → has (map (λ t. t.no) ts) n ≡ false
no_tag ts os n tagged new = ap (λ (ns : List ℕ). has ns n) tagged ∙ sym (is_there-has os n) ∙ new

pub cleared_in_new : (ts : List Tag) (os : List Object) (n : ℕ) → map (λ t. t.no) ts ≡ numbers os
    → is_there os n ≡ false → cleared_in_at ts n ≡ 0
cleared_in_new ts os n tagged new = cleared_in_none ts n (no_tag ts os n tagged new)

pub link_new : (ts : List Tag) (os : List Object) (n : ℕ) → map (λ t. t.no) ts ≡ numbers os
    → is_there os n ≡ false → link_at ts n ≡ 0
link_new ts os n tagged new = link_none ts n (no_tag ts os n tagged new)

-- a new tag tells nothing
pub cleared_in_more : (ts : List Tag) (m n : ℕ) → cleared_in_at (with_new_tag ts m) n ≡ cleared_in_at ts n
cleared_in_more [] m n = grind arith
cleared_in_more (t ∷ ts) m n = grind (arith, cleared_in_more ts m n)

pub link_more : (ts : List Tag) (m n : ℕ) → link_at (with_new_tag ts m) n ≡ link_at ts n
link_more [] m n = grind arith
link_more (t ∷ ts) m n = grind (arith, link_more ts m n)

-- ---- look-ups

-- one of another number finds what it found
pub object_at_other : (os : List Object) (o : Object) (n : ℕ) → (o.no == n) ≡ false
    → object_at (os ++ o ∷ []) n ≡ object_at os n
object_at_other [] o n other = simp other refl
object_at_other (p ∷ os) o n other = grind (arith, object_at_other os o n)

-- and one of the new number what was made
pub object_at_own : (os : List Object) (o : Object) → is_there os o.no ≡ false → object_at (os ++ o ∷ []) o.no ≡ Some o
object_at_own [] o new = grind arith
object_at_own (p ∷ os) o new = grind (arith, object_at_own os o)

pub references_more : (os : List Object) (o : Object) (ns : List ℕ) → has ns o.no ≡ false
    → references_among (os ++ o ∷ []) ns ≡ references_among os ns
references_more os o [] none = refl
references_more os o (n ∷ ns) none = grind (arith, object_at_other os o n, references_more os o ns)
