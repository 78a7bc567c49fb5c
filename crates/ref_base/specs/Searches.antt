-- What a search through a graph does to the numbers that it has seen, and what it finds.
use Rattle.std.specs.Prelude.{◌≡◌, ℕ, ◌+◌, ◌≤◌, true, if◌then◌else◌, List, [], ◌∷◌, ◌++◌, length, map}
use Rattle.std.specs.Prelude.{take, Option, Some, None}
use Rattle.ref_base.specs.Members.{has}
use Rattle.ref_base.specs.Graphs.{Graph, Object, Reference, object_at, is_there, with_root}
use Rattle.ref_base.specs.Paths.{Allowed, EndsPath, allowed_referent, if_any, is_phantom}
use Rattle.ref_base.specs.Paths.{no_referents, present, soft_referents, soft_and_weak_referents, targets_at}
use Rattle.ref_base.specs.Strengths.{HangsOnPhantom}
use Rattle.ref_base.specs.declared.reach.Reach.{Reach}
use Rattle.ref_base.specs.declared.reach.Reach.TheVariants as reaches
use Rattle.ref_base.specs.declared.reach.ObjectReach.{ObjectReach}

-- the numbers with one more, last, where it is that of an object and isn't among them
abbrev pub with_reached : List Object → List ℕ → ℕ → List ℕ
with_reached os ns n = if is_there os n then with_root ns n else ns

-- the numbers with each of some candidates in turn, as `with_reached` adds it
abbrev pub added_all : List Object → List ℕ → List ℕ → List ℕ
added_all os ns [] = ns
added_all os ns (c ∷ cs) = added_all os (with_reached os ns c) cs

-- how many objects have a number that isn't among ns
abbrev pub unseen : List Object → List ℕ → ℕ
unseen [] ns = 0
unseen (o ∷ os) ns = (if has ns o.no then 0 else 1) + unseen os ns

-- what an object's fields hold
abbrev pub fields_of : Option Object → List ℕ
fields_of None = []
fields_of (Some o) = present o.fields

-- the referent of an object, where a path may go through it
abbrev pub searched_referents : Allowed → Option Object → List ℕ
searched_referents allow None = []
searched_referents allow (Some o) = allowed_referent allow o.reference

-- how far a search has come that has gone on from the first `next` of what it has seen, where it began with the first
-- `closed` of them, whose fields were seen before it began
pub record IsSearched (allow : Allowed) (g : Graph) (seen : List ℕ) (closed next : ℕ) : Type 0 where
  pub sound : (n : ℕ) → has seen n ≡ true → EndsPath allow g n
  pub rooted : (n : ℕ) → is_there g.objects n ≡ true → has g.roots n ≡ true → has seen n ≡ true
  pub within : closed ≤ length seen
  pub fields_seen : (m n : ℕ) → has (take closed seen) m ≡ true → has (fields_of (object_at g.objects m)) n ≡ true
      → is_there g.objects n ≡ true → has seen n ≡ true
  pub gone_on : (m n : ℕ) → has (take next seen) m ≡ true → has (targets_at allow g.objects m) n ≡ true
      → is_there g.objects n ≡ true → has seen n ≡ true

-- the numbers are those at which paths end
pub record ArePathEnds (allow : Allowed) (g : Graph) (ns : List ℕ) : Type 0 where
  pub sound : (n : ℕ) → has ns n ≡ true → EndsPath allow g n
  pub complete : (n : ℕ) → EndsPath allow g n → has ns n ≡ true

-- the referent of an object that is a phantom reference
abbrev pub phantom_referent : Option Reference → List ℕ
phantom_referent None = []
phantom_referent (Some r) = if is_phantom r.strength then if_any r.referent else []

-- the referents of those of some objects that are phantom references
abbrev pub phantom_referent_at : Option Object → List ℕ
phantom_referent_at None = []
phantom_referent_at (Some o) = phantom_referent o.reference

abbrev pub phantom_referents : List Object → List ℕ → List ℕ
phantom_referents os [] = []
phantom_referents os (m ∷ ms) = phantom_referent_at (object_at os m) ++ phantom_referents os ms

-- what a search has found that went on twice, and a pass over all that it found
pub record AreSearched (g : Graph) (strong soft weak hung : List ℕ) : Type 0 where
  pub strong_reached : ArePathEnds no_referents g strong
  pub soft_reached : ArePathEnds soft_referents g soft
  pub weak_reached : ArePathEnds soft_and_weak_referents g weak
  pub hung_sound : (n : ℕ) → has hung n ≡ true → HangsOnPhantom g n
  pub hung_complete : (n : ℕ) → is_there g.objects n ≡ true → HangsOnPhantom g n → has hung n ≡ true

-- the strength of n, read off what was found
abbrev pub found_reach : List ℕ → List ℕ → List ℕ → List ℕ → ℕ → Reach
found_reach strong soft weak hung n =
    if has strong n then reaches.Strong
    else (if has soft n then reaches.Soft
    else (if has weak n then reaches.Weak
    else (if has hung n then reaches.Phantom else reaches.Unreachable)))

-- objects by number with the strengths that are read off what was found
abbrev pub found_reaches : List ℕ → List ℕ → List ℕ → List ℕ → List ℕ → List ObjectReach
found_reaches strong soft weak hung ns =
    map (λ n. record { object = n; reach = found_reach strong soft weak hung n }) ns
