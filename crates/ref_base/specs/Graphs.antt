-- The object graph: which objects there are, what they refer to, and where a program starts from (Java SE 17, package
-- `java.lang.ref`; numbers, stamps and queues are this project's profile).
use Rattle.std.specs.Prelude.{ℕ, Bool, ◌==◌, if◌then◌else◌, nat_lt, is_some, List, [], ◌∷◌, ◌++◌, map, Option, Some}
use Rattle.std.specs.Prelude.{None}
use Rattle.ref_base.specs.Members.{has}
use Rattle.ref_base.specs.declared.strength.Strength.{Strength}

-- what an object has that is a reference: how strongly it holds its referent, the referent or none once it is cleared,
-- the clock at which a soft one was made or last got, and the queue that it is registered with, if any
pub record Reference : Type 0 where
  pub strength : Strength
  pub referent : Option ℕ
  pub stamp : ℕ
  pub queue : Option ℕ

-- an object: its number, its strong fields, each an object's number or null, and, if it is a reference, what that has
pub record Object : Type 0 where
  pub no : ℕ
  pub fields : List (Option ℕ)
  pub reference : Option Reference

-- the objects that there are, by number, and the roots: the numbers that a program reaches by itself
pub record Graph : Type 0 where
  pub objects : List Object
  pub roots : List ℕ

-- no object and no root
abbrev pub empty_graph : Graph
empty_graph = record { objects = []; roots = [] }

-- the object of number n
abbrev pub object_at : List Object → ℕ → Option Object
object_at [] n = None
object_at (o ∷ os) n = if o.no == n then Some o else object_at os n

-- whether there is an object of number n
abbrev pub is_there : List Object → ℕ → Bool
is_there os n = is_some (object_at os n)

-- the numbers of the objects
abbrev pub numbers : List Object → List ℕ
numbers os = map (λ o. o.no) os

-- the objects with one more, in its place by number, unless there is one of its number
abbrev pub with_object : List Object → Object → List Object
with_object [] o = o ∷ []
with_object (p ∷ ps) o =
    if nat_lt o.no p.no then o ∷ p ∷ ps else (if p.no == o.no then p ∷ ps else p ∷ with_object ps o)

-- the roots with one more, last, unless it is one already
abbrev pub with_root : List ℕ → ℕ → List ℕ
with_root ns n = if has ns n then ns else ns ++ n ∷ []

-- a plain object
abbrev pub plain_object : ℕ → List (Option ℕ) → Object
plain_object n fields = record { no = n; fields = fields; reference = None }

-- a reference that was never got and has no queue
abbrev pub reference_object : ℕ → Strength → Option ℕ → List (Option ℕ) → Object
reference_object n strength referent fields = record {
  no = n;
  fields = fields;
  reference = Some (record { strength = strength; referent = referent; stamp = 0; queue = None });
}
