-- What lookups in a cleaner's table say.
use Rattle.indexmap.specs.IndexMap.{insert_entry}
use Rattle.std.proofs.Common.{arith, ap, inl, inr}
use Rattle.std.proofs.Common.{◌≡◌, ℕ, Bool, true, false, List, [], ◌∷◌, Option, Some, None, refl}
use Rattle.std.proofs.Common.{nat_eq, is_some, if◌then◌else◌, slice_get}
use Rattle.std.proofs.lemmas.Bool.{cases_Bool}
use Rattle.std.specs.Cmp.{nat_eq_equiv}
use Rattle.std.specs.Map.{lookup}
use Rattle.std.specs.Option.{option_map}
use Rattle.ref_base.specs.declared.fault.Fault.TheVariants.{NoMemory, RegisteredTwice}
use Rattle.ref_queue.specs.CleanTables.{register_refusal, IsRegisterFault, FindsFirst}

module _ {K J : Type 0} (es : List (ℕ × (K × J))) (closed : Bool) where
  -- nothing refuses what is registered in an open table for an object without a job
  pub may_register : (n : ℕ) → closed ≡ false → is_some (lookup (nat_eq n) es) ≡ false
      → register_refusal (record { jobs = es; closed = closed }) n ≡ None
  may_register n is_open free = cc

  -- then want of memory alone does
  pub wants_memory : (n : ℕ) → closed ≡ false → is_some (lookup (nat_eq n) es) ≡ false
      → IsRegisterFault (register_refusal (record { jobs = es; closed = closed }) n) NoMemory
  wants_memory n is_open free = rw (may_register n is_open free) refl

  -- one that has a job keeps it
  pub registered_twice : (n : ℕ) → closed ≡ false → is_some (lookup (nat_eq n) es) ≡ true
      → IsRegisterFault (register_refusal (record { jobs = es; closed = closed }) n) RegisteredTwice
  registered_twice n is_open has_one =
      let first : register_refusal (record { jobs = es; closed = closed }) n ≡ Some RegisteredTwice =
      simp (is_open, has_one) refl in
      rw first refl

module _ {K J : Type 0} (closed : Bool) where
  -- the object of the first entry has a job
  pub finds_first : (es : List (ℕ × (K × J))) (answer : Option ℕ) → answer ≡ option_map (λ e. e.0) (slice_get es 0)
      → FindsFirst (record { jobs = es; closed = closed }) answer
  finds_first [] answer is = rw is refl
  finds_first (e ∷ es) answer is = rw (is, nat_eq_equiv.refl e.0) refl

-- ---- what is put back

-- a value that is put in the place of another, and that one then in its place
pub put_back : {V : Type 0} (n : ℕ) (value : V) (es : List (ℕ × V)) (before : V) → lookup (nat_eq n) es ≡ Some before
    → insert_entry nat_eq (insert_entry nat_eq es n value) n before ≡ es
put_back n value [] before stood = let wrong : None ≡ Some before = stood in absurd cc
put_back n value (e ∷ es) before stood =
    elim (cases_Bool (nat_eq n e.0)) [
      | inl same ↦
          let found : Some e.1 ≡ Some before = simp same at stood in
          let is : before ≡ e.1 = cc in simp same (ap (λ v. (e.0, v) ∷ es) is)
      | inr other ↦ simp other (ap (λ fs. e ∷ fs) (put_back n value es before (simp other at stood)))
    ]

-- ---- what is registered first in the list

-- a choice by whether two numbers are one, whichever is named first
pub either_first : {T : Type 0} (n m : ℕ) (then_so else_so : T)
    → (if nat_eq m n then then_so else else_so) ≡ (if nat_eq n m then then_so else else_so)
either_first n m then_so else_so = grind arith

-- without it, its object has no job where the rest has none, and each other has the job that it had
pub first_out : {V : Type 0} (n : ℕ) (value : V) (rest : List (ℕ × V)) → lookup (nat_eq n) rest ≡ None → (m : ℕ)
    → lookup (nat_eq m) rest ≡ (if nat_eq n m then None else lookup (nat_eq m) ((n, value) ∷ rest))
first_out n value rest none m = grind arith
