-- What a row makes of names, by what is there and by the next number.
use Rattle.std.proofs.Common.{◌≡◌, ℕ, ◌<◌, ◌^◌, Bool, true, false, List, Option, Some, None, refl, ap}
use Rattle.std.proofs.Common.{arith, nat_lt, if◌then◌else◌, not, ◌||◌}
use Rattle.std.specs.Option.{option_map}
use Rattle.ref_log.specs.NamedRows.{free_name}
use Rattle.ref_log.specs.Names.{Given, MeanAlike, number_named, with_name}

module _ (there : ℕ → Bool) (next : ℕ) (names : List Given) where
  -- what the row makes of the names
  abbrev Later : Option (List ℕ) → List Given
  Later name = with_name (free_name there next names name) next names

  -- it gives no name
  pub names_kept : (name : Option (List ℕ)) → option_map (number_named names) name ≡ None → Later name ≡ names
  names_kept None none = refl
  names_kept (Some name) none = absurd cc

  -- an object that is there has the name
  pub name_in_use : (name : Option (List ℕ)) (n : ℕ) → option_map (number_named names) name ≡ Some n
      → there n ≡ true → Later name ≡ names
  name_in_use None n is used = refl
  name_in_use (Some name) n is used =
      let same : there (number_named names name) ≡ true = cc in simp same refl

  -- numbers are spent
  pub numbers_spent : (name : Option (List ℕ)) → ¬ (next < 2 ^ 32) → Later name ≡ names
  numbers_spent None spent = refl
  numbers_spent (Some name) spent =
      let small : nat_lt next (2 ^ 32) ≡ false = grind arith in
      by (there (number_named names name)) small
    where
      by : (used : Bool) → nat_lt next (2 ^ 32) ≡ false
          → with_name (if used || not (nat_lt next (2 ^ 32)) then None else Some name) next names ≡ names
      by true small = refl
      by false small = rw small refl

  -- the new object has it
  pub name_is_new : (name : Option (List ℕ)) (n : ℕ) → option_map (number_named names) name ≡ Some n
      → there n ≡ false → next < 2 ^ 32 → Later name ≡ with_name name next names
  name_is_new None n is free small = absurd cc
  name_is_new (Some name) n is free small =
      let none : there (number_named names name) ≡ false = cc in
      let left : nat_lt next (2 ^ 32) ≡ true = grind arith in
      simp (none, left) refl

-- the names are the same, so each means the same
pub same_means : (one other : List Given) → one ≡ other → MeanAlike one other
same_means one other is name = ap (λ (given : List Given). number_named given name) is
