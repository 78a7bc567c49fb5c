-- Which objects of a table aren't healed, as the list of their numbers, and how a change of the table changes it.
use Rattle.ref_objects.proofs.Common.{◌≡◌, ℕ, zero, suc, true, false, ◌==◌, ◌&&◌, not, refl, sym, arith, List, []}
use Rattle.ref_objects.proofs.Common.{◌∷◌, ◌++◌, replicate, map, from_bool, has, numbers, IsRising, is_there, is_some}
use Rattle.ref_objects.proofs.Common.{Option, Some, None, Tabled, tabled_at, objects_of, changed_tabled, counted_in}
use Rattle.ref_objects.proofs.Common.{without_tabled, with_healed, with_nothing_done, unhealed_of, without_number}
use Rattle.ref_objects.proofs.Common.{nat_lt}
use Rattle.ref_objects.proofs.Common.{false≢true, ◌∙◌, eqb-true}
use Rattle.ref_objects.specs.Grounds.{AllFrom}
use Rattle.ref_space.specs.Tables.{is_healed, is_healed_in, AllDated, has_field, field_held}
use Rattle.ref_space.specs.Naming.{IsWordHeld}
use Rattle.ref_space.proofs.TableReads.{fields-tabled, reference-tabled}
use Rattle.std.specs.Option.{IfSome}
use Rattle.ref_objects.specs.Grounds.{IsWordIn, IsWordOfReferent, is_tuned}
use Rattle.ref_objects.proofs.Common.{Reference, referent_of, tabled_reference}
use Rattle.ref_objects.proofs.Common.{Bool, Colour}
use Rattle.ref_objects.proofs.Common.{Stored, seen_ground, cases_Bool, inl, inr, subst, slice_index_or}
use Rattle.ref_objects.proofs.Common.{marked_of, ◌+◌, ap}
use Rattle.std.proofs.lemmas.Bool.{ne_eqb}
use Rattle.ref_space.proofs.TabledLemmas.{is_there-objects_of}
use Rattle.ref_space.proofs.CountLemmas.{IsRising-tail}
use Rattle.ref_objects.proofs.NumberLemmas.{AllFrom-numbers_by, has-numbers_by}
use Rattle.ref_space.specs.Moves.{Ways}

-- ---- lists of numbers

pub has-without_number : (ns : List ℕ) (n m : ℕ) → has (without_number ns n) m ≡ (has ns m && not (n == m))
has-without_number [] n m = refl
has-without_number (k ∷ ks) n m = grind (arith, eqb-true, has-without_number ks n m)

without_number-from : (ns : List ℕ) (n : ℕ) → AllFrom (suc n) ns → without_number ns n ≡ ns
without_number-from [] n all = refl
without_number-from (m ∷ ms) n all = grind (arith, without_number-from ms n all.1)

without_number-own : (count n : ℕ) (ms : List ℕ) → without_number (replicate count n ++ ms) n ≡ without_number ms n
without_number-own zero n ms = refl
without_number-own (suc count) n ms = grind (arith, without_number-own count n ms)

without_number-past : (count m n : ℕ) (ms : List ℕ) → (m == n) ≡ false
    → without_number (replicate count m ++ ms) n ≡ replicate count m ++ without_number ms n
without_number-past zero m n ms other = refl
without_number-past (suc count) m n ms other = grind (arith, without_number-past count m n ms other)

-- ---- which aren't healed

some_unhealed : (r : ℕ) (k : Option Tabled) → nat_lt 0 (counted_in (λ k. from_bool (not (is_healed r k))) k) ≡ true
    → is_some k ≡ true
some_unhealed r None is = absurd (false≢true is)
some_unhealed r (Some k) is = refl

-- each of them is there
pub unhealed_there : (r : ℕ) (ks : List Tabled) → IsRising (numbers (objects_of ks)) → (n : ℕ)
    → has (unhealed_of r ks) n ≡ true → is_there (objects_of ks) n ≡ true
unhealed_there r ks rising n is =
    is_there-objects_of ks n
    ∙ some_unhealed r (tabled_at ks n) (sym (has-numbers_by (λ k. from_bool (not (is_healed r k))) ks n rising) ∙ is)

-- as a round begins that is each: nothing is healed in the next, nor in one where all is forgotten
pub unhealed_of-next : (r : ℕ) (ks : List Tabled) → AllDated r ks → unhealed_of (r + 1) ks ≡ numbers (objects_of ks)
unhealed_of-next r [] dated = refl
unhealed_of-next r (k ∷ ks) dated =
    let other : (k.healed_in == r + 1) ≡ false = ne_eqb k.healed_in (r + 1) (λ same. omega (arith, dated.1, same)) in
    simp other (ap (λ ns. k.object.no ∷ ns) (unhealed_of-next r ks dated.2))

pub unhealed_of-anew : (ks : List Tabled) → unhealed_of 1 (map with_nothing_done ks) ≡ numbers (objects_of ks)
unhealed_of-anew [] = refl
unhealed_of-anew (k ∷ ks) = ap (λ ns. k.object.no ∷ ns) (unhealed_of-anew ks)

-- nor is anything marked
pub marked_of-next : (r : ℕ) (ks : List Tabled) → AllDated r ks → marked_of (r + 1) ks ≡ []
marked_of-next r [] dated = refl
marked_of-next r (k ∷ ks) dated =
    let other : (k.marked_in == r + 1) ≡ false = ne_eqb k.marked_in (r + 1) (λ same. omega (arith, dated.0, same)) in
    simp other (marked_of-next r ks dated.2)

-- ---- an object is healed, or goes

-- numbers that rise are above the first
above_first : (r : ℕ) (k : Tabled) (ks : List Tabled) → IsRising (numbers (objects_of (k ∷ ks)))
    → without_number (unhealed_of r ks) k.object.no ≡ unhealed_of r ks
above_first r k ks rising =
    without_number-from (unhealed_of r ks) k.object.no
    (AllFrom-numbers_by (λ k. from_bool (not (is_healed r k))) ks (suc k.object.no) k.object.no (omega arith) rising)

pub unhealed_of-healed : (r : ℕ) (ks : List Tabled) (n : ℕ) → IsRising (numbers (objects_of ks))
    → unhealed_of r (changed_tabled ks n (with_healed r)) ≡ without_number (unhealed_of r ks) n
unhealed_of-healed r [] n rising = refl
unhealed_of-healed r (k ∷ ks) n rising =
    grind (
      arith,
      eqb-true,
      above_first r k ks,
      without_number-own,
      without_number-past,
      IsRising-tail,
      unhealed_of-healed r ks n,
    )

pub unhealed_of-without : (r : ℕ) (ks : List Tabled) (n : ℕ) → IsRising (numbers (objects_of ks))
    → unhealed_of r (without_tabled ks n) ≡ without_number (unhealed_of r ks) n
unhealed_of-without r [] n rising = refl
unhealed_of-without r (k ∷ ks) n rising =
    grind (
      arith,
      eqb-true,
      above_first r k ks,
      without_number-own,
      without_number-past,
      IsRising-tail,
      unhealed_of-without r ks n,
    )

-- ---- what a word of an object is told by

-- an object that is there is healed just where it isn't among these
healed_where : (r : ℕ) (k : Option Tabled) → is_some k ≡ true
    → is_healed_in r k ≡ not (nat_lt 0 (counted_in (λ k. from_bool (not (is_healed r k))) k))
healed_where r None there = absurd (false≢true there)
healed_where r (Some k) there =
    elim (cases_Bool (is_healed r k)) [ inl healed ↦ simp healed refl | inr other ↦ simp other refl ]

pub healed-unhealed : (r : ℕ) (ks : List Tabled) (n : ℕ) → IsRising (numbers (objects_of ks))
    → is_some (tabled_at ks n) ≡ true → is_healed_in r (tabled_at ks n) ≡ not (has (unhealed_of r ks) n)
healed-unhealed r ks n rising there =
    healed_where r (tabled_at ks n) there
    ∙ ap not (sym (has-numbers_by (λ k. from_bool (not (is_healed r k))) ks n rising))

field_there : (k : Option Tabled) (i : ℕ) → true ≡ has_field k i → is_some k ≡ true
field_there None i has_it = sym has_it
field_there (Some k) i has_it = refl

-- a word that has to have the good colour may also be one that has to on a condition more
less_held : (good : Colour) (ways : Ways) (cells : List (Option ℕ)) (also has_to : Bool) (value : Option ℕ)
    (bits : ℕ) → IsWordHeld good ways cells has_to value bits
    → IsWordHeld good ways cells (also && has_to) value bits
less_held good ways cells also has_to None bits word = word
less_held good ways cells false has_to (Some n) bits word =
    record {
      colour = word.colour;
      frame = word.frame;
      cell = word.cell;
      parts = word.parts;
      lies = word.lies;
      healed = λ has. absurd (false≢true has);
    }
less_held good ways cells true has_to (Some n) bits word = word

pub word_seen : (s : Stored) → IsRising (numbers (objects_of s.table.tabled)) → (n i : ℕ) (bits : Option ℕ)
    → is_some bits ≡ has_field (tabled_at s.table.tabled n) i
    → IfSome bits (IsWordHeld s.table.round.good s.table.ways s.table.occupants
    (is_healed_in s.table.round.number (tabled_at s.table.tabled n)) (field_held (tabled_at s.table.tabled n) i))
    → IfSome bits (IsWordIn (seen_ground s) n i)
word_seen s rising n i None there word = tt
word_seen s rising n i (Some b) there word =
    let same = healed-unhealed s.table.round.number s.table.tabled n rising (field_there
    (tabled_at s.table.tabled n) i there) in
    less_held s.table.round.good s.table.ways s.table.occupants (is_tuned s.stage) _ _ b
    (subst (λ vs. IsWordHeld s.table.round.good s.table.ways s.table.occupants
    (not (has (unhealed_of s.table.round.number s.table.tabled) n)) (slice_index_or vs i None) b)
    (fields-tabled s.table.tabled n)
    (subst (λ has_to. IsWordHeld s.table.round.good s.table.ways s.table.occupants has_to
    (field_held (tabled_at s.table.tabled n) i) b) same word))

reference_there : (k : Option Tabled) → is_some (tabled_reference k) ≡ true → is_some k ≡ true
reference_there None is = absurd (false≢true is)
reference_there (Some k) is = refl

pub referent_seen : (s : Stored) → IsRising (numbers (objects_of s.table.tabled)) → (n : ℕ) (bits : Option ℕ)
    → is_some bits ≡ is_some (tabled_reference (tabled_at s.table.tabled n))
    → IfSome bits (IsWordHeld s.table.round.good s.table.ways s.table.occupants
    (is_healed_in s.table.round.number (tabled_at s.table.tabled n))
    (referent_of (tabled_reference (tabled_at s.table.tabled n))))
    → IfSome bits (IsWordOfReferent (seen_ground s) n)
referent_seen s rising n None there word = tt
referent_seen s rising n (Some b) there word =
    let same = healed-unhealed s.table.round.number s.table.tabled n rising (reference_there
    (tabled_at s.table.tabled n) (sym there)) in
    less_held s.table.round.good s.table.ways s.table.occupants (is_tuned s.stage) _ _ b
    (subst (λ (r : Option Reference). IsWordHeld s.table.round.good s.table.ways s.table.occupants
    (not (has (unhealed_of s.table.round.number s.table.tabled) n)) (referent_of r) b)
    (reference-tabled s.table.tabled n)
    (subst (λ has_to. IsWordHeld s.table.round.good s.table.ways s.table.occupants has_to
    (referent_of (tabled_reference (tabled_at s.table.tabled n))) b) same word))
