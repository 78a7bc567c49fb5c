-- What slots, holds and objects name is there, and isn't condemned: what each call does to that.
use Rattle.ref_objects.proofs.Common.{◌≡◌, ℕ, zero, suc, true, false, not, ◌==◌, ◌&&◌, refl, sym, subst, arith, List}
use Rattle.ref_objects.proofs.Common.{[], ◌∷◌, ◌++◌, map, Option, Some, None, inl, inr, slice_index_or, is_some}
use Rattle.ref_objects.proofs.Common.{cases_Bool, false≢true, eq-eqb, eqb-true, has, Object, Reference, object_at}
use Rattle.ref_objects.proofs.Common.{is_there, one_fewer, unmarked, cleared, with_field, with_reference, with_stamp}
use Rattle.ref_objects.proofs.Common.{present, if_any, forgotten, reference_in, reference_at, changed_at, with_changed}
use Rattle.ref_objects.proofs.Common.{nulls, with_hold, without_hold, referent_of, Ground, NamesSpared, IsClosed}
use Rattle.ref_objects.proofs.Common.{is_spared, named_in, IsSparedIfAny, fields_in, ground_with_heap, ground_marked}
use Rattle.ref_objects.proofs.Common.{marks_begun, with_condemned, after_freeing, ground_looked_at, look_of, made_at}
use Rattle.ref_objects.proofs.Common.{Colour, ground_healed, written, Change, Cut, Stamp, ClearedIn, ClearIn, Link}
use Rattle.ref_objects.proofs.Common.{with_slot_at}
use Rattle.std.proofs.Common.{◌||◌, ◌⊎◌}
use Rattle.ref_base.specs.Heaps.{changed_reference}
use Rattle.ref_objects.specs.Grounds.{with_none_condemned}
use Rattle.ref_base.proofs.HasLaws.{has-left, has-right, has-cases}
use Rattle.ref_base.proofs.OneMore.{has-one_more}
use Rattle.ref_base.proofs.Lookups.{lookup-changed, object_at-push, object_at-pushed, has-present_set, has-present_at}
use Rattle.ref_base.proofs.SeenObjects.{object_at-without, object_at-gone}
use Rattle.ref_base.proofs.Reshaping.{is_there-reshaped}
use Rattle.ref_base.proofs.Forgetting.{forgotten-shape}

-- ---- what is named

-- what a list of values holds, and what is read of a reference, is spared where what they have is
pub spared_some : (g : Ground) (value : Option ℕ) (n : ℕ) → IsSparedIfAny g value → value ≡ Some n
    → is_spared g n ≡ true
spared_some g None n spared is = absurd (cc)
spared_some g (Some m) n spared is = subst (λ (v : Option ℕ). IsSparedIfAny g v) is spared

module _ (g : Ground) (names : NamesSpared g) where
  pub spared_slot : (place : ℕ) (value : Option ℕ) → value ≡ slice_index_or g.heap.slots place None
      → IsSparedIfAny g value
  spared_slot place None is = tt
  spared_slot place (Some n) is =
      names.rooted n (has-left (present g.heap.slots) g.heap.holds n (has-present_at g.heap.slots place n (sym is)))

  pub spared_hold : (n : ℕ) → has g.heap.holds n ≡ true → is_spared g n ≡ true
  spared_hold n held = names.rooted n (has-right (present g.heap.slots) g.heap.holds n held)

  pub spared_field : (m i : ℕ) (value : Option ℕ)
      → value ≡ slice_index_or (fields_in (object_at g.heap.objects m)) i None → IsSparedIfAny g value
  spared_field m i None is = tt
  spared_field m i (Some n) is =
      names.named m n
      (has-left (present (fields_in (object_at g.heap.objects m))) (if_any (referent_of (reference_at g.heap m))) n
      (has-present_at (fields_in (object_at g.heap.objects m)) i n (sym is)))

  pub spared_referent : (m : ℕ) (value : Option ℕ) → referent_of (reference_at g.heap m) ≡ value
      → IsSparedIfAny g value
  spared_referent m None is = tt
  spared_referent m (Some n) is =
      names.named m n
      (has-right (present (fields_in (object_at g.heap.objects m))) (if_any (referent_of (reference_at g.heap m))) n
      (subst (λ (v : Option ℕ). has (if_any v) n ≡ true) (sym is)
      (let own : (n == n) ≡ true = eq-eqb n n refl in simp own refl)))

-- ---- what is written

-- a slot is written
pub names_slot : (g : Ground) (place : ℕ) (value : Option ℕ) → NamesSpared g → IsSparedIfAny g value
    → NamesSpared (with_slot_at g place value)
names_slot g place value names spared = grind (arith, has-cases, has-present_set, has-left, has-right)

-- an object is changed
module _ (g : Ground) (n : ℕ) (f : Object → Object) (number : (o : Object) → (f o).no ≡ o.no) where
  there_changed : (m : ℕ) → is_there (changed_at g.heap.objects n f) m ≡ is_there g.heap.objects m
  there_changed m =
      sym (lookup-changed (λ a b. is_some a ≡ is_some b) g.heap.objects n f number (λ o. refl) (λ o is. refl) m)

  pub names_changed : NamesSpared g
      → ((o : Object) (m : ℕ) → has (named_in (Some (f o))) m ≡ true
      → (has (named_in (Some o)) m ≡ true) ⊎ (is_spared g m ≡ true))
      → NamesSpared (ground_with_heap g (with_changed g.heap n f))
  names_changed names each = record {
    rooted = λ m root. rw (there_changed m) (names.rooted m root);
    named = λ m k by. rw (there_changed k)
        (elim (lookup-changed
        (λ a b. has (named_in b) k ≡ true → (has (named_in a) k ≡ true) ⊎ (is_spared g k ≡ true))
        g.heap.objects n f number (λ o was. inl was) (λ o is now. each o k now) m by) [
          | inl was ↦ names.named m k was
          | inr is ↦ is
        ]);
  }

-- a field is written
pub names_field : (g : Ground) (n i : ℕ) (value : Option ℕ) → NamesSpared g → IsSparedIfAny g value
    → NamesSpared (ground_with_heap g (with_changed g.heap n (with_field i value)))
names_field g n i value names spared = grind (arith, names_changed, has-cases, has-present_set, has-left, has-right)

-- a reference is cleared, or stamped
pub names_cut : (g : Ground) (n : ℕ) → NamesSpared g
    → NamesSpared (ground_with_heap g (with_changed g.heap n (with_reference cleared)))
names_cut g n names = grind (arith, names_changed, has-cases, has-left)

pub names_stamp : (g : Ground) (n stamp : ℕ) → NamesSpared g
    → NamesSpared (ground_with_heap g (with_changed g.heap n (with_reference (with_stamp stamp))))
names_stamp g n stamp names = grind (arith, names_changed)

pub names_written : (g : Ground) (n : ℕ) (change : Change) → NamesSpared g → NamesSpared (written g n change)
names_written g n Cut names = names_cut g n names
names_written g n (Stamp stamp) names = names_stamp g n stamp names
names_written g n (ClearedIn cycle) names = record { rooted = names.rooted; named = names.named }
names_written g n (ClearIn cycle) names =
    let cut = names_cut g n names in record { rooted = cut.rooted; named = cut.named }
names_written g n (Link to) names = record { rooted = names.rooted; named = names.named }

pub names_looked : (g : Ground) (n cycle : ℕ) → NamesSpared g → NamesSpared (ground_looked_at g n cycle)
names_looked g n cycle names =
    elim (cases_Bool (look_of g n).is_cleared) [
      | inl goes ↦ simp goes (names_written g n (ClearIn cycle) names)
      | inr stays ↦ simp stays names
    ]

-- ---- holds

has-fewer : (ns : List ℕ) (n m : ℕ) → has (one_fewer ns n) m ≡ true → has ns m ≡ true
has-fewer [] n m within = within
has-fewer (k ∷ ks) n m within = grind (arith, has-fewer ks n m)

pub names_held : (g : Ground) (n : ℕ) → NamesSpared g → is_spared g n ≡ true
    → NamesSpared (ground_with_heap g (with_hold g.heap n))
names_held g n names spared = grind (arith, has-cases, has-left, has-right, has-one_more)

pub names_unheld : (g : Ground) (n : ℕ) → NamesSpared g → NamesSpared (ground_with_heap g (without_hold g.heap n))
names_unheld g n names = grind (arith, has-cases, has-left, has-right, has-fewer)

-- ---- marks

pub names_marked : (g : Ground) (n : ℕ) → NamesSpared g → NamesSpared (ground_marked g n)
names_marked g n names = grind (arith, has-one_more)

pub names_begun : (g : Ground) (good : Colour) → NamesSpared g → NamesSpared (marks_begun g good)
names_begun g good names = grind arith

pub names_healed : (g : Ground) (n : ℕ) → NamesSpared g → NamesSpared (ground_healed g n)
names_healed g n names = record { rooted = names.rooted; named = names.named }

pub names_none_condemned : (g : Ground) → NamesSpared g → NamesSpared (with_none_condemned g)
names_none_condemned g names = grind arith

-- ---- objects that come and go

pub no_names : (count n : ℕ) → has (present (nulls count)) n ≡ false
no_names zero n = refl
no_names (suc count) n = no_names count n

there_pushed : (os : List Object) (o : Object) (n : ℕ) → is_there (os ++ o ∷ []) n ≡ (is_there os n || (o.no == n))
there_pushed [] o n = grind arith
there_pushed (p ∷ os) o n = grind (arith, there_pushed os o n)

-- a new object is spared, and names nothing but what its referent is
pub names_made : (g : Ground) (place k : ℕ) (r : Option Reference) → NamesSpared g → IsSparedIfAny g (referent_of r)
    → NamesSpared (made_at g place k r)
names_made g place k r names spared = record {
  rooted = λ n root. grind (arith, has-cases, has-present_set, has-left, has-right, goes_on, new);
  named = named_now;
}
  where
    o : Object
    o = record { no = g.next; fields = nulls k; reference = r }

    goes_on : (n : ℕ) → is_spared g n ≡ true → is_spared (made_at g place k r) n ≡ true
    goes_on n is = grind (arith, there_pushed, has-one_more)

    new : is_spared (made_at g place k r) g.next ≡ true
    new = grind (arith, there_pushed, has-one_more)

    of_new : (n : ℕ) → has (present (nulls k) ++ if_any (referent_of r)) n ≡ true → is_spared g n ≡ true
    of_new n now = grind (arith, has-cases, no_names, spared_some g (referent_of r) n spared)

    named_now : (m n : ℕ) → has (named_in (object_at (g.heap.objects ++ o ∷ []) m)) n ≡ true
        → is_spared (made_at g place k r) n ≡ true
    named_now m n by =
        elim (cases_Bool (is_there g.heap.objects m)) [
          | inl there ↦ grind (arith, object_at-push, goes_on)
          | inr absent ↦ grind (arith, object_at-pushed, goes_on, of_new)
        ]

-- an object that goes was condemned: nothing that is left names it
pub names_freed : (g : Ground) (n : ℕ) → NamesSpared g → NamesSpared (after_freeing g n)
names_freed g n names = grind (arith, object_at-without, object_at-gone)

-- ---- what isn't marked is condemned

-- the list of what isn't marked has the objects that aren't marked
pub has-unmarked : (os : List Object) (marked : List ℕ) (n : ℕ)
    → has (unmarked os marked) n ≡ (is_there os n && not (has marked n))
has-unmarked [] marked n = refl
has-unmarked (o ∷ os) marked n = grind (arith, has-unmarked os marked n)

blanked_names : (fields : List (Option ℕ)) (r : Option Reference) (n : ℕ)
    → has (present (map (λ v. None) fields) ++ if_any (referent_of (changed_reference cleared r))) n ≡ false
blanked_names [] None n = refl
blanked_names [] (Some r) n = refl
blanked_names (v ∷ vs) r n = blanked_names vs r n

-- one that is forgotten names nothing
pub blanked_at : (d : List ℕ) (os : List Object) (m n : ℕ) → has d m ≡ true
    → has (named_in (object_at (map (λ o. forgotten d o) os) m)) n ≡ false
blanked_at d [] m n out = refl
blanked_at d (o ∷ os) m n out = grind (arith, blanked_names, eqb-true, blanked_at d os m n out)

-- and another is as it was
pub kept_at : (d : List ℕ) (os : List Object) (m : ℕ) → has d m ≡ false
    → object_at (map (λ o. forgotten d o) os) m ≡ object_at os m
kept_at d [] m kept = refl
kept_at d (o ∷ os) m kept = grind (arith, eqb-true, kept_at d os m kept)

-- one that had no referent has none
pub unreferring_at : (d : List ℕ) (os : List Object) (n : ℕ) → referent_of (reference_in (object_at os n)) ≡ None
    → referent_of (reference_in (object_at (map (λ o. forgotten d o) os) n)) ≡ None
unreferring_at d [] n none = refl
unreferring_at d (o ∷ os) n none = grind (arith, unreferring_at d os n)

pub named_there : (o : Option Object) (n : ℕ) → has (named_in o) n ≡ true → is_some o ≡ true
named_there None n by = absurd (false≢true by)
named_there (Some o) n by = refl

module _ (g : Ground) (names : NamesSpared g) (closed : IsClosed g.heap (has g.marked)) where
  abbrev d : List ℕ
  d = unmarked g.heap.objects g.marked

  -- a marked object that is there is spared
  still_spared : (n : ℕ) → is_there g.heap.objects n ≡ true → has g.marked n ≡ true
      → is_spared (with_condemned g) n ≡ true
  still_spared n there marked = grind (arith, is_there-reshaped, forgotten-shape d)

  named_then : (m n : ℕ) → has (named_in (object_at (map (λ o. forgotten d o) g.heap.objects) m)) n ≡ true
      → is_spared (with_condemned g) n ≡ true
  named_then m n by = grind (arith, blanked_at, has-unmarked, kept_at)

  pub names_condemned : NamesSpared (with_condemned g)
  names_condemned = record {
    rooted = λ n root. still_spared n (let was = names.rooted n root in grind arith) (closed.rooted n root);
    named = named_then;
  }
