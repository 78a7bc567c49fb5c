-- What stored objects are, whose fields stand in one list of all fields.
use Rattle.ref_base.proofs.Common.{◌≡◌, ℕ, ◌+◌, ◌≤◌, Bool, nat_eq, refl, sym, ap, ◌∙◌, arith, List, [], ◌∷◌}
use Rattle.ref_base.proofs.Common.{◌++◌, Option, Some, None, is_some, length, take, drop, lookup, object_at, is_there}
use Rattle.ref_base.proofs.Common.{numbers, with_object, map-append, cases_Bool, inl, inr, has, get_or}
use Rattle.ref_base.proofs.Common.{position, zero, suc, IsRising}
use Rattle.std.proofs.lemmas.List.{take-append-le, drop-append-le, drop_at, take_all, length-drop}
use Rattle.std.specs.List.{zip}
use Rattle.std.specs.Option.{option_map}
use Rattle.ref_graph.specs.GraphViews.{HaveFieldsWithin, held_at, held_in, linked_reference, objects_in, stored_object}
use Rattle.ref_graph.specs.declared.stored.Stored.{Stored}
use Rattle.ref_graph.proofs.NumberPlaceLemmas.{is_some-position}
use Rattle.ref_graph.proofs.StoreLaws.{is_some-option_map, is_there-objects_in, object_at-objects_in}
use Rattle.ref_graph.proofs.StoreLaws.{rising-objects_in, stored-last}
use Rattle.ref_base.proofs.Lookups.{is_there-has}
use Rattle.ref_base.proofs.RisingLists.{rising-same}

lookup-held_in : (all : List (Option ℕ)) (test : ℕ → Bool) (es : List (ℕ × Stored))
    → lookup test (held_in all es) ≡ option_map (held_at all) (lookup test es)
lookup-held_in all test [] = refl
lookup-held_in all test (e ∷ es) =
    elim (cases_Bool (test e.0)) [ inl is ↦ simp is refl | inr other ↦ simp other (lookup-held_in all test es) ]

-- ---- look-ups

option_map-twice : {X Y Z : Type 0} (f : Y → Z) (g : X → Y) (o : Option X)
    → option_map f (option_map g o) ≡ option_map (λ x. f (g x)) o
option_map-twice f g None = refl
option_map-twice f g (Some x) = refl

-- a look-up of the map is one of the objects
pub object_at-stored : (all : List (Option ℕ)) (es : List (ℕ × Stored)) (n : ℕ)
    → object_at (objects_in (held_in all es)) n
    ≡ option_map (λ s. stored_object (n, held_at all s)) (lookup (nat_eq n) es)
object_at-stored all es n =
    object_at-objects_in (held_in all es) n
    ∙ ap (option_map (λ h. stored_object (n, h))) (lookup-held_in all (nat_eq n) es)
    ∙ option_map-twice (λ h. stored_object (n, h)) (held_at all) (lookup (nat_eq n) es)

-- whether the map has a number is whether an object of it is there
pub is_there-stored : (all : List (Option ℕ)) (es : List (ℕ × Stored)) (n : ℕ)
    → is_some (lookup (nat_eq n) es) ≡ is_there (objects_in (held_in all es)) n
is_there-stored all es n =
    sym (is_some-option_map (held_at all) (lookup (nat_eq n) es))
    ∙ ap is_some (sym (lookup-held_in all (nat_eq n) es))
    ∙ is_there-objects_in (held_in all es) n

-- the fields of what is looked up stand where those of all do
pub within-lookup : (n : ℕ) (test : ℕ → Bool) (es : List (ℕ × Stored)) (s : Stored) → HaveFieldsWithin n es
    → lookup test es ≡ Some s → s.start + s.count ≤ n
within-lookup n test [] s within found = grind arith
within-lookup n test (e ∷ es) s within found = grind (arith, within-lookup n test es s)

-- ---- one object more

-- more fields, put behind all others, change none of them
held_at-more : (all more : List (Option ℕ)) (s : Stored) → s.start + s.count ≤ length all
    → held_at (all ++ more) s ≡ held_at all s
held_at-more all more s within =
    ap (λ fields. record { fields = fields; link = s.link })
    (ap (take s.count) (drop-append-le s.start all more (omega arith))
    ∙ take-append-le s.count (drop s.start all) more (omega (arith, length-drop s.start all)))

held_in-more : (all more : List (Option ℕ)) (es : List (ℕ × Stored)) → HaveFieldsWithin (length all) es
    → held_in (all ++ more) es ≡ held_in all es
held_in-more all more [] within = refl
held_in-more all more (e ∷ es) within =
    rw (held_at-more all more e.1 within.0, held_in-more all more es within.1) refl

-- the fields that were put behind all others are those of the object whose fields begin there
held_at-last : (all fields : List (Option ℕ)) (s : Stored) → s.start ≡ length all → s.count ≡ length fields
    → held_at (all ++ fields) s ≡ record { fields = fields; link = s.link }
held_at-last all fields s start count =
    ap (λ found. record { fields = found; link = s.link })
    (ap (take s.count) (drop_at all fields s.start (sym start)) ∙ take_all s.count fields (omega arith))

-- an object that is stored last, and its fields behind all others, comes to its place
pub objects_in-added : (all fields : List (Option ℕ)) (es : List (ℕ × Stored)) (n : ℕ) (s : Stored)
    → HaveFieldsWithin (length all) es → s.start ≡ length all → s.count ≡ length fields
    → objects_in (held_in (all ++ fields) (es ++ (n, s) ∷ []))
    ≡ with_object (objects_in (held_in all es))
    (record { no = n; fields = fields; reference = linked_reference s.link })
objects_in-added all fields es n s within start count =
    ap objects_in (map-append (λ e. (e.0, held_at (all ++ fields) e.1)) es ((n, s) ∷ []))
    ∙ stored-last (held_in (all ++ fields) es) (n, held_at (all ++ fields) s)
    ∙ ap (λ hs. with_object (objects_in hs) (stored_object (n, held_at (all ++ fields) s)))
    (held_in-more all fields es within)
    ∙ ap (λ h. with_object (objects_in (held_in all es)) (stored_object (n, h)))
    (held_at-last all fields s start count)

-- all of them have their fields among all fields still
pub within-added : (m n : ℕ) (es : List (ℕ × Stored)) (e : ℕ × Stored) → m ≤ n → HaveFieldsWithin m es
    → e.1.start + e.1.count ≤ n → HaveFieldsWithin n (es ++ e ∷ [])
within-added m n [] e more within last = (last, tt)
within-added m n (d ∷ es) e more within last =
    (omega (arith, within.0), within-added m n es e more within.1 last)

-- ---- numbers beside what is stored of their objects

-- a number has a place where its object is stored
has-zip : (ns : List ℕ) (ss : List Stored) (n : ℕ) → length ns ≡ length ss
    → is_some (lookup (nat_eq n) (zip ns ss)) ≡ has ns n
has-zip [] ss n same = refl
has-zip (m ∷ ns) [] n same = grind arith
has-zip (m ∷ ns) (s ∷ ss) n same = grind (arith, has-zip ns ss n)

-- whether a number came is whether an object of it is there
pub is_there-zip : (all : List (Option ℕ)) (ns : List ℕ) (ss : List Stored) (n : ℕ) → length ns ≡ length ss
    → has ns n ≡ is_there (objects_in (held_in all (zip ns ss))) n
is_there-zip all ns ss n same = sym (has-zip ns ss n same) ∙ is_there-stored all (zip ns ss) n

-- what is stored of a number's object stands where the number does
pub lookup-zip : (ns : List ℕ) (ss : List Stored) (n place : ℕ) (d : Stored) → length ns ≡ length ss
    → position (nat_eq n) ns ≡ Some place → lookup (nat_eq n) (zip ns ss) ≡ Some (get_or ss place d)
lookup-zip [] ss n place d same at = grind arith
lookup-zip (m ∷ ns) [] n place d same at = grind arith
lookup-zip (m ∷ ns) (s ∷ ss) n zero d same at = grind arith
lookup-zip (m ∷ ns) (s ∷ ss) n (suc place) d same at = grind (arith, lookup-zip ns ss n place d)

-- and nothing is stored of a number that has no place
pub lookup-zip-none : (ns : List ℕ) (ss : List Stored) (n : ℕ) → length ns ≡ length ss
    → position (nat_eq n) ns ≡ None → lookup (nat_eq n) (zip ns ss) ≡ None
lookup-zip-none ns ss n same none = grind (arith, has-zip ns ss n, is_some-position ns n)

-- one number more, and what is stored of its object
pub zip-push : (ns : List ℕ) (ss : List Stored) (n : ℕ) (s : Stored) → length ns ≡ length ss
    → zip (ns ++ n ∷ []) (ss ++ s ∷ []) ≡ zip ns ss ++ (n, s) ∷ []
zip-push [] [] n s same = refl
zip-push [] (t ∷ ss) n s same = grind arith
zip-push (m ∷ ns) [] n s same = grind arith
zip-push (m ∷ ns) (t ∷ ss) n s same = ap (λ es. (m, t) ∷ es) (zip-push ns ss n s (omega (arith, same)))

-- ---- the numbers by size

-- the numbers, where they rise, are those of the objects
pub numbers_from_rising : (all : List (Option ℕ)) (ms : List ℕ) (ss : List Stored) (ns : List ℕ)
    → length ms ≡ length ss → IsRising ns → ((n : ℕ) → has ns n ≡ has ms n)
    → ns ≡ numbers (objects_in (held_in all (zip ms ss)))
numbers_from_rising all ms ss ns same rising came =
    let es = held_in all (zip ms ss) in
    rising-same ns (numbers (objects_in es)) rising (rising-objects_in es)
    (λ n. came n ∙ is_there-zip all ms ss n same ∙ is_there-has (objects_in es) n)
