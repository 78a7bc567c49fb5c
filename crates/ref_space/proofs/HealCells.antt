-- The fields of one object are healed in its cell, one after the other: meanwhile each word leads where it led.
use Rattle.std.proofs.Common.{◌≡◌, ℕ, zero, suc, ◌+◌, ◌<◌, ◌≤◌, refl, ap, ◌∙◌, arith, List, [], ◌∷◌, ◌++◌}
use Rattle.std.proofs.Common.{map, take, drop}
use Rattle.std.proofs.Common.{length, set, Option, Some, None, is_some, if◌then◌else◌, get_or}
use Rattle.std.specs.Option.{option_map}
use Rattle.ref_base.specs.Heaps.{with_field}
use Rattle.ref_base.specs.CollectorRows.{referent_of}
use Rattle.ref_space.specs.ColouredWords.{place_by}
use Rattle.ref_space.specs.Moves.{forward_of}
use Rattle.ref_space.specs.Places.{cell_at, moved_place, place_if_taken, place_of_word, with_fields_by}
use Rattle.ref_space.specs.Tables.{Tabled, on_object, tabled_fields, tabled_reference, field_held}
use Rattle.ref_space.proofs.Common.{map_over_more}

-- ---- where words lead

some_at : (cells : List (Option Tabled)) (p q : ℕ) (new : Option Tabled) → is_some new ≡ is_some (cell_at cells p)
    → is_some (cell_at (set cells p new) q) ≡ is_some (cell_at cells q)
some_at [] p q new same = refl
some_at (c ∷ cs) zero zero new same = same
some_at (c ∷ cs) zero (suc q) new same = refl
some_at (c ∷ cs) (suc p) zero new same = refl
some_at (c ∷ cs) (suc p) (suc q) new same = some_at cs p q new same

pub place_same : (cells : List (Option Tabled)) (p : ℕ) (new : Option Tabled) (fs : List ℕ)
    → is_some new ≡ is_some (cell_at cells p) → (v : Option ℕ)
    → place_of_word (set cells p new) fs v ≡ place_of_word cells fs v
place_same cells p new fs same v = by (place_by v)
  where
    by : (at : Option ℕ) → place_if_taken (set cells p new) (moved_place (set cells p new) fs at)
        ≡ place_if_taken cells (moved_place cells fs at)
    by None = refl
    by (Some q) =
        ap (λ b. place_if_taken (set cells p new) (Some (if b then q else forward_of fs q)))
        (some_at cells p q new same)
        ∙ at_way (if is_some (cell_at cells q) then q else forward_of fs q)
      where
        at_way : (r : ℕ) → place_if_taken (set cells p new) (Some r) ≡ place_if_taken cells (Some r)
        at_way r = ap (λ b. if b then Some r else None) (some_at cells p r new same)

-- ---- the fields so far

-- the first fields are healed, the others are as they were
abbrev pub partly : (Option ℕ → Option ℕ) → ℕ → Tabled → Tabled
partly h i k = on_object (λ o. record o { fields = map h (take i o.fields) ++ drop i o.fields }) k

pub some_partly : (h : Option ℕ → Option ℕ) (i : ℕ) (c : Option Tabled)
    → is_some (option_map (partly h i) c) ≡ is_some c
some_partly h i None = refl
some_partly h i (Some k) = refl

any_default : (xs : List (Option ℕ)) (i : ℕ) (a b : Option ℕ) → i < length xs → get_or xs i a ≡ get_or xs i b
any_default [] i a b within = absurd (omega arith)
any_default (x ∷ xs) zero a b within = refl
any_default (x ∷ xs) (suc i) a b within = any_default xs i a b (omega arith)

size : (h : Option ℕ → Option ℕ) (xs : List (Option ℕ)) (i : ℕ) → length (map h (take i xs) ++ drop i xs) ≡ length xs
size h [] zero = refl
size h [] (suc i) = refl
size h (x ∷ xs) zero = refl
size h (x ∷ xs) (suc i) = ap suc (size h xs i)

more : (h : Option ℕ → Option ℕ) (xs : List (Option ℕ)) (i : ℕ) (v : Option ℕ) → i < length xs
    → v ≡ get_or (map h (take i xs) ++ drop i xs) i None
    → set (map h (take i xs) ++ drop i xs) i (h v) ≡ map h (take (i + 1) xs) ++ drop (i + 1) xs
more h xs i v within is =
    map_over_more h xs (map h (take i xs) ++ drop i xs) i v within refl
    (is ∙ any_default (map h (take i xs) ++ drop i xs) i None v (let same = size h xs i in omega (arith, within, same)))

pub partly_more : (h : Option ℕ → Option ℕ) (i : ℕ) (c : Option Tabled) (v : Option ℕ)
    → i < length (tabled_fields c)
    → v ≡ get_or (tabled_fields (option_map (partly h i) c)) i None
    → option_map (on_object (with_field i (h v))) (option_map (partly h i) c) ≡ option_map (partly h (i + 1)) c
partly_more h i None v within is = refl
partly_more h i (Some k) v within is =
    ap (λ fs. Some (record k { object = record k.object { fields = fs } })) (more h k.object.fields i v within is)

all_past : (h : Option ℕ → Option ℕ) (xs : List (Option ℕ)) (i : ℕ) → length xs ≤ i
    → map h (take i xs) ++ drop i xs ≡ map h xs
all_past h [] zero past = refl
all_past h [] (suc i) past = refl
all_past h (x ∷ xs) zero past = absurd (omega arith)
all_past h (x ∷ xs) (suc i) past = ap (λ ys. h x ∷ ys) (all_past h xs i (omega arith))

pub partly_past : (h : Option ℕ → Option ℕ) (i : ℕ) (c : Option Tabled) → length (tabled_fields c) ≤ i
    → option_map (partly h i) c ≡ option_map (with_fields_by h) c
partly_past h i None past = refl
partly_past h i (Some k) past =
    ap (λ fs. Some (record k { object = record k.object { fields = fs } })) (all_past h k.object.fields i past)

pub set_twice : (cells : List (Option Tabled)) (p : ℕ) (one other : Option Tabled)
    → set (set cells p one) p other ≡ set cells p other
set_twice [] p one other = refl
set_twice (c ∷ cs) zero one other = refl
set_twice (c ∷ cs) (suc p) one other = ap (λ ds. c ∷ ds) (set_twice cs p one other)

pub at_own : (cells : List (Option Tabled)) (p : ℕ) (one : Option Tabled) → p < length cells
    → cell_at (set cells p one) p ≡ one
at_own [] p one within = absurd (omega arith)
at_own (c ∷ cs) zero one within = refl
at_own (c ∷ cs) (suc p) one within = at_own cs p one (omega arith)

pub read_at : (cells : List (Option Tabled)) (p : ℕ) (read : Option Tabled) → p < length cells
    → read ≡ get_or cells p read → read ≡ cell_at cells p
read_at [] p read within is = absurd (omega arith)
read_at (c ∷ cs) zero read within is = is
read_at (c ∷ cs) (suc p) read within is = read_at cs p read (omega arith) is

pub field_is : (c : Option Tabled) (i : ℕ) → field_held c i ≡ get_or (tabled_fields c) i None
field_is None i = refl
field_is (Some k) i = refl

pub own_read : (cells : List (Option Tabled)) (p : ℕ) → p < length cells
    → cell_at cells p ≡ get_or cells p (cell_at cells p)
own_read [] p within = absurd (omega arith)
own_read (c ∷ cs) zero within = refl
own_read (c ∷ cs) (suc p) within = own_read cs p (omega arith)

pub map_alike : (f g : Option ℕ → Option ℕ) → ((v : Option ℕ) → f v ≡ g v) → (vs : List (Option ℕ))
    → map f vs ≡ map g vs
map_alike f g alike [] = refl
map_alike f g alike (v ∷ vs) = ap (λ w. w ∷ map f vs) (alike v) ∙ ap (λ ws. g v ∷ ws) (map_alike f g alike vs)

pub fields_alike : (g h : Option ℕ → Option ℕ) → ((v : Option ℕ) → g v ≡ h v) → (c : Option Tabled)
    → option_map (with_fields_by g) c ≡ option_map (with_fields_by h) c
fields_alike g h same None = refl
fields_alike g h same (Some k) =
    ap (λ fs. Some (record k { object = record k.object { fields = fs } })) (map_alike g h same k.object.fields)

pub some_fields : (h : Option ℕ → Option ℕ) (c : Option Tabled)
    → is_some (option_map (with_fields_by h) c) ≡ is_some c
some_fields h None = refl
some_fields h (Some k) = refl

pub referent_stays : (h : Option ℕ → Option ℕ) (c : Option Tabled)
    → referent_of (tabled_reference (option_map (with_fields_by h) c)) ≡ referent_of (tabled_reference c)
referent_stays h None = refl
referent_stays h (Some k) = refl
