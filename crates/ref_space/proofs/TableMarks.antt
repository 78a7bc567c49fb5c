-- What a table has marked and listed as several objects are marked one by one.
use Rattle.ref_space.proofs.Common.{◌≡◌, ℕ, ◌+◌, ◌<◌, refl, arith, List, [], ◌∷◌, ◌++◌, length}
use Rattle.ref_space.proofs.Common.{take, Option, None, slice_index_or, append-nil}
use Rattle.ref_space.proofs.Common.{if_any, Table}
use Rattle.std.proofs.lemmas.List.{append_assoc, take_more}
use Rattle.ref_space.specs.Tables.{marked_if, anew_if, marked_each, anew_each}

-- ---- one more

pub marked_each-append : (t : Table) (xs ys : List (Option ℕ))
    → marked_each t (xs ++ ys) ≡ marked_each (marked_each t xs) ys
marked_each-append t [] ys = refl
marked_each-append t (x ∷ xs) ys = marked_each-append (marked_if t x) xs ys

pub anew_each-append : (t : Table) (xs ys : List (Option ℕ))
    → anew_each t (xs ++ ys) ≡ anew_each t xs ++ anew_each (marked_each t xs) ys
anew_each-append t [] ys = refl
anew_each-append t (x ∷ xs) ys = grind (arith, append_assoc, anew_each-append (marked_if t x) xs ys)

pub marked_each-more : (t : Table) (held : List (Option ℕ)) (field : ℕ) → field < length held
    → marked_each t (take (field + 1) held)
    ≡ marked_if (marked_each t (take field held)) (slice_index_or held field None)
marked_each-more t held field within = grind (arith, marked_each-append, take_more held field None within)

pub anew_each-more : (t : Table) (held : List (Option ℕ)) (field : ℕ) → field < length held
    → anew_each t (take (field + 1) held)
    ≡ anew_each t (take field held)
    ++ if_any (anew_if (marked_each t (take field held)) (slice_index_or held field None))
anew_each-more t held field within = grind (arith, anew_each-append, append-nil, take_more held field None within)
