-- The listing so far, and the listing of a whole graph text.
use Rattle.ref_script.proofs.Common.{arith, ◌≡◌, ℕ, ◌+◌, ◌<◌, List, [], ◌∷◌, ◌++◌, length, take, get_or, append_assoc}
use Rattle.ref_script.proofs.Common.{◌≤◌}
use Rattle.ref_script.proofs.Common.{le-leb, Graph, DeclaresGraph, lines_of, most_bytes, ObjectReach, listing_text}
use Rattle.ref_script.proofs.Common.{append-nil, take_more}
use Rattle.ref_script.specs.GraphTexts.{DeclareGraph}
use Rattle.ref_script.specs.Listings.{listing_line}

listing_push : (ls : List ObjectReach) (l : ObjectReach)
    → listing_text (ls ++ l ∷ []) ≡ listing_text ls ++ listing_line l
listing_push [] l = append-nil (listing_line l)
listing_push (k ∷ ls) l = search (append_assoc, listing_push ls l)

-- one object more
pub listed_more : (listed : List ObjectReach) (i : ℕ) (next : ObjectReach) (text more : List ℕ)
    → text ≡ listing_text (take i listed) → i < length listed → next ≡ get_or listed i next
    → more ≡ text ++ listing_line next → more ≡ listing_text (take (i + 1) listed)
listed_more listed i next text more text_is within next_is more_is =
    grind (arith, listing_push, take_more listed i next within)

-- ---- the answer

-- a short enough text whose lines declare a graph declares it
pub declares_graph : (text : List ℕ) (g : Graph) → length text ≤ most_bytes → DeclareGraph (lines_of text) g
    → DeclaresGraph text g
declares_graph text g short lines = record { short = le-leb _ _ short; lines = lines }
