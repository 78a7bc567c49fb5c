-- The lists of pending references as they are seen: one of them is read, or replaced.
use Rattle.ref_clear.proofs.Common.{◌≡◌, ℕ, ◌<◌, ◌==◌, refl, sym, ap, subst, ◌∙◌, arith, zero, suc, true, List, [], ◌∷◌}
use Rattle.ref_clear.proofs.Common.{length, map, get_or, set, Option, Some, None, ◌⊎◌, inr, or_left, or_right, eq-eqb}
use Rattle.ref_clear.proofs.Common.{length-map, map-set, get_or-map, option_map, IsSome, has, Object, reference_at}
use Rattle.ref_clear.proofs.Common.{registered_in, Pending, pending_numbers, joined, Config, CycleHeap, ClearHeap}
use Rattle.ref_clear.proofs.Common.{pending_at, pending_in, pendings_in, pending_lists_of, seen_lists, pending_from}
use Rattle.ref_clear.proofs.Common.{AreSoundLists, Tag, listed_at}
use Rattle.std.proofs.lemmas.List.{get_or_read}
use Rattle.ref_base.proofs.HasLaws.{has-left, has-right, has-cases}
use Rattle.ref_clear.proofs.TakenLists.{numbers_in}

-- ---- what is told of numbers

module _ (os : List Object) (ts : List Tag) where
  pub numbers_in-pendings : (ns : List ℕ) → numbers_in (pendings_in os ts ns) ≡ ns
  numbers_in-pendings [] = refl
  numbers_in-pendings (n ∷ ns) = ap (λ ms. n ∷ ms) (numbers_in-pendings ns)

  -- the pending references are those whose numbers stand in the lists
  pub pending_numbers-seen : (ls : List (List ℕ))
      → pending_numbers (pending_lists_of os ts ls) ≡ joined ls
  pending_numbers-seen [] = refl
  pending_numbers-seen (l ∷ ls) = search (numbers_in-pendings, pending_numbers-seen ls)

  -- one is told of the number at its place
  pub told_at : (ns : List ℕ) (place : ℕ)
      → pending_from (pendings_in os ts ns) place ≡ option_map (pending_in os ts) (listed_at ns place)
  told_at [] zero = refl
  told_at [] (suc place) = refl
  told_at (n ∷ ns) zero = refl
  told_at (n ∷ ns) (suc place) = told_at ns place

  -- ---- what is seen of the lists

  lists_of-map : (ls : List (List ℕ)) → pending_lists_of os ts ls ≡ map (λ l. pendings_in os ts l) ls
  lists_of-map [] = refl
  lists_of-map (l ∷ ls) = ap (λ pss. pendings_in os ts l ∷ pss) (lists_of-map ls)

  pub length-lists_of : (ls : List (List ℕ)) → length (pending_lists_of os ts ls) ≡ length ls
  length-lists_of ls =
      ap length (lists_of-map ls) ∙ length-map ls (λ (l : List ℕ). pendings_in os ts l)

  -- one is replaced
  pub lists_of-set : (ls : List (List ℕ)) (w : ℕ) (l : List ℕ)
      → pending_lists_of os ts (set ls w l) ≡ set (pending_lists_of os ts ls) w (pendings_in os ts l)
  lists_of-set ls w l = search (lists_of-map, map-set)

  -- one is read
  list_read : (ls : List (List ℕ)) (w : ℕ) (l : List ℕ) → w < length ls → l ≡ get_or ls w l
      → pendings_in os ts l ≡ get_or (pending_lists_of os ts ls) w []
  list_read ls w l within is =
      ap (λ (m : List ℕ). pendings_in os ts m) (get_or_read ls w l within is [])
      ∙ sym (get_or-map (λ (m : List ℕ). pendings_in os ts m) ls w [])
      ∙ ap (λ (pss : List (List Pending)). get_or pss w []) (sym (lists_of-map ls))

  -- of a worker that isn't there nothing is pending
  lists_of-past : (ls : List (List ℕ)) (w : ℕ) → (w < length ls → ⊥) → get_or (pending_lists_of os ts ls) w [] ≡ []
  lists_of-past [] w past = refl
  lists_of-past (m ∷ ls) zero past = absurd (past (omega arith))
  lists_of-past (m ∷ ls) (suc w) past = lists_of-past ls w (λ within. past (omega (arith, within)))

pub pending_at-seen : (k : CycleHeap) (ls : List (List ℕ)) (w : ℕ) (l : List ℕ) → w < length ls
    → l ≡ get_or ls w l → pendings_in k.heap.objects k.tags l ≡ pending_at (seen_lists k ls) w
pending_at-seen k ls w l within is = list_read k.heap.objects k.tags ls w l within is

-- what is told of the number that is read at a place
pub told_as_seen : (k : CycleHeap) (ls : List (List ℕ)) (w place : ℕ) {l : List ℕ} {read other : Option ℕ}
    → w < length ls → l ≡ get_or ls w l → read ≡ listed_at l place → read ≡ other
    → pending_from (pending_at (seen_lists k ls) w) place ≡ option_map (pending_in k.heap.objects k.tags) other
told_as_seen k ls w place {l} within is reads same =
    search (pending_at-seen k ls w l within is, told_at k.heap.objects k.tags l place)

from_nothing : (place : ℕ) → pending_from [] place ≡ None
from_nothing zero = refl
from_nothing (suc place) = refl

pub none_past : (k : CycleHeap) (ls : List (List ℕ)) (w place : ℕ) → (w < length ls → ⊥)
    → pending_from (pending_at (seen_lists k ls) w) place ≡ None
none_past k ls w place past = search (lists_of-past, from_nothing)

-- ---- the numbers in the lists

-- one that is listed stands in the list
has-listed : (ns : List ℕ) (place n : ℕ) → listed_at ns place ≡ Some n → has ns n ≡ true
has-listed [] zero n is = absurd (let wrong : None ≡ Some n = is in cc)
has-listed [] (suc place) n is = absurd (let wrong : None ≡ Some n = is in cc)
has-listed (m ∷ ns) zero n is =
    let same : Some m ≡ Some n = is in or_left (m == n) (has ns n) (eq-eqb m n (let e : m ≡ n = cc in e))
has-listed (m ∷ ns) (suc place) n is = or_right (m == n) (has ns n) (has-listed ns place n is)

-- and what stands in one stands in them
pub has-list : (ls : List (List ℕ)) (w : ℕ) (l : List ℕ) (n : ℕ) → w < length ls → l ≡ get_or ls w l
    → has l n ≡ true → has (joined ls) n ≡ true
has-list [] w l n within is stands = absurd (omega (arith, within))
has-list (m ∷ ls) zero l n within is stands =
    has-left m (joined ls) n (subst (λ (i : List ℕ). has i n ≡ true) is stands)
has-list (m ∷ ls) (suc w) l n within is stands =
    has-right m (joined ls) n (has-list ls w l n (omega (arith, within)) is stands)

-- where one is replaced, what stands in them did before, or is new in that one
pub has-replaced : (P : ℕ → Type 0) (ls : List (List ℕ)) (w : ℕ) (l m : List ℕ) → l ≡ get_or ls w l
    → ((n : ℕ) → has m n ≡ true → P n ⊎ (has l n ≡ true)) → (n : ℕ)
    → has (joined (set ls w m)) n ≡ true → P n ⊎ (has (joined ls) n ≡ true)
has-replaced P [] w l m is each n stands = inr stands
has-replaced P (i ∷ ls) zero l m is each n stands = grind (arith, has-cases, has-left, has-right)
has-replaced P (i ∷ ls) (suc w) l m is each n stands =
    grind (arith, has-cases, has-left, has-right, has-replaced P ls w l m is each n)

-- ---- a worker of a heap

module _ {k : CycleHeap} {lists : List (List ℕ)} {condemned : List ℕ} (w : ℕ)
    (sound : AreSoundLists k lists condemned) where
  -- a worker, by the configuration that is read
  pub worker_within : {now : ClearHeap} {config : Config} → seen_lists k lists ≡ now → config ≡ now.mark.heap.config
      → w < config.workers → w < k.heap.config.workers
  worker_within same is within = grind arith

  -- what stands at a place of a worker's list is registered with a queue
  pub listed_registered : {l : List ℕ} {read : Option ℕ} (place n : ℕ) → w < length lists → l ≡ get_or lists w l
      → read ≡ listed_at l place → read ≡ Some n → IsSome (registered_in (reference_at k.heap n))
  listed_registered {l} place n within is reads same = grind (arith, has-list, has-listed)

  module _ (within : w < k.heap.config.workers) where
    pub worker_has_list : w < length lists
    worker_has_list = grind (arith, length-lists_of)

    -- what stands in the list that is read
    pub stands_as_seen : {l : List ℕ} → l ≡ get_or lists w l
        → pendings_in k.heap.objects k.tags l ≡ pending_at (seen_lists k lists) w
    stands_as_seen {l} is = pending_at-seen k lists w l worker_has_list is

    -- the first of it, as its number is read
    pub first_as_seen : {l : List ℕ} {first other : Option ℕ} → l ≡ get_or lists w l
        → first ≡ listed_at l 0 → first ≡ other
        → pending_from (pending_at (seen_lists k lists) w) 0 ≡ option_map (pending_in k.heap.objects k.tags) other
    first_as_seen is reads same = told_as_seen k lists w 0 worker_has_list is reads same
