-- What a search of a queue's lists has found out where it tells nothing.
use Rattle.refrun.proofs.Common.{arith, ◌≡◌, ℕ, ◌+◌, ◌<◌, nat_eq, ◌==◌, refl, sym, ap, subst, ◌∙◌, Bool, true, false}
use Rattle.refrun.proofs.Common.{◌||◌, Option, Some, None, IfNone, inl, inr, List, [], ◌∷◌, ◌++◌, length, get_or, take}
use Rattle.refrun.proofs.Common.{drop, map, flat_map, append_assoc, append-nil, true≢false, take_more, take-append-drop}
use Rattle.refrun.proofs.Common.{IsDistinct-push, nat_eq_equiv, AllByRecursion, Contains, list_any, has, GivesEachOnce}
use Rattle.std.proofs.lemmas.Grind.{flat_map-append}
use Rattle.std.proofs.lemmas.Map.Views.{list_any-from_Contains}
use Rattle.std.specs.List.{IsDistinct}
use Rattle.ref_base.proofs.HasLaws.{has-list_any, has-first, has-left, has-right, has-cases, has-single, has-append}
use Rattle.refrun.proofs.ListChecks.{one_more, concat-flat_map}

pub if_none : {T P Q : Type 0} → (P → Q) → (o : Option T) → IfNone o P → IfNone o Q
if_none so None p = so p
if_none so (Some x) p = tt

-- a search for a number, from the other side
pub has-any : (ns : List ℕ) (n : ℕ) → has ns n ≡ list_any (λ y. nat_eq y n) ns
has-any [] n = refl
has-any (m ∷ ns) n = ap (λ b. (m == n) || b) (has-any ns n)

-- what stands in a list is found by the search
pub contained : (ns : List ℕ) (n : ℕ) → Contains ns n → has ns n ≡ true
contained ns n stands = has-list_any ns n ∙ list_any-from_Contains nat_eq_equiv n ns stands

pub none_distinct : IsDistinct nat_eq []
unfolding IsDistinct
none_distinct = tt

both_false : (a b : Bool) → a ≡ false → b ≡ false → (a || b) ≡ false
both_false true b first second = first
both_false false b first second = second

-- one more number of a list was looked at
module _ (ns : List ℕ) (i n : ℕ) (within : i < length ns) (at : n ≡ get_or ns i n) where
  pub next_distinct : IsDistinct nat_eq (take i ns) → has (take i ns) n ≡ false → IsDistinct nat_eq (take (i + 1) ns)
  next_distinct once new =
      subst (IsDistinct nat_eq) (sym (one_more ns i n within at))
      (IsDistinct-push nat_eq_equiv (take i ns) n once (sym (has-list_any (take i ns) n) ∙ new))

  pub next_lacks : (m : ℕ) → has (take i ns) m ≡ false → (n == m) ≡ false → has (take (i + 1) ns) m ≡ false
  next_lacks m none other =
      ap (λ l. has l m) (one_more ns i n within at) ∙ has-append (take i ns) (n ∷ []) m
      ∙ both_false (has (take i ns) m) ((n == m) || false) none (both_false (n == m) false other refl)

  pub next_of_all : (P : ℕ → Type 0) → ((m : ℕ) → has (take i ns) m ≡ true → P m) → P n
      → (m : ℕ) → has (take (i + 1) ns) m ≡ true → P m
  next_of_all P so_far this m there =
      elim (has-cases (take i ns) (n ∷ []) m (sym (ap (λ l. has l m) (one_more ns i n within at)) ∙ there)) [
        | inl before ↦ so_far m before
        | inr last ↦ subst P (has-single n m last) this
      ]

-- two lists without a number in common
apart : (y : ℕ) (ys : List ℕ) → AllByRecursion (λ z. nat_eq y z ≡ false) ys → (n : ℕ) → has ys n ≡ true
    → (y == n) ≡ false
apart y [] all n there = absurd (true≢false (sym there))
apart y (z ∷ ys) all n there = grind (arith, apart y ys all.1 n)

distinct-append : (xs ys : List ℕ) → IsDistinct nat_eq xs → IsDistinct nat_eq ys
    → ((n : ℕ) → has ys n ≡ true → has xs n ≡ false) → IsDistinct nat_eq (xs ++ ys)
unfolding IsDistinct
distinct-append xs [] first second none = subst (IsDistinct nat_eq) (sym (append-nil xs)) first
distinct-append xs (y ∷ ys) first second none =
    subst (IsDistinct nat_eq) (append_assoc xs (y ∷ []) ys)
    (distinct-append (xs ++ y ∷ []) ys
    (IsDistinct-push nat_eq_equiv xs y first (sym (has-list_any xs y) ∙ none y (has_head y ys)))
    second.1
    (λ n there. has-append xs (y ∷ []) n
    ∙ both_false (has xs n) ((y == n) || false) (none n (has_tail y ys n there))
    (both_false (y == n) false (apart y ys second.0 n there) refl)))
  where
    has_head : (y : ℕ) (ys : List ℕ) → has (y ∷ ys) y ≡ true
    has_head y ys = has-first y ys

    has_tail : (y : ℕ) (ys : List ℕ) (n : ℕ) → has ys n ≡ true → has (y ∷ ys) n ≡ true
    has_tail y ys n there = has-right (y ∷ []) ys n there

-- one more list was looked at
module _ {X : Type 0} (numbers : X → List ℕ) (xs : List X) where
  module _ (i : ℕ) (x : X) (ns : List ℕ) (within : i < length xs) (is_x : x ≡ get_or xs i x)
      (are : ns ≡ numbers x) where
    pub next_list : flat_map numbers (take (i + 1) xs) ≡ flat_map numbers (take i xs) ++ ns
    next_list =
        ap (flat_map numbers) (take_more xs i x within ∙ ap (λ (y : X). take i xs ++ y ∷ []) (sym is_x))
        ∙ flat_map-append numbers (take i xs) (x ∷ [])
        ∙ ap (λ l. flat_map numbers (take i xs) ++ l) (append-nil (numbers x) ∙ sym are)

    pub next_list_of_all : (P : ℕ → Type 0) → ((m : ℕ) → has (flat_map numbers (take i xs)) m ≡ true → P m)
        → ((m : ℕ) → has ns m ≡ true → P m) → (m : ℕ) → has (flat_map numbers (take (i + 1) xs)) m ≡ true → P m
    next_list_of_all P so_far these m there = grind (arith, has-cases, next_list)

    pub next_list_distinct : IsDistinct nat_eq (flat_map numbers (take i xs)) → IsDistinct nat_eq ns
        → ((n : ℕ) → has ns n ≡ true → has (flat_map numbers (take i xs)) n ≡ false)
        → IsDistinct nat_eq (flat_map numbers (take (i + 1) xs))
    next_list_distinct first second none =
        subst (IsDistinct nat_eq) (sym next_list) (distinct-append (flat_map numbers (take i xs)) ns first second none)

    pub next_list_lacks : (m : ℕ) → has (flat_map numbers (take i xs)) m ≡ false → has ns m ≡ false
        → has (flat_map numbers (take (i + 1) xs)) m ≡ false
    next_list_lacks m before here = search (next_list, has-append, both_false)

    -- a number of one list is given
    pub is_given : (m : ℕ) → has ns m ≡ true → has (flat_map numbers xs) m ≡ true
    is_given m here =
        ap (λ l. has l m)
        (ap (flat_map numbers) (sym (take-append-drop (i + 1) xs))
        ∙ flat_map-append numbers (take (i + 1) xs) (drop (i + 1) xs))
        ∙ has-left (flat_map numbers (take (i + 1) xs)) (flat_map numbers (drop (i + 1) xs)) m
        (ap (λ l. has l m) next_list ∙ has-right (flat_map numbers (take i xs)) ns m here)

  same_truth : (a b : Bool) → (a ≡ true → b ≡ true) → (b ≡ true → a ≡ true) → a ≡ b
  same_truth true b there back = sym (there refl)
  same_truth false true there back = back refl
  same_truth false false there back = refl

  -- no number is given twice, each was taken, and each that was taken is given
  pub each_once : (taken : List ℕ) → IsDistinct nat_eq (flat_map numbers xs)
      → ((n : ℕ) → has (flat_map numbers xs) n ≡ true → has taken n ≡ true)
      → ((n : ℕ) → has taken n ≡ true → has (flat_map numbers xs) n ≡ true)
      → GivesEachOnce taken (map numbers xs)
  each_once taken once given all = search (concat-flat_map, same_truth)
