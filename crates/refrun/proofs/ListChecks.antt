-- What the checks of a queue's lists find out, number by number.
use Rattle.refrun.proofs.Common.{◌≡◌, ℕ, ◌+◌, ◌<◌, ◌≤◌, zero, suc, nat_eq, ◌==◌, arith, refl, sym, ap, subst, ◌∙◌, Bool}
use Rattle.refrun.proofs.Common.{true, false, not, ◌&&◌, ◌||◌, inl, inr, List, [], ◌∷◌, ◌++◌, length, get_or, take}
use Rattle.refrun.proofs.Common.{drop, map, flat_map, append_assoc, true≢false, ne_eqb, take-append-drop, take_all}
use Rattle.refrun.proofs.Common.{take_more, length-map, IsDistinct-push, bytes_eq-Decides, All, AllByRecursion}
use Rattle.refrun.proofs.Common.{list_any, nat_eq_equiv, has, is_subsequence, TookInOrder, GivesEachOnce}
use Rattle.std.proofs.Common.{cond, IsTrue, ◌↔◌}
use Rattle.std.proofs.lemmas.Bool.{or_cases}
use Rattle.std.proofs.lemmas.List.{drop_all, get_or-map}
use Rattle.std.proofs.lemmas.List.Elements.{All-map}
use Rattle.std.proofs.Math.Seq.{drop-cons}
use Rattle.std.specs.List.{IsDistinct, concat}
use Rattle.std.specs.Cmp.Lexicographic.{pointwise}
use Rattle.ref_base.proofs.HasLaws.{has-list_any, has-right, has-cases, has-single, has-append}

-- what a test says of the fact that it decides
pub passes : {P : Type 0} {b : Bool} → (IsTrue b ↔ P) → b ≡ true → P
passes decides holds = decides.0 holds

pub fails : {P : Type 0} {b : Bool} → (IsTrue b ↔ P) → b ≡ false → ¬ P
fails decides failed p = true≢false (sym (decides.1 p) ∙ failed)

pub not_so : {P : Type 0} → ¬ P → IsTrue false ↔ P
not_so wrong = (λ holds. absurd (true≢false (sym holds)), λ p. absurd (wrong p))

same_of_nots : (a b : Bool) → not a ≡ not b → a ≡ b
same_of_nots true true same = refl
same_of_nots true false same = sym same
same_of_nots false true same = sym same
same_of_nots false false same = refl

-- no number is left of a list where the end of the other is reached
pub end_reached : (rest enqueued : List ℕ) (i : ℕ) → length enqueued ≤ i
    → is_subsequence rest (drop i enqueued) ≡ (length rest == 0)
end_reached [] enqueued i past = refl
end_reached (m ∷ rest) enqueued i past = grind (arith, drop_all)

-- what holds of each number of a list holds of the one at a place
at_place : (P : ℕ → Type 0) (xs ys : List ℕ) (y : ℕ) → AllByRecursion P (xs ++ y ∷ ys) → P y
at_place P [] ys y all = all.0
at_place P (x ∷ xs) ys y all = at_place P xs ys y all.1

-- a number stands twice in a list that goes on with it after it was there
not_once : (given more : List ℕ) (n : ℕ) → has given n ≡ true → ¬ IsDistinct nat_eq (given ++ n ∷ more)
unfolding IsDistinct
not_once [] more n there once = true≢false (sym there)
not_once (m ∷ given) more n there once =
    elim (or_cases (m == n) (has given n) there) [
      | inl same ↦ true≢false (sym same ∙ at_place (λ y. nat_eq m y ≡ false) given more n once.0)
      | inr later ↦ not_once given more n later once.1
    ]

-- one more of a list, and what comes behind
pub one_more : (ns : List ℕ) (i n : ℕ) → i < length ns → n ≡ get_or ns i n → take (i + 1) ns ≡ take i ns ++ n ∷ []
one_more ns i n within at = take_more ns i n within ∙ ap (λ m. take i ns ++ m ∷ []) (sym at)

split_at : (ns : List ℕ) (i n : ℕ) → i < length ns → n ≡ get_or ns i n → ns ≡ take i ns ++ n ∷ drop (suc i) ns
split_at ns i n within at = search (take-append-drop i ns, drop-cons ns i n within)

-- a set into which a number was put, or from which one was taken out
put_or : (same before : Bool) → cond same true before ≡ (before || (same || false))
put_or true true = refl
put_or true false = refl
put_or false true = refl
put_or false false = refl

has-updated : (b : Bool) (keys new : List ℕ) (n : ℕ)
    → ((q : ℕ) → list_any (nat_eq q) new ≡ cond (nat_eq n q) b (list_any (nat_eq q) keys))
    → (q : ℕ) → has new q ≡ cond (n == q) b (has keys q)
has-updated b keys new n step q = has-list_any new q ∙ step q ∙ ap (cond (n == q) b) (sym (has-list_any keys q))

-- a set of the first numbers of a list, and the next one
module _ (keys ns : List ℕ) (i n : ℕ) (within : i < length ns) (at : n ≡ get_or ns i n)
    (so_far : (q : ℕ) → has keys q ≡ has (take i ns) q) where
  pub put_more : (new : List ℕ)
      → ((q : ℕ) → list_any (nat_eq q) new ≡ cond (nat_eq n q) true (list_any (nat_eq q) keys))
      → (q : ℕ) → has new q ≡ has (take (i + 1) ns) q
  put_more new step q =
      has-updated true keys new n step q ∙ ap (cond (n == q) true) (so_far q) ∙ put_or (n == q) (has (take i ns) q)
      ∙ sym (has-append (take i ns) (n ∷ []) q) ∙ ap (λ l. has l q) (sym (one_more ns i n within at))

  -- the set tells whether the number stood before
  stood : {is_new : Bool} (b : Bool) → is_new ≡ not (list_any (nat_eq n) keys) → is_new ≡ not b
      → has (take i ns) n ≡ b
  stood b told new =
      sym (so_far n) ∙ has-list_any keys n ∙ same_of_nots (list_any (nat_eq n) keys) b (sym told ∙ new)

  pub distinct_more : {is_new : Bool} → is_new ≡ not (list_any (nat_eq n) keys) → is_new ≡ true
      → IsDistinct nat_eq (take i ns) → IsDistinct nat_eq (take (i + 1) ns)
  distinct_more told new once =
      subst (IsDistinct nat_eq) (sym (one_more ns i n within at))
      (IsDistinct-push nat_eq_equiv (take i ns) n once (sym (has-list_any (take i ns) n) ∙ stood false told new))

  pub stands_twice : {is_new : Bool} → is_new ≡ not (list_any (nat_eq n) keys) → is_new ≡ false
      → ¬ IsDistinct nat_eq ns
  stands_twice told old once =
      not_once (take i ns) (drop (suc i) ns) n (stood true told old)
      (subst (IsDistinct nat_eq) (split_at ns i n within at) once)

-- the numbers that are left of those that were taken, where these were given, each once
pub record Left (taken given keys : List ℕ) : Type 0 where
  pub once : IsDistinct nat_eq given
  pub within : (n : ℕ) → has given n ≡ true → has taken n ≡ true
  pub left : (n : ℕ) → has keys n ≡ (has taken n && not (has given n))

-- what is left was taken and wasn't given
is_left : (taken given : Bool) → (taken && not given) ≡ true → (taken ≡ true) × (given ≡ false)
is_left true true left = absurd (true≢false (sym left))
is_left true false left = (refl, refl)
is_left false given left = absurd (true≢false (sym left))

pub nothing_given : {keys : List ℕ} (taken : List ℕ) → ((q : ℕ) → has keys q ≡ has taken q) → Left taken [] keys
unfolding IsDistinct
nothing_given taken all = grind arith

-- the next number of a list is given
after_one : (taken given same : Bool) {before after all : Bool} → before ≡ (taken && not given)
    → after ≡ cond same false before → all ≡ (given || (same || false)) → after ≡ (taken && not all)
after_one true true true b a e = a ∙ sym (ap not e)
after_one true true false b a e = a ∙ b ∙ sym (ap not e)
after_one true false true b a e = a ∙ sym (ap not e)
after_one true false false b a e = a ∙ b ∙ sym (ap not e)
after_one false given true b a e = a
after_one false given false b a e = a ∙ b

given_more : {taken given keys new : List ℕ} (n : ℕ) → Left taken given keys → has keys n ≡ true
    → ((q : ℕ) → has new q ≡ cond (n == q) false (has keys q)) → Left taken (given ++ n ∷ []) new
given_more {taken} {given} {keys} {new} n l there step =
    let at = is_left (has taken n) (has given n) (sym (l.left n) ∙ there) in
    record {
      once = IsDistinct-push nat_eq_equiv given n l.once (sym (has-list_any given n) ∙ at.1);
      within = λ q h.
          elim (has-cases given (n ∷ []) q h) [
            | inl before ↦ l.within q before
            | inr last ↦ subst (λ (m : ℕ). has taken m ≡ true) (has-single n q last) at.0
          ];
      left = λ q.
          after_one (has taken q) (has given q) (n == q) (l.left q) (step q) (has-append given (n ∷ []) q);
    }

pub given_next : {taken keys : List ℕ} (front ns : List ℕ) (i n : ℕ) → i < length ns → n ≡ get_or ns i n
    → Left taken (front ++ take i ns) keys → true ≡ list_any (nat_eq n) keys → (new : List ℕ)
    → ((q : ℕ) → list_any (nat_eq q) new ≡ cond (nat_eq n q) false (list_any (nat_eq q) keys))
    → Left taken (front ++ take (i + 1) ns) new
given_next {taken} {keys} front ns i n within at l there new step =
    let all : (front ++ take i ns) ++ n ∷ [] ≡ front ++ take (i + 1) ns =
    append_assoc front (take i ns) (n ∷ []) ∙ ap (λ ms. front ++ ms) (sym (one_more ns i n within at)) in
    subst (λ (given : List ℕ). Left taken given new) all
    (given_more n l (has-list_any keys n ∙ sym there) (has-updated false keys new n step))

-- a number that isn't left can't be given
not_given : {taken given keys : List ℕ} (n : ℕ) (more : List ℕ) (lists : List (List ℕ)) → Left taken given keys
    → has keys n ≡ false → concat lists ≡ given ++ n ∷ more → ¬ GivesEachOnce taken lists
not_given {taken} {given} {keys} n more lists l none all gives = grind (arith, not_once, has-right)

-- each number that was taken was given once where none is left, and not where one is
same_of : (given taken : Bool) → (given ≡ true → taken ≡ true) → false ≡ (taken && not given) → given ≡ taken
same_of true taken within none = sym (within refl)
same_of false true within none = none
same_of false false within none = refl

none_left : (taken keys given : List ℕ) → Left taken given keys → length keys ≡ 0
    → IsDistinct nat_eq given × ((n : ℕ) → has given n ≡ has taken n)
none_left taken [] given l none =
    (l.once, λ n. same_of (has given n) (has taken n) (l.within n) (l.left n))
none_left taken (k ∷ keys) given l none = absurd (omega arith)

some_left : (taken keys given : List ℕ) → Left taken given keys → ((n : ℕ) → has given n ≡ has taken n)
    → length keys ≡ 0
some_left taken [] given l same = refl
some_left taken (k ∷ keys) given l same = grind (arith, same k)

module _ {X : Type 0} (numbers : X → List ℕ) where
  pub concat-flat_map : (xs : List X) → concat (map numbers xs) ≡ flat_map numbers xs
  concat-flat_map [] = refl
  concat-flat_map (x ∷ xs) = ap (λ l. numbers x ++ l) (concat-flat_map xs)

  -- the numbers of all lists, up to a place of one list, the number there, and what comes behind
  at_a_place : (xs : List X) (i j : ℕ) (d : X) (e : ℕ) → i < length xs → j < length (numbers (get_or xs i d))
      → (more : List ℕ) × (flat_map numbers xs
      ≡ (flat_map numbers (take i xs) ++ take j (numbers (get_or xs i d)))
      ++ get_or (numbers (get_or xs i d)) j e ∷ more)
  at_a_place [] i j d e within there = absurd (omega arith)
  at_a_place (x ∷ xs) zero j d e within there = (
    drop (suc j) (numbers x) ++ flat_map numbers xs,
    ap (λ l. l ++ flat_map numbers xs)
        (sym (take-append-drop j (numbers x)) ∙ ap (λ l. take j (numbers x) ++ l) (drop-cons (numbers x) j e there))
        ∙ append_assoc (take j (numbers x)) (get_or (numbers x) j e ∷ drop (suc j) (numbers x)) (flat_map numbers xs),
  )
  at_a_place (x ∷ xs) (suc i) j d e within there = grind (arith, append_assoc, at_a_place xs i j d e)

  module _ (xs : List X) (i : ℕ) {taken keys : List ℕ} where
    -- a number of a list isn't left
    pub given_wrongly : (x : X) (ns : List ℕ) (j n : ℕ) → i < length xs → x ≡ get_or xs i x → ns ≡ numbers x
        → j < length ns → n ≡ get_or ns j n → Left taken (flat_map numbers (take i xs) ++ take j ns) keys
        → false ≡ list_any (nat_eq n) keys → ¬ GivesEachOnce taken (map numbers xs)
    given_wrongly x ns j n within is_x are_x there at l none =
        let are : numbers (get_or xs i x) ≡ ns = sym (are_x ∙ ap numbers is_x) in
        let place = at_a_place xs i j x n within (subst (λ (ms : List ℕ). j < length ms) (sym are) there) in
        let all : concat (map numbers xs) ≡ (flat_map numbers (take i xs) ++ take j ns) ++ n ∷ place.0 =
        concat-flat_map xs ∙ place.1
        ∙ ap (λ ms. (flat_map numbers (take i xs) ++ take j ms) ++ get_or ms j n ∷ place.0) are
        ∙ ap (λ m. (flat_map numbers (take i xs) ++ take j ns) ++ m ∷ place.0) (sym at) in
        not_given n place.0 (map numbers xs) l (has-list_any keys n ∙ sym none) all

    -- all lists were gone through: each number was given once exactly where none is left
    pub gave_all : {b : Bool} → length xs ≤ i → Left taken (flat_map numbers (take i xs)) keys
        → (IsTrue b ↔ (length keys ≡ 0)) → IsTrue b ↔ GivesEachOnce taken (map numbers xs)
    gave_all past l decides =
        let all : flat_map numbers (take i xs) ≡ concat (map numbers xs) =
        ap (flat_map numbers) (take_all i xs past) ∙ sym (concat-flat_map xs) in
        let l' : Left taken (concat (map numbers xs)) keys =
        subst (λ (given : List ℕ). Left taken given keys) all l in (
          λ holds. none_left taken keys (concat (map numbers xs)) l' (decides.0 holds),
          λ gives. decides.1 (some_left taken keys (concat (map numbers xs)) l' gives.1),
        )

  -- each list is in order
  pub in_order : (enqueued : List ℕ) (xs : List X)
      → All (λ x. is_subsequence (numbers x) enqueued ≡ true) xs ↔ TookInOrder enqueued (map numbers xs)
  in_order enqueued xs = (
    All-map (λ list. is_subsequence list enqueued ≡ true) numbers xs,
    λ all k d within.
        subst (λ (list : List ℕ). is_subsequence list enqueued ≡ true) (get_or-map numbers xs k d (numbers d) within)
        (all k (numbers d) (omega (arith, length-map xs numbers))),
  )

-- whether nothing is in a list
pub is_nil : (ns : List ℕ) → true ≡ (length ns == 0) → ns ≡ []
is_nil [] none = refl
is_nil (n ∷ ns) none = absurd (true≢false (none ∙ ne_eqb (length (n ∷ ns)) 0 (λ e. omega arith)))

pub not_nil : (ns : List ℕ) → false ≡ (length ns == 0) → ¬ (ns ≡ [])
not_nil ns some none = true≢false (sym (ap (λ l. length l == 0) none) ∙ sym some)

-- what a comparison of two lists says
pub lists_same : (ms ns : List ℕ) → false ≡ not (pointwise nat_eq ms ns) → ms ≡ ns
lists_same ms ns same = (bytes_eq-Decides ms ns).0 (same_of_nots (pointwise nat_eq ms ns) true (sym same))

pub lists_differ : (ms ns : List ℕ) → true ≡ not (pointwise nat_eq ms ns) → ¬ (ms ≡ ns)
lists_differ ms ns differ same =
    true≢false (sym ((bytes_eq-Decides ms ns).1 same) ∙ same_of_nots (pointwise nat_eq ms ns) false (sym differ))
