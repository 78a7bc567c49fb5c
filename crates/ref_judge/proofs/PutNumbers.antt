-- What becomes of a batch that is put in, from one place to the next, by the numbers alone.
use Rattle.std.proofs.Common.{◌≡◌, ℕ, zero, suc, ◌+◌, ◌<◌, ◌≤◌, ◌||◌, ◌&&◌, if◌then◌else◌, Bool, true, false, List, []}
use Rattle.std.proofs.Common.{◌∷◌, ◌++◌}
use Rattle.std.proofs.Common.{length, take, drop, refl, sym, ◌∙◌, arith, slice_index_or, append_assoc}
use Rattle.std.proofs.lemmas.List.{drop_more, append-nil}
use Rattle.ref_base.specs.Members.{has}
use Rattle.ref_base.specs.Outs.{is_refused, is_added}
use Rattle.ref_base.specs.QueueBatches.{added_among, not_added, gone_in, come_back}
use Rattle.ref_base.specs.Refusals.{is_empty}
use Rattle.ref_base.specs.declared.out.Done.{Done}
use Rattle.ref_base.specs.declared.out.Done.TheVariants.{Added, Already, Closed, Refused}
use Rattle.ref_space.specs.Tables.{Tag}
use Rattle.ref_judge.specs.Judged.{is_put}
use Rattle.ref_judge.specs.Queueing.{may_become, may_become_each, linked_each}
use Rattle.ref_objects.specs.Grounds.{with_link}

-- what is behind the end
drop-end : {X : Type 0} (xs : List X) (i : ℕ) → length xs ≤ i → drop i xs ≡ []
drop-end [] zero end = refl
drop-end [] (suc i) end = refl
drop-end (x ∷ xs) zero end = absurd (omega (arith, end))
drop-end (x ∷ xs) (suc i) end = drop-end xs i (omega (arith, end))

-- what was refused wasn't added
refused_none : (n : ℕ) (d : Done) → is_refused d ≡ true → gone_in n d ≡ []
refused_none n (Refused fault) is = refl
refused_none n Added is = absurd cc
refused_none n Already is = absurd cc
refused_none n Closed is = absurd cc

-- what was added is gone in, and nothing else
pub gone_in_added : (n : ℕ) (d : Done) → is_added d ≡ true → gone_in n d ≡ n ∷ []
gone_in_added n Added is = refl
gone_in_added n Already is = absurd cc
gone_in_added n Closed is = absurd cc
gone_in_added n (Refused fault) is = absurd cc

pub gone_in_other : (n : ℕ) (d : Done) → is_added d ≡ false → gone_in n d ≡ []
gone_in_other n Added is = absurd cc
gone_in_other n Already is = refl
gone_in_other n Closed is = refl
gone_in_other n (Refused fault) is = refl

added_none : (ns : List ℕ) → added_among ns [] ≡ []
added_none [] = refl
added_none (n ∷ ns) = refl

-- more than there is can't be tried
pub each_long : (ts : List Tag) (added : List ℕ) (closed : Bool) (ns : List ℕ) (ds : List Done)
    → length ns < length ds → may_become_each ts added closed ns ds ≡ false
each_long ts added closed ns [] long = absurd (omega (arith, long))
each_long ts added closed [] (d ∷ ds) long = refl
each_long ts added closed (n ∷ ns) (d ∷ ds) long =
    of_rest (may_become (is_put ts n || has added n) closed d) (is_refused d)
    (each_long ts (added ++ gone_in n d) closed ns ds (omega (arith, long)))
  where
    some : (ns : List ℕ) (ds : List Done) → length ns < length ds → is_empty ds ≡ false
    some ns [] long = absurd (omega (arith, long))
    some ns (d ∷ ds) long = refl

    of_rest : (may refused : Bool) → may_become_each ts (added ++ gone_in n d) closed ns ds ≡ false
        → (may && (if refused then is_empty ds else may_become_each ts (added ++ gone_in n d) closed ns ds)) ≡ false
    of_rest false refused rest = refl
    of_rest true false rest = rest
    of_rest true true rest = some ns ds (omega (arith, long))

-- so far a batch was told rightly, and what is left decides
module _ (ts : List Tag) (added : List ℕ) (closed : Bool) (ns : List ℕ) (ds : List Done) (i : ℕ) (whole : Bool)
    (all : List ℕ) (may : may_become_each ts added closed (drop i ns) (drop i ds) ≡ whole)
    (added_is : added ++ added_among (drop i ns) (drop i ds) ≡ all) where
  module _ (n : ℕ) (e : Done) (within : i < length ns) (told : i < length ds) (n_is : n ≡ slice_index_or ns i n) where
    -- what became of it
    abbrev d : Done
    d = slice_index_or ds i e

    whole_is : (may_become (is_put ts n || has added n) closed d
        && (if is_refused d then is_empty (drop (i + 1) ds)
        else may_become_each ts (added ++ gone_in n d) closed (drop (i + 1) ns) (drop (i + 1) ds))) ≡ whole
    whole_is = rw (drop_more ns i n within, drop_more ds i e told, ← n_is) at may

    all_is : added ++ (gone_in n d ++ added_among (drop (i + 1) ns) (drop (i + 1) ds)) ≡ all
    all_is = rw (drop_more ns i n within, drop_more ds i e told, ← n_is) at added_is

    pub wrong_here : may_become (is_put ts n || has added n) closed d ≡ false → whole ≡ false
    wrong_here wrong = sym whole_is ∙ rw wrong refl

    pub last_refused : may_become (is_put ts n || has added n) closed d ≡ true → is_refused d ≡ true
        → i + 1 ≡ length ds → (whole ≡ true) × (added ≡ all)
    last_refused right refused last =
        let end : drop (i + 1) ds ≡ [] = drop-end ds (i + 1) (omega (arith, last)) in (
          sym whole_is ∙ rw (right, refused, end) refl,
          sym (append-nil added)
              ∙ rw (refused_none n d refused, end, added_none (drop (i + 1) ns)) at all_is,
        )

    pub early_refused : is_refused d ≡ true → (i + 1 ≡ length ds → ⊥) → whole ≡ false
    early_refused refused early =
        sym whole_is ∙ rw (refused, drop_more ds (i + 1) d (omega (arith, told, early))) (nothing _)
      where
        nothing : (b : Bool) → (b && false) ≡ false
        nothing true = refl
        nothing false = refl

    pub one_further : may_become (is_put ts n || has added n) closed d ≡ true → is_refused d ≡ false
        → may_become_each ts (added ++ gone_in n d) closed (drop (i + 1) ns) (drop (i + 1) ds) ≡ whole
    one_further right other = rw (right, other) at whole_is

    pub added_further : (added ++ gone_in n d) ++ added_among (drop (i + 1) ns) (drop (i + 1) ds) ≡ all
    added_further = append_assoc added (gone_in n d) (added_among (drop (i + 1) ns) (drop (i + 1) ds)) ∙ all_is

    pub further_added : may_become (is_put ts n || has added n) closed d ≡ true → is_refused d ≡ false
        → is_added d ≡ true
        → (may_become_each ts (added ++ n ∷ []) closed (drop (i + 1) ns) (drop (i + 1) ds) ≡ whole)
        × ((added ++ n ∷ []) ++ added_among (drop (i + 1) ns) (drop (i + 1) ds) ≡ all)
    further_added right other is =
        (rw (gone_in_added n d is) at (one_further right other), rw (gone_in_added n d is) at added_further)

    pub further_other : may_become (is_put ts n || has added n) closed d ≡ true → is_refused d ≡ false
        → is_added d ≡ false → (may_become_each ts added closed (drop (i + 1) ns) (drop (i + 1) ds) ≡ whole)
        × (added ++ added_among (drop (i + 1) ns) (drop (i + 1) ds) ≡ all)
    further_other right other isnt = (
      rw (gone_in_other n d isnt, append-nil added) at (one_further right other),
      rw (gone_in_other n d isnt, append-nil added) at added_further,
    )

  pub all_tried : length ds ≤ i → length ns ≤ i → (whole ≡ true) × (added ≡ all)
  all_tried told end = (
    sym (rw (drop-end ds i told, drop-end ns i end) at may),
    sym (append-nil added) ∙ rw (drop-end ds i told, added_none (drop i ns)) at added_is,
  )

  pub some_untried : (n : ℕ) → length ds ≤ i → i < length ns → whole ≡ false
  some_untried n told within = sym (rw (drop-end ds i told, drop_more ns i n within) at may)

-- one more that is linked
pub linked-more : (ts : List Tag) (ns : List ℕ) (i n : ℕ) → i < length ns → n ≡ slice_index_or ns i n
    → with_link (linked_each ts (take i ns)) n 1 ≡ linked_each ts (take (i + 1) ns)
linked-more ts [] i n within is = absurd (omega (arith, within))
linked-more ts (m ∷ ns) zero n within is = grind arith
linked-more ts (m ∷ ns) (suc i) n within is = grind (arith, linked-more (with_link ts m 1) ns i n)

-- one more is no more than one more place
pub few_more : (ms : List ℕ) (n i : ℕ) → length ms ≤ i → length (ms ++ n ∷ []) ≤ i + 1
few_more [] n i few = omega arith
few_more (m ∷ ms) n zero few = absurd (omega (arith, few))
few_more (m ∷ ms) n (suc i) few = let more = few_more ms n i (omega (arith, few)) in omega (arith, more)

-- one more of those that weren't added
module _ (ns : List ℕ) (ds : List Done) (i n : ℕ) (left all : List ℕ) (within : i < length ns)
    (n_is : n ≡ slice_index_or ns i n) (so_far : left ++ not_added (drop i ns) (drop i ds) ≡ all) where
  none_told : (ms : List ℕ) → not_added ms [] ≡ ms
  none_told [] = refl
  none_told (m ∷ ms) = refl

  pub left_untried : length ds ≤ i → (left ++ n ∷ []) ++ not_added (drop (i + 1) ns) (drop (i + 1) ds) ≡ all
  left_untried untried =
      let more : length ds ≤ i + 1 = omega (arith, untried) in
      let end = rw (drop_more ns i n within, ← n_is, drop-end ds i untried) at so_far in
      rw (drop-end ds (i + 1) more, none_told (drop (i + 1) ns)) (append_assoc left (n ∷ []) (drop (i + 1) ns) ∙ end)

  module _ (e : Done) (told : i < length ds) where
    left_is : left ++ (come_back n (slice_index_or ds i e) ++ not_added (drop (i + 1) ns) (drop (i + 1) ds)) ≡ all
    left_is = rw (drop_more ns i n within, drop_more ds i e told, ← n_is) at so_far

    came_back : (d : Done) → is_added d ≡ false → come_back n d ≡ n ∷ []
    came_back Added is = absurd cc
    came_back Already is = refl
    came_back Closed is = refl
    came_back (Refused fault) is = refl

    went_in : (d : Done) → is_added d ≡ true → come_back n d ≡ []
    went_in Added is = refl
    went_in Already is = absurd cc
    went_in Closed is = absurd cc
    went_in (Refused fault) is = absurd cc

    pub left_here : is_added (slice_index_or ds i e) ≡ false
        → (left ++ n ∷ []) ++ not_added (drop (i + 1) ns) (drop (i + 1) ds) ≡ all
    left_here other =
        append_assoc left (n ∷ []) (not_added (drop (i + 1) ns) (drop (i + 1) ds)) ∙ rw
        (came_back (slice_index_or ds i e) other) at left_is

    pub none_left : is_added (slice_index_or ds i e) ≡ true
        → left ++ not_added (drop (i + 1) ns) (drop (i + 1) ds) ≡ all
    none_left is = rw (went_in (slice_index_or ds i e) is) at left_is

-- what stands at a place that is there stands there whatever the default
pub get_or_again : (ns : List ℕ) (i : ℕ) → i < length ns
    → slice_index_or ns i 0 ≡ slice_index_or ns i (slice_index_or ns i 0)
get_or_again [] i within = absurd (omega (arith, within))
get_or_again (n ∷ ns) zero within = refl
get_or_again (n ∷ ns) (suc i) within = other ns i (slice_index_or ns i 0) (omega (arith, within))
  where
    other : (ns : List ℕ) (i d : ℕ) → i < length ns → slice_index_or ns i 0 ≡ slice_index_or ns i d
    other [] i d within = absurd (omega (arith, within))
    other (n ∷ ns) zero d within = refl
    other (n ∷ ns) (suc i) d within = other ns i d (omega (arith, within))
