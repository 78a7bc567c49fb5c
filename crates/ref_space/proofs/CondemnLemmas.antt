-- What isn't marked is condemned, entry by entry of the index.
use Rattle.ref_space.proofs.Common.{◌≡◌, ℕ, zero, suc, ◌<◌, ◌≤◌, ◌+◌, ◌==◌, if◌then◌else◌, true, false, refl, sym, ap}
use Rattle.ref_space.proofs.Common.{◌∙◌, arith, List, [], ◌∷◌, ◌++◌, length, map, drop, get_or, Option, Some, None}
use Rattle.ref_space.proofs.Common.{get_or-set_other, get_or-set_same, length-map, length-set, length-append}
use Rattle.ref_space.proofs.Common.{append-nil, cell_at, blanked_cell, tabled_by, place_in, AreIndexed, by_number}
use Rattle.ref_space.proofs.Common.{from_bool, not, cases_Bool, inl, inr, Object, Reference, cleared, Tabled, Entry}
use Rattle.ref_space.proofs.Common.{unmarked_of}
use Rattle.ref_base.specs.Forgetting.{blanked}
use Rattle.ref_base.specs.Heaps.{changed_reference}
use Rattle.ref_space.proofs.MarkCounts.{length-unmarked_of}
use Rattle.ref_space.proofs.NamingLemmas.{numbers_by-named}
use Rattle.ref_space.specs.Tables.{is_marked}
use Rattle.std.proofs.Math.ListN.{get_or-map}
use Rattle.std.proofs.lemmas.List.{drop_more, drop_all, get_or_past, append_assoc}
use Rattle.ref_space.specs.Places.{condemns, condemned_at, condemned_cell, is_unmarked_as}
use Rattle.ref_space.specs.Worklists.{Worklist, with_more, with_last}

-- cells are the same that hold the same
same_cells : (cs ds : List (Option Tabled)) → length cs ≡ length ds → ((p : ℕ) → cell_at cs p ≡ cell_at ds p)
    → cs ≡ ds
same_cells [] [] size same = refl
same_cells [] (d ∷ ds) size same = absurd (omega (arith, size))
same_cells (c ∷ cs) [] size same = absurd (omega (arith, size))
same_cells (c ∷ cs) (d ∷ ds) size same =
    ap (λ x. x ∷ cs) (same zero) ∙ ap (λ xs. d ∷ xs) (same_cells cs ds (omega (arith, size)) (λ p. same (suc p)))

-- ---- one entry

module _ (r : ℕ) where
  condemned_past : (c : Option Tabled) (n : ℕ) → c ≡ None → condemned_cell r n c ≡ None
  condemned_past None n none = refl
  condemned_past (Some k) n none = absurd (cc)

  -- what a cell holds then
  cell_at-condemned : (e : Entry) (cells : List (Option Tabled)) (p : ℕ)
      → cell_at (condemned_at r e cells) p
      ≡ (if e.place == p then condemned_cell r e.no (cell_at cells p) else cell_at cells p)
  cell_at-condemned e cells p =
      grind (arith, get_or-set_same, get_or-set_other, get_or_past, length-set, condemned_past)

  -- what refers to nothing goes on so
  blanked_again : (o : Object) → blanked (blanked o) ≡ blanked o
  blanked_again o = grind (arith, nulls_again o.fields, cleared_again o.reference)
    where
      null : Option ℕ → Option ℕ
      null v = None

      nulls_again : (vs : List (Option ℕ)) → map null (map null vs) ≡ map null vs
      nulls_again [] = refl
      nulls_again (v ∷ vs) = ap (λ ws. None ∷ ws) (nulls_again vs)

      cleared_again : (r : Option Reference)
          → changed_reference cleared (changed_reference cleared r) ≡ changed_reference cleared r
      cleared_again None = refl
      cleared_again (Some r) = refl

  -- what was condemned once stays as it is
  condemned_again : (k : Tabled) (n : ℕ)
      → condemned_cell r n (blanked_cell r (Some k)) ≡ blanked_cell r (Some k)
  condemned_again k n = grind (arith, blanked_again)

  -- and is told from what is marked as before
  condemned_still : (c : Option Tabled) (n m : ℕ)
      → is_unmarked_as r (condemned_cell r n c) m ≡ is_unmarked_as r c m
  condemned_still None n m = refl
  condemned_still (Some k) n m = grind arith

  condemns_still : (e d : Entry) (cells : List (Option Tabled))
      → condemns r d (condemned_at r e cells) ≡ condemns r d cells
  condemns_still e d cells = grind (arith, cell_at-condemned, condemned_still)

  -- ---- several

  -- the cells as the object of each of these entries is condemned
  abbrev pub condemned_by : List Entry → List (Option Tabled) → List (Option Tabled)
  condemned_by [] cells = cells
  condemned_by (e ∷ es) cells = condemned_by es (condemned_at r e cells)

  -- the numbers of those that are
  abbrev pub condemned_of : List (Option Tabled) → List Entry → List ℕ
  condemned_of cells [] = []
  condemned_of cells (e ∷ es) = if condemns r e cells then e.no ∷ condemned_of cells es else condemned_of cells es

  condemned_of-unmarked : (cells : List (Option Tabled)) (es : List Entry)
      → condemned_of cells es ≡ unmarked_of r (tabled_by cells es)
  condemned_of-unmarked cells [] = refl
  condemned_of-unmarked cells (e ∷ es) = grind (arith, condemned_of-unmarked cells es)

  condemned_of-still : (e : Entry) (cells : List (Option Tabled)) (es : List Entry)
      → condemned_of (condemned_at r e cells) es ≡ condemned_of cells es
  condemned_of-still e cells [] = refl
  condemned_of-still e cells (d ∷ es) = grind (arith, condemns_still, condemned_of-still e cells es)

  length-condemned_by : (es : List Entry) (cells : List (Option Tabled))
      → length (condemned_by es cells) ≡ length cells
  length-condemned_by [] cells = refl
  length-condemned_by (e ∷ es) cells = grind (arith, length-set, length-condemned_by es (condemned_at r e cells))

  -- what no entry changes stays
  stays : (es : List Entry) (cells : List (Option Tabled)) (p : ℕ) (c : Option Tabled) → cell_at cells p ≡ c
      → ((n : ℕ) → condemned_cell r n c ≡ c) → cell_at (condemned_by es cells) p ≡ c
  stays [] cells p c at fixed = at
  stays (e ∷ es) cells p c at fixed =
      stays es (condemned_at r e cells) p c (grind (arith, cell_at-condemned, fixed e.no)) fixed

  -- what has an entry is condemned
  goes : (es : List Entry) (cells : List (Option Tabled)) (p : ℕ) (k : Tabled) → cell_at cells p ≡ Some k
      → place_in es k.object.no ≡ Some p → cell_at (condemned_by es cells) p ≡ blanked_cell r (Some k)
  goes [] cells p k at listed = absurd (cc)
  goes (e ∷ es) cells p k at listed =
      elim (cases_Bool (e.no == k.object.no)) [
        | inl own ↦
            stays es (condemned_at r e cells) p (blanked_cell r (Some k)) (grind (arith, cell_at-condemned))
            (condemned_again k)
        | inr other ↦
            goes es (condemned_at r e cells) p k (grind (arith, cell_at-condemned)) (grind arith)
      ]

  each_goes : (es : List Entry) (cells : List (Option Tabled)) (p : ℕ) (c : Option Tabled) → cell_at cells p ≡ c
      → AreIndexed cells es → cell_at (condemned_by es cells) p ≡ blanked_cell r c
  each_goes es cells p None at listed = stays es cells p None at (λ n. refl)
  each_goes es cells p (Some k) at listed = goes es cells p k at (listed p k at)

  -- where each object has its entry, all that isn't marked is condemned
  condemned_all : (es : List Entry) (cells : List (Option Tabled)) → AreIndexed cells es
      → condemned_by es cells ≡ map (blanked_cell r) cells
  condemned_all es cells listed =
      same_cells (condemned_by es cells) (map (blanked_cell r) cells)
      (length-condemned_by es cells ∙ sym (length-map cells (blanked_cell r)))
      (λ p. each_goes es cells p (cell_at cells p) refl listed ∙ sym (get_or-map (blanked_cell r) cells p None))

  -- ---- entry by entry

  -- so many of the entries were condemned
  pub record AreCondemned (index : List Entry) (old now : List (Option Tabled)) (listed list : Worklist) (i : ℕ)
      : Type 0 where
    pub cells : condemned_by (drop i index) now ≡ condemned_by index old
    pub numbers : list.stands ++ condemned_of now (drop i index) ≡ listed.stands ++ condemned_of old index
    pub room : list.room ≡ listed.room

  module _ (index : List Entry) (old : List (Option Tabled)) (listed : Worklist) where
    module _ (now : List (Option Tabled)) (list : Worklist) (i : ℕ) (so_far : AreCondemned index old now listed list i)
        (e : Entry) (within : i < length index) (at : e ≡ get_or index i e) where
      left : drop i index ≡ e ∷ drop (i + 1) index
      left = grind (arith, drop_more)

      pub has_room : condemns r e now ≡ true
          → length listed.stands + length (unmarked_of r (tabled_by old index)) ≤ listed.room
          → length list.stands < list.room
      has_room condemned room =
          let more : length (condemned_of now (drop i index)) ≡ suc (length (condemned_of now (drop (i + 1) index))) =
          ap (λ es. length (condemned_of now es)) left ∙ simp condemned refl in
          let all : length (list.stands ++ condemned_of now (drop i index))
          ≡ length (listed.stands ++ unmarked_of r (tabled_by old index)) =
          ap length (so_far.numbers ∙ ap (λ ns. listed.stands ++ ns) (condemned_of-unmarked old index)) in
          omega (
            arith,
            more,
            all,
            room,
            so_far.room,
            length-append list.stands (condemned_of now (drop i index)),
            length-append listed.stands (unmarked_of r (tabled_by old index)),
          )

      module _ {next : List (Option Tabled)} (condemned : next ≡ condemned_at r e now) where
        pub one_more : condemns r e now ≡ true → {more : Worklist} → more ≡ with_last list e.no
            → AreCondemned index old next listed more (i + 1)
        one_more unmarked {more} adds = grind (arith, left, append_assoc, condemned_of-still)

        pub one_passed : condemns r e now ≡ false → AreCondemned index old next listed list (i + 1)
        one_passed passed = grind (arith, left, condemned_of-still)

    module _ (now : List (Option Tabled)) (list : Worklist) (i : ℕ) (so_far : AreCondemned index old now listed list i)
        (done : length index ≤ i) where
      pub all_cells : AreIndexed old index → now ≡ map (blanked_cell r) old
      all_cells indexed = grind (arith, drop_all, condemned_all)

      pub all_numbers : list ≡ with_more listed (unmarked_of r (tabled_by old index))
      all_numbers = grind (arith, drop_all, append-nil, condemned_of-unmarked)

  -- ---- the table

  module _ (name : Option ℕ → Option ℕ) (ks : List Tabled) where
    pub unmarked_of-named : unmarked_of r (map (by_number name) ks) ≡ unmarked_of r ks
    unmarked_of-named = numbers_by-named name (λ k. from_bool (not (is_marked r k))) (λ k. refl) ks

    -- a list with room for all objects has room for those that aren't marked
    pub unmarked_fit : {room : ℕ} → length (map (by_number name) ks) ≤ room → length (unmarked_of r ks) ≤ room
    unmarked_fit {room} fits = omega (arith, length-unmarked_of r ks, length-map ks (by_number name), fits)
