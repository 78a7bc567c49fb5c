-- Which object is the first from a number on that passes a test, by the cells and the index.
use Rattle.ref_space.proofs.Common.{◌≡◌, ℕ, ◌-◌, ◌≤◌, Bool, refl, sym, ◌∙◌, ap, List, [], ◌∷◌, length, take, drop}
use Rattle.ref_space.proofs.Common.{Option, arith, first_where, first_entry, cell_at, tabled_by, count_below}
use Rattle.ref_space.proofs.Common.{AllAbove, Rises, Tabled, Entry}
use Rattle.std.proofs.lemmas.List.{take_rest}
use Rattle.ref_space.specs.Places.{is_passing}

module _ (passes : Tabled → Bool) where
  module _ (cells : List (Option Tabled)) (test : Entry → Bool)
      (tests : (e : Entry) → test e ≡ is_passing passes (cell_at cells e.place) e.no) where
    first_where-above : (es : List Entry) (n m : ℕ) → n ≤ m → AllAbove m es
        → first_where passes (tabled_by cells es) n ≡ first_entry test es
    first_where-above [] n m order above = refl
    first_where-above (e ∷ es) n m order above = grind (arith, first_where-above es n m order above.1)

    -- it is that of the first entry that passes, after those below it
    first_where-drop : (es : List Entry) (n : ℕ) → Rises es
        → first_where passes (tabled_by cells es) n ≡ first_entry test (drop (count_below es n) es)
    first_where-drop [] n rises = refl
    first_where-drop (e ∷ es) n rises = grind (arith, first_where-above, first_where-drop es n rises.1)

    -- what a walk from those on finds
    pub found_first : (es : List Entry) (n i : ℕ) → Rises es → i ≡ count_below es n
        → first_entry test (take (length es - i) (drop i es)) ≡ first_where passes (tabled_by cells es) n
    found_first es n i rises count =
        ap (first_entry test) (take_rest es i ∙ ap (λ j. drop j es) count) ∙ sym (first_where-drop es n rises)
