-- Which states the rule of a turn's table allows: a turn ends once, one seat at most holds it, and while it is held the
-- machine is not in its slot.
use Rattle.ref_turn.proofs.Common.{◌≡◌, zero, suc, ◌+◌, ◌<◌, ◌^◌, [], ◌∷◌, Option, refl, sym, ap, ◌∙◌, subst, arith}
use Rattle.ref_turn.proofs.Common.{none, some-injective, some-ne-none, State, Open, View, first_view, SeatOk}
use Rattle.std.proofs.Common.{ℕ, List}
use Rattle.ref_turn.specs.declared.history.Origin.{Origin}
use Rattle.ref_turn.specs.Rule.{Turned}
use lib.ListN.{get_elem?}
use mathlib.Core.Option.{some}

module _ {M X S R : Type 0} (stands_for : M → X → Type 0) (steps_to : X → S → R → X → Type 0) (k : Origin M) where
  -- promise: Turn::call, Turn::try_call: no turn ends twice
  -- two turns have ended, where one ticket was drawn
  pub no_turn_ends_twice : (s : State (Option M) (View M S R)) → s.words ≡ 2 ∷ 1 ∷ []
      → ¬ (Turned stands_for steps_to k s)
  no_turn_ends_twice s words rule = grind arith

  -- the first seat holds the turn
  abbrev pub holder : View M S R
  holder = record (first_view k) { stage = Open; drawn = 1 }

  -- promise: Turn::call, Turn::try_call: no two seats hold the turn
  -- a second seat holds the turn as well
  pub no_two_hold_the_turn : (s : State (Option M) (View M S R)) → s.views ≡ holder ∷ holder ∷ []
      → ¬ (Turned stands_for steps_to k s)
  no_two_hold_the_turn s views rule =
      let there : (j : ℕ) → get_elem? s.views j ≡ get_elem? (holder ∷ holder ∷ []) j =
      λ j. ap (λ (l : List (View M S R)). get_elem? l j) views in
      let one : 0 ≡ 1 = rule.once 0 1 holder holder (there 0) (there 1) tt tt in
      absurd (omega (arith, one))

  only : (v w : View M S R) (j : ℕ) → get_elem? (v ∷ []) j ≡ some w → (0 ≡ j) × (v ≡ w)
  only v w zero at = (refl, some-injective v w at)
  only v w (suc j) at = absurd (some-ne-none w (sym at))

  -- the first seat holds the turn, and the slot of the machine is empty
  abbrev pub away : State (Option M) (View M S R)
  away = record { words = k.first ∷ (k.first + 1) ∷ []; homes = none ∷ []; views = holder ∷ [] }

  -- promise: Turn::finish: while a turn is open the slot has no machine
  pub an_open_turn_has_the_machine_away : k.first + 1 < 2 ^ 64 → (Turned stands_for steps_to k away)
  an_open_turn_has_the_machine_away small = record {
    log = [];
    served = k.first;
    tickets = k.first + 1;
    words_are = refl;
    counted = omega arith;
    behind = omega arith;
    small = small;
    legal = λ a x is stands. (x, refl);
    home = λ closed. absurd (closed 0 holder refl tt);
    each_seat = λ j v at. let is = only holder v j at in
        subst (λ (z : ℕ × View M S R). SeatOk k [] k.first (k.first + 1) away.views z.0 z.1)
        (λ i. (is.0 i, is.1 i))
        record {
          first = λ _. refl;
          start = λ _. refl;
          seen = ([], refl);
          drawn = omega arith;
          knows = ((refl, refl), omega arith, refl);
        };
    once = λ i j v w at at' o o'. sym (only holder v i at).0 ∙ (only holder w j at').0;
    unmade = λ j above. refl;
  }
