-- What holds of moves goes on holding as a marker's calls change where objects lie, and what is unhealed.
use Rattle.ref_mark.proofs.Common.{◌≡◌, ℕ, ◌+◌, true, false, refl, sym, ap, ◌∙◌, subst, arith, List, [], Bool}
use Rattle.ref_mark.proofs.Common.{Option, Some, None, is_in, is_in_cycle, Phase}
use Rattle.ref_mark.proofs.Common.{Idle, Marking, Clearing, Sweeping, Moving, Ground, Space, Fault}
use Rattle.ref_mark.proofs.Common.{object_at}
use Rattle.ref_space.specs.Tables.{scanned_values}
use Rattle.std.proofs.Common.{Result, Ok, Err}
use Rattle.ref_space.specs.ColouredWords.{cycle_colour}
use Rattle.ref_objects.specs.Grounds.{ground_marked_if_any, cut_but, if_done, after_freeing}
use Rattle.ref_objects.specs.Grounds.{ground_scanned, ground_healed}
use Rattle.ref_space.specs.Tables.{without_number}
use Rattle.ref_objects.proofs.NewMarks.{marked-only, all_marked-only}
use Rattle.ref_mark.specs.Chains.{first_looked_at}
use Rattle.ref_mark.specs.MarkViews.{AreSettled}
use Rattle.ref_base.specs.Graphs.{Reference}
use Rattle.ref_space.specs.declared.colour.Colour.TheVariants.{R}

-- ---- where objects lie as they did

pub settled_same : (s after : Space) (phase : Phase) (cycle : ℕ) → after ≡ s → AreSettled s phase cycle
    → AreSettled after phase cycle
settled_same s after phase cycle same settled = subst (λ (t : Space). AreSettled t phase cycle) (sym same) settled

pub space_marked : (g after : Ground) (value : Option ℕ) → after ≡ ground_marked_if_any g value
    → after.space ≡ g.space
space_marked g after value is =
    ap (λ (i : Ground). i.space) is ∙ ap (λ (i : Ground). i.space) (marked-only g value)

pub space_cut : {T : Type 0} (g after : Ground) (spare : Bool) (m s : ℕ) (result : Result T Fault)
    → after ≡ if_done result (cut_but g spare m s) g → after.space ≡ g.space
space_cut g after spare m s (Ok done) is = grind arith
space_cut g after spare m s (Err fault) is = ap (λ (i : Ground). i.space) is

pub space_looked : (g after : Ground) (first : Option ℕ) (cycle : ℕ) → after ≡ first_looked_at g first cycle
    → after.space ≡ g.space
space_looked g after None cycle is = ap (λ (i : Ground). i.space) is
space_looked g after (Some n) cycle is = grind arith

-- ---- where they don't

-- of numbers none is left once one is taken out
pub none_without : (ns : List ℕ) (n : ℕ) → ns ≡ [] → without_number ns n ≡ []
none_without ns n none = ap (λ ms. without_number ms n) none

pub settled_freed : (g after : Ground) (n : ℕ) (phase : Phase) (cycle : ℕ) → after ≡ after_freeing g n
    → AreSettled g.space phase cycle → AreSettled after.space phase cycle
settled_freed g after n phase cycle is settled = grind (arith, none_without)

pub settled_scanned : (keeps : Reference → Bool) (g after : Ground) (n : ℕ) (phase : Phase) (cycle : ℕ)
    → after ≡ ground_scanned keeps g n → AreSettled g.space phase cycle → AreSettled after.space phase cycle
settled_scanned keeps g after n phase cycle is settled =
    rw (is ∙ ap (λ h. ground_healed h n) (all_marked-only g (scanned_values keeps (object_at g.heap.objects n))))
    (record {
      none_left = settled.none_left;
      healed = λ between. none_without g.space.unhealed n (settled.healed between);
      tuned = settled.tuned;
      ended = settled.ended;
      colour = settled.colour;
    })

-- ---- phases

pub idle_is_not_moving : (phase : Phase) → is_in phase Idle ≡ true → is_in phase Moving ≡ false
idle_is_not_moving Idle is = refl
idle_is_not_moving Marking is = refl
idle_is_not_moving Clearing is = refl
idle_is_not_moving Sweeping is = refl
idle_is_not_moving Moving is = sym is

pub idle_is_between : (phase : Phase) → is_in phase Idle ≡ true → is_in_cycle phase ≡ false
idle_is_between Idle is = refl
idle_is_between Marking is = sym is
idle_is_between Clearing is = sym is
idle_is_between Sweeping is = sym is
idle_is_between Moving is = refl

pub marking_is_within : (phase : Phase) → is_in phase Marking ≡ true → is_in_cycle phase ≡ true
marking_is_within Idle is = is
marking_is_within Marking is = refl
marking_is_within Clearing is = refl
marking_is_within Sweeping is = refl
marking_is_within Moving is = is

pub clearing_is_within : (phase : Phase) → is_in phase Clearing ≡ true → is_in_cycle phase ≡ true
clearing_is_within Idle is = is
clearing_is_within Marking is = refl
clearing_is_within Clearing is = refl
clearing_is_within Sweeping is = refl
clearing_is_within Moving is = is

pub sweeping_is_within : (phase : Phase) → is_in phase Sweeping ≡ true → is_in_cycle phase ≡ true
sweeping_is_within Idle is = is
sweeping_is_within Marking is = refl
sweeping_is_within Clearing is = refl
sweeping_is_within Sweeping is = refl
sweeping_is_within Moving is = is

-- a cycle's colour isn't that of moves
pub no_moves_colour : (cycle : ℕ) → cycle_colour cycle ≡ R → ⊥
no_moves_colour cycle same = grind arith

-- a cycle's colour isn't that of the one before
pub other_colour : (cycle : ℕ) → cycle_colour cycle ≡ cycle_colour (cycle + 1) → ⊥
other_colour cycle same = grind arith
