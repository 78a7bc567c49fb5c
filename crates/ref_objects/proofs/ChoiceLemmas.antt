-- What is seen of a heap once objects are chosen to move, and once the pages that they left are used again.
use Rattle.ref_objects.proofs.Common.{◌≡◌, ℕ, ◌+◌, ◌^◌, ◌<◌, Bool, true, false, [], Option, Some, None, refl}
use Rattle.ref_objects.proofs.Common.{sym, ap, ◌∙◌, arith, length, nat_lt, inl, inr, cases_Bool, false≢true, lt-ltb}
use Rattle.ref_objects.proofs.Common.{Stored, Table, seen_ground, IsSoundGround, IsSoundObjects}
use Rattle.std.specs.Prelude.{Result, Ok, Err}
use Rattle.std.proofs.lemmas.Bool.{true≢false}
use Rattle.std.proofs.Common.{ltb-false}
use Rattle.ref_base.specs.declared.fault.Fault.{Fault}
use Rattle.ref_base.specs.declared.fault.Fault.TheVariants.{NoRoom}
use Rattle.ref_space.specs.declared.colour.Colour.{Colour}
use Rattle.ref_objects.specs.declared.stage.Stage.{Stage}
use Rattle.ref_objects.specs.declared.stage.Stage.TheVariants.{Tuned, Moved}
use Rattle.ref_space.specs.Pages.{Pages, chosen_frames, choose_refusal, chosen_or, choosing, has_chosen, left_in}
use Rattle.ref_space.specs.Pages.{sparse_count}
use Rattle.ref_space.specs.Pages.{choice, sparse_cells, taken_in, with_chosen}
use Rattle.ref_space.specs.Moves.{Ways, ways_chosen, ways_renumbered}
use Rattle.ref_space.specs.Tables.{left_of, numbers_at, selected_unless, table_renumbered, table_selected}
use Rattle.ref_space.proofs.CallLemmas.{chosen-renumbered, count_chosen}
use Rattle.ref_space.proofs.MoveLemmas.{none_chosen}
use Rattle.ref_space.proofs.ReserveLemmas.{keeps_reserving}
use Rattle.ref_objects.specs.Grounds.{Space, choice_in, chosen_objects, has_addresses, lay_chosen}
use Rattle.ref_objects.specs.Grounds.{lay_reopened, wins_room, with_choice, with_choice_ended, with_choice_if}
use Rattle.ref_objects.proofs.MoveLemmas.{moves_chosen, moves_renumbered}

-- ---- what a choice answers

pub few_choice : (s : Space) → sparse_count s.ways.pages.uses < 2 → choice_in s ≡ Err NoRoom
unfolding wins_room
few_choice s few = let is = lt-ltb (sparse_count s.ways.pages.uses) 2 few in simp is refl

pub choice_by : (s : Space)
    → choice_in s ≡ chosen_or (choose_refusal s.ways.pages) (length (chosen_objects s))
unfolding wins_room has_addresses
choice_by s =
    elim (cases_Bool (nat_lt (sparse_count s.ways.pages.uses) 2)) [
      | inl few ↦ simp few refl
      | inr enough ↦
          elim (cases_Bool (nat_lt (2 ^ 32) (s.ways.pages.next + sparse_count s.ways.pages.uses))) [
            | inl spent ↦ simp (enough, spent) refl
            | inr left ↦ simp (enough, left) refl
          ]
    ]

-- the same fault, or how many are to move
pub choice_refused : (s : Space) (fault : Fault) → Err fault ≡ choice s.ways.pages
    → choice_in s ≡ Err fault
choice_refused s fault is =
    choice_by s ∙ by (choose_refusal s.ways.pages) refl is
  where
    by : (refusal : Option Fault) → choose_refusal s.ways.pages ≡ refusal → Err fault ≡ choice s.ways.pages
        → chosen_or (choose_refusal s.ways.pages) (length (chosen_objects s)) ≡ Err fault
    by None at is =
        absurd (false≢true (ap is_ok (is ∙ ap (λ r. chosen_or r (sparse_cells s.ways.pages.uses)) at)))
      where
        is_ok : Result ℕ Fault → Bool
        is_ok (Ok n) = true
        is_ok (Err fault) = false
    by (Some other) at is =
        ap (λ r. chosen_or r (length (chosen_objects s))) at
        ∙ sym (ap as_chosen (is ∙ ap (λ r. chosen_or r (sparse_cells s.ways.pages.uses)) at))
      where
        as_chosen : Result ℕ Fault → Result ℕ Fault
        as_chosen (Ok n) = Ok n
        as_chosen (Err fault) = Err fault

-- then no table changes
refused_same : (t : Table) (fault : Fault) → Err fault ≡ choice t.ways.pages → table_selected t ≡ t
refused_same t fault is = by (choose_refusal t.ways.pages) refl
  where
    by : (refusal : Option Fault) → choose_refusal t.ways.pages ≡ refusal → table_selected t ≡ t
    by None at =
        absurd (false≢true (ap is_ok (is ∙ ap (λ r. chosen_or r (sparse_cells t.ways.pages.uses)) at)))
      where
        is_ok : Result ℕ Fault → Bool
        is_ok (Ok n) = true
        is_ok (Err fault) = false
    by (Some other) at = ap (λ r. selected_unless r t) at

pub refused_seen : (s : Stored) (fault : Fault)
    → Err fault ≡ choice s.table.ways.pages → (t : Table) → t ≡ table_selected s.table
    → seen_ground (record s { table = t }) ≡ record (seen_ground s) { space = with_choice (seen_ground s).space }
refused_seen s fault at t is =
    ap (λ (r : Table). seen_ground (record s { table = r })) (is ∙ refused_same s.table fault at)
    ∙ ap (λ c. record (seen_ground s) { space = with_choice_if (seen_ground s).space c })
    (sym (choice_refused (seen_ground s).space fault at))

pub choice_made : (s : Space) → choose_refusal s.ways.pages ≡ None
    → choice_in s ≡ Ok (length (chosen_objects s))
choice_made s none = choice_by s ∙ ap (λ r. chosen_or r (length (chosen_objects s))) none

-- ---- pages are chosen

enough_sparse : (ps : Pages) → choose_refusal ps ≡ None → nat_lt (sparse_count ps.uses) 2 ≡ false
enough_sparse ps none =
    elim (cases_Bool (nat_lt (sparse_count ps.uses) 2)) [
      | inl few ↦ absurd (some_none (simp few at none))
      | inr enough ↦ enough
    ]
  where
    some_none : {f : Fault} → (let l : Option Fault = Some f in l) ≡ None → ⊥
    some_none same = true≢false (ap is_some same)
      where
        is_some : Option Fault → Bool
        is_some None = false
        is_some (Some f) = true

chosen_now : (ways : Ways) (good : Colour) → has_chosen ways.pages.uses ≡ false → choose_refusal ways.pages ≡ None
    → has_chosen (ways_chosen ways good).pages.uses ≡ true
chosen_now ways good none accepted =
    ap (λ fs. nat_lt 0 (length fs))
    (keeps_reserving (with_chosen ways.pages, ways.forwards) (left_in (choosing ways.pages.uses))).frames
    ∙ (let count = count_chosen ways.pages.uses (none_chosen ways.pages.uses none) in
    let enough = ltb-false (sparse_count ways.pages.uses) 2 (enough_sparse ways.pages accepted) in
    lt-ltb 0 (length (chosen_frames (choosing ways.pages.uses))) (omega (arith, count, enough)))

module _ {s : Stored} (sound : IsSoundObjects s) where
  -- the same objects, slots and holds
  ground_same : {t : Table} {stage : Stage} {has_choice : Bool} → t.tabled ≡ s.table.tabled → t.room ≡ s.table.room
      → t.last ≡ s.table.last → t.slots ≡ s.table.slots
      → IsSoundGround (record s { table = t; stage = stage; has_choice = has_choice })
  ground_same tabled room last slots = rw (tabled, room, last, slots) (record {
    within = sound.ground.within;
    room = sound.ground.room;
    slot_count = sound.ground.slot_count;
    counted = sound.ground.counted;
    given = sound.ground.given;
    bounded = sound.ground.bounded;
  })

  module _ (tuned_now : s.stage ≡ Tuned) (spared : s.condemning ≡ false) (ended : s.has_choice ≡ false)
      (accepted : choose_refusal s.table.ways.pages ≡ None) {t : Table} (is : t ≡ table_selected s.table)
      (left : left_of t ≡ numbers_at s.table.occupants (left_in (choosing s.table.ways.pages.uses))) where
    chosen : t ≡ selected_unless None s.table
    chosen = is ∙ ap (λ r. selected_unless r s.table) accepted

    pub chosen_seen : seen_ground (record s { table = t; stage = Moved; has_choice = true })
        ≡ record (seen_ground s) { space = with_choice (seen_ground s).space }
    unfolding lay_chosen chosen_objects
    chosen_seen =
        (λ i. record {
          heap = (ap (λ (r : Table). (seen_ground (record s { table = r })).heap) chosen) i;
          next = s.next;
          marked = (ap (λ (r : Table). (seen_ground (record s { table = r })).marked) chosen) i;
          tags = (ap (λ (r : Table). (seen_ground (record s { table = r })).tags) chosen) i;
          condemning = s.condemning;
          space = record {
            ways = (ap (λ (r : Table). r.ways) chosen) i;
            cells = (ap (λ (r : Table). r.occupants) chosen) i;
            good = (ap (λ (r : Table). r.round.good) chosen) i;
            last = s.last;
            stage = Moved;
            unhealed = (ap (λ (r : Table). (seen_ground (record s { table = r })).space.unhealed) chosen) i;
            still_to_move = left i;
            has_choice = true;
          };
        })
        ∙ ap (λ c. record (seen_ground s) { space = with_choice_if (seen_ground s).space c })
        (sym (choice_made (seen_ground s).space accepted))

    pub chosen_answer : (count : ℕ) → count ≡ length (left_of t) → Ok count ≡ choice_in (seen_ground s).space
    unfolding chosen_objects
    chosen_answer count counts =
        ap Ok (counts ∙ ap length left)
        ∙ sym (choice_made (seen_ground s).space accepted)

    pub chosen_sound : IsSoundObjects (record s { table = t; stage = Moved; has_choice = true })
    chosen_sound = record {
      ground = ground_same (ap (λ (r : Table). r.tabled) chosen) (ap (λ (r : Table). r.room) chosen)
          (ap (λ (r : Table). r.last) chosen) (ap (λ (r : Table). r.slots) chosen);
      moves = moves_chosen sound tuned_now spared t (ap (λ (r : Table). r.ways) chosen)
          (ap (λ (r : Table). r.round.good) chosen)
          (ap (λ (r : Table). has_chosen r.ways.pages.uses) chosen
          ∙ chosen_now s.table.ways s.table.round.good (sym sound.moves.choice ∙ ended) accepted);
      closed = rw chosen_seen (record { rooted = sound.closed.rooted; named = sound.closed.named });
    }

  -- ---- a choice ends

  module _ (tuned_now : s.stage ≡ Tuned) (none : left_of s.table ≡ []) where
    pub ended_seen : seen_ground (record s { table = table_renumbered s.table; has_choice = false })
        ≡ record (seen_ground s) { space = with_choice_ended (seen_ground s).space }
    unfolding lay_reopened
    ended_seen = λ i. record {
      heap = (seen_ground s).heap;
      next = s.next;
      marked = (seen_ground s).marked;
      tags = (seen_ground s).tags;
      condemning = s.condemning;
      space = record {
        ways = ways_renumbered s.table.ways;
        cells = s.table.occupants;
        good = s.table.round.good;
        last = s.last;
        stage = s.stage;
        unhealed = (seen_ground s).space.unhealed;
        still_to_move = (nothing_left ∙ sym none) i;
        has_choice = false;
      };
    }
      where
        nothing_left : left_of (table_renumbered s.table) ≡ []
        nothing_left =
            ap (λ fs. numbers_at s.table.occupants (taken_in (ways_renumbered s.table.ways).pages.uses fs))
            (chosen-renumbered s.table.ways.pages.next s.table.ways.pages.uses)

    pub ended_choice_sound : IsSoundObjects (record s { table = table_renumbered s.table; has_choice = false })
    ended_choice_sound = record {
      ground = ground_same refl refl refl refl;
      moves = moves_renumbered sound tuned_now;
      closed = rw ended_seen (record { rooted = sound.closed.rooted; named = sound.closed.named });
    }
