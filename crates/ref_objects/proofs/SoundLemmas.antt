-- What each call that writes fields of a heap's objects leaves sound.
use Rattle.ref_objects.proofs.Common.{◌≡◌, ℕ, ◌+◌, ◌-◌, ◌*◌, ◌^◌, ◌<◌, ◌≤◌, Bool, true, false, refl, sym, ap, subst}
use Rattle.ref_objects.proofs.Common.{◌∙◌, arith, [], ◌++◌, length, replicate, Option, Some, None, object_at, present}
use Rattle.ref_objects.proofs.Common.{is_within_limits, named_in, is_some, false≢true, lt-ltb, cases_Bool, inl, inr}
use Rattle.ref_objects.proofs.Common.{if◌then◌else◌, length-set, length-replicate, has, Reference, numbers, with_field}
use Rattle.ref_objects.proofs.Common.{with_hold, IsRising, referent_of, AllUpTo, Table, tabled_at, objects_of, holds_of}
use Rattle.ref_objects.proofs.Common.{holds_in, changed, on_object, less_held, with_marked, is_unmarked_in}
use Rattle.ref_objects.proofs.Common.{is_marked_in, table_freed, seen_ground, table_begun, change_of, table_blanked}
use Rattle.ref_objects.proofs.Common.{Colour, with_healed}
use Rattle.ref_objects.proofs.Common.{table_looked_at, may_hold, from_bool, Ground, NamesSpared, IsClosed}
use Rattle.ref_objects.proofs.Common.{IsSparedIfAny, is_spared, after_freeing, ground_with_heap, Stored, IsSoundGround}
use Rattle.ref_objects.proofs.Common.{Change, held_at, slotted, IsSoundObjects}
use Rattle.ref_space.specs.Tables.{empty_table, more_held_if}
use Rattle.ref_base.specs.declared.config.Config.{Config}
use Rattle.ref_objects.specs.GroundViews.{stored_fields}
use Rattle.ref_objects.specs.declared.stage.Stage.TheVariants.{Fresh, Tuned}
use Rattle.ref_base.proofs.HasLaws.{has-append}
use Rattle.ref_space.proofs.TabledLemmas.{is_there-objects_of}
use Rattle.ref_objects.proofs.MarkLemmas.{is_unmarked-tabled, has-marked_of}
use Rattle.ref_space.proofs.CellChanges.{change_keeps}
use Rattle.ref_space.proofs.TableReads.{change_holds, changed-held}
use Rattle.ref_space.specs.Tables.{AllDated}
use Rattle.ref_objects.proofs.GroundLemmas.{sound_made, seen_made, sound_changed, seen_changed}
use Rattle.ref_objects.proofs.GroundLemmas.{seen_written, has-holds_of, sound_added, sound_dropped, seen_added}
use Rattle.ref_objects.proofs.GroundLemmas.{seen_dropped, sound_freed, seen_freed, with_made_at}
use Rattle.ref_objects.proofs.MarkedLemmas.{seen_marked, sound_begun, seen_begun, sound_blanked}
use Rattle.ref_objects.proofs.MarkedLemmas.{seen_condemned, seen_healed}
use Rattle.ref_objects.proofs.LookLemmas.{looked_seen, sound_looked}
use Rattle.ref_objects.proofs.SparedLemmas.{names_slot, names_made, names_field, names_written, names_looked}
use Rattle.ref_objects.proofs.SparedLemmas.{names_held, names_unheld, names_marked, names_begun, names_healed}
use Rattle.ref_objects.proofs.SparedLemmas.{names_none_condemned, names_freed, names_condemned, spared_hold}
use Rattle.ref_objects.proofs.SparedLemmas.{spared_slot, no_names}
use Rattle.ref_objects.proofs.Common.{AreSoundMoves, made_entry, nat_lt, with_tabled, table_look, ◌/◌}
use Rattle.ref_space.specs.declared.colour.Colour.TheVariants.{R}
use Rattle.ref_space.specs.ColouredWords.{cycle_colour}
use Rattle.ref_space.specs.Pages.{has_chosen, taken_in}
use Rattle.ref_space.specs.Tables.{left_of, numbers_at}
use Rattle.ref_objects.specs.Grounds.{first_ground, first_space}
use Rattle.ref_objects.specs.declared.start.Start.{Start}
use Rattle.ref_space.proofs.MoveLemmas.{chosen-fresh}
use Rattle.ref_space.proofs.RoomLemmas.{filled_fresh}
use Rattle.ref_space.specs.Pages.{AreFilled}
use Rattle.ref_objects.proofs.MoveLemmas.{moved_not_fresh, moves_begun, moves_condemned, moves_ended, moves_freed}
use Rattle.ref_objects.proofs.MoveLemmas.{moves_brought, moves_made, not_fresh, seen_brought}
use Rattle.ref_space.specs.Tables.{brought as table_brought, without_if_any}

module _ {s : Stored} (sound : IsSoundObjects s) where
  -- what is seen of them
  abbrev was : Ground
  was = seen_ground s

  -- other fields are sound of which this is seen
  leaves : {t : Stored} {g : Ground} → IsSoundGround t → AreSoundMoves t → seen_ground t ≡ g → NamesSpared g
      → IsSoundObjects t
  leaves ground moves seen names = record { ground = ground; moves = moves; closed = rw seen names }

  -- a slot is written
  pub slot_sound : (place : ℕ) (value : Option ℕ) {g : Ground} → was ≡ g → IsSparedIfAny g value
      → IsSoundObjects (record s { table = slotted s.table place value })
  slot_sound place value view spared = record {
    ground = record {
      within = sound.ground.within;
      room = sound.ground.room;
      slot_count = length-set s.table.slots place value ∙ sound.ground.slot_count;
      counted = sound.ground.counted;
      given = sound.ground.given;
      bounded = sound.ground.bounded;
    };
    moves = sound.moves;
    closed = names_slot was place value sound.closed (rw view spared);
  }

  -- what is read of one is spared
  pub slot_spared : {g : Ground} → was ≡ g → (place : ℕ) {value : Option ℕ} → value ≡ held_at s.table place
      → IsSparedIfAny g value
  slot_spared {g} view place {value} reads =
      subst (λ (h : Ground). IsSparedIfAny h value) view (spared_slot was sound.closed place value reads)

  -- an object that is handed out has moved
  pub brought_sound : (n : Option ℕ) {t : Table} → t ≡ table_brought s.table n
      → left_of t ≡ without_if_any (left_of s.table) n → IsSoundObjects (record s { table = t })
  brought_sound n {t} is left = record {
    ground = subst (λ (r : Table). IsSoundGround (record s { table = r })) (sym is) (brought_ground n);
    moves = moves_brought sound n is;
    closed = rw (seen_brought s n t is left) (record { rooted = sound.closed.rooted; named = sound.closed.named });
  }
    where
      brought_ground : (n : Option ℕ) → IsSoundGround (record s { table = table_brought s.table n })
      brought_ground None = sound.ground
      brought_ground (Some n) =
          elim (cases_Bool (has (left_of s.table) n)) [
            | inl leaves ↦ simp leaves (record {
              within = sound.ground.within;
              room = sound.ground.room;
              slot_count = sound.ground.slot_count;
              counted = sound.ground.counted;
              given = sound.ground.given;
              bounded = sound.ground.bounded;
            })
            | inr stays ↦ simp stays sound.ground
          ]

  -- an object is made
  pub made_sound : (place k : ℕ) (r : Option Reference) → s.next < 2 ^ 32
      → left_of (with_tabled s.table place (made_entry s.table.round.number s.next k r s.condemning)) ≡ left_of s.table
      → AllUpTo s.table.last (numbers (objects_of s.table.tabled)) → 1 ≤ s.table.round.number → {g : Ground} → was ≡ g
      → IsSparedIfAny g (referent_of r) → IsSoundObjects (with_made_at s place k r)
  made_sound place k r below left given begun view spared =
      leaves (sound_made sound.ground place k r below)
      (moves_made sound place (made_entry s.table.round.number s.next k r s.condemning))
      (seen_made sound.ground place k r left given begun)
      (names_made was place k r sound.closed (rw view spared))

  -- a field is written
  pub field_sound : (n i : ℕ) (value : Option ℕ) {g : Ground} → was ≡ g → IsSparedIfAny g value
      → IsSoundObjects (record s { table = changed s.table n (on_object (with_field i value)) })
  field_sound n i value view spared =
      leaves (sound_changed sound.ground n (on_object (with_field i value)) (λ k. refl) (λ k. refl)) sound.moves
      (seen_changed sound.ground n (with_field i value) (λ o. refl))
      (names_field was n i value sound.closed (rw view spared))

  -- something else is written of an object
  pub written_sound : (n : ℕ) (change : Change)
      → IsSoundObjects (record s { table = changed s.table n (change_of change) })
  written_sound n change =
      leaves (sound_changed sound.ground n (change_of change) (change_keeps change) (change_holds change)) sound.moves
      (seen_written sound.ground n change) (names_written was n change sound.closed)

  -- the clock is set
  pub clock_sound : (now : ℕ) → IsSoundObjects (record s { clock = now })
  clock_sound now = record {
    ground = record {
      within = sound.ground.within;
      room = sound.ground.room;
      slot_count = sound.ground.slot_count;
      counted = sound.ground.counted;
      given = sound.ground.given;
      bounded = sound.ground.bounded;
    };
    moves = sound.moves;
    closed = record { rooted = sound.closed.rooted; named = sound.closed.named };
  }

  -- nothing is condemned any more
  pub ended_sound : IsSoundObjects (record s { condemning = false })
  ended_sound = record {
    ground = record {
      within = sound.ground.within;
      room = sound.ground.room;
      slot_count = sound.ground.slot_count;
      counted = sound.ground.counted;
      given = sound.ground.given;
      bounded = sound.ground.bounded;
    };
    moves = moves_ended sound;
    closed = names_none_condemned was sound.closed;
  }

  -- a cycle begins
  pub begun_sound : (good : Colour) → (good ≡ R → ⊥) → AllDated s.table.round.number s.table.tabled
      → IsSoundObjects
      (record s { table = table_begun s.table good; condemning = false; last = good; stage = Tuned })
  begun_sound good other dated =
      leaves (sound_begun sound.ground good dated) (moves_begun sound good other)
      (seen_begun sound.ground good dated) (names_begun was good sound.closed)

  module _ (rising : IsRising (numbers (objects_of s.table.tabled))) where
    -- what isn't marked is condemned
    pub condemned_sound : s.stage ≡ Tuned → {g : Ground} → was ≡ g → IsClosed g.heap (has g.marked)
        → IsSoundObjects (record s { table = table_blanked s.table; condemning = true })
    condemned_sound tuned_now view closed =
        leaves (sound_blanked sound.ground) (moves_condemned sound tuned_now (table_blanked s.table) refl refl)
        (seen_condemned sound.ground rising)
        (names_condemned was sound.closed
        (subst (λ (g : Ground). IsClosed g.heap (has g.marked)) (sym view) closed))

    module _ (n : ℕ) where
      -- an object is looked at
      pub looked_sound : (cycle : ℕ) → IsSoundObjects (record s { table = table_looked_at s.table n cycle })
      looked_sound cycle =
          leaves (sound_looked sound.ground n cycle) (moves_looked cycle) (looked_seen sound.ground n rising cycle)
          (names_looked was n cycle sound.closed)
        where
          moves_looked : (cycle : ℕ) → AreSoundMoves (record s { table = table_looked_at s.table n cycle })
          moves_looked cycle =
              elim (cases_Bool (table_look s.table n).is_cleared) [
                | inl goes ↦ simp goes sound.moves
                | inr stays ↦ simp stays sound.moves
              ]

      -- an object is marked
      pub marked_sound : IsSoundObjects (record s { table = changed s.table n (with_marked s.table.round.number) })
      marked_sound =
          leaves (sound_changed sound.ground n (with_marked s.table.round.number) (λ k. refl) (λ k. refl)) sound.moves
          (seen_marked sound.ground rising n) (names_marked was n sound.closed)

      -- an object is healed
      pub healed_sound : IsSoundObjects (record s { table = changed s.table n (with_healed s.table.round.number) })
      healed_sound =
          leaves (sound_changed sound.ground n (with_healed s.table.round.number) (λ k. refl) (λ k. refl)) sound.moves
          (seen_healed sound.ground rising n) (names_healed was n sound.closed)

      -- the object may be held exactly where it is spared
      pub may_hold_spared : may_hold s.table.round.number s.condemning (tabled_at s.table.tabled n) ≡ is_spared was n
      may_hold_spared = grind (arith, has-marked_of, is_there-objects_of, is_unmarked-tabled)

      -- one more hold
      module _ {g : Ground} (view : was ≡ g) where
        spared_at : (b : Bool) → b ≡ may_hold s.table.round.number s.condemning (tabled_at s.table.tabled n)
            → is_spared g n ≡ b
        spared_at b may = sym (ap (λ (g : Ground). is_spared g n) view) ∙ sym may_hold_spared ∙ sym may

        there_at : true ≡ may_hold s.table.round.number s.condemning (tabled_at s.table.tabled n)
            → is_some (tabled_at s.table.tabled n) ≡ true
        there_at may = grind (arith, may_hold_spared, is_there-objects_of)

        pub held_sound : (b : Bool) → b ≡ may_hold s.table.round.number s.condemning (tabled_at s.table.tabled n)
            → {more : ℕ}
            → more ≡ from_bool b → IsSoundObjects
            (record s {
              table = changed s.table n (more_held_if s.table.round.number s.condemning);
              holds = s.holds +
                  more;
            })
        held_sound true may {more} one =
            rw (changed-held s.table.round.number s.table.tabled n s.condemning true (sym may), one)
            (leaves (sound_added sound.ground n (there_at may)) sound.moves (seen_added sound.ground n rising
            (there_at may))
            (names_held was n sound.closed (sym may_hold_spared ∙ sym may)))
        held_sound false may {more} one = grind (arith, changed-held)

        pub held_seen : (b : Bool) → b ≡ may_hold s.table.round.number s.condemning (tabled_at s.table.tabled n)
            → seen_ground (record s { table = changed s.table n (more_held_if s.table.round.number s.condemning) })
            ≡ (if is_spared g n then ground_with_heap g (with_hold g.heap n) else g)
        held_seen true may = grind (arith, changed-held, seen_added, spared_at true may)
        held_seen false may = grind (arith, changed-held, spared_at false may)

      -- one hold fewer
      module _ (held : 0 < holds_in (tabled_at s.table.tabled n)) where
        pub unheld_sound : IsSoundObjects (record s { table = changed s.table n less_held; holds = s.holds - 1 })
        unheld_sound =
            leaves (sound_dropped sound.ground n held) sound.moves (seen_dropped sound.ground n rising held)
            (names_unheld was n sound.closed)

        -- what is held is spared
        held_spared : is_spared was n ≡ true
        held_spared = search (spared_hold, has-holds_of, lt-ltb)

        -- still
        pub unheld_spared : is_spared
            (seen_ground (record s { table = changed s.table n less_held; holds = s.holds - 1 })) n ≡ true
        unheld_spared =
            subst (λ (g : Ground). is_spared g n ≡ true) (sym (seen_dropped sound.ground n rising held)) held_spared

      -- so nobody holds what is condemned
      module _ (condemned : s.condemning ≡ true) where
        unheld : is_unmarked_in s.table.round.number (tabled_at s.table.tabled n) ≡ true
            → holds_in (tabled_at s.table.tabled n) ≡ 0
        unheld new = grind (arith, held_spared, is_unmarked-tabled)

        -- where something may be condemned, the marked are spared
        pub marked_spared : is_marked_in s.table.round.number (tabled_at s.table.tabled n) ≡ is_spared was n
        marked_spared = grind (arith, has-marked_of, is_there-objects_of, is_unmarked-tabled)

        -- and nothing else moves as it goes
        module _ (left : left_of (table_freed s.table n) ≡ left_of s.table) where
          pub freed_sound : IsSoundObjects (record s { table = table_freed s.table n })
          freed_sound =
              elim (cases_Bool (is_unmarked_in s.table.round.number (tabled_at s.table.tabled n))) [
                | inl goes ↦
                    leaves (sound_freed sound.ground n (unheld goes)) (moves_freed sound (λ is. not_fresh (sym (sound.moves.condemns condemned) ∙ is)) n)
                    (seen_freed sound.ground n rising condemned left (unheld goes)) (names_freed was n sound.closed)
                | inr stays ↦ simp stays sound
              ]

          pub freed_seen : seen_ground (record s { table = table_freed s.table n }) ≡ after_freeing was n
          freed_seen =
              elim (cases_Bool (is_unmarked_in s.table.round.number (tabled_at s.table.tabled n))) [
                | inl goes ↦ seen_freed sound.ground n rising condemned left (unheld goes)
                | inr stays ↦ grind (arith, is_unmarked-tabled)
              ]

-- at first nothing is there
pub first_seen : {config : Config} {heap_no : ℕ} {t : Table} {count next : ℕ} {last : Colour} (start : Start)
    → t ≡ empty_table config.cells count start.page → count ≡ 16 * config.mutators → next ≡ start.obj
    → last ≡ cycle_colour start.cycle
    → seen_ground (stored_fields config heap_no t 0 0 next false last Fresh false) ≡ first_ground config heap_no start
first_seen {config} {heap_no} start made sized begins coloured =
    rw (made, sized, begins, coloured)
    (ap (λ left. record (first_ground config heap_no start) {
      space = record (first_space config.cells start) { still_to_move = left };
    }) none)
  where
    none : left_of (empty_table config.cells (16 * config.mutators) start.page) ≡ []
    none =
        ap (λ fs. numbers_at (empty_table config.cells (16 * config.mutators) start.page).occupants
        (taken_in (empty_table config.cells (16 * config.mutators) start.page).ways.pages.uses fs))
        (chosen-fresh start.page 0 (2 * ((config.cells + 63) / 64)))

-- and nothing named
pub first_sound : {config : Config} {heap_no : ℕ} {t : Table} {count next : ℕ} {last : Colour} (first : ℕ)
    → is_within_limits config ≡ true → t ≡ empty_table config.cells count first → count ≡ 16 * config.mutators
    → 1 ≤ next → next ≤ 2 ^ 32 → IsSoundObjects (stored_fields config heap_no t 0 0 next false last Fresh false)
first_sound {config} {heap_no} {t} {count} {next} {last} first within made counted begins bounded = record {
  ground = record {
    within = within;
    room = ap (λ (t : Table). t.room) made;
    slot_count = ap (λ (t : Table). length t.slots) made ∙ length-replicate count None ∙ counted;
    counted = ap (λ (t : Table). length (holds_of t.tabled)) (sym made);
    given = rw made (omega (arith, begins));
    bounded = bounded;
  };
  moves = record {
    choice = sym (ap (λ (t : Table). has_chosen t.ways.pages.uses) made
        ∙ ap (λ fs. nat_lt 0 (length fs)) (chosen-fresh first 0 (2 * ((config.cells + 63) / 64))));
    settled = ap (λ (t : Table). t.ways.tuned) made;
    fresh = λ is. refl;
    filled = λ is. subst (λ (t : Table). AreFilled t.ways.pages.uses) (sym made)
        (filled_fresh first 0 (2 * ((config.cells + 63) / 64)));
    coloured = λ is. absurd (not_fresh (sym is));
    moved = λ is. absurd (moved_not_fresh (sym is));
    condemns = λ is. absurd (false≢true is);
  };
  closed = record {
    rooted = λ n root. absurd (false≢true (sym (no_root n) ∙ root));
    named = λ m n by. absurd (false≢true (sym (no_name m n) ∙ by));
  };
}
  where
    no_root : (n : ℕ) → has (present t.slots ++ holds_of t.tabled) n ≡ false
    no_root n = rw made (has-append (present (replicate count None)) [] n ∙ rw (no_names count n) refl)

    no_name : (m n : ℕ) → has (named_in (object_at (objects_of t.tabled) m)) n ≡ false
    no_name m n = rw made refl
