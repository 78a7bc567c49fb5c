-- Moves: what holds of them as pages, colours and stages change, and what is seen of an object that moves.
use Rattle.ref_objects.proofs.Common.{◌≡◌, ℕ, ◌+◌, ◌/◌, ◌%◌, Bool, true, false, [], Option, Some, None, refl}
use Rattle.ref_objects.proofs.Common.{sym, ap, ◌∙◌, subst, length, nat_lt, inl, inr, cases_Bool, false≢true, Stored}
use Rattle.ref_objects.proofs.Common.{Table, Tabled, seen_ground, AreSoundMoves, IsSoundMoves, IsSoundObjects, has}
use Rattle.std.proofs.lemmas.Bool.{true≢false}
use Rattle.ref_space.specs.declared.colour.Colour.{Colour}
use Rattle.ref_space.specs.declared.colour.Colour.TheVariants.{R}
use Rattle.ref_objects.specs.declared.stage.Stage.{Stage}
use Rattle.ref_objects.specs.Grounds.{is_tuned}
use Rattle.ref_objects.specs.declared.stage.Stage.TheVariants.{Fresh, Tuned, Moved}
use Rattle.ref_space.specs.Pages.{AreFilled, chosen_frames, has_chosen, place_of, taken_in}
use Rattle.ref_space.specs.Moves.{Ways, tuned, ways_chosen}
use Rattle.ref_space.specs.Tables.{brought as table_brought, left_of, moved_from, place_of_number, table_freed}
use Rattle.ref_objects.proofs.Common.{◌-◌, ◌^◌, with_tabled}
use Rattle.ref_space.specs.Tables.{RoundView}
use Rattle.ref_space.specs.Tables.{numbers_at, table_renumbered}
use Rattle.ref_space.specs.Tables.{is_unmarked_in, tabled_at, without_if_any, table_begun}
use Rattle.ref_space.proofs.MoveLemmas.{chosen-with, none_chosen}
use Rattle.ref_space.proofs.RoomLemmas.{filled_placing}
use Rattle.ref_space.proofs.ReserveLemmas.{keeps_placing}
use Rattle.ref_space.proofs.CallLemmas.{chosen-renumbered}
use Rattle.ref_objects.specs.Grounds.{ground_brought, lay_moved, moved_one}

-- ---- the stage

is_fresh : Fresh ≡ Tuned → ⊥
is_fresh same = true≢false (ap first same)
  where
    first : Stage → Bool
    first Fresh = true
    first Tuned = false
    first Moved = false

pub not_moved : Tuned ≡ Moved → ⊥
not_moved same = true≢false (ap first same)
  where
    first : Stage → Bool
    first Fresh = false
    first Tuned = true
    first Moved = false

pub not_fresh : Tuned ≡ Fresh → ⊥
not_fresh same = is_fresh (sym same)

pub moved_not_fresh : Moved ≡ Fresh → ⊥
moved_not_fresh same = true≢false (ap first same)
  where
    first : Stage → Bool
    first Fresh = false
    first Tuned = false
    first Moved = true

-- ---- what stays

-- pages were placed in, given back or left
pub moves_kept : {ways more : Ways} {good last : Colour} {stage : Stage} {has_choice condemning : Bool}
    → chosen_frames more.pages.uses ≡ chosen_frames ways.pages.uses → more.tuned ≡ ways.tuned → more.last ≡ ways.last
    → (stage ≡ Fresh → AreFilled more.pages.uses)
    → IsSoundMoves ways good last stage has_choice condemning → IsSoundMoves more good last stage has_choice condemning
moves_kept frames same_tuned same_last filled sound = record {
  choice = sound.choice ∙ ap (λ fs. nat_lt 0 (length fs)) (sym frames);
  settled = same_tuned ∙ sound.settled;
  fresh = sound.fresh;
  filled = filled;
  coloured = sound.coloured;
  moved = λ is. ((sound.moved is).0, same_last ∙ (sound.moved is).1);
  condemns = sound.condemns;
}

module _ {s : Stored} (objects : IsSoundObjects s) where
  abbrev sound : AreSoundMoves s
  sound = objects.moves

  -- before the first cycle no page is chosen
  none_open : s.stage ≡ Fresh → chosen_frames s.table.ways.pages.uses ≡ []
  none_open is = none_chosen s.table.ways.pages.uses (sym sound.choice ∙ sound.fresh is)

  pub moves_made : (place : ℕ) (entry : Tabled)
      → AreSoundMoves (record s { table = with_tabled s.table place entry; next = s.next + 1 })
  moves_made place entry =
      moves_kept (keeps_placing s.table.ways.pages.uses).frames refl refl
      (λ is. filled_placing s.table.ways.pages.uses (none_open is) (sound.filled is)) sound

  pub moves_freed : (s.stage ≡ Fresh → ⊥) → (n : ℕ) → AreSoundMoves (record s { table = table_freed s.table n })
  moves_freed begun n =
      elim (cases_Bool (is_unmarked_in s.table.round.number (tabled_at s.table.tabled n))) [
        | inl goes ↦
            simp goes
            (moves_kept
            (chosen-with s.table.ways.pages.uses
            (place_of s.table.ways.pages.uses (place_of_number s.table.occupants n / 64))
            (place_of_number s.table.occupants n % 64) true) refl refl (λ is. absurd (begun is)) sound)
        | inr stays ↦ simp stays sound
      ]

  moves_moved : (s.stage ≡ Fresh → ⊥) → (from : ℕ) → AreSoundMoves (record s { table = moved_from s.table from })
  moves_moved begun from =
      moves_kept
      (chosen-with s.table.ways.pages.uses (place_of s.table.ways.pages.uses (from / 64)) (from % 64) true) refl refl
      (λ is. absurd (begun is)) sound

  -- nothing is to move before the first cycle
  leaves_begun : (n : ℕ) → has (left_of s.table) n ≡ true → s.stage ≡ Fresh → ⊥
  leaves_begun n leaves is =
      false≢true
      (sym (ap (λ fs. has (numbers_at s.table.occupants (taken_in s.table.ways.pages.uses fs)) n) (none_open is))
      ∙ leaves)

  pub moves_brought : (n : Option ℕ) {t : Table} → t ≡ table_brought s.table n
      → AreSoundMoves (record s { table = t })
  moves_brought n {t} is = subst (λ (r : Table). AreSoundMoves (record s { table = r })) (sym is) (by n)
    where
      by : (n : Option ℕ) → AreSoundMoves (record s { table = table_brought s.table n })
      by None = sound
      by (Some n) =
          elim (cases_Bool (has (left_of s.table) n)) [
            | inl leaves ↦ simp leaves (moves_moved (leaves_begun n leaves) (place_of_number s.table.occupants n))
            | inr stays ↦ simp stays sound
          ]

  -- nothing is condemned any more
  pub moves_ended : AreSoundMoves (record s { condemning = false })
  moves_ended = record {
    choice = sound.choice;
    settled = sound.settled;
    fresh = sound.fresh;
    filled = sound.filled;
    coloured = sound.coloured;
    moved = sound.moved;
    condemns = λ is. absurd (false≢true is);
  }

  pub moves_condemned : s.stage ≡ Tuned → (t : Table) → t.ways ≡ s.table.ways → t.round ≡ s.table.round
      → AreSoundMoves (record s { table = t; condemning = true })
  moves_condemned tuned_now t ways round = record {
    choice = sound.choice ∙ ap (λ (w : Ways). has_chosen w.pages.uses) (sym ways);
    settled = ap (λ (w : Ways). w.tuned) ways ∙ sound.settled;
    fresh = sound.fresh;
    filled = λ is. absurd (not_fresh (sym tuned_now ∙ is));
    coloured = λ is. (
      ap (λ (r : RoundView). r.good) round ∙ (sound.coloured is).0,
      (λ same. (sound.coloured is).1 (ap (λ (r : RoundView). r.good) (sym round) ∙ same)),
    );
    moved = λ is. ((sound.moved is).0, ap (λ (w : Ways). w.last) ways ∙ (sound.moved is).1);
    condemns = λ is. tuned_now;
  }

  -- once a cycle began, and no choice is to end, a cycle was the last to make a colour good
  pub tuned_between : (s.stage ≡ Fresh → ⊥) → s.has_choice ≡ false → s.stage ≡ Tuned
  tuned_between begun ended = by s.stage refl
    where
      by : (stage : Stage) → s.stage ≡ stage → s.stage ≡ Tuned
      by Fresh is = absurd (begun is)
      by Tuned is = is
      by Moved is = absurd (true≢false (sym (sound.moved is).0 ∙ ended))

  -- and where one was, what slots hold has the good colour
  pub settled_tuned : s.stage ≡ Tuned → s.table.ways.tuned ≡ true
  settled_tuned tuned_now = sound.settled ∙ ap is_tuned tuned_now

  -- a cycle begins
  pub moves_begun : (good : Colour) → (good ≡ R → ⊥)
      → AreSoundMoves (record s { table = table_begun s.table good; condemning = false; last = good; stage = Tuned })
  moves_begun good other =
      elim (cases_Bool (nat_lt s.table.round.number (2 ^ 8 - 1))) [
        | inl next ↦ simp next here
        | inr spent ↦ simp spent here
      ]
    where
      here : IsSoundMoves (tuned s.table.ways) good good Tuned s.has_choice false
      here = record {
        choice = sound.choice;
        settled = refl;
        fresh = λ is. absurd (not_fresh is);
        filled = λ is. absurd (not_fresh is);
        coloured = λ is. (refl, other);
        moved = λ is. absurd (not_moved is);
        condemns = λ is. absurd (false≢true is);
      }

  -- where pages are chosen, the colour of words from before isn't one that a cycle makes good next
  pub begins_apart : (good : Colour) → (s.last ≡ good → ⊥) → (s.stage ≡ Tuned → s.has_choice ≡ false)
      → has_chosen s.table.ways.pages.uses ≡ true → s.table.ways.last ≡ good → ⊥
  begins_apart good other ended chosen same = by s.stage refl
    where
      has_it : s.has_choice ≡ true
      has_it = sound.choice ∙ chosen

      by : (stage : Stage) → s.stage ≡ stage → ⊥
      by Fresh is = false≢true (sym (sound.fresh is) ∙ has_it)
      by Tuned is = false≢true (sym (ended is) ∙ has_it)
      by Moved is = other (sym (sound.moved is).1 ∙ same)

  -- pages are chosen
  pub moves_chosen : s.stage ≡ Tuned → s.condemning ≡ false → (t : Table)
      → t.ways ≡ ways_chosen s.table.ways s.table.round.good → t.round.good ≡ R
      → has_chosen t.ways.pages.uses ≡ true
      → AreSoundMoves (record s { table = t; stage = Moved; has_choice = true })
  moves_chosen tuned_now spared t ways moves chosen = record {
    choice = sym chosen;
    settled = ap (λ (w : Ways). w.tuned) ways;
    fresh = λ is. absurd (moved_not_fresh is);
    filled = λ is. absurd (moved_not_fresh is);
    coloured = λ is. absurd (not_moved (sym is));
    moved = λ is. (refl, ap (λ (w : Ways). w.last) ways ∙ (sound.coloured tuned_now).0);
    condemns = λ is. absurd (false≢true (sym spared ∙ is));
  }

  -- they have new addresses
  pub moves_renumbered : s.stage ≡ Tuned
      → AreSoundMoves (record s { table = table_renumbered s.table; has_choice = false })
  moves_renumbered tuned_now = record {
    choice = sym (ap (λ fs. nat_lt 0 (length fs))
        (chosen-renumbered s.table.ways.pages.next s.table.ways.pages.uses));
    settled = sound.settled;
    fresh = λ is. absurd (not_fresh (sym tuned_now ∙ is));
    filled = λ is. absurd (not_fresh (sym tuned_now ∙ is));
    coloured = sound.coloured;
    moved = λ is. absurd (not_moved (sym tuned_now ∙ is));
    condemns = sound.condemns;
  }

-- ---- what is seen of it

pub seen_brought : (s : Stored) (n : Option ℕ) (t : Table) → t ≡ table_brought s.table n
    → left_of t ≡ without_if_any (left_of s.table) n
    → seen_ground (record s { table = t }) ≡ ground_brought (seen_ground s) n
unfolding lay_moved
seen_brought s None t is left = ap (λ (r : Table). seen_ground (record s { table = r })) is
seen_brought s (Some n) t is left =
    elim (cases_Bool (has (left_of s.table) n)) [
      | inl leaves ↦
          let moved : t ≡ moved_from s.table (place_of_number s.table.occupants n) = is ∙ simp leaves refl in
          simp leaves (seen_moved moved)
      | inr stays ↦
          let same : t ≡ s.table = is ∙ simp stays refl in
          simp stays (ap (λ (r : Table). seen_ground (record s { table = r })) same)
    ]
  where
    seen_moved : t ≡ moved_from s.table (place_of_number s.table.occupants n)
        → seen_ground (record s { table = t })
        ≡ record (seen_ground s) { space = moved_one (seen_ground s).space n }
    seen_moved moved = λ i. record {
      heap = (ap (λ (r : Table). (seen_ground (record s { table = r })).heap) moved) i;
      next = s.next;
      marked = (ap (λ (r : Table). (seen_ground (record s { table = r })).marked) moved) i;
      tags = (ap (λ (r : Table). (seen_ground (record s { table = r })).tags) moved) i;
      condemning = s.condemning;
      space = record {
        ways = (ap (λ (r : Table). r.ways) moved) i;
        cells = (ap (λ (r : Table). r.occupants) moved) i;
        good = (ap (λ (r : Table). r.round.good) moved) i;
        last = s.last;
        stage = s.stage;
        unhealed = (ap (λ (r : Table). (seen_ground (record s { table = r })).space.unhealed) moved) i;
        still_to_move = left i;
        has_choice = s.has_choice;
      };
    }
