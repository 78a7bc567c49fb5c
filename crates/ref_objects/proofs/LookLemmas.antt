-- A look at an object of the table, as a look at that of the heap.
use Rattle.ref_objects.proofs.Common.{◌≡◌, ℕ, refl, ◌∙◌, arith, inl, inr, cases_Bool, IsRising, look_of}
use Rattle.ref_objects.proofs.Common.{ground_looked_at, Stored, seen_ground, IsSoundGround, tabled_linked, table_look}
use Rattle.ref_objects.proofs.Common.{table_looked_at, ClearIn, tabled_at, objects_of, numbers}
use Rattle.ref_objects.specs.Grounds.{linked_in}
use Rattle.ref_base.proofs.NewClears.{refers_into-same}
use Rattle.ref_space.proofs.TableReads.{reference-tabled}
use Rattle.ref_objects.proofs.GroundLemmas.{seen_written, sound_changed}
use Rattle.ref_objects.proofs.MarkLemmas.{is_unmarked-tabled}
use Rattle.ref_objects.proofs.TagLemmas.{cleared_in-tabled, link-tabled}

module _ {s : Stored} (sound : IsSoundGround s) (n : ℕ) where
  pub linked_seen : tabled_linked n (tabled_at s.table.tabled n) ≡ linked_in (seen_ground s) n
  linked_seen = grind (arith, reference-tabled, cleared_in-tabled, link-tabled)

  pub sound_looked : (cycle : ℕ) → IsSoundGround (record s { table = table_looked_at s.table n cycle })
  sound_looked cycle = grind (arith, sound_changed)

  module _ (rising : IsRising (numbers (objects_of s.table.tabled))) where
    clears : (table_look s.table n).is_cleared ≡ (look_of (seen_ground s) n).is_cleared
    clears = search (refers_into-same, is_unmarked-tabled, reference-tabled)

    pub look_seen : table_look s.table n ≡ look_of (seen_ground s) n
    look_seen = λ i. record { was = linked_seen i; is_cleared = clears i }

    pub looked_seen : (cycle : ℕ)
        → seen_ground (record s { table = table_looked_at s.table n cycle })
        ≡ ground_looked_at (seen_ground s) n cycle
    looked_seen cycle =
        elim (cases_Bool (look_of (seen_ground s) n).is_cleared) [
          | inl goes ↦ simp (clears ∙ goes) (simp goes (seen_written sound n (ClearIn cycle)))
          | inr stays ↦ simp (clears ∙ stays) (simp stays refl)
        ]
