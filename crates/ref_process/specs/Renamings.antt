-- The rows of a processor whose objects have other handles: one function gives them, and another takes them back.
use Rattle.std.specs.Prelude.{ℕ, List, map}
use Rattle.ref_process.specs.DeskRows.{Crew, DeskRow, Adds, Finds, Gets, Relocates, with_desk}
use Rattle.ref_process.specs.Relocations.{relocated_handle, after_relocation}
use Rattle.ref_process.specs.declared.found.Found.{Found}
use Rattle.ref_process.specs.declared.found.Found.TheVariants.{Keep, Listed, Nothing}

-- the processor and its finders, by the other handles
abbrev pub renamed_crew : (ℕ → ℕ) → Crew → Crew
renamed_crew to c = with_desk c (after_relocation to c.desk)

abbrev pub renamed_found : (ℕ → ℕ) → Found → Found
renamed_found to (Keep h) = Keep (to h)
renamed_found to Listed = Listed
renamed_found to Nothing = Nothing

module _ (to from : ℕ → ℕ) where
  -- the call and its answer, by the other handles
  abbrev pub renamed_row : DeskRow → DeskRow
  renamed_row (Adds k owner strength referent queue x) =
      Adds k (relocated_handle to owner) strength (to referent) queue (renamed_found to x)
  renamed_row (Finds i k x) = Finds i k (renamed_found to x)
  renamed_row (Gets k got) = Gets k (relocated_handle to got)
  renamed_row (Relocates moves) = Relocates (λ h. to (moves (from h)))
  renamed_row row = row

  abbrev pub renamed_rows : List DeskRow → List DeskRow
  renamed_rows rows = map renamed_row rows
