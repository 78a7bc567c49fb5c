-- Where objects lie is no matter of the states that a heap stands for, but for what is unhealed and whether objects
-- were chosen to move.
use Rattle.ref_mark.proofs.Common.{◌≡◌, ℕ, Option, Some, None, refl, arith, cases_Bool, inl, inr, has, Space, brought}
use Rattle.ref_mark.proofs.Common.{State, CycleHeap, MarkStands, cycle_brought, undoomed}

pub spaced_stands : (k : CycleHeap) (a : State) (s : Space) → MarkStands k a → s.unhealed ≡ k.space.unhealed
    → s.has_choice ≡ k.space.has_choice → MarkStands (record k { space = s }) a
spaced_stands k a s stands unhealed choice = grind arith

-- ---- what moves before it is handed out

-- nothing else of where objects lie changes than the pages, the cells and what is still to move
pub record IsBrought (s after : Space) : Type 0 where
  pub good : after.good ≡ s.good
  pub last : after.last ≡ s.last
  pub stage : after.stage ≡ s.stage
  pub unhealed : after.unhealed ≡ s.unhealed
  pub has_choice : after.has_choice ≡ s.has_choice

pub brought_is : (s : Space) (value : Option ℕ) → IsBrought s (brought s value)
brought_is s None = record { good = refl; last = refl; stage = refl; unhealed = refl; has_choice = refl }
brought_is s (Some n) =
    elim (cases_Bool (has s.still_to_move n)) [
      | inl moves ↦ simp moves
          (record { good = refl; last = refl; stage = refl; unhealed = refl; has_choice = refl })
      | inr rests ↦ simp rests
          (record { good = refl; last = refl; stage = refl; unhealed = refl; has_choice = refl })
    ]

pub brought_stands : (k : CycleHeap) (a : State) (value : Option ℕ) → MarkStands k a
    → MarkStands (cycle_brought k value) a
brought_stands k a value stands =
    let is = brought_is k.space value in spaced_stands k a (brought k.space value) stands is.unhealed is.has_choice

-- what reads as null reads so then
pub undoomed-brought : (k : CycleHeap) (moved value : Option ℕ)
    → undoomed (cycle_brought k moved) value ≡ undoomed k value
undoomed-brought k moved None = refl
undoomed-brought k moved (Some n) = refl
