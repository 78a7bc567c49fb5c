-- A list of numbers that is filled at its end and taken from at its front.
use Rattle.std.specs.Prelude.{ℕ, List, [], ◌∷◌, ◌++◌, drop, map, Option, Some, None}
use Rattle.std.specs.Option.{option_map}
use Rattle.ref_base.specs.Members.{rest_of}
use Rattle.ref_space.specs.declared.index.Entry.{Entry}

-- the numbers that stand in it, first first, and how many it has room for
pub record Worklist : Type 0 where
  pub stands : List ℕ
  pub room : ℕ

abbrev pub empty_worklist : ℕ → Worklist
empty_worklist room = record { stands = []; room = room }

abbrev pub with_last : Worklist → ℕ → Worklist
with_last l n = record l { stands = l.stands ++ n ∷ [] }

-- and these, in order
abbrev pub with_more : Worklist → List ℕ → Worklist
with_more l ns = record l { stands = l.stands ++ ns }

abbrev pub first_in : List ℕ → Option ℕ
first_in [] = None
first_in (n ∷ ns) = Some n

-- the one at this place, from 0 on
abbrev pub listed_at : List ℕ → ℕ → Option ℕ
listed_at ns place = first_in (drop place ns)

abbrev pub without_first_listed : Worklist → Worklist
without_first_listed l = record l { stands = rest_of l.stands }

abbrev pub emptied_list : Worklist → Worklist
emptied_list l = record l { stands = [] }

-- the numbers of entries
abbrev pub numbers_in : List Entry → List ℕ
numbers_in = map (λ e. e.no)

abbrev pub entry_number : Option Entry → Option ℕ
entry_number = option_map (λ e. e.no)
