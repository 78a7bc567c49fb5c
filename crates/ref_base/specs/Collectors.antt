-- The abstract collector, as plain data: a machine without marks (this project's profile, in the manner of JEP 333).
use Rattle.std.specs.Prelude.{ℕ, Bool, false, List, [], ◌∷◌, ◌++◌, replicate}
use Rattle.ref_base.specs.Graphs.{Graph}
use Rattle.ref_base.specs.Worlds.{World, first_world_of}
use Rattle.ref_base.specs.declared.config.Config.{Config}

-- The state of the collector. Its world is that of the replay but for two things: the new clears are cleared from the
-- mark's end on, and what was swept is gone. Beside it: the next object number, and the next as the cycle began; the
-- graphs of the moments of this marking, since whatever a kept path led to in one of them was ever kept; for each
-- worker the objects that it scanned in this cycle; whether it is said that an object is left to scan; the doomed that
-- are not swept yet; the references that the mark's end cleared; for each worker the references that it found and has
-- not looked at since; and whether objects were chosen to move since a cycle last ended. Which ones is no part of it.
pub record State : Type 0 where
  pub world : World
  pub next : ℕ
  pub born : ℕ
  pub moments : List Graph
  pub scanned : List (List ℕ)
  pub left : Bool
  pub doomed : List ℕ
  pub cleared : List ℕ
  pub found : List (List ℕ)
  pub moved : Bool

-- at first no object is there, and the first has number 1: of a heap of this number
abbrev pub first_state_of : Config → ℕ → State
first_state_of config number = record {
  world = first_world_of config number;
  next = 1;
  born = 1;
  moments = [];
  scanned = replicate config.workers [];
  left = false;
  doomed = [];
  cleared = [];
  found = replicate config.workers [];
  moved = false;
}

-- and of a world with queues
abbrev pub first_state : Config → State
first_state config = first_state_of config 0

-- the lists of all workers as one
abbrev pub joined : List (List ℕ) → List ℕ
joined [] = []
joined (ns ∷ rest) = ns ++ joined rest
