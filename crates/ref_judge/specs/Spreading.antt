-- How marks spread along kept paths (this project's).
use Rattle.std.specs.Prelude.{Option, Bool, ◌≡◌, ℕ, true, false, List, [], ◌∷◌, ◌++◌, map, ◌⊎◌}
use Rattle.ref_base.specs.Members.{has}
use Rattle.ref_base.specs.Graphs.{is_there}
use Rattle.ref_base.specs.Paths.{Allowed, EndsPath, targets_at, present, if_any}
use Rattle.ref_base.specs.Heaps.{Heap}
use Rattle.ref_base.specs.KeptPaths.{is_kept}
use Rattle.ref_base.specs.declared.policy.Policy.{Policy}
use Rattle.ref_space.specs.Worklists.{Worklist}
use Rattle.ref_objects.specs.Grounds.{Ground, MayGrow}
use Rattle.ref_judge.specs.Judged.{Line, Finder, AllHands}
use Rattle.ref_judge.specs.declared.hand.Hand.{Hand}

-- all is as it was but marks, and what is healed
abbrev pub IsButMarks : Ground → Ground → Type 0
IsButMarks old new =
    new ≡ record old { marked = new.marked; space = record old.space { unhealed = new.space.unhealed } }

-- What is marked was marked at the start, or a kept path from these roots ends at it. What is marked anew leads to
-- nothing unmarked, but for the grey, each of which was marked anew.
pub record Spread (keeps : Allowed) (start : Ground) (roots : List ℕ) (g : Ground) (grey : List ℕ) : Type 0 where
  pub same : IsButMarks start g
  pub wider : (n : ℕ) → has start.marked n ≡ true → has g.marked n ≡ true
  pub rooted : (n : ℕ) → has roots n ≡ true → is_there start.heap.objects n ≡ true → has g.marked n ≡ true
  pub reached :
      (n : ℕ) → has g.marked n ≡ true
      → (has start.marked n ≡ true) ⊎ EndsPath keeps (record { objects = start.heap.objects; roots = roots }) n
  pub closed :
      (m n : ℕ) → has g.marked m ≡ true → has start.marked m ≡ false → has grey m ≡ false
      → has (targets_at keeps start.heap.objects m) n ≡ true → is_there start.heap.objects n ≡ true
      → has g.marked n ≡ true
  pub are_grey : (n : ℕ) → has grey n ≡ true → (has g.marked n ≡ true) × (has start.marked n ≡ false)

-- these were marked, and what was marked anew is grey
pub record Shades (g : Ground) (l : Worklist) (ns : List ℕ) (h : Ground) (m : Worklist) : Type 0 where
  pub same : IsButMarks g h
  pub room : m.room ≡ l.room
  pub grows : MayGrow h m
  pub spread :
      (keeps : Allowed) (start : Ground) (roots : List ℕ) → Spread keeps start roots g l.stands
      → Spread keeps start (roots ++ ns) h m.stands

-- what some of the grey lead to was marked, and what was marked anew is grey
pub record Follows (policy : Policy) (g : Ground) (l : Worklist) (h : Ground) (m : Worklist) : Type 0 where
  pub same : IsButMarks g h
  pub room : m.room ≡ l.room
  pub grows : MayGrow h m
  pub spread :
      (start : Ground) (roots : List ℕ) → Spread (is_kept policy) start roots g l.stands
      → Spread (is_kept policy) start roots h m.stands

-- ---- roots that aren't slots

-- what hands report
abbrev pub reported_by : List Hand → List ℕ
reported_by [] = []
reported_by (hand ∷ hands) = hand.objects ++ reported_by hands

-- what those report that stand in queues
abbrev pub reported_in : List Line → List ℕ
reported_in [] = []
reported_in (line ∷ lines) = line.stands ++ reported_in lines

-- the references that are pending
abbrev pub pending_among : List Finder → List ℕ
pending_among [] = []
pending_among (w ∷ ws) = map (λ p. p.object) w.pending ++ pending_among ws

-- all that slots hold, that is reported and that is pending
abbrev pub judged_roots : Heap → AllHands → List Line → List Finder → List ℕ
judged_roots h hands lines workers =
    present h.slots ++ reported_by hands.mutators ++ reported_by hands.workers ++ reported_in lines ++ pending_among
    workers

-- a worker that has found nothing in this cycle
abbrev pub without_found : Finder → Finder
without_found w = record w { found = []; at = 0 }

-- what kept paths lead to from this object, if it is one, is marked too, unless the collector keeps more
pub record HasGot (keeps_more : Bool) (policy : Policy) (got : Option ℕ) (g h : Ground) : Type 0 where
  pub same : IsButMarks g h
  pub spread : keeps_more ≡ false → Spread (is_kept policy) g (if_any got) h []
