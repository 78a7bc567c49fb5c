-- That each notice which is out is a hold that the heap counts (this project's profile).
use Rattle.std.specs.Prelude.{ℕ, suc, ◌==◌, ◌≤◌, if◌then◌else◌, List, [], ◌∷◌, ◌++◌, map}
use Rattle.ref_base.specs.Heaps.{one_more, one_fewer}
use Rattle.ref_base.specs.HeapSteps.{NamedStep}
use Rattle.ref_base.specs.QueueLists.{Lists}
use Rattle.ref_base.specs.Told.{told_notices}
use Rattle.ref_base.specs.Worlds.{World, Notice, object_of}
use Rattle.ref_base.specs.declared.heap_step.HeapStep.TheVariants as heap
use Rattle.ref_base.specs.declared.reply.Reply.{Reply}
use Rattle.ref_base.specs.declared.reply.Reply.TheVariants as replies

-- how often n stands in the list
abbrev pub tally : List ℕ → ℕ → ℕ
tally [] n = 0
tally (m ∷ ms) n = if m == n then suc (tally ms n) else tally ms n

-- what the notices of these hands report
abbrev pub in_hands : List (List Notice) → List ℕ
in_hands [] = []
in_hands (hand ∷ hands) = map object_of hand ++ in_hands hands

abbrev pub in_queues : List (Lists Notice) → List ℕ
in_queues [] = []
in_queues (q ∷ qs) = map object_of q.stands ++ in_queues qs

-- the references whose notices are out: in hands, and in queues
abbrev pub reported : World → List ℕ
reported w = in_hands w.mutator_hands ++ in_hands w.worker_hands ++ in_queues w.queues

-- none of them is reported more often than it is held
abbrev pub AreCounted : World → Type 0
AreCounted w = (n : ℕ) → tally (reported w) n ≤ tally w.heap.holds n

-- the holds with one more of each of these
abbrev pub more_of_each : List ℕ → List Notice → List ℕ
more_of_each hs [] = hs
more_of_each hs (notice ∷ rest) = more_of_each (one_more hs notice.object) rest

-- the holds with one more of the first of these
abbrev pub more_of_first : List ℕ → List Notice → List ℕ
more_of_first hs [] = hs
more_of_first hs (notice ∷ rest) = one_more hs notice.object

-- the holds that a row of a heap leaves
abbrev pub holds_after : List ℕ → NamedStep → Reply → List ℕ
holds_after hs (heap.Unhook m s) reply = more_of_first hs (told_notices reply)
holds_after hs (heap.Hand k) reply = more_of_each hs (told_notices reply)
holds_after hs (heap.Hands k max batch) reply = more_of_each hs (told_notices reply)
holds_after hs (heap.Hold m s) (replies.Object n) = one_more hs n
holds_after hs (heap.Adopt m d hold) (replies.Object n) = one_fewer hs n
holds_after hs (heap.Release hold) replies.Done = one_fewer hs hold.object
holds_after hs step reply = hs
