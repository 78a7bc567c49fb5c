-- What leaves hands and queues the same: the heap has no say in them.
use Rattle.ref_base.proofs.Common.{◌≡◌, List, [], ap, slice_index_or, World, Notice, SameOthers, hand_of, Actor}
use Rattle.ref_base.proofs.Common.{Mutator, Worker}

-- ---- the same hands and queues

pub same_hand : (v w : World) (who : Actor) → SameOthers v w → hand_of w who ≡ hand_of v who
same_hand v w (Mutator m) is = ap (λ (hs : List (List Notice)). slice_index_or hs m []) is.mutators
same_hand v w (Worker k) is = ap (λ (hs : List (List Notice)). slice_index_or hs k []) is.workers

-- ---- hands
