-- Which holds the history of a heap gives out and takes back, read off its entries alone (this project's profile).
use Rattle.std.specs.Prelude.{ℕ, List, [], ◌∷◌, ◌++◌, map}
use Rattle.ref_base.specs.HeapSteps.{NamedStep}
use Rattle.ref_base.specs.declared.heap_step.HeapStep.TheVariants as heap
use Rattle.ref_base.specs.declared.reply.Reply.TheVariants as told
use Rattle.ref_world.specs.HeapReplies.{HeapAnswer}
use Rattle.ref_base.specs.Told.{told_notices}
use Rattle.ref_base.specs.Worlds.{object_of}
use Rattle.ref_world.specs.declared.heap_machine.HeapReply.TheVariants.{Told, Notice, Held, Handed}
use Rattle.ref_share.specs.HeapSeats.{HeapEntry}

-- the objects of which one call gives a hold: a notice is one of its reference
abbrev pub minted_by : NamedStep → HeapAnswer → List ℕ
minted_by step (Notice notice) = notice.hold.object ∷ []
minted_by step (Held hold) = hold.object ∷ []
minted_by step (Handed reply batch) = map object_of (told_notices reply)
minted_by step reply = []

-- the object of which one call takes a hold back
abbrev pub spent_by : NamedStep → HeapAnswer → List ℕ
spent_by (heap.Adopt m d hold) (Told (told.Object n)) = hold.object ∷ []
spent_by (heap.Release hold) (Told told.Done) = hold.object ∷ []
spent_by step reply = []

-- the objects of the holds that the calls give, and of those that they take back, in order
abbrev pub minted : List HeapEntry → List ℕ
minted [] = []
minted (call ∷ calls) = minted_by call.step call.reply ++ minted calls

abbrev pub spent : List HeapEntry → List ℕ
spent [] = []
spent (call ∷ calls) = spent_by call.step call.reply ++ spent calls
