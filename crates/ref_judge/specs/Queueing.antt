-- What is put into a queue and taken from it, by the numbers of what stands there alone (this project's).
use Rattle.std.specs.Prelude.{◌≡◌, ℕ, ◌+◌, ◌-◌, ◌<◌, Bool, true, false, ◌||◌, ◌&&◌, not, ◌==◌, if◌then◌else◌, min, List}
use Rattle.std.specs.Prelude.{[], ◌∷◌}
use Rattle.std.specs.Prelude.{◌++◌, length, take, Option, Some, None, slice_index_or}
use Rattle.ref_base.specs.Members.{has, without_first}
use Rattle.ref_base.specs.Outs.{is_refused}
use Rattle.ref_base.specs.QueueBatches.{gone_in}
use Rattle.ref_base.specs.Refusals.{is_empty}
use Rattle.ref_base.specs.declared.fault.Fault.TheVariants.{NoMemory}
use Rattle.ref_base.specs.declared.out.Done.{Done}
use Rattle.ref_base.specs.declared.out.Done.TheVariants.{Added, Already, Closed, Refused}
use Rattle.ref_base.specs.declared.reply.Reply.{Reply}
use Rattle.ref_base.specs.declared.reply.Reply.TheVariants as replies
use Rattle.ref_space.specs.Tables.{Tag}
use Rattle.ref_objects.specs.Grounds.{with_link}
use Rattle.ref_judge.specs.declared.order.Order.{Order}
use Rattle.ref_judge.specs.declared.order.Order.TheVariants.{First, Last, Any}
use Rattle.ref_judge.specs.Judged.{Line, is_put}

-- ---- puts

-- what a put of one is told to have become of it, where so many were put in before
abbrev pub told_put : ℕ → Reply → Option Done
told_put before (replies.Added position) = if position == before then Some Added else None
told_put before replies.Already = Some Already
told_put before replies.Closed = Some Closed
told_put before (replies.Refused NoMemory) = Some (Refused NoMemory)
told_put before reply = None

-- whether this may become of what is put in, where it was put in before or not, and the queue is closed or not
abbrev pub may_become : Bool → Bool → Done → Bool
may_become was_put closed Added = not was_put && not closed
may_become was_put closed Already = was_put
may_become was_put closed Closed = not was_put && closed
may_become was_put closed (Refused NoMemory) = not was_put && not closed
may_become was_put closed (Refused fault) = false

-- and of a batch, one after the other, where its first ones were added
abbrev pub may_become_each : List Tag → List ℕ → Bool → List ℕ → List Done → Bool
may_become_each ts added closed [] [] = true
may_become_each ts added closed [] (d ∷ ds) = false
may_become_each ts added closed (n ∷ ns) [] = false
may_become_each ts added closed (n ∷ ns) (d ∷ ds) =
    may_become (is_put ts n || has added n) closed d
    && (if is_refused d then is_empty ds else may_become_each ts (added ++ gone_in n d) closed ns ds)

-- the queue where these stand last, in order
abbrev pub line_with : Line → List ℕ → Line
line_with line ns = record line { stands = line.stands ++ ns; put = line.put + length ns }

-- the tags where each of these was put in
abbrev pub linked_each : List Tag → List ℕ → List Tag
linked_each ts [] = ts
linked_each ts (n ∷ ns) = linked_each (with_link ts n 1) ns

-- ---- polls

-- a poll tells that nothing stands
abbrev pub TellsNone : Line → Reply → Type 0
TellsNone line reply = (line.stands ≡ []) × (reply ≡ (if line.closed then replies.Closed else replies.Empty))

-- these without the first of each of those numbers
abbrev pub without_each : List ℕ → List ℕ → List ℕ
without_each stands [] = stands
without_each stands (n ∷ ns) = without_each (without_first (λ m. m) stands n) ns

-- whether the number at this place may be taken, behind those before it
abbrev pub may_be_next : Order → List ℕ → List ℕ → ℕ → Bool
may_be_next First stands ns place = slice_index_or stands place 0 == slice_index_or ns place 0
may_be_next Last stands ns place = slice_index_or stands (length stands - 1 - place) 0 == slice_index_or ns place 0
may_be_next Any stands ns place =
    has stands (slice_index_or ns place 0) && not (has (take place ns) (slice_index_or ns place 0))

-- these may be taken where so many are asked for: as many as that, or all that stand, and at least one
abbrev pub MayTakeNos : Order → ℕ → List ℕ → List ℕ → Type 0
MayTakeNos order count stands ns =
    (length ns ≡ min count (length stands)) × (is_empty ns ≡ false)
    × ((place : ℕ) → place < length ns → may_be_next order stands ns place ≡ true)
