-- What an answer tells, which is all that the replay of a trace reads of it.
use Rattle.std.specs.Prelude.{ℕ, Bool, true, false, List, [], ◌∷◌, map, Option, Some, None}
use Rattle.ref_base.specs.Worlds.{Notice}
use Rattle.ref_base.specs.declared.cause.Cause.TheVariants.{Cycle}
use Rattle.ref_base.specs.declared.out.Done.{Done}
use Rattle.ref_base.specs.declared.out.Done.TheVariants.{Added}
use Rattle.ref_base.specs.declared.reply.Reply.{Reply}
use Rattle.ref_base.specs.declared.reply.Reply.TheVariants as replies

-- the object of the answer `object n`
abbrev pub told_object : Reply → Option ℕ
told_object (replies.Object n) = Some n
told_object r = None

-- what a slot holds now: an object or nothing
abbrev pub told_value : Reply → Option (Option ℕ)
told_value (replies.Object n) = Some (Some n)
told_value replies.Null = Some None
told_value r = None

-- that it was done
abbrev pub is_done : Reply → Bool
is_done replies.Done = true
is_done r = false

-- the notices that a hand holds now, first first
abbrev pub told_notices : Reply → List Notice
told_notices (replies.Notice n q cause) = record { object = n; queue = q; cause = cause } ∷ []
told_notices (replies.Notices ns q cycle k) =
    map (λ n. record { object = n; queue = q; cause = Cycle cycle k }) ns
told_notices r = []

-- that there is nothing to give
abbrev pub is_nothing : Reply → Bool
is_nothing replies.Nothing = true
is_nothing r = false

-- what became of the hand's notices, from the first on, where one was added or each is told
abbrev pub told_dones : Reply → List Done
told_dones (replies.Added position) = Added ∷ []
told_dones (replies.Outs outs) = outs.done
told_dones r = []

-- the references that were taken from a queue, first first
abbrev pub told_taken : Reply → List ℕ
told_taken (replies.Took n) = n ∷ []
told_taken (replies.TookSome ns) = ns
told_taken r = []

-- the number of the cycle that began
abbrev pub told_cycle : Reply → Option ℕ
told_cycle (replies.Cycle n) = Some n
told_cycle r = None

-- that a mark ended
abbrev pub is_mark_end : Reply → Bool
is_mark_end (replies.Doomed count) = true
is_mark_end r = false

-- the reference that was cleared
abbrev pub told_cleared : Reply → Option ℕ
told_cleared (replies.Cleared n) = Some n
told_cleared r = None

-- how many objects were swept
abbrev pub told_swept : Reply → Option ℕ
told_swept (replies.Swept count) = Some count
told_swept r = None

-- that objects were chosen to move
abbrev pub is_selected : Reply → Bool
is_selected (replies.Selected count) = true
is_selected r = false

-- the objects that a reply names: one that a slot or a hold then has, or the references of notices
abbrev pub named_by : Reply → List ℕ
named_by (replies.Object n) = n ∷ []
named_by (replies.Notice n q cause) = n ∷ []
named_by (replies.Notices ns q cycle k) = ns
named_by reply = []
