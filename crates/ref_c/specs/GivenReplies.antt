-- Which reply numbers and a list are: what reads them, against what tells them.
use Rattle.std.specs.Prelude.{◌≡◌, ℕ, ◌+◌, ◌≤◌, ◌<◌, ◌^◌, true, false, if◌then◌else◌, ◌==◌, nat_le, nat_lt}
use Rattle.std.specs.Prelude.{List, [], ◌∷◌, ◌++◌, length, Option, None, Some, MatchOption}
use Rattle.std.specs.List.{list_all, list_any}
use Rattle.ref_base.specs.Faults.{number_of}
use Rattle.ref_base.specs.Outs.{Outs, is_added, out_of, outs_of}
use Rattle.ref_base.specs.declared.cause.Cause.TheVariants.{Own, Cycle as OfCycle}
use Rattle.ref_base.specs.declared.fault.Fault.{Fault}
use Rattle.ref_base.specs.declared.fault.Fault.TheVariants as faults
use Rattle.ref_base.specs.declared.out.Done.{Done}
use Rattle.ref_base.specs.declared.reply.Reply.{Reply}
use Rattle.ref_base.specs.declared.reply.Reply.TheVariants as replies
use Rattle.ref_c.specs.ReplyNumbers.{out_numbers, outs_numbers, reply_listed, reply_numbers}
use Rattle.ref_c.specs.declared.answer.RefReply.{RefReply}

-- ---- what is read

-- numbers of objects, below 2^32, and 32 at most
abbrev pub AreObjects : List ℕ → Type 0
AreObjects ns = (length ns ≤ 32) × (list_all (λ n. nat_lt n (2 ^ 32)) ns ≡ true)

-- what a batch's reply lists finds room in it
abbrev pub HasRoom : Reply → Type 0
HasRoom (replies.Notices objects queue cycle worker) = AreObjects objects
HasRoom (replies.TookSome objects) = AreObjects objects
HasRoom (replies.Outs outs) = (outs.before < 2 ^ 63) × (length outs.done ≤ 32)
HasRoom reply = Unit {0}

-- The reply has these numbers and lists these. How many notices were put in before a batch of which none was added
-- isn't told: it is as many as are given.
pub record IsReplyOf (numbers : RefReply) (list : List ℕ) (before : ℕ) (reply : Reply) : Type 0 where
  pub numbered : reply_numbers reply ≡ numbers
  pub listed : reply_listed reply ≡ list
  pub placed :
      (outs : Outs) → reply ≡ replies.Outs outs → list_any is_added outs.done ≡ false → outs.before ≡ before

-- no reply has these numbers and lists these
abbrev pub IsNoReply : RefReply → List ℕ → Type 0
IsNoReply numbers list =
    (reply : Reply) → HasRoom reply → reply_numbers reply ≡ numbers → reply_listed reply ≡ list → ⊥

-- what was read is the reply, or there is none
abbrev pub Reads : RefReply → List ℕ → ℕ → Option Reply → Type 0
Reads numbers list before None = IsNoReply numbers list
Reads numbers list before (Some reply) = IsReplyOf numbers list before reply

-- ---- how lists are read

-- these and what is listed behind them, or there is no room for that
abbrev pub AreMoreObjects : List ℕ → List ℕ → Option (List ℕ) → Type 0
AreMoreObjects objects list None =
    length objects + length list ≤ 32 → list_all (λ n. nat_lt n (2 ^ 32)) list ≡ true → ⊥
AreMoreObjects objects list (Some all) = all ≡ objects ++ list

-- what became of one, where so many were put in before it, has these two numbers
abbrev pub IsOut : ℕ → ℕ → ℕ → Done → Type 0
IsOut kind number next done = out_numbers (out_of next done) ≡ kind ∷ number ∷ []

abbrev pub IsNoOut : ℕ → ℕ → ℕ → Type 0
IsNoOut kind number next = (done : Done) → IsOut kind number next done → ⊥

-- these and behind them those that are listed, where so many were put in before; or there are none that find room
abbrev pub AreMoreOuts : Outs → ℕ → List ℕ → Option Outs → Type 0
AreMoreOuts outs next list None =
    (more : List Done) → length outs.done + length more ≤ 32 → outs_numbers (outs_of next more) ≡ list → ⊥
AreMoreOuts outs next list (Some all) =
    (more : List Done) × (all ≡ record outs { done = outs.done ++ more }) × (outs_numbers (outs_of next more) ≡ list)

-- the place of the first of a list that was added, or this where none was
abbrev pub first_added : List ℕ → ℕ → ℕ
first_added (kind ∷ number ∷ rest) before = if kind == 73 then number else first_added rest before
first_added (kind ∷ []) before = before
first_added [] before = before

-- ---- how numbers are read

-- the faults, by number, and the first of some that has this one
abbrev pub each_fault : List Fault
each_fault =
    faults.BadConfig ∷ faults.NoSuchObject ∷ faults.NoMemory ∷ faults.NoCell ∷ faults.NumbersSpent ∷ faults.EmptySlot
    ∷ faults.BadField ∷ faults.NotAReference ∷ faults.NoSuchActor ∷ faults.BadQueue ∷ faults.ForeignHold
    ∷ faults.WrongPhase ∷ faults.ClockBack ∷ faults.GreyLeft ∷ faults.ClearingLeft ∷ faults.SweepLeft
    ∷ faults.MovesLeft ∷ faults.NoRoom ∷ faults.AddressesSpent ∷ faults.WrongQueue ∷ faults.RegisteredTwice
    ∷ faults.TableClosed ∷ faults.HandFull ∷ faults.HandEmpty ∷ faults.TurnsSpent ∷ []

abbrev pub first_numbered : List Fault → ℕ → Option Fault
first_numbered [] n = None
first_numbered (f ∷ fs) n = if number_of f == n then Some f else first_numbered fs n

abbrev pub refused_for : Option Fault → Option Reply
refused_for None = None
refused_for (Some fault) = Some (replies.Refused fault)

abbrev pub slot_reply : RefReply → Option Reply
slot_reply n =
    if n.kind == 64 then Some (replies.Object n.object) else
    if n.kind == 65 then Some replies.Null else
    if n.kind == 66 then Some replies.Done else
    if n.kind == 67 then Some (replies.Refers true) else
    if n.kind == 68 then Some (replies.Refers false) else None

abbrev pub early_reply : RefReply → Option Reply
early_reply n =
    if n.kind == 69 then Some (replies.Notice n.object n.queue (OfCycle n.number n.worker)) else
    if n.kind == 70 then Some (replies.Notice n.object n.queue Own) else
    if n.kind == 72 then Some replies.Nothing else
    if n.kind == 73 then Some (replies.Added n.number) else
    if n.kind == 74 then Some replies.Already else
    if n.kind == 75 then Some replies.Closed else None

abbrev pub late_reply : RefReply → Option Reply
late_reply n =
    if n.kind == 77 then Some (replies.Took n.object) else
    if n.kind == 79 then Some replies.Empty else
    if n.kind == 80 then Some (replies.Cycle n.number) else
    if n.kind == 81 then Some (replies.Scanned n.object) else
    if n.kind == 82 then Some (replies.Doomed n.count) else None

abbrev pub end_reply : RefReply → Option Reply
end_reply n =
    if n.kind == 83 then Some (replies.Cleared n.object) else
    if n.kind == 84 then Some (replies.Kept n.object) else
    if n.kind == 85 then Some (replies.Skipped n.object) else
    if n.kind == 86 then Some (replies.Swept n.count) else
    if n.kind == 87 then Some (replies.Selected n.count) else
    if n.kind == 88 then Some (replies.Moved n.object) else
    if n.kind == 89 then refused_for (first_numbered each_fault n.fault) else None

-- the reply of this kind, if that lists nothing: with what it tells of these numbers, whatever the others are
abbrev pub plain_reply : RefReply → Option Reply
plain_reply n =
    if nat_le n.kind 68 then slot_reply n else
    if nat_le n.kind 76 then early_reply n else
    if nat_le n.kind 82 then late_reply n else end_reply n
