-- How the words of a reply are read back, whatever text they stand in.
use Rattle.std.specs.Prelude.{◌≡◌, ℕ, ◌+◌, ◌^◌, ◌<◌, ◌≤◌, ◌&&◌, Bool, true, false, if◌then◌else◌, ◌==◌, nat_le}
use Rattle.std.specs.Prelude.{nat_lt, List, [], ◌∷◌, length, Option}
use Rattle.std.specs.Prelude.{Some, None, is_some, codes, not}
use Rattle.std.specs.List.{list_all}
use Rattle.std.specs.Option.{option_map, option_and_then}
use Rattle.std.specs.Str.{bytes_eq}
use Rattle.ref_base.specs.Faults.{number_of, name_of}
use Rattle.ref_base.specs.declared.cause.Cause.{Cause}
use Rattle.ref_base.specs.declared.cause.Cause.TheVariants.{Own, Cycle}
use Rattle.ref_base.specs.declared.fault.Fault.{Fault}
use Rattle.ref_base.specs.declared.fault.Fault.TheVariants as faults
use Rattle.ref_base.specs.Outs.{Outs, is_added}
use Rattle.ref_base.specs.declared.out.Done.{Done}
use Rattle.ref_base.specs.declared.out.Done.TheVariants as done
use Rattle.ref_base.specs.declared.reply.Reply.{Reply}
use Rattle.ref_base.specs.declared.reply.Reply.TheVariants as replies
use Rattle.ref_script.specs.Numerals.{number_below}
use Rattle.ref_script.specs.declared.script_step.ScriptReply.{ScriptReply}
use Rattle.ref_script.specs.declared.script_step.ScriptReply.TheVariants as said

-- bytes without a space, one at least
abbrev pub is_text_word : List ℕ → Bool
is_text_word [] = false
is_text_word (b ∷ bs) = list_all (λ c. not (c == 32)) (b ∷ bs)

-- ---- numbers

-- more than one digit, the first of which is 0
abbrev pub is_padded : List ℕ → Bool
is_padded [] = false
is_padded (b ∷ []) = false
is_padded (b ∷ c ∷ bs) = b == 48

-- the number below the limit that a word is, without leading zeros
abbrev pub exact_below : ℕ → List ℕ → Option ℕ
exact_below limit word = if is_padded word then None else number_below limit word

-- ---- replies of one word, and of a word and a number

-- a reply that is a name
pub record Named : Type 0 where
  pub name : List ℕ
  pub reply : Reply

-- the reply of this name, if it is one of these
abbrev pub reply_named : List Named → List ℕ → Option Reply
reply_named [] name = None
reply_named (n ∷ ns) name = if bytes_eq name n.name then Some n.reply else reply_named ns name

abbrev pub reply_as : List ℕ → Reply → Named
reply_as name reply = record { name = name; reply = reply }

abbrev pub bare_replies : List Named
bare_replies =
    reply_as (codes "ok") replies.Done
    ∷ reply_as (codes "none") replies.Nothing
    ∷ reply_as (codes "null") replies.Null
    ∷ reply_as (codes "true") (replies.Refers true)
    ∷ reply_as (codes "false") (replies.Refers false)
    ∷ reply_as (codes "empty") replies.Empty
    ∷ reply_as (codes "already") replies.Already
    ∷ reply_as (codes "closed") replies.Closed
    ∷ []

-- a reply that is a name and a number
pub record Counted : Type 0 where
  pub name : List ℕ
  pub reply : ℕ → Reply

abbrev pub reply_counted : List Counted → List ℕ → ℕ → Option Reply
reply_counted [] name n = None
reply_counted (c ∷ cs) name n = if bytes_eq name c.name then Some (c.reply n) else reply_counted cs name n

abbrev pub counted : List ℕ → (ℕ → Reply) → Counted
counted name reply = record { name = name; reply = reply }

-- those whose number is below 2^32
abbrev pub short_replies : List Counted
short_replies =
    counted (codes "object") (λ n. replies.Object n)
    ∷ counted (codes "took") (λ n. replies.Took n)
    ∷ counted (codes "scanned") (λ n. replies.Scanned n)
    ∷ counted (codes "doomed") (λ n. replies.Doomed n)
    ∷ counted (codes "cleared") (λ n. replies.Cleared n)
    ∷ counted (codes "kept") (λ n. replies.Kept n)
    ∷ counted (codes "skipped") (λ n. replies.Skipped n)
    ∷ counted (codes "swept") (λ n. replies.Swept n)
    ∷ counted (codes "selected") (λ n. replies.Selected n)
    ∷ counted (codes "moved") (λ n. replies.Moved n)
    ∷ []

-- those whose number is below 2^64
abbrev pub long_replies : List Counted
long_replies =
    counted (codes "added") (λ n. replies.Added n) ∷ counted (codes "cycle") (λ n. replies.Cycle n) ∷ []

-- ---- refusals

abbrev pub all_faults : List Fault
all_faults =
    faults.BadConfig ∷ faults.NoSuchObject ∷ faults.NoMemory ∷ faults.NoCell ∷ faults.NumbersSpent ∷ faults.EmptySlot
    ∷ faults.BadField ∷ faults.NotAReference ∷ faults.NoSuchActor ∷ faults.BadQueue ∷ faults.ForeignHold
    ∷ faults.WrongPhase ∷ faults.ClockBack ∷ faults.GreyLeft ∷ faults.ClearingLeft ∷ faults.SweepLeft
    ∷ faults.MovesLeft ∷ faults.NoRoom ∷ faults.AddressesSpent ∷ faults.WrongQueue ∷ faults.RegisteredTwice
    ∷ faults.TableClosed ∷ faults.HandFull ∷ faults.HandEmpty ∷ faults.TurnsSpent ∷ []

-- the fault of this number, if it is that of one of these
abbrev pub fault_numbered : List Fault → ℕ → Option Fault
fault_numbered [] n = None
fault_numbered (f ∷ fs) n = if number_of f == n then Some f else fault_numbered fs n

abbrev pub if_so_named : List ℕ → Fault → Option Fault
if_so_named name fault = if bytes_eq name (name_of fault) then Some fault else None

-- the one of these faults that the words behind `refused` tell, by its number and its name
abbrev pub refusal_among : List Fault → List (List ℕ) → Option Fault
refusal_among fs (number ∷ name ∷ []) =
    option_and_then (if_so_named name) (option_and_then (fault_numbered fs) (exact_below (2 ^ 32) number))
refusal_among fs words = None

abbrev pub fault_in : List (List ℕ) → Option Fault
fault_in words = refusal_among all_faults words

-- ---- notices

-- the number behind a letter
abbrev pub exact_behind : ℕ → List ℕ → Option ℕ
exact_behind letter [] = None
exact_behind letter (b ∷ word) = if b == letter then exact_below (2 ^ 32) word else None

abbrev pub cycle_by : Option ℕ → Option ℕ → Option Cause
cycle_by (Some cycle) (Some worker) = Some (Cycle cycle worker)
cycle_by cycle worker = None

-- why there is a notice, by the words at the end of it
abbrev pub cause_in : List (List ℕ) → Option Cause
cause_in (name ∷ []) = if bytes_eq name (codes "own") then Some Own else None
cause_in (name ∷ cycle ∷ worker ∷ []) =
    if bytes_eq name (codes "cycle") then cycle_by (exact_below (2 ^ 64) cycle) (exact_behind 119 worker) else None
cause_in words = None

abbrev pub notice_by : Option ℕ → Option ℕ → Option Cause → Option Reply
notice_by (Some n) (Some q) (Some cause) = Some (replies.Notice n q cause)
notice_by n q cause = None

-- the notice that the words behind `notice` tell
abbrev pub notice_in : List (List ℕ) → Option Reply
notice_in (object ∷ queue ∷ words) =
    notice_by (exact_below (2 ^ 32) object) (exact_behind 113 queue) (cause_in words)
notice_in words = None

-- ---- lists of numbers

-- a number more in front, or the end of the numbers
abbrev pub onto_numbers : Option ℕ → List ℕ → List ℕ
onto_numbers None ns = []
onto_numbers (Some n) ns = n ∷ ns

-- the numbers in front, up to the first word that is none, and the words from that one on
abbrev pub numbers_in_front : List (List ℕ) → List ℕ
numbers_in_front [] = []
numbers_in_front (word ∷ words) = onto_numbers (exact_below (2 ^ 32) word) (numbers_in_front words)

abbrev pub behind_numbers : List (List ℕ) → List (List ℕ)
behind_numbers [] = []
behind_numbers (word ∷ words) =
    if is_some (exact_below (2 ^ 32) word) then behind_numbers words else word ∷ words

-- these numbers stand in front, at most 32, and these words behind them
abbrev pub AreInFront : List (List ℕ) → List ℕ → List (List ℕ) → Type 0
AreInFront words numbers rest =
    (numbers ≡ numbers_in_front words) × (rest ≡ behind_numbers words) × (length numbers ≤ 32)

abbrev pub notices_by : List ℕ → Option ℕ → Option Cause → Option Reply
notices_by ns (Some q) (Some (Cycle cycle worker)) = Some (replies.Notices ns q cycle worker)
notices_by ns q cause = None

abbrev pub notices_behind : List ℕ → List (List ℕ) → Option Reply
notices_behind ns [] = None
notices_behind ns (queue ∷ words) = notices_by ns (exact_behind 113 queue) (cause_in words)

-- the notices that the words behind `notices` tell, at most 32
abbrev pub notices_in : List (List ℕ) → Option Reply
notices_in words =
    if nat_le (length (numbers_in_front words)) 32
    then notices_behind (numbers_in_front words) (behind_numbers words) else None

abbrev pub took_by : List ℕ → List (List ℕ) → Option Reply
took_by ns [] = Some (replies.TookSome ns)
took_by ns (word ∷ words) = None

-- what was taken by the words behind `took`, at most 32
abbrev pub took_in : List (List ℕ) → Option Reply
took_in words =
    if nat_le (length (numbers_in_front words)) 32
    then took_by (numbers_in_front words) (behind_numbers words) else None

-- ---- a reply of no batch

-- the first of two that is there
abbrev pub or_else : Option Reply → Option Reply → Option Reply
or_else (Some reply) other = Some reply
or_else None other = other

-- a reply of a name alone, or of a name and a number
abbrev pub plain_in : List ℕ → List (List ℕ) → Option Reply
plain_in name [] = reply_named bare_replies name
plain_in name (word ∷ []) =
    or_else (option_and_then (reply_counted short_replies name) (exact_below (2 ^ 32) word))
    (option_and_then (reply_counted long_replies name) (exact_below (2 ^ 64) word))
plain_in name words = None

-- the reply that the words tell, if it is of no batch
abbrev pub single_in : List (List ℕ) → Option Reply
single_in [] = None
single_in (name ∷ words) =
    if bytes_eq name (codes "refused") then option_map (λ f. replies.Refused f) (fault_in words) else
    (if bytes_eq name (codes "notice") then notice_in words else
    (if bytes_eq name (codes "notices") then notices_in words else plain_in name words))

-- what a poll of several took, or a reply that is no list
abbrev pub polled_in : List (List ℕ) → Option Reply
polled_in [] = None
polled_in (name ∷ words) = if bytes_eq name (codes "took") then took_in words else single_in (name ∷ words)

-- ---- batches

-- the word without the comma at its end, if one is there
abbrev pub comma_cut : List ℕ → Option (List ℕ)
comma_cut [] = None
comma_cut (b ∷ []) = if b == 44 then Some [] else None
comma_cut (b ∷ c ∷ bs) = option_map (λ front. b ∷ front) (comma_cut (c ∷ bs))

-- whether it is this number
abbrev pub is_this_number : ℕ → Option ℕ → Bool
is_this_number n None = false
is_this_number n (Some m) = m == n

abbrev pub onto_done : Done → Option (List Done) → Option (List Done)
onto_done d None = None
onto_done d (Some ds) = Some (d ∷ ds)

abbrev pub last_done : Done → List (List ℕ) → Option (List Done)
last_done d [] = Some (d ∷ [])
last_done d (word ∷ words) = None

-- whether the word is this position and more follows, by the comma behind it; None where it is another word
abbrev pub position_cut : ℕ → Option (List ℕ) → List ℕ → Option Bool
position_cut position None word = if is_this_number position (exact_below (2 ^ 64) word) then Some false else None
position_cut position (Some front) word =
    if is_this_number position (exact_below (2 ^ 64) front) then Some true else None

abbrev pub position_is : ℕ → List ℕ → Option Bool
position_is position word = position_cut position (comma_cut word) word

abbrev pub added_item : Option Bool → List (List ℕ) → Option (List Done) → Option (List Done)
added_item None words more = None
added_item (Some true) words more = onto_done done.Added more
added_item (Some false) words more = last_done done.Added words

-- the words behind `refused` tell want of memory, and no item more
abbrev pub is_want_told : List ℕ → List (List ℕ) → Bool
is_want_told number (name ∷ []) = bytes_eq number (codes "3") && bytes_eq name (codes "NoMemory")
is_want_told number words = false

-- the two words behind `refused` tell want of memory, and by the comma that items follow
abbrev pub is_want_before_more : List ℕ → List ℕ → Bool
is_want_before_more number name = bytes_eq number (codes "3") && bytes_eq name (codes "NoMemory,")

abbrev mutual
  -- what became of each item, where the next that was added has this position
  pub batch_in : ℕ → List (List ℕ) → Option (List Done)
  batch_in position [] = None
  batch_in position (word ∷ []) =
      if bytes_eq word (codes "already") then Some (done.Already ∷ []) else
      (if bytes_eq word (codes "closed") then Some (done.Closed ∷ []) else None)
  batch_in position (word ∷ next ∷ words) =
      if bytes_eq word (codes "already,") then onto_done done.Already (batch_in position (next ∷ words)) else
      (if bytes_eq word (codes "closed,") then onto_done done.Closed (batch_in position (next ∷ words)) else
      (if bytes_eq word (codes "added")
      then added_item (position_is position next) words (batch_in (position + 1) words) else
      (if bytes_eq word (codes "refused") then behind_refused position next words else None)))

  -- what became of each item, where the first was refused, by the words behind `refused`
  pub behind_refused : ℕ → List ℕ → List (List ℕ) → Option (List Done)
  behind_refused position number [] = None
  behind_refused position number (name ∷ words) =
      if is_want_before_more number name
      then onto_done (done.Refused faults.NoMemory) (batch_in position words) else
      (if is_want_told number (name ∷ words) then Some (done.Refused faults.NoMemory ∷ []) else None)

-- the words begin with an item: behind it more follow, or none does
abbrev pub IsItem : ℕ → List (List ℕ) → Done → List (List ℕ) → Bool → Type 0
IsItem position words d rest true =
    batch_in position words ≡ onto_done d (batch_in (if is_added d then position + 1 else position) rest)
IsItem position words d rest false = batch_in position words ≡ Some (d ∷ [])

-- the words are those of this batch, and of none of at most 32
abbrev pub IsBatch : ℕ → List (List ℕ) → Outs → Type 0
IsBatch before words outs =
    (outs.before ≡ before) × (batch_in before words ≡ Some outs.done) × (length outs.done ≤ 32)

abbrev pub IsNoBatch : ℕ → List (List ℕ) → Type 0
IsNoBatch before words = (ds : List Done) → batch_in before words ≡ Some ds → 32 < length ds

-- the number of a word below 2^63, with a comma behind it or not, and else 0
abbrev pub number_or_0 : Option ℕ → ℕ
number_or_0 None = 0
number_or_0 (Some n) = n

abbrev pub without_comma : Option (List ℕ) → List ℕ → List ℕ
without_comma None word = word
without_comma (Some front) word = front

abbrev pub half_or_0 : ℕ → ℕ
half_or_0 n = if nat_lt n (2 ^ 63) then n else 0

abbrev pub position_in : List (List ℕ) → ℕ
position_in [] = 0
position_in (word ∷ words) = half_or_0 (number_or_0 (exact_below (2 ^ 64) (without_comma (comma_cut word) word)))

-- the position of the first item that was added, and 0 where none was
abbrev pub first_position : List (List ℕ) → ℕ
first_position [] = 0
first_position (word ∷ words) =
    if bytes_eq word (codes "added") then position_in words else first_position words

-- a reply that is told of a put alone
abbrev pub is_of_put : Reply → Bool
is_of_put (replies.Added position) = true
is_of_put replies.Already = true
is_of_put replies.Closed = true
is_of_put (replies.Refused faults.NoMemory) = true
is_of_put reply = false

-- ---- steps of jobs

abbrev pub ran_by : Option ℕ → Option ℕ → Option ScriptReply
ran_by (Some n) (Some a) = Some (said.Ran (record { number = n; answer = a }))
ran_by n a = None

abbrev pub ran_in : List (List ℕ) → Option ScriptReply
ran_in (number ∷ answer ∷ []) = ran_by (exact_below (2 ^ 64) number) (exact_below (2 ^ 64) answer)
ran_in words = None

abbrev pub said_in : List ℕ → List (List ℕ) → Option ScriptReply
said_in name [] =
    if bytes_eq name (codes "ok") then Some said.Registered else
    (if bytes_eq name (codes "used") then Some said.Used else
    (if bytes_eq name (codes "gone") then Some said.Gone else None))
said_in name (word ∷ words) = None

-- the reply to a step of jobs
abbrev pub jobs_in : List (List ℕ) → Option ScriptReply
jobs_in [] = None
jobs_in (name ∷ words) =
    if bytes_eq name (codes "refused")
    then option_map (λ f. said.World (replies.Refused f)) (fault_in words) else
    (if bytes_eq name (codes "ran") then ran_in words else said_in name words)
