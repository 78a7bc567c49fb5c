-- The grammar of a row of a log (this project's profile): an optional number, the words of a step, a colon, and the
-- words of its reply.
use Rattle.std.specs.Prelude.{◌≡◌, ℕ, Bool, true, false, not, ◌&&◌, ◌||◌, if◌then◌else◌, ◌==◌, List, [], ◌∷◌, ◌++◌}
use Rattle.std.specs.Prelude.{Option, Some, None, codes}
use Rattle.std.specs.Char.{is_ascii_digit}
use Rattle.std.specs.List.{list_all}
use Rattle.std.specs.Str.{bytes_eq}
use Rattle.ref_log.specs.LogFaults.{log_fault}
use Rattle.ref_log.specs.declared.fault.LogFault.{LogFault}
use Rattle.ref_log.specs.declared.fault.LogFault.TheVariants.{BadWord, NoReply}
use Rattle.ref_script.specs.ReplyKinds.{IsToldSo, reply_kind_of}
use Rattle.ref_script.specs.ReplyReading.{is_padded}
use Rattle.ref_script.specs.Spelling.{SpellsScriptStep}
use Rattle.ref_script.specs.StepFaults.{step_fault}
use Rattle.ref_script.specs.declared.script_step.ScriptRow.{ScriptRow}
use Rattle.ref_text.specs.declared.fault.LineFault.{LineFault}

-- ---- words

-- the word between a step and its reply
abbrev pub colon : List ℕ
colon = codes ":"

-- the words without a number in front of them: a first word that has only digits
abbrev pub unnumbered : List (List ℕ) → List (List ℕ)
unnumbered [] = []
unnumbered (word ∷ words) = if list_all is_ascii_digit word then words else word ∷ words

-- a letter that stands in front of a number: of a mutator, a worker, a slot or a queue
abbrev pub is_letter : ℕ → Bool
is_letter b = b == 109 || b == 119 || b == 115 || b == 113

-- a number, alone or behind its letter, has more than one digit and begins with 0
abbrev pub has_padding : List ℕ → Bool
has_padding [] = false
has_padding (b ∷ bs) = is_padded (b ∷ bs) || is_letter b && is_padded bs

-- no word is a colon
abbrev pub no_colon : List (List ℕ) → Bool
no_colon words = list_all (λ word. not (bytes_eq word colon)) words

-- no number is padded
abbrev pub no_padding : List (List ℕ) → Bool
no_padding words = list_all (λ word. not (has_padding word)) words

-- ---- rows

-- the words spell the row: those in front of the first colon its step, and those behind it its reply
pub record SpellsRow (words : List (List ℕ)) (row : ScriptRow) : Type 0 where
  pub front : List (List ℕ)
  pub back : List (List ℕ)
  pub parts : unnumbered words ≡ front ++ colon ∷ back
  pub first : no_colon front ≡ true
  pub step : SpellsScriptStep front row.step
  pub exact : no_padding front ≡ true
  pub reply : IsToldSo (reply_kind_of row.step) back row.reply

-- the words spell no row
abbrev pub SpellsNoRow : List (List ℕ) → Type 0
SpellsNoRow words = (row : ScriptRow) → SpellsRow words row → ⊥

-- ---- faults

-- words in front of a colon, and those behind it
pub record Parts : Type 0 where
  pub front : List (List ℕ)
  pub back : List (List ℕ)

-- a word more in front
abbrev pub onto_front : List ℕ → Option Parts → Option Parts
onto_front word None = None
onto_front word (Some parts) = Some (record parts { front = word ∷ parts.front })

-- the words in front of the first colon and those behind it, if there is one
abbrev pub parted : List (List ℕ) → Option Parts
parted [] = None
parted (word ∷ words) =
    if bytes_eq word colon then Some (record { front = []; back = words }) else onto_front word (parted words)

-- the fault of the words of a step, if it has one, and else that of its reply
abbrev pub step_or_reply_fault : Option LineFault → Bool → LogFault
step_or_reply_fault (Some fault) exact = log_fault fault
step_or_reply_fault None false = BadWord
step_or_reply_fault None true = NoReply

abbrev pub parts_fault : Option Parts → LogFault
parts_fault None = NoReply
parts_fault (Some parts) = step_or_reply_fault (step_fault parts.front) (no_padding parts.front)

-- the fault of words that spell no row
abbrev pub row_fault : List (List ℕ) → LogFault
row_fault words = parts_fault (parted (unnumbered words))
