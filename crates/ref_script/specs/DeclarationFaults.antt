-- What is wrong with the words of a line that declares nothing: the first of its faults by kind, and not by place.
use Rattle.std.specs.Prelude.{ℕ, ◌+◌, ◌^◌, Bool, true, false, not, ◌&&◌, ◌||◌, if◌then◌else◌, nat_lt, List, [], ◌∷◌}
use Rattle.std.specs.Prelude.{length, take, Option, Some, None, codes}
use Rattle.std.specs.List.{list_all}
use Rattle.std.specs.Str.{bytes_eq}
use Rattle.ref_script.specs.Numerals.{number_below}
use Rattle.ref_text.specs.declared.fault.LineFault.{LineFault}
use Rattle.ref_text.specs.declared.fault.LineFault.TheVariants.{UnknownLine, MissingWord, BadWord, ExtraWord}
use Rattle.ref_text.specs.declared.fault.LineFault.TheVariants.{DoubleObject}

-- how many words are wanted behind the name of a line, and how many more may stand there
pub record Wanted : Type 0 where
  pub least : ℕ
  pub more : ℕ

-- what is wanted behind a name, if it is the name of a line
abbrev pub wanted_by : List ℕ → Option Wanted
wanted_by name =
    if bytes_eq name (codes "root") then Some (record { least = 1; more = 0 }) else
    (if bytes_eq name (codes "plain") then Some (record { least = 1; more = 8 }) else
    (if bytes_eq name (codes "soft") then Some (record { least = 2; more = 8 }) else
    (if bytes_eq name (codes "weak") then Some (record { least = 2; more = 8 }) else
    (if bytes_eq name (codes "phantom") then Some (record { least = 2; more = 8 }) else None))))

-- a number that is there isn't 0
abbrev pub is_above_zero : Option ℕ → Bool
is_above_zero None = false
is_above_zero (Some n) = nat_lt 0 n

-- the word is an object's number
abbrev pub is_object : List ℕ → Bool
is_object word = is_above_zero (number_below (2 ^ 32) word)

-- the word is an object's number or `-`
abbrev pub is_object_or_none : List ℕ → Bool
is_object_or_none word = bytes_eq word (codes "-") || is_object word

-- the first word is an object's number, and each other such a number or `-`
abbrev pub are_operands : List (List ℕ) → Bool
are_operands [] = true
are_operands (word ∷ words) = is_object word && list_all is_object_or_none words

-- the fault of the words behind a name by which so many are wanted, and so many more may stand there
abbrev pub words_fault : ℕ → ℕ → List (List ℕ) → Option LineFault
words_fault least more words =
    if nat_lt (length words) least then Some MissingWord else
    (if not (are_operands (take (least + more) words)) then Some BadWord else
    (if nat_lt (least + more) (length words) then Some ExtraWord else None))

-- the fault of the words behind a name, by how many the name wants: UnknownLine where no line has that name
abbrev pub wanted_fault : Option Wanted → List (List ℕ) → Option LineFault
wanted_fault None words = Some UnknownLine
wanted_fault (Some wanted) words = words_fault wanted.least wanted.more words

-- the fault of the words of a line, if it has one, whatever other lines say
abbrev pub declaration_fault : List (List ℕ) → Option LineFault
declaration_fault [] = Some UnknownLine
declaration_fault (name ∷ words) = wanted_fault (wanted_by name) words

-- the number of the object that the words of a line declare, if they declare one
abbrev pub number_in : List (List ℕ) → Option ℕ
number_in [] = None
number_in (name ∷ []) = None
number_in (name ∷ word ∷ words) = if bytes_eq name (codes "root") then None else number_below (2 ^ 32) word

-- the fault of a line's words, or else the last of its faults where its number is declared already
abbrev pub unless_double : Option LineFault → Bool → Option LineFault
unless_double (Some fault) double = Some fault
unless_double None true = Some DoubleObject
unless_double None false = None
