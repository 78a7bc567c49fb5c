-- What of the head of a log was read.
use Rattle.std.specs.Prelude.{◌≡◌, ℕ, Bool, false, List, [], ◌∷◌, ◌++◌, Option, Some}
use Rattle.ref_base.specs.declared.config.Config.{Config}
use Rattle.ref_base.specs.declared.span_rule.SpanRule.{SpanRule}
use Rattle.ref_judge.specs.Judged.{Judged}
use Rattle.ref_judge.specs.declared.profile.Profile.{Profile}
use Rattle.ref_log.specs.Checking.{HaveConfig, HaveProfile, IsLog}
use Rattle.ref_log.specs.JudgedRows.{JudgesNone}
use Rattle.ref_log.specs.LogHeads.{rule_of}
use Rattle.ref_log.specs.Names.{Given}
use Rattle.ref_log.specs.ReadLines.{HasRead, IsAt}
use Rattle.ref_log.specs.Streams.{Streamed, line_in}
use Rattle.ref_log.specs.declared.failure.LogFailure.{LogFailure}
use Rattle.ref_log.specs.declared.failure.LogFailure.TheVariants.{Line, CutOff, CannotRead, NoMemory}
use Rattle.ref_log.specs.declared.fault.LogFault.{LogFault}
use Rattle.ref_script.specs.Lines.{TextLine}
use Rattle.ref_script.specs.ToldLines.{told, line_words, says_nothing}

-- the header was read, and is the last line that was
pub record IsBehindHeader (lines : List TextLine) (left : Option (List ℕ)) (s : Streamed) (rule : SpanRule) : Type 0
  where
    pub front : List TextLine
    pub silent : told front ≡ []
    pub says : says_nothing (line_words (line_in s)) ≡ false
    pub version : rule_of (line_words (line_in s)) ≡ Some rule
    pub has : HasRead lines (front ++ line_in s ∷ []) left s

-- the configuration too, and the line behind it, if there is one
pub record IsBehindConfig (given : Option Config) (lines : List TextLine) (left : Option (List ℕ)) (s : Streamed)
    (config : Config) (has_line : Bool)
    : Type 0
  where
    pub read : List TextLine
    pub head : HaveConfig given read config
    pub at : IsAt lines read left s has_line

-- the profile too
pub record IsBehindProfile (given : Option Config) (lines : List TextLine) (left : Option (List ℕ)) (s : Streamed)
    (profile : Profile) (config : Config) (has_line : Bool)
    : Type 0
  where
    pub read : List TextLine
    pub head : HaveProfile given read profile config
    pub at : IsAt lines read left s has_line

-- the whole head, and the line behind it, if there is one
pub record IsBehindHead (given : Option Config) (lines : List TextLine) (left : Option (List ℕ)) (s : Streamed)
    (profile : Profile) (config : Config) (named has_row : Bool)
    : Type 0
  where
    pub read : List TextLine
    pub log : IsLog given (told read) profile config named []
    pub at : IsAt lines read left s has_row

-- the line that was read last spells no row of a collector of these objects and names, behind so many rows
abbrev pub IsNoRowIn : Judged → Option (List Given) → Streamed → ℕ → LogFailure → Type 0
IsNoRowIn judge names s rows (Line k fault) =
    (k ≡ s.number) × JudgesNone judge names (line_words (line_in s)) fault
IsNoRowIn judge names s rows (CutOff count k) =
    (count ≡ rows) × (k ≡ s.number) × (s.is_ended ≡ false)
    × ((fault : LogFault) × JudgesNone judge names (line_words (line_in s)) fault)
IsNoRowIn judge names s rows CannotRead = ⊥
IsNoRowIn judge names s rows NoMemory = Unit {0}
