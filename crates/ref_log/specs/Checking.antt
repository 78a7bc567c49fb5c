-- What is said of a log, the text of a trace of a collector (this project's profile).
use Rattle.std.specs.Prelude.{◌≡◌, ℕ, ◌+◌, ◌-◌, ◌^◌, min, Bool, true, false, if◌then◌else◌, List, [], ◌∷◌, ◌++◌, length}
use Rattle.std.specs.Prelude.{Option, Some, None, Result, Ok, Err, ◌⊎◌}
use Rattle.ref_base.specs.declared.config.Config.{Config}
use Rattle.ref_base.specs.declared.row.Row.{Row}
use Rattle.ref_base.specs.declared.span_rule.SpanRule.{SpanRule}
use Rattle.ref_base.specs.declared.span_rule.SpanRule.TheVariants.{Scaled}
use Rattle.ref_judge.specs.ProfiledRows.{IsLegalAs, strict}
use Rattle.ref_judge.specs.Verdicts.{NamesAnswerBehind}
use Rattle.ref_judge.specs.declared.profile.Profile.{Profile}
use Rattle.ref_judge.specs.declared.rule.Objection.{Objection}
use Rattle.ref_judge.specs.declared.rule.Objection.TheVariants as objections
use Rattle.ref_log.specs.LogHeads.{begins_config, rule_of, profile_of, is_naming_line, first_names}
use Rattle.ref_log.specs.NamedRows.{AreRows, SpellsNone}
use Rattle.ref_log.specs.Names.{Given}
use Rattle.ref_log.specs.ReadLines.{AtLine, IsUnplain}
use Rattle.ref_log.specs.declared.failure.Finding.{Finding}
use Rattle.ref_log.specs.declared.failure.LogFailure.{LogFailure}
use Rattle.ref_log.specs.declared.failure.LogFailure.TheVariants.{Line, CutOff, CannotRead, NoMemory}
use Rattle.ref_log.specs.declared.failure.Verdict.{Verdict}
use Rattle.ref_log.specs.declared.failure.Verdict.TheVariants.{Legal, Illegal}
use Rattle.ref_log.specs.declared.fault.LogFault.{LogFault}
use Rattle.ref_log.specs.declared.fault.LogFault.TheVariants.{LineTooLong, NotAscii, BadHeader, BadConfig}
use Rattle.ref_log.specs.declared.fault.LogFault.TheVariants.{BadProfile, UnknownStep, MissingWord, BadWord}
use Rattle.ref_log.specs.declared.fault.LogFault.TheVariants.{ExtraWord, NoReply}
use Rattle.ref_script.specs.Lines.{TextLine}
use Rattle.ref_script.specs.Scripts.{config_of}
use Rattle.ref_script.specs.ToldLines.{told, line_words, says_nothing}
use Rattle.ref_script.specs.Versions.{is_in_version}

-- ---- the head of a log

-- a configuration within the limits of version 2, whichever its own is
abbrev pub in_limits : Option Config → Option Config
in_limits None = None
in_limits (Some config) = if is_in_version (record config { rule = Scaled }) then Some config else None

-- the configuration behind a header of this rule: that of its line where none was given, and else the given one with
-- this rule and no line
abbrev pub IsConfigured : Option Config → SpanRule → List (List (List ℕ)) → Config → Type 0
IsConfigured None rule [] config = ⊥
IsConfigured None rule (words ∷ []) config = in_limits (config_of rule words) ≡ Some config
IsConfigured None rule (words ∷ other ∷ more) config = ⊥
IsConfigured (Some given) rule [] config = in_limits (Some (record given { rule = rule })) ≡ Some config
IsConfigured (Some given) rule (words ∷ more) config = ⊥

-- what the lines say is a header of this rule
pub record HaveHeader (lines : List TextLine) (rule : SpanRule) : Type 0 where
  pub header : List (List ℕ)
  pub told_is : told lines ≡ header ∷ []
  pub version : rule_of header ≡ Some rule

-- what the lines say is a header and, unless it was given, a configuration
pub record HaveConfig (given : Option Config) (lines : List TextLine) (config : Config) : Type 0 where
  pub header : List (List ℕ)
  pub rule : SpanRule
  pub configuration : List (List (List ℕ))
  pub told_is : told lines ≡ header ∷ configuration
  pub version : rule_of header ≡ Some rule
  pub configured : IsConfigured given rule configuration config

-- the profile behind that: that of its line, or the strict one and no line
abbrev pub IsProfiled : List (List (List ℕ)) → Profile → Type 0
IsProfiled [] profile = profile ≡ strict
IsProfiled (words ∷ []) profile = profile_of words ≡ Some (Ok profile)
IsProfiled (words ∷ other ∷ more) profile = ⊥

-- whether objects have names behind that: a line says so, or none does
abbrev pub IsNamed : List (List (List ℕ)) → Bool → Type 0
IsNamed [] named = named ≡ false
IsNamed (words ∷ []) named = (is_naming_line words ≡ true) × (named ≡ true)
IsNamed (words ∷ other ∷ more) named = ⊥

-- what the lines say is a header, a configuration unless it was given, and a profile if there is one
pub record HaveProfile (given : Option Config) (lines : List TextLine) (profile : Profile) (config : Config) : Type 0
  where
    pub header : List (List ℕ)
    pub rule : SpanRule
    pub configuration : List (List (List ℕ))
    pub profiling : List (List (List ℕ))
    pub told_is : told lines ≡ header ∷ configuration ++ profiling
    pub version : rule_of header ≡ Some rule
    pub configured : IsConfigured given rule configuration config
    pub profiled : IsProfiled profiling profile

-- The words of the lines that say something are those of a log: a header, a configuration unless it was given, a
-- profile if there is one, a line that says that objects have names if there is one, and rows.
pub record IsLog (given : Option Config) (words : List (List (List ℕ))) (profile : Profile) (config : Config)
    (named : Bool) (row_words : List (List (List ℕ)))
    : Type 0
  where
    pub header : List (List ℕ)
    pub rule : SpanRule
    pub configuration : List (List (List ℕ))
    pub profiling : List (List (List ℕ))
    pub naming : List (List (List ℕ))
    pub parts : words ≡ header ∷ configuration ++ profiling ++ naming ++ row_words
    pub version : rule_of header ≡ Some rule
    pub configured : IsConfigured given rule configuration config
    pub profiled : IsProfiled profiling profile
    pub named_is : IsNamed naming named

-- the lines are those of a log of so many rows, which are these of the collector, and the names then are these
pub record IsLogOf (given : Option Config) (lines : List TextLine) (profile : Profile) (config : Config)
    (rows : List Row) (names : Option (List Given)) (count : ℕ)
    : Type 0
  where
    pub named : Bool
    pub row_words : List (List (List ℕ))
    pub log : IsLog given (told lines) profile config named row_words
    pub are_rows : AreRows profile config (first_names named) row_words rows names
    pub count_is : length row_words ≡ count

-- ---- what is said of it

-- the lines are those of a log of so many rows, and they are legal
pub record AreLegalLines (given : Option Config) (lines : List TextLine) (count : ℕ) : Type 0 where
  pub profile : Profile
  pub config : Config
  pub rows : List Row
  pub names : Option (List Given)
  pub log : IsLogOf given lines profile config rows names count
  pub legal : IsLegalAs profile config rows

-- Up to this line they are those of a log whose last row is this one. Whatever rows the words of these lines spell,
-- they aren't legal. The rows in front of the last are. The answer that is named would have been legal instead.
pub record IsIllegalAt (given : Option Config) (lines : List TextLine) (finding : Finding) : Type 0 where
  pub read : List TextLine
  pub unread : List TextLine
  pub parts : lines ≡ read ++ unread
  pub line : length read ≡ finding.line
  pub profile : Profile
  pub config : Config
  pub front : List Row
  pub names : Option (List Given)
  pub log : IsLogOf given read profile config (front ++ finding.row ∷ []) names finding.number
  pub legal_before : IsLegalAs profile config front
  pub illegal_with :
      (rows : List Row) (others : Option (List Given))
      → AreRows profile config (first_names log.named) log.row_words rows others → ¬ (IsLegalAs profile config rows)
  pub instead : NamesAnswerBehind profile config front finding.row.step finding.breach.instead

-- the lines in front are those of a legal log of so many rows, and the line spells no row
pub record IsNoRowOf (given : Option Config) (rows : ℕ) (fault : LogFault) (front : List TextLine) (line : TextLine)
    : Type 0
  where
    pub judged : AreLegalLines given front rows
    pub none : SpellsNone judged.profile judged.config judged.rows judged.names (line_words line) fault

-- the last line is such a one, and has no LF
pub record IsCutOff (given : Option Config) (lines : List TextLine) (rows line : ℕ) : Type 0 where
  pub front : List TextLine
  pub last : TextLine
  pub parts : lines ≡ front ++ last ∷ []
  pub number : line ≡ length front + 1
  pub open_ended : last.is_ended ≡ false
  pub fault : LogFault
  pub faulty : IsNoRowOf given rows fault front last

-- the number of the line behind the last, as far as numbers go
abbrev pub IsBehindLast : List TextLine → ℕ → Type 0
IsBehindLast lines k = k ≡ min (length lines + 1) (2 ^ 64 - 1)

-- Why there is no configuration behind a header of this rule. Where none was given, the next line that says something
-- is none within the limits, or no line is left that does. Where one was given, it isn't within them, and the line is
-- the header's, or the next line that says something begins as a configuration.
abbrev pub IsConfigFault : Option Config → SpanRule → List TextLine → ℕ → Type 0
IsConfigFault None rule lines k =
    AtLine lines k (λ front line. HaveHeader front rule × (says_nothing (line_words line) ≡ false)
    × (in_limits (config_of rule (line_words line)) ≡ None))
    ⊎ (HaveHeader lines rule × IsBehindLast lines k)
IsConfigFault (Some given) rule lines k =
    AtLine lines k (λ front line. (told front ≡ []) × (rule_of (line_words line) ≡ Some rule)
    × (in_limits (Some (record given { rule = rule })) ≡ None))
    ⊎ AtLine lines k (λ front line. HaveHeader front rule × (begins_config (line_words line) ≡ true))

-- why the head of a log is faulty
abbrev pub IsHeadFault : Option Config → LogFault → List TextLine → ℕ → Type 0
IsHeadFault given BadHeader lines k =
    AtLine lines k (λ front line. (told front ≡ []) × (says_nothing (line_words line) ≡ false)
    × (rule_of (line_words line) ≡ None))
    ⊎ ((told lines ≡ []) × IsBehindLast lines k)
IsHeadFault given BadConfig lines k = (rule : SpanRule) × IsConfigFault given rule lines k
IsHeadFault given BadProfile lines k =
    AtLine lines k (λ front line. ((config : Config) × HaveConfig given front config)
    × (profile_of (line_words line) ≡ Some (Err BadProfile)))
IsHeadFault given LineTooLong lines k = ⊥
IsHeadFault given NotAscii lines k = ⊥
IsHeadFault given UnknownStep lines k = ⊥
IsHeadFault given MissingWord lines k = ⊥
IsHeadFault given BadWord lines k = ⊥
IsHeadFault given ExtraWord lines k = ⊥
IsHeadFault given NoReply lines k = ⊥

-- the lines are those of a legal log, or begin one: they say nothing, or a header
abbrev pub IsLogBegun : Option Config → List TextLine → Type 0
IsLogBegun given lines =
    (told lines ≡ []) ⊎ (((rule : SpanRule) × HaveHeader lines rule) ⊎ ((count : ℕ) × AreLegalLines given lines count))

-- why there is no verdict on a log of these lines
abbrev pub Fails : Option Config → List TextLine → LogFailure → Type 0
Fails given lines (Line k fault) =
    AtLine lines k (λ front line. IsUnplain fault line × IsLogBegun given front)
    ⊎ (IsHeadFault given fault lines k
    ⊎ AtLine lines k (λ front line. (rows : ℕ) × IsNoRowOf given rows fault front line))
Fails given lines (CutOff rows line) = IsCutOff given lines rows line
Fails given lines CannotRead = Unit {0}
Fails given lines NoMemory = Unit {0}

-- what is told of the row that a judge objects to, the last of so many, in a line of this number
abbrev pub TellsOfRow : (count line : ℕ) → Row → Objection → Result Verdict LogFailure → Type 0
TellsOfRow count line row objection (Ok (Legal rows)) = ⊥
TellsOfRow count line row objection (Ok (Illegal finding)) =
    (finding.number ≡ count) × (finding.line ≡ line) × (finding.row ≡ row)
    × (objection ≡ objections.Illegal finding.breach)
TellsOfRow count line row objection (Err failure) = failure ≡ NoMemory

-- what is answered of a log of these lines
abbrev pub Tells : Option Config → List TextLine → Result Verdict LogFailure → Type 0
Tells given lines (Ok (Legal rows)) = AreLegalLines given lines rows
Tells given lines (Ok (Illegal finding)) = IsIllegalAt given lines finding
Tells given lines (Err failure) = Fails given lines failure
