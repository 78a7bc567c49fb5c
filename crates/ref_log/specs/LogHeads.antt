-- The lines of a log in front of its rows (this project's profile): its header, its profile, and whether objects have
-- names.
use Rattle.std.specs.Prelude.{ℕ, Bool, true, false, if◌then◌else◌, List, [], ◌∷◌, Option, Some, None, codes}
use Rattle.std.specs.Prelude.{Result, Ok, Err}
use Rattle.std.specs.Option.{option_and_then}
use Rattle.std.specs.Str.{bytes_eq}
use Rattle.ref_base.specs.declared.span_rule.SpanRule.{SpanRule}
use Rattle.ref_base.specs.declared.span_rule.SpanRule.TheVariants.{Fixed, Scaled}
use Rattle.ref_judge.specs.ProfiledRows.{strict}
use Rattle.ref_judge.specs.declared.order.Order.{Order}
use Rattle.ref_judge.specs.declared.order.Order.TheVariants.{First, Last, Any}
use Rattle.ref_judge.specs.declared.profile.Profile.{Profile}
use Rattle.ref_log.specs.Names.{Given}
use Rattle.ref_log.specs.declared.fault.LogFault.{LogFault}
use Rattle.ref_log.specs.declared.fault.LogFault.TheVariants.{BadProfile}
use Rattle.ref_script.specs.ToldLines.{is_titled}

-- the rule of the span that the words of a header name by their version
abbrev pub rule_of : List (List ℕ) → Option SpanRule
rule_of words =
    if is_titled (codes "reftrace") (codes "1") words then Some Fixed
    else if is_titled (codes "reftrace") (codes "2") words then Some Scaled else None

-- the first word of a line is that of a configuration
abbrev pub begins_config : List (List ℕ) → Bool
begins_config [] = false
begins_config (word ∷ words) = bytes_eq word (codes "config")

-- no word yet kept more, freed soft references, or gave an order, and this one does
abbrev pub keeping_more : Profile → Option Profile
keeping_more profile = if profile.keeps_more then None else Some (record profile { keeps_more = true })

abbrev pub soft_freed : Profile → Option Profile
soft_freed profile = if profile.soft_free then None else Some (record profile { soft_free = true })

abbrev pub is_first : Order → Bool
is_first First = true
is_first order = false

abbrev pub ordered : Order → Profile → Option Profile
ordered order profile = if is_first profile.order then Some (record profile { order = order }) else None

-- the profile that this word makes of that of the words in front of it
abbrev pub with_word : Profile → List ℕ → Option Profile
with_word profile word =
    if bytes_eq word (codes "keeps-more") then keeping_more profile
    else if bytes_eq word (codes "soft-free") then soft_freed profile
    else if bytes_eq word (codes "queue-lifo") then ordered Last profile
    else if bytes_eq word (codes "queue-any") then ordered Any profile else None

-- and what all of these words make of it
abbrev pub with_words : Profile → List (List ℕ) → Option Profile
with_words profile [] = Some profile
with_words profile (word ∷ words) = option_and_then (λ made. with_words made words) (with_word profile word)

abbrev pub profile_or_fault : Option Profile → Result Profile LogFault
profile_or_fault (Some profile) = Ok profile
profile_or_fault None = Err BadProfile

-- the profile that a line gives that begins with the word `profile`, or its fault
abbrev pub profile_of : List (List ℕ) → Option (Result Profile LogFault)
profile_of [] = None
profile_of (word ∷ words) =
    if bytes_eq word (codes "profile") then Some (profile_or_fault (with_words strict words)) else None

-- a line that says that objects have names of the collector's own
abbrev pub is_naming_line : List (List ℕ) → Bool
is_naming_line words = is_titled (codes "names") (codes "any") words

-- the names that were given at first: none, where objects have names
abbrev pub first_names : Bool → Option (List Given)
first_names true = Some []
first_names false = None
