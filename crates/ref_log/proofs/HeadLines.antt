-- How the reading of the head of a log goes on.
use Rattle.std.proofs.Common.{◌≡◌, ℕ, ◌+◌, ◌-◌, ◌^◌, min, Bool, true, false, List, [], ◌∷◌, ◌++◌, length, Option}
use Rattle.std.proofs.Common.{Some, None, Ok, Err, refl, sym, ap, ◌∙◌, subst, append-nil, inl, inr}
use Rattle.std.proofs.lemmas.Bool.{cases_Bool}
use Rattle.std.specs.Prelude.{codes}
use Rattle.std.specs.Str.{bytes_eq}
use Rattle.ref_base.specs.declared.config.Config.{Config}
use Rattle.ref_base.specs.declared.span_rule.SpanRule.{SpanRule}
use Rattle.ref_judge.specs.declared.profile.Profile.{Profile}
use Rattle.ref_judge.specs.ProfiledRows.{strict}
use Rattle.ref_log.proofs.ReadLines.{at_read, told_append, told_one, told_silent}
use Rattle.ref_base.specs.Collectors.{first_state}
use Rattle.ref_log.specs.Checking.{AreLegalLines, Fails, HaveConfig, HaveHeader, HaveProfile, IsLogBegun, IsBehindLast}
use Rattle.ref_log.specs.Checking.{IsLog, in_limits}
use Rattle.ref_log.specs.HeadReading.{IsBehindHeader, IsBehindConfig, IsBehindHead, IsBehindProfile}
use Rattle.ref_log.specs.LogHeads.{begins_config, first_names, is_naming_line, rule_of, profile_of, profile_or_fault}
use Rattle.ref_log.specs.LogHeads.{with_words}
use Rattle.ref_log.specs.ReadLines.{HasRead, FindsTold, IsStopped}
use Rattle.ref_log.specs.Streams.{Streamed, line_in}
use Rattle.ref_log.specs.declared.failure.LogFailure.{LogFailure}
use Rattle.ref_log.specs.declared.failure.LogFailure.TheVariants.{Line, CutOff, CannotRead, NoMemory}
use Rattle.ref_log.specs.declared.fault.LogFault.{LogFault}
use Rattle.ref_log.specs.declared.fault.LogFault.TheVariants.{BadConfig, BadHeader, BadProfile}
use Rattle.ref_script.specs.Lines.{TextLine}
use Rattle.ref_script.specs.Scripts.{config_of}
use Rattle.ref_script.specs.ToldLines.{told, line_words, says_nothing}

-- ---- what stops the reading of a line

-- lines that say the same are those of the same log
pub legal_alike : (given : Option Config) (read front : List TextLine) (count : ℕ) → told front ≡ told read
    → AreLegalLines given read count → AreLegalLines given front count
legal_alike given read front count same legal =
    let log = legal.log in
    record {
      profile = legal.profile;
      config = legal.config;
      rows = legal.rows;
      names = legal.names;
      log = record {
        named = log.named;
        row_words = log.row_words;
        log = subst (λ (l : List (List (List ℕ))). IsLog given l legal.profile legal.config log.named log.row_words)
            (sym same) log.log;
        are_rows = log.are_rows;
        count_is = log.count_is;
      };
      legal = legal.legal;
    }

begun_alike : (given : Option Config) (read front : List TextLine) → told front ≡ told read → IsLogBegun given read
    → IsLogBegun given front
begun_alike given read front same begun =
    elim begun [
      | inl none ↦ inl (same ∙ none)
      | inr some ↦
          elim some [
            | inl (rule, have) ↦
                inr (inl (
                  rule,
                  record { header = have.header; told_is = same ∙ have.told_is; version = have.version },
                ))
            | inr (count, legal) ↦ inr (inr (count, legal_alike given read front count same legal))
          ]
    ]

-- what stops the reading of a line stops the reading of a log
pub stopped_fails : (given : Option Config) (lines read : List TextLine) (failure : LogFailure) → IsLogBegun given read
    → IsStopped lines read failure → Fails given lines failure
stopped_fails given lines read (Line k fault) begun stopped =
    inl (record {
      front = stopped.front;
      line = stopped.line;
      back = stopped.back;
      parts = stopped.parts;
      number = stopped.number;
      has = (stopped.has.0, begun_alike given read stopped.front stopped.has.1 begun);
    })
stopped_fails given lines read (CutOff rows line) begun stopped = absurd stopped
stopped_fails given lines read CannotRead begun stopped = tt
stopped_fails given lines read NoMemory begun stopped = tt

-- a head is a legal log of no row
log_begun : (given : Option Config) (read : List TextLine) (profile : Profile) (config : Config) (named : Bool)
    → IsLog given (told read) profile config named [] → IsLogBegun given read
log_begun given read profile config named log =
    inr (inr (
      0,
      record {
        profile = profile;
        config = config;
        rows = [];
        names = first_names named;
        log = record { named = named; row_words = []; log = log; are_rows = (refl, refl); count_is = refl };
        legal = (first_state config, refl);
      },
    ))

unnamed_log : (given : Option Config) (read : List TextLine) (profile : Profile) (config : Config)
    → HaveProfile given read profile config → IsLog given (told read) profile config false []
unnamed_log given read profile config have =
    let words = (have.header ∷ have.configuration) ++ have.profiling in
    record {
      header = have.header;
      rule = have.rule;
      configuration = have.configuration;
      profiling = have.profiling;
      naming = [];
      parts = have.told_is ∙ sym (append-nil words) ∙ sym (append-nil (words ++ []));
      version = have.version;
      configured = have.configured;
      profiled = have.profiled;
      named_is = refl;
    }

strict_profile : (given : Option Config) (read : List TextLine) (config : Config) → HaveConfig given read config
    → HaveProfile given read strict config
strict_profile given read config have = record {
  header = have.header;
  rule = have.rule;
  configuration = have.configuration;
  profiling = [];
  told_is = have.told_is ∙ sym (append-nil (have.header ∷ have.configuration));
  version = have.version;
  configured = have.configured;
  profiled = refl;
}

profile_begun : (given : Option Config) (read : List TextLine) (profile : Profile) (config : Config)
    → HaveProfile given read profile config → IsLogBegun given read
profile_begun given read profile config have =
    log_begun given read profile config false (unnamed_log given read profile config have)

config_begun : (given : Option Config) (read : List TextLine) (config : Config) → HaveConfig given read config
    → IsLogBegun given read
config_begun given read config have = profile_begun given read strict config (strict_profile given read config have)

-- the number of the line behind the last
behind_last : (lines read : List TextLine) (k n : ℕ) → lines ≡ read → n ≡ length read → k ≡ min (n + 1) (2 ^ 64 - 1)
    → IsBehindLast lines k
behind_last lines read k n all number is =
    is ∙ ap (λ (m : ℕ). min (m + 1) (2 ^ 64 - 1)) (number ∙ ap (λ (l : List TextLine). length l) (sym all))

-- ---- the header

pub header_found : (lines : List TextLine) (left : Option (List ℕ)) (s : Streamed) (rule : SpanRule)
    → FindsTold lines [] left s true → rule_of (line_words (line_in s)) ≡ Some rule → IsBehindHeader lines left s rule
header_found lines left s rule found version = record {
  front = found.between;
  silent = found.silent;
  says = found.at.0;
  version = version;
  has = found.at.1;
}

module _ (given : Option Config) (lines : List TextLine) (left : Option (List ℕ)) (s : Streamed) (k : ℕ) where
  -- no line says something
  pub header_missing : FindsTold lines [] left s false → k ≡ min (s.number + 1) (2 ^ 64 - 1)
      → Fails given lines (Line k BadHeader)
  header_missing found is =
      inr (inl (inr (
        ap told found.at.0 ∙ found.silent,
        behind_last lines found.between k s.number found.at.0 found.at.1 is,
      )))

  -- the first line that says something is no header
  pub header_bad : FindsTold lines [] left s true → rule_of (line_words (line_in s)) ≡ None → k ≡ s.number
      → Fails given lines (Line k BadHeader)
  header_bad found none is =
      rw is (inr (inl (inl (at_read lines found.between left s found.at.1
      (λ front line. (told front ≡ []) × (says_nothing (line_words line) ≡ false)
      × (rule_of (line_words line) ≡ None))
      (found.silent, found.at.0, none)))))

-- ---- the configuration

module _ (lines : List TextLine) (left : Option (List ℕ)) (s : Streamed) (rule : SpanRule)
    (behind : IsBehindHeader lines left s rule)
  where
    -- the lines that were read up to the header's
    abbrev pub header_lines : List TextLine
    header_lines = behind.front ++ line_in s ∷ []

    have_header : (between : List TextLine) → told between ≡ [] → HaveHeader (header_lines ++ between) rule
    have_header between silent = record {
      header = line_words (line_in s);
      told_is = told_silent (behind.front ++ line_in s ∷ []) between silent
          ∙ told_append behind.front (line_in s ∷ [])
          ∙ ap (λ (l : List (List (List ℕ))). l ++ told (line_in s ∷ [])) behind.silent
          ∙ told_one (line_in s) behind.says;
      version = behind.version;
    }

    -- what stops the reading of the line behind it
    pub header_stops : (given : Option Config) (failure : LogFailure) → IsStopped lines header_lines failure
        → Fails given lines failure
    header_stops given failure stopped =
        stopped_fails given lines header_lines failure
        (inr (inl (
          rule,
          subst (λ (l : List TextLine). HaveHeader l rule) (append-nil header_lines) (have_header [] refl),
        )))
        stopped

    -- the given configuration isn't within the limits of the header's version
    pub given_config_bad : (given : Config) → in_limits (Some (record given { rule = rule })) ≡ None → (k : ℕ)
        → k ≡ s.number → Fails (Some given) lines (Line k BadConfig)
    given_config_bad given none k is =
        rw is (inr (inl (
          rule,
          inl (at_read lines behind.front left s behind.has
              (λ front line. (told front ≡ []) × (rule_of (line_words line) ≡ Some rule)
              × (in_limits (Some (record given { rule = rule })) ≡ None))
              (behind.silent, behind.version, none)),
        )))

    module _ (later : Option (List ℕ)) (new : Streamed) where
      -- no configuration was given, and no line says something behind the header
      pub config_missing : FindsTold lines header_lines later new false → (k : ℕ)
          → k ≡ min (new.number + 1) (2 ^ 64 - 1) → Fails None lines (Line k BadConfig)
      config_missing found k is =
          inr (inl (
            rule,
            inr (
              subst (λ (l : List TextLine). HaveHeader l rule) (sym found.at.0)
                  (have_header found.between found.silent),
              behind_last lines (header_lines ++ found.between) k new.number found.at.0 found.at.1 is,
            ),
          ))

      -- no configuration was given, and the next line that says something is none
      pub config_bad : FindsTold lines header_lines later new true
          → in_limits (config_of rule (line_words (line_in new))) ≡ None → (k : ℕ) → k ≡ new.number
          → Fails None lines (Line k BadConfig)
      config_bad found none k is =
          rw is (inr (inl (
            rule,
            inl (at_read lines (header_lines ++ found.between) later new found.at.1
                (λ front line. HaveHeader front rule × (says_nothing (line_words line) ≡ false)
                × (in_limits (config_of rule (line_words line)) ≡ None))
                (have_header found.between found.silent, found.at.0, none)),
          )))

      -- a configuration was given, and the next line that says something begins as one
      pub config_twice : (given : Config) → FindsTold lines header_lines later new true
          → begins_config (line_words (line_in new)) ≡ true → (k : ℕ) → k ≡ new.number
          → Fails (Some given) lines (Line k BadConfig)
      config_twice given found begins k is =
          rw is (inr (inl (
            rule,
            inr (at_read lines (header_lines ++ found.between) later new found.at.1
                (λ front line. HaveHeader front rule × (begins_config (line_words line) ≡ true))
                (have_header found.between found.silent, begins)),
          )))

      pub given_config_found : (given config : Config) → in_limits (Some (record given { rule = rule })) ≡ Some config
          → (has_line : Bool) → FindsTold lines header_lines later new has_line
          → IsBehindConfig (Some given) lines later new config has_line
      given_config_found given config is has_line found =
          let have = have_header found.between found.silent in
          record {
            read = header_lines ++ found.between;
            head = record {
              header = have.header;
              rule = rule;
              configuration = [];
              told_is = have.told_is;
              version = have.version;
              configured = is;
            };
            at = found.at;
          }

      module _ (found : FindsTold lines header_lines later new true) where
        -- the lines that were read up to the configuration's
        abbrev pub config_lines : List TextLine
        config_lines = (header_lines ++ found.between) ++ line_in new ∷ []

        -- and they are a header and a configuration
        have_config : (config : Config) → in_limits (config_of rule (line_words (line_in new))) ≡ Some config
            → HaveConfig None config_lines config
        have_config config is =
            let have = have_header found.between found.silent in
            record {
              header = have.header;
              rule = rule;
              configuration = line_words (line_in new) ∷ [];
              told_is = told_append (header_lines ++ found.between) (line_in new ∷ [])
                  ∙ ap (λ (l : List (List (List ℕ))). told (header_lines ++ found.between) ++ l)
                  (told_one (line_in new) found.at.0)
                  ∙ ap (λ (l : List (List (List ℕ))). l ++ line_words (line_in new) ∷ []) have.told_is;
              version = have.version;
              configured = is;
            }

        pub config_stops : (config : Config) → in_limits (config_of rule (line_words (line_in new))) ≡ Some config
            → (failure : LogFailure)
            → ((known read : List TextLine) → HasRead known read later new → IsStopped known read failure)
            → Fails None lines failure
        config_stops config is failure stops =
            stopped_fails None lines config_lines failure
            (config_begun None config_lines config (have_config config is))
            (stops lines config_lines found.at.1)

        pub own_config_found : (config : Config) → in_limits (config_of rule (line_words (line_in new))) ≡ Some config
            → (last : Option (List ℕ)) (end : Streamed) (has_line : Bool)
            → ((known read : List TextLine) → HasRead known read later new → FindsTold known read last end has_line)
            → IsBehindConfig None lines last end config has_line
        own_config_found config is last end has_line next =
            let more : FindsTold lines config_lines last end has_line = next lines config_lines found.at.1 in
            let have = have_config config is in
            record {
              read = config_lines ++ more.between;
              head = record {
                header = have.header;
                rule = have.rule;
                configuration = have.configuration;
                told_is = told_silent config_lines more.between more.silent ∙ have.told_is;
                version = have.version;
                configured = have.configured;
              };
              at = more.at;
            }

-- ---- the profile

made_fault : (made : Option Profile) (fault : LogFault) → Some (profile_or_fault made) ≡ Some (Err fault)
    → fault ≡ BadProfile
made_fault (Some profile) fault is = absurd cc
made_fault None fault is = cc

-- the line of a profile has one fault
profile_fault : (words : List (List ℕ)) (fault : LogFault) → profile_of words ≡ Some (Err fault) → fault ≡ BadProfile
profile_fault [] fault is = absurd cc
profile_fault (word ∷ words) fault is =
    elim (cases_Bool (bytes_eq word (codes "profile"))) [
      | inl named ↦
          let here : profile_of (word ∷ words) ≡ Some (profile_or_fault (with_words strict words)) = simp named refl in
          made_fault (with_words strict words) fault (sym here ∙ is)
      | inr other ↦ let here : profile_of (word ∷ words) ≡ None = simp other refl in absurd cc
    ]

module _ (given : Option Config) (lines : List TextLine) (left : Option (List ℕ)) (s : Streamed) (config : Config) where
  pub no_profile : (has_line : Bool) → IsBehindConfig given lines left s config has_line
      → IsBehindProfile given lines left s strict config has_line
  no_profile has_line behind =
      record { read = behind.read; head = strict_profile given behind.read config behind.head; at = behind.at }

  module _ (behind : IsBehindConfig given lines left s config true) where
    -- the lines that were read up to the profile's
    abbrev pub profile_lines : List TextLine
    profile_lines = behind.read ++ line_in s ∷ []

    pub profile_bad : (fault : LogFault) → profile_of (line_words (line_in s)) ≡ Some (Err fault) → (k : ℕ)
        → k ≡ s.number → Fails given lines (Line k BadProfile)
    profile_bad fault faulty k is =
        let one = profile_fault (line_words (line_in s)) fault faulty in
        let bad : profile_of (line_words (line_in s)) ≡ Some (Err BadProfile) = cc in
        rw is (inr (inl (at_read lines behind.read left s behind.at.1
        (λ front line. ((known : Config) × HaveConfig given front known)
        × (profile_of (line_words line) ≡ Some (Err BadProfile)))
        ((config, behind.head), bad))))

    -- and they are a header, a configuration and a profile
    have_profile : (profile : Profile) → profile_of (line_words (line_in s)) ≡ Some (Ok profile)
        → HaveProfile given profile_lines profile config
    have_profile profile is =
        let words = line_words (line_in s) in
        let have = behind.head in
        record {
          header = have.header;
          rule = have.rule;
          configuration = have.configuration;
          profiling = words ∷ [];
          told_is = told_append behind.read (line_in s ∷ [])
              ∙ ap (λ (l : List (List (List ℕ))). told behind.read ++ l) (told_one (line_in s) behind.at.0)
              ∙ ap (λ (l : List (List (List ℕ))). l ++ words ∷ []) have.told_is;
          version = have.version;
          configured = have.configured;
          profiled = is;
        }

    pub profile_stops : (profile : Profile) → profile_of (line_words (line_in s)) ≡ Some (Ok profile)
        → (failure : LogFailure)
        → ((known read : List TextLine) → HasRead known read left s → IsStopped known read failure)
        → Fails given lines failure
    profile_stops profile is failure stops =
        stopped_fails given lines profile_lines failure
        (profile_begun given profile_lines profile config (have_profile profile is))
        (stops lines profile_lines behind.at.1)

    pub profile_found : (profile : Profile) → profile_of (line_words (line_in s)) ≡ Some (Ok profile)
        → (later : Option (List ℕ)) (new : Streamed) (has_row : Bool)
        → ((known read : List TextLine) → HasRead known read left s → FindsTold known read later new has_row)
        → IsBehindProfile given lines later new profile config has_row
    profile_found profile is later new has_row next =
        let found : FindsTold lines profile_lines later new has_row = next lines profile_lines behind.at.1 in
        let have = have_profile profile is in
        record {
          read = profile_lines ++ found.between;
          head = record {
            header = have.header;
            rule = have.rule;
            configuration = have.configuration;
            profiling = have.profiling;
            told_is = told_silent profile_lines found.between found.silent ∙ have.told_is;
            version = have.version;
            configured = have.configured;
            profiled = have.profiled;
          };
          at = found.at;
        }

-- ---- names

module _ (given : Option Config) (lines : List TextLine) (left : Option (List ℕ)) (s : Streamed) (profile : Profile)
    (config : Config)
  where
    pub no_naming : (has_line : Bool) → IsBehindProfile given lines left s profile config has_line
        → IsBehindHead given lines left s profile config false has_line
    no_naming has_line behind =
        record {
          read = behind.read;
          log = unnamed_log given behind.read profile config behind.head;
          at = behind.at;
        }

    module _ (behind : IsBehindProfile given lines left s profile config true)
        (says_so : is_naming_line (line_words (line_in s)) ≡ true)
      where
        -- the lines that were read up to the one that says so
        abbrev pub naming_lines : List TextLine
        naming_lines = behind.read ++ line_in s ∷ []

        named_log : (between : List TextLine) → told between ≡ []
            → IsLog given (told (naming_lines ++ between)) profile config true []
        named_log between silent =
            let words = line_words (line_in s) in
            let have = behind.head in
            record {
              header = have.header;
              rule = have.rule;
              configuration = have.configuration;
              profiling = have.profiling;
              naming = words ∷ [];
              parts = told_silent naming_lines between silent
                  ∙ told_append behind.read (line_in s ∷ [])
                  ∙ ap (λ (l : List (List (List ℕ))). told behind.read ++ l) (told_one (line_in s) behind.at.0)
                  ∙ ap (λ (l : List (List (List ℕ))). l ++ words ∷ []) have.told_is
                  ∙ sym (append-nil (((have.header ∷ have.configuration) ++ have.profiling) ++ words ∷ []));
              version = have.version;
              configured = have.configured;
              profiled = have.profiled;
              named_is = (says_so, refl);
            }

        pub naming_stops : (failure : LogFailure)
            → ((known read : List TextLine) → HasRead known read left s → IsStopped known read failure)
            → Fails given lines failure
        naming_stops failure stops =
            stopped_fails given lines naming_lines failure
            (log_begun given naming_lines profile config true
            (subst (λ (l : List TextLine). IsLog given (told l) profile config true []) (append-nil naming_lines)
            (named_log [] refl)))
            (stops lines naming_lines behind.at.1)

        pub naming_found : (later : Option (List ℕ)) (new : Streamed) (has_row : Bool)
            → ((known read : List TextLine) → HasRead known read left s → FindsTold known read later new has_row)
            → IsBehindHead given lines later new profile config true has_row
        naming_found later new has_row next =
            let found : FindsTold lines naming_lines later new has_row = next lines naming_lines behind.at.1 in
            record {
              read = naming_lines ++ found.between;
              log = named_log found.between found.silent;
              at = found.at;
            }
