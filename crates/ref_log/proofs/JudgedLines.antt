-- How the judging of a log goes on by one row.
use Rattle.std.proofs.Common.{◌≡◌, ℕ, ◌+◌, Bool, true, false, List, [], ◌∷◌, ◌++◌, Option, Some, None, Result, Ok}
use Rattle.std.proofs.Common.{Err, inl, inr, refl, sym, ap, ◌∙◌, subst, arith, append_assoc, append-nil, length-append}
use Rattle.ref_base.specs.Graphs.{is_there}
use Rattle.ref_base.specs.declared.config.Config.{Config}
use Rattle.ref_base.specs.declared.row.Row.{Row}
use Rattle.ref_judge.proofs.JudgedRuns.{HasTaken, taken_first, taken_more, taken_legal, taken_none, taken_lawful}
use Rattle.ref_judge.proofs.JudgedRuns.{objected, taken_named}
use Rattle.ref_judge.proofs.SomeFits.{between}
use Rattle.ref_judge.proofs.ToldObjects.{taken_objects}
use Rattle.ref_judge.specs.Judged.{Judged}
use Rattle.ref_judge.specs.ProfiledRows.{IsLegalAs}
use Rattle.ref_judge.specs.Standing.{IsIllegal, IsNewJudge, IsOfSomeState, IsSettled, ObjectsTo}
use Rattle.ref_judge.specs.declared.profile.Profile.{Profile}
use Rattle.ref_judge.specs.declared.rule.Objection.{Objection}
use Rattle.ref_judge.specs.declared.rule.Objection.TheVariants.{Illegal}
use Rattle.ref_log.proofs.HeadLines.{stopped_fails}
use Rattle.ref_log.proofs.NameLemmas.{given_alike, numbered_alike}
use Rattle.ref_log.proofs.NamedLines.{front_legal, names_alone, rows_apart, rows_more}
use Rattle.ref_log.proofs.PlacedBatches.{parts_same}
use Rattle.ref_log.proofs.ReadLines.{at_read, open_is_last, told_append, told_one, told_silent}
use Rattle.ref_log.specs.Checking.{IsLog, IsLogOf, AreLegalLines, IsIllegalAt, Fails, IsNoRowOf, Tells, TellsOfRow}
use Rattle.ref_log.specs.Failures.{is_unread}
use Rattle.ref_log.specs.HeadReading.{IsBehindHead, IsNoRowIn}
use Rattle.ref_log.specs.JudgedRows.{AreSameNames, JudgesNone, ReadsPart, TakesPart, names_judged, part_of}
use Rattle.ref_log.specs.LogHeads.{first_names}
use Rattle.ref_log.specs.LogRows.{SpellsRow}
use Rattle.ref_log.specs.NamedRows.{AreRows, NamesBehind, SpellsNone, SpellsPart, free_name, names_behind, with_numbers}
use Rattle.ref_log.specs.Names.{Given, MeanAlike, name_given}
use Rattle.ref_log.specs.ReadLines.{AtLine, HasRead, IsAt, IsStopped, FindsTold}
use Rattle.ref_log.specs.Streams.{Streamed, line_in}
use Rattle.ref_log.specs.declared.failure.Finding.{Finding}
use Rattle.ref_log.specs.declared.failure.LogFailure.{LogFailure}
use Rattle.ref_log.specs.declared.failure.LogFailure.TheVariants.{Line, CutOff, CannotRead, NoMemory}
use Rattle.ref_log.specs.declared.failure.Verdict.{Verdict}
use Rattle.ref_log.specs.declared.failure.Verdict.TheVariants as verdicts
use Rattle.ref_log.specs.declared.fault.LogFault.{LogFault}
use Rattle.ref_script.specs.Lines.{TextLine, lines_of}
use Rattle.ref_script.specs.ToldLines.{told, line_words, says_nothing}
use Rattle.ref_script.specs.WorldRows.{world_row}
use Rattle.ref_script.specs.declared.script_step.ScriptRow.{ScriptRow}

-- These lines are a log of rows that the judge took, the names then are these, and the line behind them was read, if
-- there is one. Other rows that are spelt by the same words aren't legal.
pub record IsOnTheWay (given : Option Config) (lines : List TextLine) (left : Option (List ℕ)) (s : Streamed)
    (profile : Profile) (config : Config) (has_row : Bool) (count : ℕ) (judge : Judged) (known : Option (List Given))
    : Type 0
  where
    pub read : List TextLine
    pub rows : List Row
    pub names : Option (List Given)
    pub log : IsLogOf given read profile config rows names count
    pub known_is : AreSameNames names known
    pub taken : HasTaken profile config rows judge
    pub alone :
        (others : List Row) (last : Option (List Given))
        → AreRows profile config (first_names log.named) log.row_words others last
        → IsLegalAs profile config others → (others ≡ rows) × (last ≡ names)
    pub at : IsAt lines read left s has_row

-- no read failed where a line is no row
pub none_unread : (judge : Judged) (names : Option (List Given)) (s : Streamed) (rows : ℕ) (failure : LogFailure)
    → IsNoRowIn judge names s rows failure → is_unread {T = Verdict} (Err failure) ≡ false
none_unread judge names s rows (Line k fault) none = refl
none_unread judge names s rows (CutOff count k) none = refl
none_unread judge names s rows CannotRead none = absurd none
none_unread judge names s rows NoMemory none = refl

-- nor where a row is told of
pub told_unread : (rows line : ℕ) (row : Row) (objection : Objection) (result : Result Verdict LogFailure)
    → TellsOfRow rows line row objection result → is_unread result ≡ false
told_unread rows line row objection (Ok verdict) tells = refl
told_unread rows line row objection (Err failure) tells = rw tells refl

-- whether a read failed doesn't depend on what was to be answered
pub same_unread : (failure : LogFailure)
    → is_unread {T = Bool} (Err failure) ≡ is_unread {T = Verdict} (Err failure)
same_unread (Line k fault) = refl
same_unread (CutOff count k) = refl
same_unread CannotRead = refl
same_unread NoMemory = refl

-- ---- names

-- names that mean the same make the same of a line, and mean the same behind it
free_alike : (there : ℕ → Bool) (next : ℕ) (one other : List Given) → MeanAlike one other
    → (name : Option (List ℕ)) → free_name there next one name ≡ free_name there next other name
free_alike there next one other alike None = refl
free_alike there next one other alike (Some name) = rw (alike name) refl

pub behind_alike : (there : ℕ → Bool) (next : ℕ) (one other : Option (List Given)) (words : List (List ℕ))
    → AreSameNames one other
    → AreSameNames (names_behind there next one words) (names_behind there next other words)
behind_alike there next None None words same = tt
behind_alike there next None (Some other) words same = absurd same
behind_alike there next (Some one) None words same = absurd same
behind_alike there next (Some one) (Some other) words same =
    rw (free_alike there next one other same (name_given words))
    (given_alike one other (free_name there next other (name_given words)) next same)

pub numbered_same : (one other : Option (List Given)) (words : List (List ℕ)) → AreSameNames one other
    → with_numbers one words ≡ with_numbers other words
numbered_same None None words same = refl
numbered_same None (Some other) words same = absurd same
numbered_same (Some one) None words same = absurd same
numbered_same (Some one) (Some other) words same = numbered_alike one other same words

-- so they do by the objects that the judge has
judged_alike : (j : Judged) (one other : Option (List Given)) (words : List (List ℕ)) → AreSameNames one other
    → AreSameNames (names_judged j one words) (names_judged j other words)
judged_alike j one other words same =
    behind_alike (λ n. is_there j.ground.heap.objects n) j.ground.next one other words same

same_through : (one mid other : Option (List Given)) → AreSameNames one mid → AreSameNames mid other
    → AreSameNames one other
same_through None None None first second = tt
same_through (Some one) (Some mid) (Some other) first second = λ name. first name ∙ second name
same_through None None (Some other) first second = absurd second
same_through None (Some mid) other first second = absurd first
same_through (Some one) None other first second = absurd first
same_through (Some one) (Some mid) None first second = absurd second

-- ---- one row more

module _ (profile : Profile) (config : Config) (rows : List Row) (judge : Judged)
    (taken : HasTaken profile config rows judge)
  where
    legal_so_far : IsLegalAs profile config rows
    legal_so_far =
        taken_legal profile config rows judge taken (between judge taken.state taken.stands taken.settled)

    -- what the judge makes of names is what they are behind the rows
    pub judged_behind : (names : Option (List Given)) (words : List (List ℕ))
        → NamesBehind profile config rows names words (names_judged judge names words)
    judged_behind names words =
        record { there = _; next = _; objects = taken_objects profile config rows judge taken; names_are = refl }

    pub spells_part : (names known : Option (List Given)) (words : List (List ℕ)) (row : Option Row)
        (later : Option (List Given)) → AreSameNames names known → ReadsPart judge known words row later
        → SpellsPart profile config rows names words (part_of row) (names_judged judge names words)
    spells_part names known words row later same reads =
        let spelt = reads.spelt in
        record {
          naming = judged_behind names words;
          row = spelt.0;
          spelt = rw (numbered_same (names_judged judge names words) (names_judged judge known words) words
              (judged_alike judge names known words same)) spelt.1;
          part_is = spelt.2;
        }

    pub spells_none : (names known : Option (List Given)) (words : List (List ℕ)) (fault : LogFault)
        → AreSameNames names known → JudgesNone judge known words fault
        → SpellsNone profile config rows names words fault
    spells_none names known words fault same none =
        let is = numbered_same (names_judged judge names words) (names_judged judge known words) words
        (judged_alike judge names known words same) in
        record {
          later = names_judged judge names words;
          naming = judged_behind names words;
          none = rw is none.none;
          fault_is = rw is none.fault_is;
        }

    -- Of the rows that are spelt by the words of the rows so far these alone may be legal. It is so with one row more,
    -- that is placed as the judge was told.
    module _ (first : Option (List Given)) (row_words : List (List (List ℕ))) (names : Option (List Given))
        (alone : (others : List Row) (last : Option (List Given)) → AreRows profile config first row_words others last
        → IsLegalAs profile config others → (others ≡ rows) × (last ≡ names))
        (words : List (List ℕ)) (known : Option (List Given)) (row : Option Row) (later : Option (List Given))
        (same : AreSameNames names known) (reads : ReadsPart judge known words row later) (sound : IsOfSomeState judge)
      where
        pub alone_more : (others : List Row) (last : Option (List Given))
            → AreRows profile config first (row_words ++ words ∷ []) others last → IsLegalAs profile config others
            → (others ≡ rows ++ part_of row) × (last ≡ names_judged judge names words)
        unfolding spells_part
        alone_more others last are legal =
            let more = rows_apart profile config [] first row_words words others last are in
            let apart : IsLegalAs profile config (more.before ++ more.part) =
            subst (λ (rs : List Row). IsLegalAs profile config rs) more.parts legal in
            let before = front_legal profile config more.before more.part apart in
            let (rows_are, names_are) = alone more.before more.mid more.are_before before in
            let spells : SpellsPart profile config rows names words more.part last =
            subst (λ (ns : Option (List Given)). SpellsPart profile config rows ns words more.part last) names_are
            (subst (λ (rs : List Row). SpellsPart profile config rs more.mid words more.part last) rows_are
            more.spells) in
            let ours = spells_part names known words row later same reads in
            let last_is : last ≡ names_judged judge names words =
            names_alone profile config rows names (names_judged judge names words) last words legal_so_far
            ours.naming spells.naming in
            let part_is : more.part ≡ part_of row = part_alone more.part spells.row
            (subst (λ (ns : Option (List Given)). SpellsRow (with_numbers ns words) spells.row) last_is spells.spelt)
            spells.part_is ours
            (subst (λ (rs : List Row). IsLegalAs profile config (rs ++ more.part)) rows_are apart) in (
              more.parts
                  ∙ ap (λ (rs : List Row). rs ++ more.part) rows_are
                  ∙ ap (λ (rs : List Row). rows ++ rs) part_is,
              last_is,
            )
          where
            part_alone : (part : List Row) (other : ScriptRow)
                → SpellsRow (with_numbers (names_judged judge names words) words) other
                → part ≡ world_row other.step other.reply
                → SpellsPart profile config rows names words (part_of row) (names_judged judge names words)
                → IsLegalAs profile config (rows ++ part) → part ≡ part_of row
            part_alone part other spelt part_is ours legal =
                elim (parts_same judge sound (with_numbers (names_judged judge names words) words) row part reads.placed
                (ours.row, ours.spelt, ours.part_is) (other, spelt, part_is)) [
                  | inl is ↦ is
                  | inr (r, one, illegal) ↦
                      absurd (taken_none profile config rows judge taken r (illegal taken.state taken.stands)
                      (subst (λ (rs : List Row). IsLegalAs profile config (rows ++ rs)) one legal))
                ]

        -- where the row isn't legal behind them, no rows that these words spell are
        pub none_more : (r : Row) → row ≡ Some r → IsIllegal judge r → (others : List Row) (last : Option (List Given))
            → AreRows profile config first (row_words ++ words ∷ []) others last → ¬ (IsLegalAs profile config others)
        none_more r is illegal others last are legal =
            let (rows_are, last_is) = alone_more others last are legal in
            taken_none profile config rows judge taken r (illegal taken.state taken.stands)
            (subst (λ (rs : List Row). IsLegalAs profile config rs)
            (rows_are ∙ ap (λ (o : Option Row). rows ++ part_of o) is) legal)

    -- the judge took the row, if it is one
    pub taken_part : (row : Option Row) (new : Judged) → IsSettled new → TakesPart judge row new
        → HasTaken profile config (rows ++ part_of row) new
    taken_part None new settled is =
        subst (λ (rs : List Row). HasTaken profile config rs new) (sym (append-nil rows))
        (subst (λ (j : Judged). HasTaken profile config rows j) (sym is) taken)
    taken_part (Some row) new settled told =
        taken_more profile config rows judge taken row new settled told.0 told.1
        (told.2 taken.state taken.stands (taken_lawful profile config rows judge taken))

module _ (given : Option Config) (read : List TextLine) (profile : Profile) (config : Config) (rows : List Row)
    (names : Option (List Given)) (count : ℕ) (log : IsLogOf given read profile config rows names count)
  where
    pub log_more : (line : TextLine) (part : List Row) (last : Option (List Given))
        → says_nothing (line_words line) ≡ false → SpellsPart profile config rows names (line_words line) part last
        → IsLogOf given (read ++ line ∷ []) profile config (rows ++ part) last (count + 1)
    log_more line part last says spells =
        let words = line_words line in
        let inner = log.log in
        let head = ((inner.header ∷ inner.configuration) ++ inner.profiling) ++ inner.naming in
        record {
          named = log.named;
          row_words = log.row_words ++ words ∷ [];
          log = record {
            header = inner.header;
            rule = inner.rule;
            configuration = inner.configuration;
            profiling = inner.profiling;
            naming = inner.naming;
            parts = told_append read (line ∷ [])
                ∙ ap (λ (l : List (List (List ℕ))). told read ++ l) (told_one line says)
                ∙ ap (λ (l : List (List (List ℕ))). l ++ words ∷ []) inner.parts
                ∙ append_assoc head log.row_words (words ∷ []);
            version = inner.version;
            configured = inner.configured;
            profiled = inner.profiled;
            named_is = inner.named_is;
          };
          are_rows = rows_more profile config [] (first_names log.named) log.row_words rows names words part last
              log.are_rows spells;
          count_is = omega (arith, log.count_is, length-append log.row_words (words ∷ []));
        }

    pub log_silent : (more : List TextLine) → told more ≡ []
        → IsLogOf given (read ++ more) profile config rows names count
    log_silent more silent = record {
      named = log.named;
      row_words = log.row_words;
      log = subst (λ (l : List (List (List ℕ))). IsLog given l profile config log.named log.row_words)
          (sym (told_silent read more silent)) log.log;
      are_rows = log.are_rows;
      count_is = log.count_is;
    }

-- a new judge took no row behind the head
pub way_first : (given : Option Config) (lines : List TextLine) (left : Option (List ℕ)) (s : Streamed)
    (profile : Profile) (config : Config) (named has_row : Bool) (judge : Judged) (known : Option (List Given))
    → IsBehindHead given lines left s profile config named has_row → IsNewJudge profile config judge
    → AreSameNames (first_names named) known → IsOnTheWay given lines left s profile config has_row 0 judge known
way_first given lines left s profile config named has_row judge known behind first same = record {
  read = behind.read;
  rows = [];
  names = first_names named;
  log = record { named = named; row_words = []; log = behind.log; are_rows = (refl, refl); count_is = refl };
  known_is = same;
  taken = taken_first profile config judge first;
  alone = λ others last are legal. are;
  at = behind.at;
}

module _ (given : Option Config) (lines : List TextLine) (left : Option (List ℕ)) (s : Streamed) (profile : Profile)
    (config : Config) (has_row : Bool) (count : ℕ) (judge : Judged) (known : Option (List Given))
    (way : IsOnTheWay given lines left s profile config has_row count judge known)
  where
    pub way_at : has_row ≡ true → IsAt lines way.read left s true
    way_at is = subst (λ (b : Bool). IsAt lines way.read left s b) is way.at

    pub way_judged : AreLegalLines given way.read count
    way_judged = record {
      profile = profile;
      config = config;
      rows = way.rows;
      names = way.names;
      log = way.log;
      legal = legal_so_far profile config way.rows judge way.taken;
    }

    -- all lines were read
    pub way_ends : has_row ≡ false → AreLegalLines given lines count
    way_ends is =
        let at : IsAt lines way.read left s false = subst (λ (b : Bool). IsAt lines way.read left s b) is way.at in
        subst (λ (l : List TextLine). AreLegalLines given l count) (sym at.0) way_judged

    way_none : (fault : LogFault) → JudgesNone judge known (line_words (line_in s)) fault
        → IsNoRowOf given count fault way.read (line_in s)
    unfolding way_judged
    way_none fault none = record {
      judged = way_judged;
      none = spells_none profile config way.rows judge way.taken way.names known (line_words (line_in s)) fault
          way.known_is none;
    }

    -- the line is no row
    pub way_stops : has_row ≡ true → (failure : LogFailure) → IsNoRowIn judge known s count failure
        → Fails given lines failure
    way_stops is (Line k fault) none =
        let at = way_at is in
        inr (inr (subst (λ (n : ℕ). AtLine lines n (λ front line. (rows : ℕ) × IsNoRowOf given rows fault front line))
        (sym none.0)
        (at_read lines way.read left s at.1 (λ front line. (rows : ℕ) × IsNoRowOf given rows fault front line)
        (count, way_none fault none.1))))
    way_stops is (CutOff rows k) none =
        let at = way_at is in
        subst (λ (n : ℕ). Fails given lines (CutOff n k)) (sym none.0) (record {
          front = way.read;
          last = line_in s;
          parts = open_is_last lines way.read left s at.1 none.2;
          number = omega (arith, none.1, at.1.number, length-append way.read (line_in s ∷ []));
          open_ended = none.2;
          fault = none.3.0;
          faulty = way_none none.3.0 none.3.1;
        })
    way_stops is CannotRead none = absurd none
    way_stops is NoMemory none = tt

    module _ (on : has_row ≡ true) (row : Option Row) (later : Option (List Given))
        (reads : ReadsPart judge known (line_words (line_in s)) row later) (sound : IsOfSomeState judge) (new : Judged)
      where
        -- the judge takes it
        pub way_more : IsSettled new → TakesPart judge row new
            → (next : Option (List ℕ)) (end : Streamed) (has_more : Bool)
            → ((more_lines read : List TextLine) → HasRead more_lines read left s
            → FindsTold more_lines read next end has_more)
            → IsOnTheWay given lines next end profile config has_more (count + 1) new later
        unfolding log_more log_silent way_at
        way_more settled told next end has_more finds =
            let at = way_at on in
            let line = line_in s in
            let words = line_words line in
            let found = finds lines (way.read ++ line ∷ []) at.1 in
            let part = part_of row in
            let names = names_judged judge way.names words in
            let spells = spells_part profile config way.rows judge way.taken way.names known words row later
            way.known_is reads in
            record {
              read = (way.read ++ line ∷ []) ++ found.between;
              rows = way.rows ++ part;
              names = names;
              log = log_silent given (way.read ++ line ∷ []) profile config (way.rows ++ part) names (count + 1)
                  (log_more given way.read profile config way.rows way.names count way.log line part names at.0 spells)
                  found.between found.silent;
              known_is = same_through names (names_judged judge known words) later
                  (judged_alike judge way.names known words way.known_is) reads.names_are;
              taken = taken_part profile config way.rows judge way.taken row new settled told;
              alone = alone_more profile config way.rows judge way.taken (first_names way.log.named) way.log.row_words
                  way.names way.alone words known row later way.known_is reads sound;
              at = found.at;
            }

        -- the judge takes it, and the line behind it isn't read
        pub way_breaks : IsSettled new → TakesPart judge row new → (failure : LogFailure)
            → ((more_lines read : List TextLine) → HasRead more_lines read left s
            → IsStopped more_lines read failure)
            → Fails given lines failure
        unfolding log_more way_at
        way_breaks settled told failure stops =
            let at = way_at on in
            let line = line_in s in
            let words = line_words line in
            let part = part_of row in
            let names = names_judged judge way.names words in
            let spells = spells_part profile config way.rows judge way.taken way.names known words row later
            way.known_is reads in
            let taken = taken_part profile config way.rows judge way.taken row new settled told in
            stopped_fails given lines (way.read ++ line ∷ []) failure
            (inr (inr (
              count + 1,
              record {
                profile = profile;
                config = config;
                rows = way.rows ++ part;
                names = names;
                log = log_more given way.read profile config way.rows way.names count way.log line part names at.0
                    spells;
                legal = legal_so_far profile config (way.rows ++ part) new taken;
              },
            )))
            (stops lines (way.read ++ line ∷ []) at.1)

        -- the judge objects to it
        pub way_illegal : (finding : Finding) → finding.number ≡ count + 1 → finding.line ≡ s.number
            → row ≡ Some finding.row → (objection : Objection) → objection ≡ Illegal finding.breach
            → ObjectsTo judge finding.row objection new → IsIllegalAt given lines finding
        unfolding log_more
        way_illegal finding number_is line_is row_is objection is objects =
            let at = way_at on in
            let line = line_in s in
            let words = line_words line in
            let names = names_judged judge way.names words in
            let objected_to = objected judge new finding.row objection finding.breach is objects in
            let front = way.rows in
            let spells = spells_part profile config way.rows judge way.taken way.names known words row later
            way.known_is reads in
            let log = log_more given way.read profile config front way.names count way.log line (part_of row) names at.0
            spells in
            record {
              read = way.read ++ line ∷ [];
              unread = lines_of (s.held ++ at.1.rest);
              parts = at.1.parts;
              line = sym at.1.number ∙ sym line_is;
              profile = profile;
              config = config;
              front = front;
              names = names;
              log = record {
                named = way.log.named;
                row_words = way.log.row_words ++ words ∷ [];
                log = log.log;
                are_rows = subst (λ (o : Option Row). AreRows profile config (first_names way.log.named)
                    (way.log.row_words ++ words ∷ []) (front ++ part_of o) names) row_is log.are_rows;
                count_is = log.count_is ∙ sym number_is;
              };
              legal_before = legal_so_far profile config front judge way.taken;
              illegal_with = none_more profile config front judge way.taken (first_names way.log.named)
                  way.log.row_words way.names way.alone words known row later way.known_is reads sound finding.row
                  row_is objected_to.0;
              instead = taken_named profile config front judge way.taken finding.row.step finding.breach.instead
                  objected_to.1;
            }

        -- so what is told of that row is told of the log
        pub way_told : (refused : Row) (objection : Objection) (result : Result Verdict LogFailure)
            → row ≡ Some refused → ObjectsTo judge refused objection new
            → TellsOfRow (count + 1) s.number refused objection result → Tells given lines result
        way_told refused objection (Ok (verdicts.Legal rows)) row_is objects told = absurd told
        way_told refused objection (Ok (verdicts.Illegal finding)) row_is objects told =
            way_illegal finding told.0 told.1 (row_is ∙ ap (λ (r : Row). Some r) (sym told.2)) objection told.3
            (subst (λ (r : Row). ObjectsTo judge r objection new) (sym told.2) objects)
        way_told refused objection (Err failure) row_is objects told = rw told tt
