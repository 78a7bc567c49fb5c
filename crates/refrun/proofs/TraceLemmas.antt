-- The text of a trace so far, and the trace that a script's text prints.
use Rattle.refrun.proofs.Common.{◌≡◌, ℕ, ◌+◌, ◌<◌, ◌≤◌, List, [], ◌∷◌, ◌++◌, length, take, get_or, Option, Some, None}
use Rattle.refrun.proofs.Common.{refl, sym, ap, subst, ◌∙◌, append_assoc, arith, length-map, take_more, le-leb}
use Rattle.refrun.proofs.Common.{State, first_state, Config, Fault, Core, Stands, StageJobs, first_jobs, IsScriptRun}
use Rattle.refrun.proofs.Common.{IsScript, lines_of, most_bytes, trace_text, TellsRun, ScriptReply}
use Rattle.refrun.proofs.Common.{ScriptRow, ScriptStep}
use Rattle.std.proofs.Common.{decimal}
use Rattle.std.proofs.lemmas.List.{length-take-le, map-append}
use Rattle.ref_base.specs.declared.span_rule.SpanRule.{SpanRule}
use Rattle.std.specs.Option.{IfSome}
use Rattle.refrun.proofs.Common.{Err, Ok}
use Rattle.std.specs.Io.KnownBytes.{Appends}
use Rattle.ref_script.specs.Answers.{AnswersText}
use Rattle.ref_text.specs.Streams.{AppendsPrefix}
use Rattle.ref_text.specs.declared.fault.TextFault.{TextFault}
use Rattle.ref_text.specs.declared.fault.TextFault.TheVariants.{CannotWrite}
use Rattle.ref_script.specs.Scripts.{AreScript}
use Rattle.ref_script.specs.Versions.{trace_title}
use Rattle.refrun.specs.Traces.{PrintsTrace, script_steps_of, TellsRow, TellsTrace}
use Rattle.ref_script.specs.TraceTexts.{numbered}
use Rattle.ref_script.specs.WorldRows.{world_row, world_rows}
use Rattle.ref_base.specs.CollectorRows.{IsRow, IsRun}
use Rattle.ref_base.specs.declared.reply.Reply.{Reply}
use Rattle.ref_base.specs.declared.step.Step.{Step}
use Rattle.ref_world.specs.Standing.{IsRowOf}
use Rattle.ref_base.specs.declared.row.Row.{Row}
use Rattle.refrun.specs.ScriptRuns.{RunsIn, IsScriptRow}
use Rattle.ref_script.specs.ScriptSteps.{script_row_text}
use Rattle.ref_script.specs.declared.script_step.ScriptReply.TheVariants as replies
use Rattle.ref_script.specs.declared.script_step.ScriptStep.TheVariants as scripts

-- one line of a trace
line_of_row : ℕ → ScriptRow → List ℕ
line_of_row k row = decimal k ++ 32 ∷ script_row_text row ++ 10 ∷ []

numbered_push : (k : ℕ) (rows : List ScriptRow) (row : ScriptRow) → numbered k
    (rows ++ row ∷ []) ≡ numbered k rows ++ line_of_row (k + length rows) row
unfolding line_of_row
numbered_push k [] row = let same : k ≡ k + 0 = omega arith in ap (λ n. line_of_row n row) same
numbered_push k (r ∷ rows) row = grind (arith, append_assoc, numbered_push (k + 1) rows row)

-- the steps that have their rows are one more
step_taken : (steps : List ScriptStep) (i : ℕ) (next : ScriptStep) (rows : List ScriptRow) (reply : ScriptReply)
    → i < length steps → next ≡ get_or steps i next → script_steps_of rows ≡ take i steps
    → script_steps_of (rows ++ record { step = next; reply = reply } ∷ []) ≡ take (i + 1) steps
step_taken steps i next rows reply within is so_far = grind (arith, map-append, take_more)

module _ {J : Type 0} (number note : J → ℕ) where
  -- ---- a run, row by row

  run_more : (a : State) (before : StageJobs J) (rows : List ScriptRow) (mid : State) (between : StageJobs J)
      (b : State)
      (after : StageJobs J) (row : ScriptRow) → IsScriptRun number note a before rows mid between
      → IsScriptRow number note mid between row.step row.reply b after
      → IsScriptRun number note a before (rows ++ row ∷ []) b after
  run_more a before [] mid between b after row run next =
      (b, after, rw (run.0, run.1) at next, (refl, refl))
  run_more a before (r ∷ rows) mid between b after row run next =
      (run.0, run.1, run.2, run_more run.0 run.1 rows mid between b after row run.3 next)

  -- a run of jobs is read as what it did to the world
  run_in_world : (refusal : Option Fault) (held : Option ℕ) (m s : ℕ) (a : State) (before : StageJobs J)
      (reply : ScriptReply)
      (mid : State) (between : StageJobs J) (rest : List Row) (b : State)
      → RunsIn number note refusal held m s a before reply mid between → IsRun mid rest b
      → IsRun a (world_row (scripts.Run m s) reply ++ rest) b
  run_in_world (Some fault) held m s a before reply mid between rest b row run =
      rw row.0 (subst (λ (x : State). IsRun x rest b) row.1 run)
  run_in_world None None m s a before reply mid between rest b row run = absurd row
  run_in_world None (Some object) m s a before replies.Gone mid between rest b row run =
      subst (λ (x : State). IsRun x rest b) row.2 run
  run_in_world None (Some object) m s a before (replies.Ran ran) mid between rest b row run = (mid, row.4, run)
  run_in_world None (Some object) m s a before reply mid between rest b row run = absurd row

  row_in_world : (a : State) (before : StageJobs J) (step : ScriptStep) (reply : ScriptReply) (mid : State)
      (between : StageJobs J) (rest : List Row) (b : State) → IsScriptRow number note a before step reply mid between
      → IsRun mid rest b → IsRun a (world_row step reply ++ rest) b
  row_in_world a before (scripts.World step) (replies.World reply) mid between rest b row run = (mid, row.0, run)
  row_in_world a before (scripts.World step) reply mid between rest b row run = absurd row
  row_in_world a before (scripts.Job m s n) reply mid between rest b row run =
      subst (λ (x : State). IsRun x rest b) row.1 run
  row_in_world a before (scripts.Run m s) reply mid between rest b row run =
      run_in_world _ _ m s a before reply mid between rest b row run

  -- the rows of the world are a run
  run_of_world : (a : State) (before : StageJobs J) (rows : List ScriptRow) (b : State) (after : StageJobs J)
      → IsScriptRun number note a before rows b after → IsRun a (world_rows rows) b
  run_of_world a before [] b after run = run.0
  run_of_world a before (row ∷ rows) b after run = search (row_in_world, run_of_world run.0 run.1 rows b after run.3)

  -- ---- its text

  -- a row of the world, and its line
  pub tells_world : (k : ℕ) (old new : Core) (with_jobs : StageJobs J) (step : Step) (answer reply : Reply)
      (text more : List ℕ) → IsRowOf old step answer new → reply ≡ answer
      → more ≡ text ++ (decimal k ++ 32 ∷ (script_row_text
      (record { step = scripts.World step; reply = replies.World reply }) ++ 10 ∷ []))
      → TellsRow number note k old with_jobs (scripts.World step) text more new with_jobs
  tells_world k old new with_jobs step answer reply text more row same line = (
    replies.World reply,
    λ a stands. let one = row a stands in
        (one.0, (subst (λ r. IsRow a (record { step = step; reply = r }) one.0) (sym same) one.1, refl), one.2),
    line,
  )

  -- a run with no step
  pub tells_nothing_yet : (rule : SpanRule) (world : Core) (jobs : StageJobs J)
      → TellsRun number note rule world jobs [] (trace_text rule []) world jobs
  tells_nothing_yet rule world jobs = ([], refl, (λ a stands. (a, (refl, refl), stands)), refl)

  -- and with one step more, whose row is number i + 1
  pub tells_more : (rule : SpanRule) (old mid new : Core) (before between after : StageJobs J)
      (steps : List ScriptStep) (i k : ℕ) (next : ScriptStep) (text more : List ℕ)
      → TellsRun number note rule old before (take i steps) text mid between → k ≡ i → i < length steps
      → next ≡ get_or steps i next → TellsRow number note (k + 1) mid between next text more new after
      → TellsRun number note rule old before (take (i + 1) steps) more new after
  unfolding line_of_row
  tells_more rule old mid new before between after steps i k next text more told same_k within is one_more =
      let reply = one_more.0 in
      let row = one_more.1 in
      let more_is = one_more.2 in
      let row_made : ScriptRow = record { step = next; reply = reply } in
      let rows = told.0 in
      let counted : length rows ≡ i =
      sym (length-map rows (λ (r : ScriptRow). r.step)) ∙ ap length told.1
      ∙ length-take-le i steps (omega (arith, within)) in
      let count : k + 1 ≡ 1 + length rows = omega (arith, same_k, counted) in
      let line : decimal (k + 1) ++ 32 ∷ (script_row_text row_made ++ 10 ∷ []) ≡ line_of_row (k + 1) row_made =
      sym (append_assoc (decimal (k + 1)) (32 ∷ script_row_text row_made) (10 ∷ [])) in (
        rows ++ row_made ∷ [],
        step_taken steps i next rows reply within is told.1,
        λ a stands. let ran = told.2 a stands in
            let one = row ran.0 ran.2 in
            (one.0, run_more a before rows ran.0 between one.0 after row_made ran.1 one.1, one.2),
        more_is ∙ ap (λ (t : List ℕ). text ++ t) line ∙ ap (λ (t : List ℕ). t ++ line_of_row (k + 1) row_made) told.3
            ∙ append_assoc (trace_title rule) (10 ∷ numbered 1 rows) (line_of_row (k + 1) row_made)
            ∙ ap (λ (t : List ℕ). trace_title rule ++ 10 ∷ t)
            (ap (λ n. numbered 1 rows ++ line_of_row n row_made) count ∙ sym (numbered_push 1 rows row_made)),
      )

  -- ---- the answer

  -- a run from a world that stands for the first state, and from an empty table, is a trace
  pub tells_trace : (config : Config) (jobs : List J) (old new : Core) (before after : StageJobs J)
      (steps seen : List ScriptStep) (text : List ℕ) → Stands old (first_state config) → before ≡ first_jobs jobs
      → seen ≡ steps → TellsRun number note config.rule old before seen text new after
      → TellsTrace number note config jobs steps text
  tells_trace config jobs old new before after steps seen text stands first same told =
      let ran = told.2 (first_state config) stands in
      (told.0, told.1 ∙ same, (ran.0, after, rw first at ran.1), told.3)

  -- the text of a trace of a script's steps is what a text that spells the script prints
  pub prints_trace : (jobs : List J) (text printed : List ℕ) (config : Config) (steps : List ScriptStep)
      → IsScript text config steps → TellsTrace number note config jobs steps printed
      → PrintsTrace number note jobs text printed
  prints_trace jobs text printed config steps script told = grind (arith, run_of_world)

-- a short enough text whose lines are a script spells it
pub is_script : (text : List ℕ) (config : Config) (steps : List ScriptStep) → length text ≤ most_bytes
    → AreScript (lines_of text) config steps → IsScript text config steps
is_script text config steps short lines = record { short = le-leb _ _ short; lines = lines }

-- where it was written, all that the text prints has gone out
pub gone_out : (T : Type 0) (known : Option (List ℕ)) (Prints : List ℕ → List ℕ → Type 0)
    (fault : List ℕ → Option TextFault) (read text printed bytes : List ℕ) (old new : Option (List ℕ)) (done : T)
    → IfSome known (λ whole. read ≡ whole) → text ≡ read → Prints text printed → bytes ≡ printed
    → Appends old new bytes
    → IfSome known (λ whole. AnswersText {T = T} (Prints whole) (fault whole) old new (Ok done))
gone_out T None Prints fault read text printed bytes old new done same slice prints out appends = tt
gone_out T (Some whole) Prints fault read text printed bytes old new done same slice prints out appends =
    (printed, subst (λ t. Prints t printed) (slice ∙ same) prints, subst (Appends old new) out appends)

-- where a write failed, a prefix of what the text prints has gone out
pub cut_off : (T : Type 0) (known : Option (List ℕ)) (Prints : List ℕ → List ℕ → Type 0)
    (fault : List ℕ → Option TextFault) (read text printed bytes : List ℕ) (old new : Option (List ℕ))
    → IfSome known (λ whole. read ≡ whole) → text ≡ read → Prints text printed → bytes ≡ printed
    → AppendsPrefix old new bytes
    → IfSome known (λ whole. AnswersText {T = T} (Prints whole) (fault whole) old new (Err CannotWrite))
cut_off T None Prints fault read text printed bytes old new same slice prints out prefix = tt
cut_off T (Some whole) Prints fault read text printed bytes old new same slice prints out prefix =
    (printed, subst (λ t. Prints t printed) (slice ∙ same) prints, subst (AppendsPrefix old new) out prefix)
