-- What a call does with the judge that a handle has.
use Rattle.std.specs.Prelude.{ℕ, ◌≡◌, ◌⊎◌, Option, None, Some, true, false, not, if◌then◌else◌, ◌==◌, List}
use Rattle.ref_base.specs.Limits.{is_within_limits}
use Rattle.ref_base.specs.declared.config.Config.{Config}
use Rattle.ref_base.specs.declared.fault.Fault.{Fault}
use Rattle.ref_base.specs.declared.fault.Fault.TheVariants.{BadConfig, NoMemory}
use Rattle.ref_base.specs.Faults.{number_of}
use Rattle.ref_base.specs.declared.reply.Reply.{Reply}
use Rattle.ref_base.specs.declared.row.Row.{Row}
use Rattle.ref_base.specs.declared.step.Step.{Step}
use Rattle.ref_base.specs.declared.step.Step.TheVariants.{Puts}
use Rattle.ref_judge.specs.Judged.{Judged, put_for, wants_memory}
use Rattle.ref_judge.specs.Standing.{IsIllegal, IsNewJudge, NamesAnswer, TakesRow}
use Rattle.ref_judge.specs.declared.order.Order.{Order}
use Rattle.ref_judge.specs.declared.order.Order.TheVariants.{First, Last, Any}
use Rattle.ref_judge.specs.declared.profile.Profile.{Profile}
use Rattle.ref_judge.specs.declared.rule.Instead.{Instead}
use Rattle.ref_judge.specs.declared.rule.Instead.TheVariants.{Only, Among, Untold}
use Rattle.ref_c.specs.GivenReplies.{IsNoReply, IsReplyOf}
use Rattle.ref_c.specs.Holding.{KeptJudge}
use Rattle.ref_c.specs.ReplyNumbers.{of_kind, reply_numbers}
use Rattle.ref_c.specs.StepNumbers.{numbered_step}
use Rattle.ref_c.specs.WorldSteps.{numbered_config}
use Rattle.ref_c.specs.declared.RefConfig.{RefConfig}
use Rattle.ref_c.specs.declared.answer.RefReply.{RefReply}
use Rattle.ref_c.specs.declared.judge.RefProfile.{RefProfile}
use Rattle.ref_c.specs.declared.step.RefStep.{RefStep}
use Rattle.ref_c.specs.declared.verdict.RefVerdict.{RefVerdict}

-- ---- a judge is made

abbrev pub with_order : Order → RefProfile → Profile
with_order order p = record {
  keeps_more = not (p.keeps_more == 0);
  soft_free = not (p.soft_free == 0);
  order = order;
}

-- there are three orders
abbrev pub numbered_profile : RefProfile → Option Profile
numbered_profile p =
    if p.order == 0 then Some (with_order First p) else
    if p.order == 1 then Some (with_order Last p) else
    if p.order == 2 then Some (with_order Any p) else None

-- a judge that was told no row
abbrev pub IsAtFirst : Profile → Config → KeptJudge → Type 0
IsAtFirst profile config kept =
    (is_within_limits config ≡ true) × IsNewJudge profile config kept.judge × (kept.is_stopped ≡ false)

-- why none is made
abbrev pub IsNotMade : Config → Fault → Type 0
IsNotMade config fault = fault ≡ (if is_within_limits config then NoMemory else BadConfig)

-- 0, and the handle has a judge that was told no row; or the number of a fault, and it is as it was
abbrev pub MakesJudgeOf : Option Profile → Config → ℕ → Option KeptJudge → Option KeptJudge → Type 0
MakesJudgeOf None config n old new = (n ≡ number_of BadConfig) × (new ≡ old)
MakesJudgeOf (Some profile) config n old new =
    ((n ≡ 0) × (kept : KeptJudge) × (new ≡ Some kept) × IsAtFirst profile config kept)
    ⊎ ((fault : Fault) × (n ≡ number_of fault) × IsNotMade config fault × (new ≡ old))

abbrev pub MakesJudge : RefConfig → RefProfile → ℕ → Option KeptJudge → Option KeptJudge → Type 0
MakesJudge c p n old new = MakesJudgeOf (numbered_profile p) (numbered_config c) n old new

-- ---- verdicts

-- one that tells its kind alone
abbrev pub bare_verdict : ℕ → RefVerdict
bare_verdict kind = record {
  kind = kind;
  rule = 0;
  settled = 0;
  object = 0;
  row = 0;
  choice = 0;
  instead = of_kind 0;
}

-- whether an answer is named, and alone; and its numbers
abbrev pub told_choice : Instead → ℕ
told_choice Untold = 0
told_choice (Only reply) = 1
told_choice (Among reply) = 2

abbrev pub instead_reply : Instead → RefReply
instead_reply Untold = of_kind 0
instead_reply (Only reply) = reply_numbers reply
instead_reply (Among reply) = reply_numbers reply

-- That the row isn't legal, and what would have been. Which rule it breaks and which earlier row settled that is for a
-- reader: no clause says it.
abbrev pub TellsBreach : Instead → RefVerdict → Type 0
TellsBreach instead v = (v.kind ≡ 1) × (v.choice ≡ told_choice instead) × (v.instead ≡ instead_reply instead)

-- ---- a row

-- legal, and the judge takes the row; or not, and it is stopped; or memory was refused, and it is as it was
abbrev pub JudgesRow : KeptJudge → Row → RefVerdict → KeptJudge → Type 0
JudgesRow old row v new =
    ((v ≡ bare_verdict 0) × TakesRow old.judge row new.judge × (new.is_stopped ≡ old.is_stopped))
    ⊎ ((instead : Instead) × TellsBreach instead v × IsIllegal old.judge row × NamesAnswer old.judge row.step instead
    × (new.is_stopped ≡ true))
    ⊎ ((v ≡ bare_verdict 5) × (wants_memory row.step ≡ true) × (new ≡ old))

-- how many notices were put in before a batch that the step puts in
abbrev pub put_in_before : Judged → Step → ℕ
put_in_before j (Puts who) = put_for j who
put_in_before j step = 0

-- the step has the reply of these numbers, and the row is judged; or they are no reply, and nothing is
abbrev pub JudgesReply : KeptJudge → Option Step → RefReply → List ℕ → RefVerdict → KeptJudge → Type 0
JudgesReply old None numbers list v new = (v ≡ bare_verdict 2) × (new ≡ old)
JudgesReply old (Some step) numbers list v new =
    (IsNoReply numbers list × (v ≡ bare_verdict 3) × (new ≡ old))
    ⊎ ((reply : Reply) × IsReplyOf numbers list (put_in_before old.judge step) reply
    × JudgesRow old (record { step = step; reply = reply }) v new)

-- of what stands behind an illegal row nothing is said
abbrev pub JudgesNumbers : KeptJudge → RefStep → RefReply → List ℕ → RefVerdict → KeptJudge → Type 0
JudgesNumbers old step numbers list v new =
    ((old.is_stopped ≡ true) × (v ≡ bare_verdict 6) × (new ≡ old))
    ⊎ ((old.is_stopped ≡ false) × JudgesReply old (numbered_step step) numbers list v new)

-- a handle that has nothing stays so, and a judge judges the row of these numbers
abbrev pub JudgesHeld : Option KeptJudge → RefStep → RefReply → List ℕ → RefVerdict → Option KeptJudge → Type 0
JudgesHeld None step numbers list v new = (v ≡ bare_verdict 4) × (new ≡ None)
JudgesHeld (Some old) step numbers list v new =
    (kept : KeptJudge) × (new ≡ Some kept) × JudgesNumbers old step numbers list v kept
