-- Lines of a log that one can read off by hand.
use Rattle.ref_script.proofs.Common.{◌≡◌, ℕ, true, false, [], ◌∷◌, Some, None, codes, refl, words_of, arith, inl, inr}
use Rattle.ref_script.proofs.Common.{ap, ◌∙◌}
use Rattle.std.proofs.Common.{Ok, Err, ◌+◌}
use Rattle.std.specs.List.{list_any}
use Rattle.ref_base.specs.Outs.{Outs as Batch, is_added}
use Rattle.ref_base.specs.declared.actor.Actor.{Actor}
use Rattle.ref_base.specs.declared.actor.Actor.TheVariants.{Mutator}
use Rattle.ref_base.specs.declared.out.Done.{Done as Became}
use Rattle.ref_base.specs.declared.out.Done.TheVariants.{Added, Already}
use Rattle.ref_base.specs.declared.plain_step.PlainStep.TheVariants.{Drop}
use Rattle.ref_base.specs.declared.reply.Reply.TheVariants.{Done, Outs}
use Rattle.ref_base.specs.declared.row.Row.{Row}
use Rattle.ref_base.specs.declared.span_rule.SpanRule.TheVariants.{Fixed, Scaled}
use Rattle.ref_base.specs.declared.step.Step.TheVariants.{Plain, Puts}
use Rattle.ref_judge.specs.Judged.{Judged}
use Rattle.ref_judge.specs.ProfiledRows.{strict}
use Rattle.ref_judge.specs.declared.order.Order.TheVariants.{Last}
use Rattle.ref_judge.specs.declared.rule.Objection.TheVariants as objections
use Rattle.ref_script.proofs.ReplyAnswers.{jobs_answer}
use Rattle.ref_script.specs.declared.script_step.ScriptReply.TheVariants as said
use Rattle.ref_script.specs.declared.script_step.ScriptRow.{ScriptRow}
use Rattle.ref_script.specs.declared.script_step.ScriptStep.TheVariants as steps
use Rattle.ref_log.proofs.RowLaws.{none_padded, none_unanswered, none_unparted}
use Rattle.ref_log.specs.Checking.{TellsOfRow}
use Rattle.ref_log.specs.LogHeads.{profile_of, rule_of}
use Rattle.ref_log.specs.LogRows.{SpellsNoRow, SpellsRow, row_fault}
use Rattle.ref_log.specs.RowTexts.{IsPlacedRow, IsSameRow}
use Rattle.ref_log.specs.declared.failure.Finding.{Finding}
use Rattle.ref_log.specs.declared.failure.Verdict.TheVariants as verdicts
use Rattle.ref_log.specs.declared.fault.LogFault.TheVariants as faults

-- ---- rows

-- promise: row_of: a number in front of a row isn't looked at
a_numbered_row : SpellsRow (words_of (codes "0012 m0  drop s1 : ok"))
    (record { step = steps.World (Plain (Drop 0 1)); reply = said.World Done })
a_numbered_row = record {
  front = codes "m0" ∷ codes "drop" ∷ codes "s1" ∷ [];
  back = codes "ok" ∷ [];
  parts = refl;
  first = refl;
  step = (refl, (refl, (refl, tt)));
  exact = refl;
  reply = record { of_kind = refl; ranges = tt; words_are = refl };
}

-- promise: row_of: a step has no leading zeros
no_leading_zeros : SpellsNoRow (words_of (codes "m0 drop s01 : ok"))
no_leading_zeros =
    none_padded (words_of (codes "m0 drop s01 : ok")) (words_of (codes "m0 drop s01 : ok")) refl
    (record { front = words_of (codes "m0 drop s01"); back = words_of (codes "ok") }) refl refl

-- promise: row_of: a reply that is cut short is none
no_reply_cut_short : SpellsNoRow (words_of (codes "m0 run s1 : ran 3"))
no_reply_cut_short =
    none_unanswered (words_of (codes "m0 run s1 : ran 3")) (words_of (codes "m0 run s1 : ran 3")) refl
    (record { front = words_of (codes "m0 run s1"); back = words_of (codes "ran 3") }) refl (steps.Run 0 1)
    (refl, (refl, (refl, tt))) (jobs_answer (words_of (codes "ran 3")) None refl)

-- promise: row_of: a colon within a word parts nothing
no_colon_within_a_word : SpellsNoRow (words_of (codes "m0 drop s1 :ok"))
no_colon_within_a_word =
    none_unparted (words_of (codes "m0 drop s1 :ok")) (words_of (codes "m0 drop s1 :ok")) refl refl

faults_of_rows : (row_fault (words_of (codes "m0 drop s01 : ok")) ≡ faults.BadWord)
    × (row_fault (words_of (codes "m0 drop s1 ok")) ≡ faults.NoReply)
    × (row_fault (words_of (codes "m0 drop : ok")) ≡ faults.MissingWord)
    × (row_fault (words_of (codes "m0 dorp s1 : ok")) ≡ faults.UnknownStep)
faults_of_rows = (refl, refl, refl, refl)

-- ---- heads

-- promise: rule_of: a version is a word of a trace's header
versions_of_logs : (rule_of (words_of (codes "reftrace 1")) ≡ Some Fixed)
    × (rule_of (words_of (codes "reftrace 2")) ≡ Some Scaled)
    × (rule_of (words_of (codes "refscript 1")) ≡ None)
versions_of_logs = (refl, refl, refl)

a_profile : profile_of (words_of (codes "profile queue-lifo keeps-more"))
    ≡ Some (Ok (record { keeps_more = true; soft_free = strict.soft_free; order = Last }))
a_profile = refl

a_bare_profile : profile_of (words_of (codes "profile")) ≡ Some (Ok strict)
a_bare_profile = refl

no_profile : profile_of (words_of (codes "m0 drop s1 : ok")) ≡ None
no_profile = refl

-- promise: profile_of: each word stands once at most
no_word_twice : profile_of (words_of (codes "profile keeps-more keeps-more")) ≡ Some (Err faults.BadProfile)
no_word_twice = refl

-- promise: profile_of: queues have one order
no_two_orders : profile_of (words_of (codes "profile queue-any queue-lifo")) ≡ Some (Err faults.BadProfile)
no_two_orders = refl

-- ---- what a row's text tells

-- a put of the notices of mutator 0, of what became of one, where so many were put in before
abbrev batch : ℕ → Became → Batch
batch before done = record { before = before; done = done ∷ [] }

abbrev put_of : ℕ → Became → ScriptRow
put_of before done = record { step = steps.World (Puts (Mutator 0)); reply = said.World (Outs (batch before done)) }

-- promise: row_of: the text of a batch of which nothing was added doesn't tell how many were put in before
one_text_of_two_rows : SpellsRow (words_of (codes "m0 puts : already")) (put_of 7 Already)
    × IsSameRow (put_of 0 Already) (put_of 7 Already)
one_text_of_two_rows = (
  record {
    front = codes "m0" ∷ codes "puts" ∷ [];
    back = codes "already" ∷ [];
    parts = refl;
    first = refl;
    step = (refl, (refl, tt));
    exact = refl;
    reply = record { of_kind = refl; ranges = (omega arith, omega arith); words_are = refl };
  },
  record {
    step = refl;
    reply = inr (record {
      before = 0;
      other_before = 7;
      done = Already ∷ [];
      none_added = refl;
      one_is = refl;
      other_is = refl;
    });
  },
)

-- promise: row_of: the text of one of which something was added does
other_positions : ¬ IsSameRow (put_of 0 Added) (put_of 7 Added)
other_positions same =
    elim same.reply [
      | inl is ↦
          let before : 0 ≡ 7 = ap (λ (o : Batch). o.before) (same_batch (batch 0 Added) (batch 7 Added) is) in
          absurd (omega (arith, before))
      | inr none ↦
          let done : Added ∷ [] ≡ none.done =
          ap (λ (o : Batch). o.done)
          (same_batch (batch 0 Added) (record { before = none.before; done = none.done }) none.one_is) in
          let added : true ≡ false = ap (list_any is_added) done ∙ none.none_added in absurd cc
    ]
  where
    same_batch : (one other : Batch) → said.World (Outs one) ≡ said.World (Outs other) → one ≡ other
    same_batch one other is = cc

-- the hand of mutator 0 has a notice of a queue into which 5 were put before
abbrev behind_five : Judged → Judged
behind_five j = record j {
  hands = record { mutators = record { queue = 0; objects = 2 ∷ [] } ∷ []; workers = [] };
  lines = record { stands = []; put = 5; closed = false } ∷ [];
}

abbrev put_row : ℕ → Row
put_row before = record { step = Puts (Mutator 0); reply = Outs (batch before Already) }

a_placed_batch : (j : Judged) → IsPlacedRow (behind_five j) (put_row 5)
a_placed_batch j who outs puts told none = rw (← mutator_is who puts, ← batch_is outs told) refl
  where
    mutator_is : (who : Actor) → Puts (Mutator 0) ≡ Puts who → Mutator 0 ≡ who
    mutator_is who is = cc

    batch_is : (outs : Batch) → Outs (batch 5 Already) ≡ Outs outs → batch 5 Already ≡ outs
    batch_is outs is = cc

-- promise: verdict_on: a batch of which nothing was added stands behind as many notices as were put in
no_other_place : (j : Judged) → ¬ IsPlacedRow (behind_five j) (put_row 0)
no_other_place j placed =
    let before : (batch 0 Already).before ≡ 5 = placed (Mutator 0) (batch 0 Already) refl refl refl in
    absurd (omega (arith, before))

-- ---- what is told of a row

a_finding_is_of_its_row : (finding : Finding) → TellsOfRow finding.number finding.line finding.row
    (objections.Illegal finding.breach) (Ok (verdicts.Illegal finding))
a_finding_is_of_its_row finding = (refl, refl, refl, refl)

no_other_line : (finding : Finding) → ¬ TellsOfRow finding.number (finding.line + 1) finding.row
    (objections.Illegal finding.breach) (Ok (verdicts.Illegal finding))
no_other_line finding told =
    let line : finding.line ≡ finding.line + 1 = told.1 in
    absurd (omega (arith, line))
