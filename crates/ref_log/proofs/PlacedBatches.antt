-- A line is one row for a judge: what its text doesn't tell, how many notices were put in before a batch, the judge was
-- told.
use Rattle.ref_script.proofs.Common.{◌≡◌, ℕ, true, false, List, [], ◌∷◌, Option, Some, None, refl}
use Rattle.ref_script.proofs.Common.{sym, ap, ◌∙◌, subst, inl, inr}
use Rattle.std.proofs.Common.{◌⊎◌, arith}
use Rattle.std.proofs.lemmas.Bool.{cases_Bool, eqb-true}
use Rattle.std.specs.Prelude.{◌==◌}
use Rattle.ref_base.specs.Outs.{Outs}
use Rattle.ref_base.specs.declared.actor.Actor.{Actor}
use Rattle.ref_base.specs.declared.out.Done.{Done}
use Rattle.ref_base.specs.declared.reply.Reply.TheVariants as replies
use Rattle.ref_base.specs.declared.row.Row.{Row}
use Rattle.ref_base.specs.declared.step.Step.{Step}
use Rattle.ref_base.specs.declared.step.Step.TheVariants as steps
use Rattle.ref_judge.proofs.PlacedBatches.{placed_alone}
use Rattle.ref_judge.specs.Judged.{Judged, put_for}
use Rattle.ref_judge.specs.Standing.{IsIllegal, IsOfSomeState}
use Rattle.ref_log.proofs.OneRow.{row_alone}
use Rattle.ref_log.specs.JudgedRows.{IsPlacedPart, SpellsSome, part_of}
use Rattle.ref_log.specs.RowTexts.{IsPlacedRow, IsSameRow}
use Rattle.ref_script.specs.ReplyKinds.{is_of_kind, kind_of_step, reply_kind_of}
use Rattle.ref_script.specs.SameReplies.{AddNone}
use Rattle.ref_script.specs.WorldRows.{world_row}
use Rattle.ref_script.specs.declared.script_step.ScriptReply.{ScriptReply}
use Rattle.ref_script.specs.declared.script_step.ScriptReply.TheVariants as said
use Rattle.ref_script.specs.declared.script_step.ScriptStep.{ScriptStep}
use Rattle.ref_script.specs.declared.script_step.ScriptStep.TheVariants as script

-- ---- rows of one line

-- a batch is told of a `puts` alone
puts_told : (step : Step) (outs : Outs) → is_of_kind (kind_of_step step) (said.World (replies.Outs outs)) ≡ true
    → (who : Actor) × (step ≡ steps.Puts who)
puts_told (steps.Puts who) outs kind = (who, refl)
puts_told (steps.Polls m q max) outs kind = absurd cc
puts_told step outs kind = absurd cc

one_part : (row : Option Row) (r : Row) → part_of row ≡ r ∷ [] → row ≡ Some r
one_part None r is = absurd cc
one_part (Some row) r is = cc

-- a batch of this step in which nothing was added, behind so many notices
abbrev batch_row : Step → ℕ → List Done → Row
batch_row step before done =
    record { step = step; reply = replies.Outs (record { before = before; done = done }) }

module _ (j : Judged) (sound : IsOfSomeState j) where
  -- what a judge takes of the rows of the collector that a line's words spell is the one that is placed as it was told
  abbrev IsSameOr : List Row → List Row → Type 0
  IsSameOr part other = (other ≡ part) ⊎ ((r : Row) × (other ≡ r ∷ []) × IsIllegal j r)

  batch_same : (step : Step) (before others : ℕ) (done : List Done)
      → is_of_kind (kind_of_step step) (said.World (replies.Outs (record { before = before; done = done }))) ≡ true
      → ((who : Actor) → step ≡ steps.Puts who → before ≡ put_for j who)
      → IsSameOr (batch_row step before done ∷ []) (batch_row step others done ∷ [])
  batch_same step before others done kind placed =
      let (who, puts) = puts_told step (record { before = before; done = done }) kind in
      let is : before ≡ put_for j who = placed who puts in
      elim (cases_Bool (others == put_for j who)) [
        | inl same ↦
            inl (ap (λ (b : ℕ). batch_row step b done ∷ []) (eqb-true others (put_for j who) same ∙ sym is))
        | inr differs ↦
            inr (
              batch_row step others done,
              refl,
              subst (λ (s : Step). IsIllegal j (batch_row s others done)) (sym puts)
                  (placed_alone j sound who (record { before = others; done = done })
                  (λ same. elsewhere others (put_for j who) differs same)),
            )
      ]
    where
      elsewhere : (a b : ℕ) → (a == b) ≡ false → a ≡ b → ⊥
      elsewhere a b differs same = grind arith

  pub parts_same : (words : List (List ℕ)) (row : Option Row) (part : List Row) → IsPlacedPart j row
      → SpellsSome words (part_of row) → SpellsSome words part → IsSameOr (part_of row) part
  parts_same words row part placed (one, spelt, one_is) (other, also, other_is) =
      elim same.reply [
        | inl is ↦
            inl (other_is
            ∙ ap (λ (r : ScriptReply). world_row other.step r) (sym is)
            ∙ ap (λ (s : ScriptStep). world_row s one.reply) (sym same.step)
            ∙ sym one_is)
        | inr none ↦
            subst (λ (p : List Row). IsSameOr p part) (sym (one_is ∙ ours none))
            (subst (λ (p : List Row). IsSameOr (world_row one.step (reply_of none none.before)) p)
            (sym (other_is ∙ theirs none))
            (by none one.step refl))
      ]
    where
      same : IsSameRow one other
      same = row_alone words one other spelt also

      reply_of : AddNone one.reply other.reply → ℕ → ScriptReply
      reply_of none before = said.World (replies.Outs (record { before = before; done = none.done }))

      ours : (none : AddNone one.reply other.reply)
          → world_row one.step one.reply ≡ world_row one.step (reply_of none none.before)
      ours none = ap (λ (r : ScriptReply). world_row one.step r) none.one_is

      theirs : (none : AddNone one.reply other.reply)
          → world_row other.step other.reply ≡ world_row one.step (reply_of none none.other_before)
      theirs none =
          ap (λ (s : ScriptStep). world_row s other.reply) (sym same.step)
          ∙ ap (λ (r : ScriptReply). world_row one.step r) none.other_is

      kind : (none : AddNone one.reply other.reply) → (step : ScriptStep) → one.step ≡ step
          → is_of_kind (reply_kind_of step) (reply_of none none.before) ≡ true
      kind none step is =
          subst (λ (s : ScriptStep). is_of_kind (reply_kind_of s) (reply_of none none.before) ≡ true) is
          (subst (λ (r : ScriptReply). is_of_kind (reply_kind_of one.step) r ≡ true) none.one_is spelt.reply.of_kind)

      -- it is placed
      stands : (none : AddNone one.reply other.reply) (step : Step) → one.step ≡ script.World step → (who : Actor)
          → step ≡ steps.Puts who → none.before ≡ put_for j who
      stands none step is who puts =
          let row_is : row ≡ Some (batch_row step none.before none.done) =
          one_part row (batch_row step none.before none.done)
          (one_is ∙ ours none ∙ ap (λ (s : ScriptStep). world_row s (reply_of none none.before)) is) in
          let at : IsPlacedRow j (batch_row step none.before none.done) =
          subst (λ (o : Option Row). IsPlacedPart j o) row_is placed in
          at who (record { before = none.before; done = none.done }) puts refl none.none_added

      by : (none : AddNone one.reply other.reply) (step : ScriptStep) → one.step ≡ step
          → IsSameOr (world_row one.step (reply_of none none.before))
          (world_row one.step (reply_of none none.other_before))
      by none (script.World step) is =
          subst (λ (s : ScriptStep). IsSameOr (world_row s (reply_of none none.before))
          (world_row s (reply_of none none.other_before))) (sym is)
          (batch_same step none.before none.other_before none.done (kind none (script.World step) is)
          (stands none step is))
      by none (script.Job m s n) is =
          subst (λ (t : ScriptStep). IsSameOr (world_row t (reply_of none none.before))
          (world_row t (reply_of none none.other_before))) (sym is) (inl refl)
      by none (script.Run m s) is =
          subst (λ (t : ScriptStep). IsSameOr (world_row t (reply_of none none.before))
          (world_row t (reply_of none none.other_before))) (sym is) (inl refl)
