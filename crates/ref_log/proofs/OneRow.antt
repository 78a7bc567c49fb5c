-- What a line's words spell is one row, but for what the text of a row doesn't tell.
use Rattle.ref_log.proofs.Common.{◌≡◌, ℕ, List, Some, sym, ap, ◌∙◌, subst}
use Rattle.ref_script.proofs.OneReading.{one_step, some_is}
use Rattle.ref_script.proofs.OneReply.{reply_alone}
use Rattle.ref_script.specs.ReplyKinds.{IsToldSo, reply_kind_of}
use Rattle.ref_script.specs.Spelling.{SpellsScriptStep}
use Rattle.ref_script.specs.declared.script_step.ScriptRow.{ScriptRow}
use Rattle.ref_script.specs.declared.script_step.ScriptStep.{ScriptStep}
use Rattle.ref_log.proofs.RowLaws.{parted_whole}
use Rattle.ref_log.specs.LogRows.{Parts, SpellsRow, parted, unnumbered}
use Rattle.ref_log.specs.RowTexts.{IsSameRow}

own_parts : (words : List (List ℕ)) (row : ScriptRow) (spells : SpellsRow words row)
    → parted (unnumbered words) ≡ Some (record { front = spells.front; back = spells.back })
own_parts words row spells = ap parted spells.parts ∙ parted_whole spells.front spells.back spells.first

-- the rows that a line's words spell are the same, but for what their text doesn't tell
pub row_alone : (words : List (List ℕ)) (row other : ScriptRow) → SpellsRow words row → SpellsRow words other
    → IsSameRow row other
row_alone words row other spells also =
    let parts : Parts = record { front = spells.front; back = spells.back } in
    let others : Parts = record { front = also.front; back = also.back } in
    let same : others ≡ parts =
    some_is (parted (unnumbered words)) others parts (own_parts words other also) (own_parts words row spells) in
    let front : also.front ≡ spells.front = ap (λ (p : Parts). p.front) same in
    let back : also.back ≡ spells.back = ap (λ (p : Parts). p.back) same in
    let step : row.step ≡ other.step =
    one_step row.step other.step spells.front spells.step
    (subst (λ (ws : List (List ℕ)). SpellsScriptStep ws other.step) front also.step) in
    let reply : IsToldSo (reply_kind_of row.step) spells.back other.reply =
    subst (λ (s : ScriptStep). IsToldSo (reply_kind_of s) spells.back other.reply) (sym step)
    (subst (λ (ws : List (List ℕ)). IsToldSo (reply_kind_of other.step) ws other.reply) back also.reply) in
    record {
      step = step;
      reply = reply_alone (reply_kind_of row.step) spells.back row.reply other.reply spells.reply reply;
    }
