use Rattle.std.proofs.Common.{◌≡◌, ℕ, List, Option, Err, Result, refl, sym, ◌∙◌, subst}
use Rattle.ref_judge.specs.Judged.{Judged}
use Rattle.ref_log.specs.JudgedRows.{IsRowRead, JudgesNone, ReadsRow, names_judged}
use Rattle.ref_log.specs.NamedRows.{with_numbers}
use Rattle.ref_log.specs.Names.{Given}
use Rattle.ref_log.specs.declared.fault.LogFault.{LogFault}
use Rattle.ref_script.specs.Lines.{words_of}
use Rattle.ref_script.specs.declared.script_step.ScriptRow.{ScriptRow}
use Rattle.ref_log.proofs.check.next_row.Goals as goal

-- what is read spells no row
none_judged : (j : Judged) (names later : Option (List Given)) (content line : List ℕ)
    (read : Result ScriptRow LogFault) (fault : LogFault) → content ≡ line → read ≡ Err fault
    → ReadsRow j names (words_of content) read later → JudgesNone j names (words_of line) fault
none_judged j names later content line read fault same is reads =
    let words = words_of line in
    let here : ReadsRow j names words read later =
    subst (λ (text : List ℕ). ReadsRow j names (words_of text) read later) same reads in
    let numbered = with_numbers (names_judged j names words) words in
    let none = subst (λ (r : Result ScriptRow LogFault). IsRowRead numbered r) is here.0 in
    record { none = none.0; fault_is = none.1 }

pub returns-then-is_ended : goal.returns-then-is_ended
returns-then-is_ended g c = (
  c.number-line.ensures.number,
  none_judged _ _ _ _ _ _ c.in-Err.fault c.content.ensures c.in-Err.is c.in_ok-row.ensures,
)

pub returns-else-is_ended : goal.returns-else-is_ended
returns-else-is_ended g c = (
  refl,
  c.number-line.ensures.number,
  (sym c.is_ended.ensures ∙ c.if-is_ended.false),
  (
    c.in-Err.fault,
    none_judged _ _ _ _ _ _ c.in-Err.fault c.content.ensures c.in-Err.is c.in_ok-row.ensures,
  ),
)
