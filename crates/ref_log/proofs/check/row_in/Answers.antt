use Rattle.std.proofs.Common.{◌≡◌, ℕ, List, IfOk, Ok, Err, Result, sym, ap, ◌∙◌, subst}
use Rattle.ref_judge.specs.Judged.{Judged}
use Rattle.ref_log.proofs.NameLemmas.{numbered_alike}
use Rattle.ref_log.proofs.RowLaws.{is_spelt}
use Rattle.ref_log.specs.JudgedRows.{IsRowRead, ReadsRow, named_judged}
use Rattle.ref_log.specs.Names.{Given, MeanAlike, number_named, numbered_row}
use Rattle.ref_log.specs.declared.fault.LogFault.{LogFault}
use Rattle.ref_script.specs.Lines.{words_of}
use Rattle.ref_script.specs.declared.script_step.ScriptRow.{ScriptRow}
use Rattle.std.specs.Prelude.{Some}
use Rattle.ref_log.proofs.check.row_in.Goals as goal

-- a row with numbers in the place of the names that are known by then
named_reads : {E : Type 0} (j : Judged) (old mid new : List Given) (words : List (List ℕ))
    (result : Result (Result ScriptRow LogFault) E) → MeanAlike (named_judged j old words) mid
    → IfOk result (λ read. IsRowRead (numbered_row mid words) read) → new ≡ mid
    → IfOk result (λ read. ReadsRow j (Some old) words read (Some new))
named_reads j old mid new words (Ok read) alike spelt kept = (
  subst (λ (ws : List (List ℕ)). IsRowRead ws read) (sym (numbered_alike (named_judged j old words) mid alike words))
      spelt,
  (λ name. alike name ∙ ap (λ (names : List Given). number_named names name) (sym kept)),
)
named_reads j old mid new words (Err error) alike spelt kept = tt

pub returns-in-None : goal.returns-in-None
returns-in-None g c = rw c.in-None.is (is_spelt _ _ c.row_of.ensures.row c.row_of.ensures.fault, tt)

pub returns-in_ok-name_new-in-Some : goal.returns-in_ok-name_new-in-Some
returns-in_ok-name_new-in-Some g c =
    rw c.in-Some.is
    (named_reads c.args.judge.now _ _ _ (words_of c.args.line.now) c.named_row_in.result
    c.in_ok-name_new-in-Some.ensures c.named_row_in.ensures.read c.named_row_in.ensures.names)
