use Rattle.std.proofs.Common.{ℕ, List, ap, ◌∙◌, subst}
use Rattle.ref_log.proofs.RowLaws.{is_spelt}
use Rattle.ref_log.specs.JudgedRows.{IsRowRead}
use Rattle.ref_script.specs.Lines.{words_of}
use Rattle.ref_log.proofs.check.named_row_in.Goals as goal

pub returns-clause-read : goal.returns-clause-read
returns-clause-read g c =
    subst (λ (ws : List (List ℕ)). IsRowRead ws c.row_of.result)
    (ap words_of c.line.ensures ∙ c.in_ok-number_names.ensures.words)
    (is_spelt _ _ c.row_of.ensures.row c.row_of.ensures.fault)
