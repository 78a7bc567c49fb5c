use Rattle.std.proofs.Common.{◌≡◌, false, sym, subst, ◌∙◌, rules, tests}
use Rattle.std.proofs.lemmas.Iterator.{YieldsList-from_slice}
use Rattle.std.proofs.lemmas.Iterator.Search.{any_from_yields_List}
use Rattle.std.specs.List.{list_any}
use Rattle.ref_base.specs.Outs.{Outs, is_added}
use Rattle.ref_base.specs.declared.reply.Reply.TheVariants as replies
use Rattle.ref_log.proofs.PlacedRows.{moved_placed, moved_spelt}
use Rattle.ref_log.specs.LogRows.{SpellsRow}
use Rattle.ref_log.specs.RowTexts.{in_script}
use Rattle.ref_log.proofs.check.placed_row.Goals as goal

pub returns-else-any-clause-text : goal.returns-else-any-clause-text
returns-else-any-clause-text g c =
    let outs = c.in-Puts-Outs.outs in
    let any_is : c.any.result ≡ list_any is_added outs.done =
    any_from_yields_List is_added _ _ c.any.result c.any.ensures.ran (YieldsList-from_slice outs.done cc)
    (λ x b q k. search (rules, tests)) in
    let none : list_any is_added outs.done ≡ false = sym any_is ∙ c.if-any.false in
    λ words spelt. subst
    (λ (o : Outs). SpellsRow words (in_script (record { step = c.args.row.step; reply = replies.Outs o })))
    (sym c.behind.ensures)
    (moved_spelt outs c.put_before-before.result c.put_before-before.ensures.few none words c.args.row
    c.in-Puts-Outs.is-1 spelt)

pub returns-else-any-clause-placed : goal.returns-else-any-clause-placed
returns-else-any-clause-placed g c =
    let before = c.put_before-before in
    λ who other puts told none. moved_placed c.args.judge.now c.in-Puts-Outs.actor who before.result
    c.in-Puts-Outs.outs c.behind.result other before.ensures.count c.behind.ensures (sym c.in-Puts-Outs.is-0 ∙ puts)
    told
