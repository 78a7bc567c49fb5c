use Rattle.std.proofs.Common.{ℕ, arith, List, sym, ap, ◌∙◌}
use Rattle.ref_log.proofs.Common.{err_from_is_err_and}
use Rattle.ref_log.proofs.ReadLines.{passed_more, passed_found, passed_all, stopped_behind}
use Rattle.ref_script.specs.Lines.{words_of}
use Rattle.ref_script.specs.ToldLines.{says_nothing}
use Rattle.ref_log.proofs.told.next_told.Goals as goal

pub returns-in_err-next_plain-clause-told : goal.returns-in_err-next_plain-clause-told
returns-in_err-next_plain-clause-told g c = λ lines read has.
    let passed = c.loop-stream.invariant.0 lines read has in
    let p = err_from_is_err_and c.from_residual.result c.from_residual.ensures.1 in
    rw (p.1, p.2)
    (stopped_behind lines read passed.between passed.silent _ (c.in_err-next_plain.ensures.past lines _ passed.has))

pub returns-then-not-says_nothing-clause-told : goal.returns-then-not-says_nothing-clause-told
returns-then-not-says_nothing-clause-told g c = λ lines read has.
    let passed = c.loop-stream.invariant.0 lines read has in
    let past = rw c.if-branch.true at (c.in_ok-next_plain.ensures.past lines _ passed.has) in
    passed_found lines read _ _ passed (g.R.TextSource.remaining c.next_plain.new.reader) c.next_plain.new.stream past
    (ap (λ (content : List ℕ). says_nothing (words_of content)) (sym c.content.ensures) ∙ sym c.says_nothing.ensures
    ∙ c.if-not-says_nothing.true)

pub loop-stream-preserved : goal.loop-stream-preserved
loop-stream-preserved g c = (
  (λ lines read has.
      let passed = c.loop-stream.invariant.0 lines read has in
      let past = rw c.if-branch.true at (c.in_ok-next_plain.ensures.past lines _ passed.has) in
      passed_more lines read _ _ passed (g.R.TextSource.remaining c.next_plain.new.reader) c.next_plain.new.stream past
      (ap (λ (content : List ℕ). says_nothing (words_of content)) (sym c.content.ensures)
      ∙ sym c.says_nothing.ensures ∙ c.if-not-says_nothing.false)),
  grind (arith, c.in_ok-next_plain.ensures.failed, c.loop-stream.invariant.1),
)

pub returns-clause-told : goal.returns-clause-told
returns-clause-told g c = λ lines read has.
    let passed = c.loop-stream.invariant.0 lines read has in
    let past = rw c.if-branch.false at (c.in_ok-next_plain.ensures.past lines _ passed.has) in
    passed_all lines read _ _ passed (g.R.TextSource.remaining c.next_plain.new.reader) c.next_plain.new.stream past
