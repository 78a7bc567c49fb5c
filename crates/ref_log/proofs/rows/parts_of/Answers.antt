use Rattle.ref_script.proofs.Common.{◌≡◌, ◌+◌, false, refl, drop, get_or, sym, ap, ◌∙◌, arith}
use Rattle.ref_script.specs.Lines.{goes_on}
use Rattle.ref_log.proofs.ByteCuts.{behind_byte, cut_between, cut_here, is_cut, no_cut_at, no_cut_before}
use Rattle.ref_log.proofs.ByteCuts.{no_cut_behind, no_cut_within, one_further}
use Rattle.ref_log.proofs.Parting.{in_words, parted_by_bytes}
use Rattle.ref_log.proofs.rows.parts_of.Goals as goal
use Rattle.ref_log.proofs.rows.parts_of.Goals.{then-begins+then-byte-eq58+else-not-goes_on, else-begins}
use Rattle.ref_log.proofs.rows.parts_of.Goals.{else-begins-via-then-begins+else-byte-eq58, else-begins-via-else-begins}

pub returns-then-not-goes_on : goal.returns-then-not-goes_on
returns-then-not-goes_on c =
    let line = c.args.line.now in
    let at = c.loop-at.at in
    let b = get_or line at 0 in
    let bs = drop (at + 1) line in
    let back_is = behind_byte line _ _ at c.split_at.ensures.back c.split_at-then-byte-eq58.ensures.back in
    let ends : goes_on (drop (at + 1) line) ≡ false =
    ap goes_on (sym back_is) ∙ sym c.goes_on.ensures ∙ c.if-not-goes_on.true in
    let is = cut_between c.loop-at.begins b bs c.if-begins.true c.if-byte-eq58.true ends in
    let here = sym c.loop-at.invariant ∙ cut_here line at c.loop-at.begins c.loop-at-test.true is in
    sym (parted_by_bytes line) ∙ ap in_words here ∙ rw (c.split_at.ensures.front, back_is) refl

pub loop-at-preserved : goal.loop-at-preserved
loop-at-preserved c =
    let line = c.args.line.now in
    let at = c.loop-at.at in
    let b = get_or line at 0 in
    let bs = drop (at + 1) line in
    let no : is_cut c.loop-at.begins b bs ≡ false =
    elim c.if-begins.branch [
      | then-begins+then-byte-eq58+else-not-goes_on w ↦
          no_cut_before c.loop-at.begins b bs
          (ap goes_on (sym
          (behind_byte line _ _ at w.split_at.ensures.back w.split_at-then-byte-eq58.ensures.back))
          ∙ sym w.goes_on.ensures ∙ w.if-not-goes_on.false)
      | else-begins w ↦
          elim w.else-begins.branch [
            | else-begins-via-then-begins+else-byte-eq58 v ↦ no_cut_at c.loop-at.begins b bs v.if-byte-eq58.false
            | else-begins-via-else-begins v ↦ no_cut_within c.loop-at.begins b bs v.if-begins.false
          ]
    ] in
    sym (one_further line at c.loop-at.begins c.loop-at-test.true no) ∙ c.loop-at.invariant

pub returns : goal.returns
returns c =
    sym (parted_by_bytes c.args.line.now)
    ∙ ap in_words (sym c.loop-at.invariant ∙ no_cut_behind c.args.line.now c.loop-at.at _ (omega arith))
