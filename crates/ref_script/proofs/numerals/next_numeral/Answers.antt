use Rattle.ref_script.proofs.Common.{arith, sym, ◌∙◌, ◌≡◌, false, true}
use Rattle.ref_script.specs.Lines.{goes_on}
use Rattle.ref_script.proofs.Cuts.{word_cut, word_of_digits}
use Rattle.ref_script.proofs.numerals.next_numeral.Goals as goal

pub returns-then-ends_word : goal.returns-then-ends_word
returns-then-ends_word c =
    let line = c.behind_spaces-behind.result.now in
    let count = c.few_digits-count.result.0 in
    let ends : goes_on c.split_at.result.1.now ≡ false = grind arith in
    let begins : goes_on line ≡ true = grind arith in
    let length_is = word_of_digits line count c.few_digits-count.ensures.digits c.few_digits-count.ensures.count.0
    (rw c.split_at.ensures.back at ends) in
    sym c.behind_spaces-behind.ensures.same
    ∙ word_cut line count _ _ begins (sym length_is) c.split_at.ensures.front c.split_at.ensures.back
