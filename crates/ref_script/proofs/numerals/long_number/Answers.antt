use Rattle.ref_script.proofs.Common.{arith}
use Rattle.std.specs.Char.{is_ascii_digit}
use Rattle.std.proofs.lemmas.List.Folds.{list_all_more}
use Rattle.ref_script.proofs.Digits.{front_value, one_digit_more}
use Rattle.ref_script.proofs.numerals.long_number.Goals as goal

pub returns-in_err-checked_mul : goal.returns-in_err-checked_mul
returns-in_err-checked_mul c = grind (arith, front_value)

pub returns-in_err-value : goal.returns-in_err-value
returns-in_err-value c = grind (arith, front_value)

pub loop-byte-preserved : goal.loop-byte-preserved
loop-byte-preserved c =
    let all_more = list_all_more is_ascii_digit c.args.word.now c.loop-byte.byte-index 0 c.loop-byte-test.true in
    grind (arith, one_digit_more, all_more)
