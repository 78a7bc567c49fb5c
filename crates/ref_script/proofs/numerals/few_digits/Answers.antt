use Rattle.ref_script.proofs.Common.{◌≤◌, arith}
use Rattle.std.specs.Char.{is_ascii_digit}
use Rattle.std.proofs.lemmas.List.Folds.{list_all_more}
use Rattle.ref_script.proofs.Digits.{few_fit, one_digit_more, one_power_more}
use Rattle.ref_script.proofs.numerals.few_digits.Goals as goal

pub overflow_mul-number : goal.overflow_mul-number
overflow_mul-number c =
    let l = c.loop-byte in
    let fits = few_fit l.number 0 l.count l.invariant.small (grind arith) (omega arith) in
    omega (arith, fits)

pub overflow_add-number : goal.overflow_add-number
overflow_add-number c =
    let l = c.loop-byte in
    let digit : c.from.result ≤ 9 = grind arith in
    let fits = few_fit l.number c.from.result l.count l.invariant.small (grind arith) digit in
    omega (arith, fits)

pub loop-byte-preserved : goal.loop-byte-preserved
loop-byte-preserved c =
    let l = c.loop-byte in
    let digit : c.from.result ≤ 9 = grind arith in
    let small = one_power_more l.number c.from.result l.count l.invariant.small digit in
    let all_more = list_all_more is_ascii_digit c.args.line.now l.byte-index 0 c.loop-byte-test.true in
    grind (arith, one_digit_more, all_more, small)
