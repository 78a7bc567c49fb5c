use Rattle.ref_script.proofs.Common.{◌≡◌, ◌<◌, ◌≤◌, ◌^◌, take, digits_value, list_all, true}
use Rattle.std.specs.Char.{is_ascii_digit}
use Rattle.ref_script.proofs.numerals.few_digits.Given as goal

abbrev pub invariant-loop-byte : goal.invariant-loop-byte
invariant-loop-byte l = record {
  all : l.count ≡ l.byte-index;
  few : l.count ≤ 9;
  digits : list_all is_ascii_digit (take l.count l.line) ≡ true;
  read : l.number ≡ digits_value 10 (take l.count l.line);
  small : l.number < 10 ^ l.count;
}
