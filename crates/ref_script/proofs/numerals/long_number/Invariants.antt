use Rattle.ref_script.proofs.Common.{◌≡◌, ◌<◌, ◌^◌, take, digits_value, list_all, true}
use Rattle.std.specs.Char.{is_ascii_digit}
use Rattle.ref_script.proofs.numerals.long_number.Given as goal

abbrev pub invariant-loop-byte : goal.invariant-loop-byte
invariant-loop-byte l = record {
  digits : list_all is_ascii_digit (take l.byte-index l.word) ≡ true;
  read : l.value ≡ digits_value 10 (take l.byte-index l.word);
  small : l.value < 2 ^ 64;
}
