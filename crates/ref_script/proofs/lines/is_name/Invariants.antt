use Rattle.ref_script.proofs.Common.{◌≡◌, drop, length, nat_eq}
use Rattle.std.specs.Cmp.Lexicographic.{pointwise}
use Rattle.ref_script.proofs.lines.is_name.Given as goal

abbrev pub invariant-loop-byte : goal.invariant-loop-byte
invariant-loop-byte l = record {
  place : l.at ≡ l.byte-index;
  long : length l.word ≡ length l.name;
  rest : pointwise nat_eq (drop l.at l.word) (drop l.at l.name) ≡ pointwise nat_eq l.word l.name;
}
