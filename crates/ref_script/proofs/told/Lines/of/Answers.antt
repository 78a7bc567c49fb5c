use Rattle.ref_script.proofs.Common.{arith}
use Rattle.ref_script.proofs.LineLemmas.{lines-le-length, ascii_lines}
use Rattle.ref_script.proofs.told.Lines.of.Goals as goal

pub invariant_of-result : goal.invariant_of-result
invariant_of-result c =
    let text = c.args.text.now in
    (omega (arith, lines-le-length text, c.requires), λ is. grind (arith, ascii_lines text))
