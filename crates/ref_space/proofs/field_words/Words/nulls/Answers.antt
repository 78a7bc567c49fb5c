use Rattle.ref_space.proofs.Common.{None}
use Rattle.std.proofs.lemmas.List.{take-replicate}
use Rattle.ref_space.proofs.field_words.Words.nulls.Goals as goal

pub returns : goal.returns
returns c = rw c.null.ensures (take-replicate c.args.count 8 None c.requires)
