use Rattle.ref_space.proofs.WordLemmas.{coloured-same, is_coloured-coloured, is_word-parts_of, parts_of-coloured}
use Rattle.ref_space.proofs.laws.a_word_tells_its_parts.Goals as goal

pub returns : goal.returns
returns c = search (parts_of-coloured, is_word-parts_of, is_coloured-coloured, coloured-same)
