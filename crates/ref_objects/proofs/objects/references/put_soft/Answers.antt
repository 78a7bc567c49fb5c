use Rattle.ref_objects.proofs.GotLemmas.{still_read}
use Rattle.ref_objects.proofs.objects.references.put_soft.Goals as goal

pub get_referent-requires-clause-word : goal.get_referent-requires-clause-word
get_referent-requires-clause-word g c =
    rw c.change_in.ensures (still_read c.args.table.now c.args.from c.args.clock c.args.word c.requires.word)
