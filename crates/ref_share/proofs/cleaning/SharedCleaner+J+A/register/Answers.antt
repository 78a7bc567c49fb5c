use Rattle.ref_share.proofs.Common.{clean_view, heap_view}
use Rattle.ref_share.proofs.CleanCalls.{registers_job}
use Rattle.ref_share.proofs.cleaning.SharedCleaner+J+A.register.Goals as goal

pub returns-in-Ok-clause-registers : goal.returns-in-Ok-clause-registers
returns-in-Ok-clause-registers g c =
    registers_job c.args.job (clean_view c.args.seat.now) (clean_view c.keep.new.seat) c.args.self.now.frame
    c.args.mutator c.args.source c.args.slot (heap_view c.args.heap_seat.now) (heap_view c.refer.new.seat)
    (heap_view c.keep.new.heap_seat) c.in-Ok.hold c.keep.result c.in-Ok.ensures.made c.keep.ensures.keeps
