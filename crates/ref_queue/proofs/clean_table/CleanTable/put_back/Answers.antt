use Rattle.std.proofs.Common.{ap, sym, ◌∙◌, is_some}
use Rattle.std.proofs.lemmas.Bool.{true≢false}
use Rattle.ref_queue.specs.CleanTables.{job_of}
use Rattle.ref_queue.proofs.clean_table.CleanTable.put_back.Goals as goal

pub unreachable-requires : goal.unreachable-requires
unreachable-requires g c =
    true≢false
    (sym c.requires ∙ ap (λ t. is_some (job_of t c.args.object)) (sym c.self.view_is)
    ∙ ap is_some (sym c.in-Ok-None.ensures.old ∙ c.in-Ok-None.field-0-is))
