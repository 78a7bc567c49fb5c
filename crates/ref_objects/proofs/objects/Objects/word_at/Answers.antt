use Rattle.ref_objects.proofs.Common.{◌∙◌}
use Rattle.ref_space.proofs.TableReads.{has_field-tabled}
use Rattle.ref_objects.proofs.HealedLemmas.{word_seen}
use Rattle.ref_objects.specs.GroundViews.{stored_fields}
use Rattle.ref_objects.proofs.objects.Objects.word_at.Goals as goal

pub returns-clause-there : goal.returns-clause-there
returns-clause-there g c =
    rw (← c.self.view_is) (c.word_at.ensures.there ∙ has_field-tabled c.self.inside.table.tabled c.args.no c.args.field)

pub returns-clause-word : goal.returns-clause-word
returns-clause-word g c =
    rw (← c.self.view_is)
    (word_seen (stored_fields c.self.inside.config c.self.inside.heap_no c.self.inside.table c.self.inside.holds
    c.self.inside.clock c.self.inside.next c.self.inside.condemning c.self.inside.last c.self.inside.stage
    c.self.inside.has_choice) c.known.ensures.orderly.rising c.args.no
    c.args.field c.word_at.result
    c.word_at.ensures.there c.word_at.ensures.word)
