use Rattle.ref_objects.proofs.Common.{◌∙◌, ap, Option, is_some, Reference}
use Rattle.ref_space.proofs.TableReads.{reference-tabled}
use Rattle.ref_objects.proofs.HealedLemmas.{referent_seen}
use Rattle.ref_objects.specs.GroundViews.{stored_fields}
use Rattle.ref_objects.proofs.objects.Objects.word_of_referent.Goals as goal

pub returns-clause-there : goal.returns-clause-there
returns-clause-there g c =
    rw (← c.self.view_is)
    (c.word_of_referent.ensures.there
    ∙ ap (λ (r : Option Reference). is_some r) (reference-tabled c.self.inside.table.tabled c.args.no))

pub returns-clause-word : goal.returns-clause-word
returns-clause-word g c =
    rw (← c.self.view_is)
    (referent_seen (stored_fields c.self.inside.config c.self.inside.heap_no c.self.inside.table c.self.inside.holds
    c.self.inside.clock c.self.inside.next c.self.inside.condemning c.self.inside.last c.self.inside.stage
    c.self.inside.has_choice) c.known.ensures.orderly.rising c.args.no c.word_of_referent.result
    c.word_of_referent.ensures.there c.word_of_referent.ensures.word)
