use Rattle.ref_objects.proofs.Common.{◌∙◌, ap, refers_into, Ground}
use Rattle.ref_objects.specs.Grounds.{is_tuned}
use Rattle.ref_base.specs.KeptPaths.{is_kept}
use Rattle.ref_space.specs.Tables.{tabled_reference, tabled_at}
use Rattle.ref_space.specs.Worklists.{with_more}
use Rattle.ref_space.proofs.TableReads.{reference-tabled}
use Rattle.ref_objects.specs.GroundViews.{stored_fields}
use Rattle.ref_objects.proofs.ScanLemmas.{may_list, scanned_sound, scanned_seen, listed_seen, refers_seen}
use Rattle.ref_objects.proofs.objects.Objects.scan.Goals as goal

pub scan-requires-clause-tuned : goal.scan-requires-clause-tuned
scan-requires-clause-tuned g c =
    c.self.invariant.moves.settled
    ∙ ap (λ (g : Ground). is_tuned g.space.stage) c.self.view_is ∙ ap is_tuned c.requires.tuned

pub scan-requires-clause-room : goal.scan-requires-clause-room
scan-requires-clause-room g c =
    may_list
    (stored_fields c.self.inside.config c.self.inside.heap_no c.self.inside.table c.self.inside.holds
    c.self.inside.clock c.self.inside.next c.self.inside.condemning c.self.inside.last c.self.inside.stage
    c.self.inside.has_choice)
    c.args.grey.now (rw c.self.view_is c.requires.room)

pub invariant_of-self : goal.invariant_of-self
invariant_of-self g c =
    rw c.scan.ensures.after
    (scanned_sound (is_kept c.args.policy) c.self.invariant c.known.ensures.orderly.rising c.args.entry.no)

pub returns-clause-finds : goal.returns-clause-finds
returns-clause-finds g c =
    rw (← c.self.view_is)
    (c.scan.ensures.finds
    ∙ refers_seen (is_kept c.args.policy) c.self.invariant c.known.ensures.orderly.rising c.args.entry.no
    c.scan.new.self c.scan.ensures.after (tabled_reference (tabled_at c.self.inside.table.tabled c.args.entry.no))
    ∙ ap (refers_into _) (reference-tabled c.self.inside.table.tabled c.args.entry.no))

pub returns-clause-listed : goal.returns-clause-listed
returns-clause-listed g c =
    rw (c.scan.ensures.listed, ← c.self.view_is)
    (ap (with_more c.args.grey.now)
    (listed_seen (is_kept c.args.policy) c.self.invariant c.known.ensures.orderly.rising c.args.entry.no))

pub returns-clause-after : goal.returns-clause-after
returns-clause-after g c =
    rw (c.scan.ensures.after, ← c.self.view_is)
    (scanned_seen (is_kept c.args.policy) c.self.invariant c.known.ensures.orderly.rising c.args.entry.no)
