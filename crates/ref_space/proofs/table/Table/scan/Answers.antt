use Rattle.ref_space.proofs.Common.{◌∙◌, sym, ap, is_some, tabled_at, tabled_fields, tabled_reference}
use Rattle.ref_base.specs.KeptPaths.{is_kept}
use Rattle.ref_space.specs.Tables.{kept_value}
use Rattle.ref_space.proofs.ScanLemmas.{lies_still, tuned_still, may_list-each, scanned, scanned_listed, scanned_finds}
use Rattle.ref_space.proofs.ScanLemmas.{scanned_none}
use Rattle.ref_space.proofs.table.Table.scan.Goals as goal

pub returns-in_default-clause-after : goal.returns-in_default-clause-after
returns-in_default-clause-after g c =
    scanned_none (is_kept c.args.policy) c.args.self.now c.args.entry.no
    (sym c.place_near.ensures.there ∙ ap is_some c.in_default.is)

pub grey_referent-finds-requires-clause-lies : goal.grey_referent-finds-requires-clause-lies
grey_referent-finds-requires-clause-lies g c =
    lies_still c.args.self.now (tabled_fields (tabled_at c.args.self.now.tabled c.args.entry.no))
    c.args.entry.no c.in-Some.place c.grey_fields.ensures.after c.in-Some.ensures.lies

pub grey_referent-finds-requires-clause-room : goal.grey_referent-finds-requires-clause-room
grey_referent-finds-requires-clause-room g c =
    rw (c.grey_fields.ensures.after, c.grey_fields.ensures.listed)
    (may_list-each c.args.self.now c.args.grey.now c.requires.room
    (tabled_fields (tabled_at c.args.self.now.tabled c.args.entry.no)))

pub heal-requires-clause-tuned : goal.heal-requires-clause-tuned
heal-requires-clause-tuned g c =
    tuned_still c.grey_fields.new.self
    (kept_value (is_kept c.args.policy) (tabled_reference (tabled_at c.grey_fields.new.self.tabled c.args.entry.no)))
    c.grey_referent-finds.ensures.after
    (tuned_still c.args.self.now (tabled_fields (tabled_at c.args.self.now.tabled c.args.entry.no))
    c.grey_fields.ensures.after c.requires.tuned)

pub heal-requires-clause-lies : goal.heal-requires-clause-lies
heal-requires-clause-lies g c =
    lies_still c.grey_fields.new.self
    (kept_value (is_kept c.args.policy) (tabled_reference (tabled_at c.grey_fields.new.self.tabled c.args.entry.no)))
    c.args.entry.no c.in-Some.place c.grey_referent-finds.ensures.after
    (lies_still c.args.self.now (tabled_fields (tabled_at c.args.self.now.tabled c.args.entry.no))
    c.args.entry.no c.in-Some.place c.grey_fields.ensures.after c.in-Some.ensures.lies)

pub returns-clause-finds : goal.returns-clause-finds
returns-clause-finds g c =
    scanned_finds (is_kept c.args.policy) c.args.self.now c.args.entry.no c.args.grey.now c.grey_fields.ensures.after
    c.grey_referent-finds.ensures.after c.grey_fields.ensures.listed c.grey_referent-finds.ensures.listed
    c.heal.ensures c.grey_referent-finds.ensures.finds

pub returns-clause-listed : goal.returns-clause-listed
returns-clause-listed g c =
    scanned_listed (is_kept c.args.policy) c.args.self.now c.args.entry.no c.args.grey.now c.grey_fields.ensures.after
    c.grey_referent-finds.ensures.after c.grey_fields.ensures.listed c.grey_referent-finds.ensures.listed
    c.heal.ensures

pub returns-clause-after : goal.returns-clause-after
returns-clause-after g c =
    scanned (is_kept c.args.policy) c.args.self.now c.args.entry.no c.args.grey.now c.grey_fields.ensures.after
    c.grey_referent-finds.ensures.after c.grey_fields.ensures.listed c.grey_referent-finds.ensures.listed
    c.heal.ensures
