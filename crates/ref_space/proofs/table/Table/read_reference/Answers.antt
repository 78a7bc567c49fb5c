use Rattle.ref_space.proofs.Common.{◌≡◌, ◌∙◌, ap, sym, None, Some, Option, Reference, Table, tabled_of}
use Rattle.ref_space.proofs.Common.{tabled_if, tabled_reference, option_map, referent_of}
use Rattle.ref_space.specs.Tables.{held_at, with_read, read_if_good, word_name}
use Rattle.ref_space.proofs.BroughtLemmas.{referent_is_read}
use Rattle.ref_space.proofs.TableSlots.{slot_named}
use Rattle.ref_space.proofs.table.Table.read_reference.Goals as goal
use Rattle.ref_space.proofs.table.Table.read_reference.Given.{Over}

pub returns-in_err-kept-clause-answer : goal.returns-in_err-kept-clause-answer
returns-in_err-kept-clause-answer g c =
    ap (option_map (λ read. read.0)) c.from_residual.ensures ∙ c.in_err-kept.ensures.held
    ∙ ap (λ (t : Table). tabled_reference (tabled_of t c.index-object.result.now)) c.in_err-kept.ensures.after
    ∙ ap (λ d. tabled_reference (tabled_if c.args.self.now.tabled d))
    (slot_named c.self.invariant c.self.view_is c.args.place c.requires c.index-object.ensures)

pub returns-in_err-kept-clause-after : goal.returns-in_err-kept-clause-after
returns-in_err-kept-clause-after g c =
    c.in_err-kept.ensures.after
    ∙ ap (λ v. with_read c.args.self.now (read_if_good c.args.self.now.round (word_name (held_at c.args.self.now
    c.args.place) None) (option_map (λ read. read.1) v)))
    (sym c.from_residual.ensures)

pub returns-clause-answer : goal.returns-clause-answer
returns-clause-answer g c =
    ap Some c.reference_by_number.ensures ∙ c.in_ok-kept.ensures.held
    ∙ ap (λ (t : Table). tabled_reference (tabled_of t c.index-object.result.now)) c.in_ok-kept.ensures.after
    ∙ ap (λ d. tabled_reference (tabled_if c.args.self.now.tabled d))
    (slot_named c.self.invariant c.self.view_is c.args.place c.requires c.index-object.ensures)

word : (g : Over) (c : goal.After-kept g) → c.in_ok-kept.kept.referent ≡ c.kept.inside.referent
word g c = ap (λ (r : Reference). r.referent) (sym c.kept.view_is)

pub returns-clause-word : goal.returns-clause-word
returns-clause-word g c =
    rw (← word g c)
    (referent_is_read c.args.self.now c.args.place c.index-object.result.now c.in_ok-kept.kept.referent
    (slot_named c.self.invariant c.self.view_is c.args.place c.requires c.index-object.ensures)
    c.in_ok-kept.ensures.after c.in_ok-kept.ensures.led
    (ap (λ (r : Option Reference). referent_of r) c.in_ok-kept.ensures.held))

pub returns-clause-after : goal.returns-clause-after
returns-clause-after g c =
    rw (← word g c)
    (c.in_ok-kept.ensures.after
    ∙ ap (λ d. with_read c.args.self.now (read_if_good c.args.self.now.round (word_name d None)
    (Some c.in_ok-kept.kept.referent)))
    (slot_named c.self.invariant c.self.view_is c.args.place c.requires c.index-object.ensures))
