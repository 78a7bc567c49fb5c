use Rattle.ref_script.proofs.Common.{words_of}
use Rattle.ref_script.specs.DeclarationViews.{declared_by}
use Rattle.ref_script.proofs.GraphLines.{fails_by_double}
use Rattle.ref_script.proofs.graph_text.add_line.Goals as goal

pub returns-then-not-branch-clause-fault : goal.returns-then-not-branch-clause-fault
returns-then-not-branch-clause-fault g c =
    fails_by_double (words_of c.args.content.now) c.args.number c.args.graph.now
    c.add_declaration.new.graph (declared_by c.in-Ok.declaration c.declaration_of.new.fields.items)
    c.in_ok-add_declaration.field-0
    c.in-Ok.ensures.found (rw c.as_slice.ensures.value at c.in_ok-add_declaration.ensures.ok) c.if-not-branch.true
