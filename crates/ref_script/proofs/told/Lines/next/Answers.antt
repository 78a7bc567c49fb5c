use Rattle.ref_script.proofs.Common.{refl}
use Rattle.ref_script.specs.LineViews.{line_of}
use Rattle.ref_script.proofs.told.Lines.next.Goals.{in-Ok, in-Err}
use Rattle.ref_script.proofs.told.Lines.next.Goals as goal

pub returns-clause-found : goal.returns-clause-found
returns-clause-found c =
    rw (← c.self.view_is)
    (elim c.match-plain.branch [
      | in-Ok w ↦ rw w.result-is (record {
        line = line_of c.in-Some.line;
        lines = c.in-Some.ensures.lines;
        number = refl;
        plain = w.in-Ok.ensures.0;
        content_is = w.in-Ok.ensures.1;
      })
      | in-Err w ↦ rw w.result-is tt
    ])
