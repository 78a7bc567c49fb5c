use Rattle.std.proofs.Common.{◌∙◌, sym, ap, arith}
use Rattle.ref_space.specs.Pages.{is_sparse, chosen_if_sparse}
use Rattle.ref_space.proofs.MoveLemmas.{chosen_fits, choosing_more, listed_more, listed_still}
use Rattle.ref_space.proofs.pages.choose_sparse.Goals.{then-choose_if_sparse, else-choose_if_sparse}
use Rattle.ref_space.proofs.pages.choose_sparse.Goals as goal

pub push_reserved-requires : goal.push_reserved-requires
push_reserved-requires g c =
    let small = chosen_fits c.args.pages.now c.loop-page.pages c.loop-page.page-index c.loop-page-test.true
    c.loop-page.invariant.are c.page-item.result c.page-item.is c.requires.none c.loop-page.chosen.items
    c.loop-page.invariant.listed in
    omega (arith, small, c.loop-page.chosen.ok.0, c.loop-page.invariant.room, c.requires.fit)

pub loop-page-preserved : goal.loop-page-preserved
loop-page-preserved g c =
    let old = c.args.pages.now in
    let chosen = c.choose_if_sparse.ensures.after ∙ ap chosen_if_sparse (sym c.page-item.is) in
    let answer = c.choose_if_sparse.ensures.answer ∙ ap is_sparse (sym c.page-item.is) in
    let next = choosing_more old c.loop-page.pages c.loop-page.page-index c.loop-page-test.true
    c.loop-page.invariant.are c.page-item.result c.page-item.is c.choose_if_sparse.new.self chosen in
    elim c.if-choose_if_sparse.branch [
      | then-choose_if_sparse w ↦ record {
        are = w.pages-is ∙ next;
        listed = listed_more old c.loop-page.pages c.loop-page.page-index c.loop-page-test.true
            c.loop-page.invariant.are c.page-item.result c.page-item.is c.requires.none c.loop-page.chosen.items
            c.loop-page.invariant.listed (sym answer ∙ w.if-choose_if_sparse.true) c.choose_if_sparse.new.self chosen
            w.frame.result w.frame.ensures c.if-choose_if_sparse.chosen.items (cc);
        room = cc;
      }
      | else-choose_if_sparse w ↦ record {
        are = w.pages-is ∙ next;
        listed = rw w.chosen-is
            (listed_still old c.loop-page.pages c.loop-page.page-index c.loop-page-test.true
            c.loop-page.invariant.are c.page-item.result c.page-item.is c.requires.none c.loop-page.chosen.items
            c.loop-page.invariant.listed (sym answer ∙ w.if-choose_if_sparse.false));
        room = cc;
      }
    ]
