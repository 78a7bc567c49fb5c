use Rattle.std.proofs.Common.{◌≡◌, ℕ, List, [], length, ap, ◌∙◌, arith}
use Rattle.std.proofs.lemmas.List.{length-map}
use Rattle.ref_space.specs.Pages.{Pages, chosen_frames, choosing, chosen_if_sparse, has_chosen, sparse_count}
use Rattle.ref_space.proofs.MoveLemmas.{none_chosen}
use Rattle.ref_space.proofs.CallLemmas.{are_pages-chosen, few_pages, written_back}
use Rattle.ref_space.proofs.pages.Pages.choose.Goals as goal

pub sparse_cells-cells-requires : goal.sparse_cells-cells-requires
sparse_cells-cells-requires g c =
    let few = few_pages c.self.inside.pages.items c.self.inside.next_address c.self.invariant.rising in
    let size = ap length c.deref-2.ensures.value in
    omega (arith, few, size, c.self.invariant.addresses)

pub invariant_of-self : goal.invariant_of-self
invariant_of-self g c =
    let ps = c.self.inside.pages.items in
    let none : chosen_frames ps ≡ [] =
    none_chosen ps (ap (λ (s : Pages). has_chosen s.uses) c.self.view_is ∙ c.requires) in
    let count : c.sparse_count-count.result ≡ sparse_count ps =
    c.sparse_count-count.ensures ∙ ap sparse_count c.deref.ensures.value in
    let now : c.choose_sparse.new.pages ≡ choosing ps =
    c.choose_sparse.ensures.pages ∙ ap choosing c.deref_mut.ensures.value in
    let size : length c.choose_sparse.new.pages ≡ length ps = ap length now ∙ length-map ps chosen_if_sparse in
    let back = written_back c.self.inside.pages.len c.choose_sparse.new.pages ps (choosing ps)
    c.self.inside.pages.ok.0 size now in
    let listed : c.choose_sparse.new.chosen.items ≡ chosen_frames (choosing ps) =
    ◌∙◌ {A = List ℕ} c.choose_sparse.ensures.listed
    (ap (λ us. chosen_frames (choosing us)) c.deref_mut.ensures.value) in
    are_pages-chosen c.self.invariant none (omega (arith, count, c.if-self-count.false)) back listed
    c.choose_sparse.ensures.capacity
