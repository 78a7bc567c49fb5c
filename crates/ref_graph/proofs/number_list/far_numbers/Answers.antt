use Rattle.std.proofs.Common.{◌≡◌, ℕ, get_or, ◌∙◌, ◌++◌, ◌∷◌, [], ap, sym, subst, arith, filter, IsPermutation}
use Rattle.std.proofs.lemmas.List.{take_all}
use Rattle.ref_graph.proofs.NumberPlaceLemmas.{is_far, far_more, far_skip, far_rise, far_came}
use Rattle.ref_graph.proofs.number_list.far_numbers.Goals.{then-no-ge-NEAR+in_ok-push, else-no-ge-NEAR}
use Rattle.ref_graph.proofs.number_list.far_numbers.Goals as goal

pub loop-no-preserved : goal.loop-no-preserved
loop-no-preserved g c =
    let ns = c.args.numbers.now in
    let i = c.loop-no.no-index in
    let n : ℕ = c.no.inside.0 in
    let at : n ≡ get_or ns i n = grind arith in
    elim c.if-no-ge-NEAR.branch [
      | then-no-ge-NEAR+in_ok-push w ↦
          rw (w.listed-is, w.in_ok-push.ensures.items)
          (ap (λ ms. ms ++ n ∷ []) c.loop-no.invariant
          ∙ sym (far_more ns i n c.loop-no-test.true at (grind arith)))
      | else-no-ge-NEAR w ↦
          rw w.listed-is
          (c.loop-no.invariant ∙ sym (far_skip ns i n c.loop-no-test.true at (grind arith)))
    ]

pub returns-clause-rising : goal.returns-clause-rising
returns-clause-rising g c =
    let ns = c.args.numbers.now in
    let all : c.loop-no.listed.items ≡ filter is_far ns =
    c.loop-no.invariant ∙ ap (filter is_far) (take_all c.loop-no.no-index ns (omega arith)) in
    let listed = c.sort_unstable.new.self.items in
    let moved : IsPermutation (filter is_far ns) listed =
    subst (λ ms. IsPermutation ms listed) all c.sort_unstable.ensures.permutation in
    far_rise ns listed c.requires moved c.sort_unstable.ensures.sorted

pub returns-clause-came : goal.returns-clause-came
returns-clause-came g c =
    let ns = c.args.numbers.now in
    let all : c.loop-no.listed.items ≡ filter is_far ns =
    c.loop-no.invariant ∙ ap (filter is_far) (take_all c.loop-no.no-index ns (omega arith)) in
    let listed = c.sort_unstable.new.self.items in
    let moved : IsPermutation (filter is_far ns) listed =
    subst (λ ms. IsPermutation ms listed) all c.sort_unstable.ensures.permutation in
    far_came ns listed c.requires moved c.sort_unstable.ensures.sorted
