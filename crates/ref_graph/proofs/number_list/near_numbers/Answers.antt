use Rattle.std.proofs.Common.{◌≡◌, refl, arith, true, false, is_some, get_or}
use Rattle.ref_graph.specs.NumberPlaces.{place_before}
use Rattle.ref_graph.proofs.NumberPlaceLemmas.{near_more, near_skip}
use Rattle.ref_graph.proofs.number_list.near_numbers.Goals.{then-entry-gt0+in_ok-push, else-entry-gt0}
use Rattle.ref_graph.proofs.number_list.near_numbers.Goals as goal

pub loop-entry-init : goal.loop-entry-init
loop-entry-init g c = (refl, rw c.new-listed.ensures.items (record { rising = tt; came = λ n. grind arith }))

pub loop-entry-preserved : goal.loop-entry-preserved
loop-entry-preserved g c =
    let at = c.loop-entry.entry-index in
    let near = c.args.near.now in
    elim c.if-entry-gt0.branch [
      | then-entry-gt0+in_ok-push w ↦
          let has_place : is_some (place_before (get_or near at 0)) ≡ true = grind arith in (
            grind arith,
            rw (w.listed-is, w.in_ok-push.ensures.items, c.loop-entry.invariant.0)
                (near_more near at c.loop-entry.listed.items c.loop-entry.invariant.1 has_place),
          )
      | else-entry-gt0 w ↦
          let none : is_some (place_before (get_or near at 0)) ≡ false = grind arith in (
            grind arith,
            rw w.listed-is
                (near_skip near at c.loop-entry.listed.items c.loop-entry.invariant.1 none),
          )
    ]
