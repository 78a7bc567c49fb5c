use Rattle.ref_log.proofs.Common.{◌-◌, ℕ, ◌<◌, List, length, take, drop, refl, sym, arith, length-append}
use Rattle.ref_log.proofs.HeldBytes.{front_taken, front_is_all}
use Rattle.std.proofs.lemmas.List.{take-append-drop, length-take-le}
use Rattle.ref_log.proofs.stream.LineStream.take_piece.Goals as goal

pub returns-then-length-len-clause-err : goal.returns-then-length-len-clause-err
returns-then-length-len-clause-err g c =
    let s = c.self.inside in
    let n = c.length_before_lf-length.result in
    let held : List ℕ = take (s.end - s.at) (drop s.at s.chunk.items) in
    let cut = rw c.as_slice.ensures.value at c.length_before_lf-length.ensures in
    rw (← c.self.view_is) (
      refl,
      record {
        piece = take n held;
        rest = drop n held;
        held = sym (take-append-drop n held);
        no_lf = cut.none;
        too_long = let front = length-take-le n held cut.within in
            omega (arith, length-append s.line.items (take n held), front, s.line.ok.0);
      },
    )

pub returns-clause-ok : goal.returns-clause-ok
returns-clause-ok g c =
    let s = c.self.inside in
    let n = c.length_before_lf-length.result in
    let held : List ℕ = take (s.end - s.at) (drop s.at s.chunk.items) in
    let cut = rw c.as_slice.ensures.value at c.length_before_lf-length.ensures in
    let front = rw c.as_slice.ensures.value at c.split_at.ensures.front in
    let byte = rw c.as_slice.ensures.value at c.from.ensures in
    let some : 0 < length held = rw (← c.self.view_is) at c.requires in
    rw (← c.self.view_is, c.as_slice.ensures.value) (record {
      piece = take n held;
      line = rw (← front) c.in_ok-extend_from_slice.ensures.items;
      no_lf = cut.none;
      held = front_taken s.chunk.items s.at s.end n c.from.result _ cut.within cut.lf refl byte;
      is_ended = refl;
      short = omega (arith, c.in_ok-extend_from_slice.ensures.len, c.extend_from_slice.new.self.ok.0);
      more = λ none. let all = front_is_all s.chunk.items s.at s.end n cut.within none in omega (arith, all, some);
    })
