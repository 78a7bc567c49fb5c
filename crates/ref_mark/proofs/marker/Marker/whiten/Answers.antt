use Rattle.ref_mark.proofs.Common.{◌≡◌, ◌+◌, [], refl, sym, ap, ◌∙◌, true≢false, is_in, CycleHeap}
use Rattle.ref_mark.proofs.Common.{Idle, Marking, Worklist, found_in}
use Rattle.ref_mark.proofs.SettledMoves.{other_colour, no_moves_colour, idle_is_between, idle_is_not_moving}
use Rattle.ref_mark.proofs.MarkerLemmas.{sound_cleared, sound_whitened}
use Rattle.ref_mark.proofs.marker.Marker.whiten.Goals as goal

pub invariant_of-self : goal.invariant_of-self
invariant_of-self g c =
    record { lists = sound_cleared c.clear.ensures c.self.invariant.lists; moves = c.self.invariant.moves }

pub begin_marks-requires-clause-other : goal.begin_marks-requires-clause-other
begin_marks-requires-clause-other g c =
    λ same. other_colour c.self-2.inside.cycle (sym c.self-2.invariant.moves.colour ∙ same ∙ c.of_cycle.ensures)

pub begin_marks-requires-clause-moved : goal.begin_marks-requires-clause-moved
begin_marks-requires-clause-moved g c =
    c.self-2.invariant.moves.none_left
    (idle_is_not_moving c.self-2.inside.phase
    (ap (λ (k : CycleHeap). is_in k.phase Idle) (c.self-2.view_is ∙ c.forget_found.ensures)
    ∙ ap (λ (k : CycleHeap). is_in k.phase Idle) c.self.view_is ∙ c.requires.idle))

pub begin_marks-requires-clause-cycle : goal.begin_marks-requires-clause-cycle
begin_marks-requires-clause-cycle g c =
    λ same. no_moves_colour (c.self-2.inside.cycle + 1) (sym c.of_cycle.ensures ∙ same)

pub begin_marks-requires-clause-ended : goal.begin_marks-requires-clause-ended
begin_marks-requires-clause-ended g c =
    c.self-2.invariant.moves.ended
    (idle_is_between c.self-2.inside.phase
    (ap (λ (k : CycleHeap). is_in k.phase Idle) (c.self-2.view_is ∙ c.forget_found.ensures)
    ∙ ap (λ (k : CycleHeap). is_in k.phase Idle) c.self.view_is ∙ c.requires.idle))

pub invariant_of-self-2 : goal.invariant_of-self-2
invariant_of-self-2 g c =
    let seen = c.self-2.view_is ∙ c.forget_found.ensures in
    let white : c.self-2.inside.grey.stands ≡ [] =
    ap (λ (k : CycleHeap). k.grey) seen ∙ ap (λ (l : Worklist). l.stands) c.clear.ensures in
    let none = ap (λ (k : CycleHeap). k.found) seen in
    let idle =
    idle_is_not_moving c.self-2.inside.phase
    (ap (λ (k : CycleHeap). is_in k.phase Idle) seen ∙ ap (λ (k : CycleHeap). is_in k.phase Idle) c.self.view_is
    ∙ c.requires.idle) in
    rw (c.set_clock.ensures, c.begin_marks.ensures)
    (record {
      lists =
          sound_whitened Marking (found_in c.self.inside.objects c.self.inside.found.items) refl refl refl refl refl
          white none c.self-2.invariant.lists;
      moves = record {
        none_left = λ other. c.self-2.invariant.moves.none_left idle;
        healed = λ between. absurd (true≢false between);
        tuned = λ begun. refl;
        ended = λ between. absurd (true≢false between);
        colour = c.of_cycle.ensures;
      };
    })
