use Rattle.std.proofs.Common.{arith, sym, ap, ◌∙◌, ◌≡◌, ℕ, true, false, subst, List, map}
use Rattle.std.specs.Prelude.{Ok}
use Rattle.ref_base.specs.Refusals.{is_in}
use Rattle.ref_base.specs.declared.phase.Phase.TheVariants.{Marking, Clearing}
use Rattle.ref_base.specs.declared.plain_step.PlainStep.TheVariants as plain
use Rattle.ref_base.specs.declared.reply.Reply.TheVariants as replies
use Rattle.ref_base.specs.declared.row.Row.{Row}
use Rattle.ref_base.specs.declared.step.Step.TheVariants as steps
use Rattle.ref_space.specs.Worklists.{Worklist, with_more, emptied_list}
use Rattle.ref_space.specs.declared.colour.Colour.{Colour}
use Rattle.ref_space.specs.declared.colour.Colour.TheVariants.{B}
use Rattle.ref_objects.specs.Grounds.{Ground, marks_begun, with_condemned, unmarked}
use Rattle.ref_judge.specs.Judged.{Judged, Finder}
use Rattle.ref_judge.specs.MarkEnding.{EndsAll, AreFew, mark_end, may_end, told_each}
use Rattle.ref_judge.specs.Standing.{IsOfSomeState, TellsOf}
use Rattle.ref_judge.specs.declared.survivors.MarkEnd.{MarkEnd}
use Rattle.ref_judge.proofs.EndChecks.{few_of}
use Rattle.ref_judge.proofs.EndedJudges.{ended_judge, ended_as, ended_tells, settled_after, closed_after}
use Rattle.ref_judge.proofs.HeldFacts.{lawful_next}
use Rattle.ref_judge.proofs.SoundJudges.{sound_told}
use Rattle.ref_judge.proofs.judge.Judge.doom.Goals as goal

-- the mark may end, and its end made these objects
record IsEnd (v : Judged) (g : Ground) (count : ℕ) : Type 0 where
  marks : is_in v.phase Marking ≡ true
  none : v.may_be_none ≡ true
  may : may_end v count ≡ true
  ends : EndsAll (mark_end v) (marks_begun v.ground B) g

-- of what the calls say
end_of : (v j : Judged) (g : Ground) (count : ℕ) → v ≡ j → is_in j.phase Marking ≡ true → j.may_be_none ≡ true
    → may_end j count ≡ true → (end : MarkEnd) → end ≡ mark_end j → (good : Colour) → good ≡ B → (begun : Ground)
    → begun ≡ marks_begun v.ground good → EndsAll end begun g → IsEnd v g count
end_of v j g count view marks none may end goes good second begun begins ends = record {
  marks = ap (λ (k : Judged). is_in k.phase Marking) view ∙ marks;
  none = ap (λ (k : Judged). k.may_be_none) view ∙ none;
  may = ap (λ (k : Judged). may_end k count) view ∙ may;
  ends =
      subst (λ (e : MarkEnd). EndsAll e (marks_begun v.ground B) g) (goes ∙ sym (ap mark_end view))
      (subst (λ (x : Ground). EndsAll end x g) (begins ∙ ap (λ (x : Colour). marks_begun v.ground x) second) ends);
}

-- so the value that the calls make tells of the row, and is sound
module _ (v j : Judged) (g ground : Ground) (workers : List Finder) (doomed : Worklist) (count : ℕ) (view : v ≡ j)
    (is : IsEnd v g count) (end : MarkEnd) (goes : end ≡ mark_end j)
    (found : workers ≡ map (λ (w : Finder). told_each end v.ground w) v.workers) (after : ground ≡ with_condemned g)
    (listed : doomed ≡ with_more (emptied_list v.doomed) (unmarked g.heap.objects g.marked)) where
  abbrev row : Row
  row = record { step = steps.Plain plain.EndMark; reply = replies.Doomed count }

  abbrev made : Judged
  made = record v { ground = ground; workers = workers; phase = Clearing; some_left = false; doomed = doomed }

  tells : TellsOf v row (Ok tt) (ended_judge v g)
  tells = ended_tells v g count is.marks is.none is.may is.ends

  made_as : (P : Judged → Type 0) → P (ended_judge v g) → P made
  made_as P =
      ended_as P v g ground workers doomed after
      (found
      ∙ ap (λ (e : MarkEnd). map (λ (w : Finder). told_each e v.ground w) v.workers) (goes ∙ sym (ap mark_end view)))
      listed

  made_tells : TellsOf v row (Ok tt) made
  made_tells = made_as (TellsOf v row (Ok tt)) tells

  made_sound : IsOfSomeState v → IsOfSomeState made
  made_sound sound =
      made_as IsOfSomeState (sound_told v (ended_judge v g) row sound tells (settled_after v g sound.settled is.ends))

pub mark_spared-requires-clause-few : goal.mark_spared-requires-clause-few
mark_spared-requires-clause-few g c =
    let stands = c.self.invariant.stands in
    let most = lawful_next c.self.inside.profile c.self.inside.config c.self.invariant.state stands.lawful in
    let next = stands.next in
    let few = few_of c.self.inside.objects c.known.ensures (omega (arith, most, next)) in
    subst AreFew (sym c.begin_marks.ensures) (record { rising = few.rising; few = few.few })

pub condemn-requires-clause-closed : goal.condemn-requires-clause-closed
condemn-requires-clause-closed g c =
    let is =
    end_of _ _ _ c.args.count c.self.view_is c.requires.marks c.requires.none c.requires.ends _ c.mark_end-end.ensures _
    c.of_cycle.ensures _ c.begin_marks.ensures c.mark_spared.ensures in
    closed_after _ _ c.self.invariant.state c.self.invariant.stands c.self.invariant.fits is.marks is.none c.args.count
    is.may is.ends

pub invariant_of-self : goal.invariant_of-self
invariant_of-self g c =
    let is =
    end_of _ _ _ c.args.count c.self.view_is c.requires.marks c.requires.none c.requires.ends _ c.mark_end-end.ensures _
    c.of_cycle.ensures _ c.begin_marks.ensures c.mark_spared.ensures in
    made_sound _ _ _ _ _ _ _ c.self.view_is is _ c.mark_end-end.ensures c.tell_found.ensures c.condemn.ensures.after
    c.condemn.ensures.list c.self.invariant

pub returns : goal.returns
returns g c =
    let is =
    end_of _ _ _ c.args.count c.self.view_is c.requires.marks c.requires.none c.requires.ends _ c.mark_end-end.ensures _
    c.of_cycle.ensures _ c.begin_marks.ensures c.mark_spared.ensures in
    rw (← c.self.view_is)
    (made_tells _ _ _ _ _ _ _ c.self.view_is is _ c.mark_end-end.ensures c.tell_found.ensures c.condemn.ensures.after
    c.condemn.ensures.list)
