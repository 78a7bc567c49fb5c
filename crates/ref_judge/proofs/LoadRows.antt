-- What a judge does at a load: in a mark one that answers an object says anew whether an object is left.
use Rattle.ref_base.proofs.Common.{arith, ◌≡◌, ℕ, ◌+◌, Bool, true, false, ◌&&◌, ◌||◌, refl, sym, ap, ◌∙◌, subst}
use Rattle.ref_base.proofs.Common.{nat_lt, List, [], length, Option, Some, None, is_some, false≢true, Graph, Heap}
use Rattle.ref_base.proofs.Common.{State, is_in, ticked, on_heap, slot_at, with_slot, field_in}
use Rattle.std.specs.Prelude.{Ok}
use Rattle.ref_base.specs.CollectorRows.{value_reply, Loads, PlainAccepts, IsBut, GivesAnewIf}
use Rattle.ref_base.specs.Refusals.{plain_refusal, load_refusal}
use Rattle.ref_base.specs.declared.phase.Phase.{Phase}
use Rattle.ref_base.specs.declared.phase.Phase.TheVariants.{Marking}
use Rattle.ref_base.specs.declared.plain_step.PlainStep.{PlainStep}
use Rattle.ref_base.specs.declared.plain_step.PlainStep.TheVariants as plain
use Rattle.ref_base.specs.declared.reply.Reply.{Reply}
use Rattle.ref_base.specs.declared.reply.Reply.TheVariants as replies
use Rattle.ref_base.specs.declared.step.Step.TheVariants.{Plain}
use Rattle.ref_base.proofs.PlainRows.{plain_row}
use Rattle.ref_objects.specs.Grounds.{Ground, Space, brought, ground_brought, ground_with_heap}
use Rattle.ref_judge.specs.Judged.{Judged}
use Rattle.ref_judge.specs.LeftCounts.{unmarked_if}
use Rattle.ref_judge.specs.ProfiledRows.{IsRowAs, says_anew, AcceptsAnew, PlainAcceptsAs}
use Rattle.ref_judge.specs.Standing.{StandsFor, DoesAs, LeadsOne, IsSettled, IsOfSomeState}
use Rattle.ref_judge.specs.declared.profile.Profile.{Profile}
use Rattle.ref_judge.proofs.LeftJudged.{left_decides}
use Rattle.ref_judge.proofs.SameObjects.{same_slot}
use Rattle.ref_judge.proofs.SoundJudges.{leads_anew, sound_after}
use Rattle.ref_judge.proofs.StandingHeaps.{field_in_same, with_slot_same, refusal_same, config_same}
use Rattle.ref_judge.proofs.StandingRows.{judging, moved_to, stands_moved, ticked_moved, mutator_does}
use Rattle.ref_judge.proofs.UnchangedRows.{accepted_plain_as}

-- where nothing is still to move, what is handed out lies where it lay
pub brought_none : (s : Space) (value : Option ℕ) → s.still_to_move ≡ [] → brought s value ≡ s
brought_none s None none = refl
brought_none s (Some n) none = simp none refl

-- ---- where nothing is said anew

loads_same : (a : State) (m d : ℕ) (value : Option ℕ) → (is_some value && is_in a.world.phase Marking) ≡ false
    → Loads a m d value (value_reply value) (ticked (on_heap a (with_slot a.world.heap m d value)))
loads_same a m d None same = (refl, refl)
loads_same a m d (Some n) same = simp same (refl, refl)

loads_plain : (a : State) (m d s i : ℕ) (value : Option ℕ) → (is_some value && is_in a.world.phase Marking) ≡ false
    → says_anew a (plain.Load m d s i) (value_reply value) ≡ false
loads_plain a m d s i None same = grind arith
loads_plain a m d s i (Some n) same = simp same refl

-- a load of a mark that answers an object may say that none is left
row_anew : (p : Profile) (a : State) (m d s i n : ℕ)
    → field_in a.world.heap (slot_at a.world.heap m s) i ≡ Some n → is_in a.world.phase Marking ≡ true
    → let g = with_slot a.world.heap m d (Some n) in
    PlainAcceptsAs p a (plain.Load m d s i) (replies.Object n)
    (moved_to a g (ticked (on_heap a g)).moments false)
row_anew p a m d s i n value now =
    let step : PlainStep = plain.Load m d s i in
    let reply : Reply = replies.Object n in
    let c : State = on_heap a (with_slot a.world.heap m d (Some n)) in
    let b : State = moved_to a c.world.heap (ticked c).moments false in
    let none : IsBut (ticked c) b = (
      false,
      ap (λ (s : State). record s { left = false }) (sym (ticked_moved a c.world.heap)),
      λ said. absurd (false≢true said),
    ) in
    let accepts : PlainAccepts a step reply b =
    subst (λ (v : Option ℕ). Loads a m d v reply b) (sym value)
    (subst (λ (anew : Bool). GivesAnewIf anew reply c reply b) (sym now) (refl, none)) in
    subst (λ (anew : Bool). AcceptsAnew p anew a step reply b)
    (sym (let anew : (is_in a.world.phase Marking && true) ≡ true = simp now refl in anew))
    (b, accepts, (false, refl, λ said. absurd (false≢true said)))

module _ (old : Judged) (m d s i : ℕ) (none : load_refusal old.ground.heap m d s i ≡ None) where
  pub loads : (value : Option ℕ) → value ≡ field_in old.ground.heap (slot_at old.ground.heap m s) i
      → (is_some value && is_in old.phase Marking) ≡ false
      → DoesAs old (Plain (plain.Load m d s i)) (Ok (value_reply value))
      (judging old (with_slot old.ground.heap m d value))
  loads value is same =
      mutator_does old (with_slot old.ground.heap m d value) (plain.Load m d s i) (value_reply value) tt tt (λ a. none)
      (λ a stands.
      let as_before = subst (λ (p : Phase). (is_some value && is_in p Marking) ≡ false) stands.phase same in
      record {
        after = with_slot a.world.heap m d value;
        accepts =
            subst (λ (v : Option ℕ).
            Loads a m d v (value_reply value) (ticked (on_heap a (with_slot a.world.heap m d value))))
            (is ∙ field_in_same old a stands m s i) (loads_same a m d value as_before);
        plain = loads_plain a m d s i value as_before;
        heap = with_slot_same old a stands m d value;
        same = same_slot a.world.heap m d value;
        holds = refl;
      })

  -- ---- where it is said anew

  abbrev pub with_said : Heap → Bool → Judged
  with_said h left = record (judging old h) { may_be_left = left; may_be_none = true }

  abbrev pub left_with : Heap → Bool
  left_with h =
      nat_lt (old.ground.next + old.scanned + unmarked_if old.profile.keeps_more (judging old h).ground)
      (length h.objects + old.born)

  pub loads_anew : (n : ℕ) → field_in old.ground.heap (slot_at old.ground.heap m s) i ≡ Some n
      → is_in old.phase Marking ≡ true
      → let h = with_slot old.ground.heap m d (Some n) in
      DoesAs old (Plain (plain.Load m d s i)) (Ok (replies.Object n)) (with_said h (left_with h))
  loads_anew n is marks = (refl, refl, leads)
    where
      leads : (a : State) → StandsFor old a
          → let h = with_slot old.ground.heap m d (Some n) in
          LeadsOne old (Plain (plain.Load m d s i)) (Ok (replies.Object n)) (with_said h (left_with h)) a
      leads a stands =
          let step : PlainStep = plain.Load m d s i in
          let h : Heap = with_slot old.ground.heap m d (Some n) in
          let g : Heap = with_slot a.world.heap m d (Some n) in
          let moments : List Graph = (ticked (on_heap a g)).moments in
          let b : State = moved_to a g moments false in
          let now : is_in a.world.phase Marking ≡ true =
          subst (λ (p : Phase). is_in p Marking ≡ true) stands.phase marks in
          let passes : plain_refusal a step ≡ None = sym (refusal_same old a stands step tt) ∙ none in
          let value : field_in a.world.heap (slot_at a.world.heap m s) i ≡ Some n =
          sym (field_in_same old a stands m s i) ∙ is in
          let row : IsRowAs old.profile a (plain_row step (replies.Object n)) b =
          accepted_plain_as old.profile a b step (replies.Object n) passes
          (row_anew old.profile a m d s i n value now) in
          let stands_now : StandsFor (judging old h) b =
          stands_moved old a stands h g moments false (same_slot a.world.heap m d (Some n))
          (with_slot_same old a stands m d (Some n)) refl (plain_row step (replies.Object n)) tt row in
          let stands_said : StandsFor (with_said h (left_with h)) b = assumption stands_now in
          leads_anew old (with_said h (left_with h)) a b (Plain step) (Ok (replies.Object n)) row stands_said
          (simp now refl) refl (left_decides (with_said h (left_with h)) b stands_said marks)

-- ---- what the objects are once they loaded

-- the objects answered this value, and are these
pub record Loaded (old : Judged) (m d s i : ℕ) (value : Option ℕ) (ground : Ground) : Type 0 where
  pub refused : load_refusal old.ground.heap m d s i ≡ None
  pub answer : value ≡ field_in old.ground.heap (slot_at old.ground.heap m s) i
  pub after :
      let held = field_in old.ground.heap (slot_at old.ground.heap m s) i in
      ground ≡ ground_with_heap (ground_brought old.ground held) (with_slot old.ground.heap m d held)

module _ (old : Judged) (settled : IsSettled old) (m d s i : ℕ) (value : Option ℕ) (ground : Ground)
    (loaded : Loaded old m d s i value ground) where
  -- nothing is still to move
  ground_is : ground ≡ (judging old (with_slot old.ground.heap m d value)).ground
  ground_is =
      let held = field_in old.ground.heap (slot_at old.ground.heap m s) i in
      loaded.after
      ∙ ap (λ (space : Space). record old.ground { space = space; heap = with_slot old.ground.heap m d held })
      (brought_none old.ground.space held settled.none_to_move)
      ∙ ap (λ (v : Option ℕ). (judging old (with_slot old.ground.heap m d v)).ground) (sym loaded.answer)

  pub loads_to : (is_some value && is_in old.phase Marking) ≡ false
      → DoesAs old (Plain (plain.Load m d s i)) (Ok (value_reply value)) (record old { ground = ground })
  loads_to same = rw ground_is (loads old m d s i loaded.refused value loaded.answer same)

  pub loads_anew_to : (left : Bool)
      → left ≡ nat_lt (ground.next + old.scanned + unmarked_if old.profile.keeps_more ground)
      (length ground.heap.objects + old.born)
      → (is_some value && is_in old.phase Marking) ≡ true
      → DoesAs old (Plain (plain.Load m d s i)) (Ok (value_reply value))
      (record old { ground = ground; may_be_left = left; may_be_none = true })
  loads_anew_to left counts anew = of_value value refl
    where
      still : (v : Option ℕ) → value ≡ v → (is_some v && is_in old.phase Marking) ≡ true
      still v it = subst (λ (v : Option ℕ). (is_some v && is_in old.phase Marking) ≡ true) it anew

      of_value : (v : Option ℕ) → value ≡ v
          → DoesAs old (Plain (plain.Load m d s i)) (Ok (value_reply value))
          (record old { ground = ground; may_be_left = left; may_be_none = true })
      of_value None it = absurd (false≢true (still None it))
      of_value (Some n) it =
          rw (counts, ground_is, it)
          (loads_anew old m d s i loaded.refused n (sym loaded.answer ∙ it) (still (Some n) it))

  -- the invariant holds again, whatever is said of what is left
  pub loaded_sound : (left none : Bool) → (is_in old.phase Marking ≡ true → (left || none) ≡ true) → IsOfSomeState old
      → DoesAs old (Plain (plain.Load m d s i)) (Ok (value_reply value))
      (record old { ground = ground; may_be_left = left; may_be_none = none })
      → IsOfSomeState (record old { ground = ground; may_be_left = left; may_be_none = none })
  loaded_sound left none said sound does =
      let new : Judged = record old { ground = ground; may_be_left = left; may_be_none = none } in
      let leads = does.2 sound.state sound.stands in
      sound_after old new (Plain (plain.Load m d s i)) (Ok (value_reply value)) refl sound does
      (settled_so (ap (λ (g : Ground). g.heap.config) (sym ground_is) ∙ config_same new leads.state leads.stands))
    where
      settled_so : old.ground.heap.config ≡ old.config
          → IsSettled (record old { ground = ground; may_be_left = left; may_be_none = none })
      settled_so config = rw ground_is (assumption (settled, config, said))
