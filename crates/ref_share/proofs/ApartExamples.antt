-- Which histories keep reference 2 apart, and which don't: it refers to object 1, and has the job 30.
use Rattle.ref_share.proofs.Common.{arith, ◌≡◌, ◌≢◌, ℕ, zero, suc, ◌+◌, false, List, [], ◌∷◌, Option, Some, None, Ok}
use Rattle.ref_share.proofs.Common.{refl}
use Rattle.ref_share.proofs.Common.{slice_index_or, Config, HoldName, entry, HeapEntry, CleanEntry}
use Rattle.ref_share.proofs.Common.{makes_phantom, heap_replayed}
use Rattle.ref_share.proofs.Common.{AllByRecursion, NamedStep, cases_Bool, false≢true, ap, inl, inr, sym, true, ◌++◌}
use Rattle.ref_share.proofs.Common.{◌==◌}
use Rattle.ref_share.proofs.Common.{◌∙◌, Bool}
use Rattle.std.proofs.Common.{◌*◌, ◌||◌}
use Rattle.std.proofs.lemmas.Bool.{or_left, or_right}
use Rattle.ref_base.specs.Graphs.{Object}
use Rattle.ref_base.specs.Members.{has}
use Rattle.ref_base.specs.Paths.{any_referent, present, targets_at, targets_of}
use Rattle.ref_base.specs.declared.cause.Cause.TheVariants.{Own}
use Rattle.ref_base.proofs.WorkedTraces.{config_of}
use Rattle.ref_share.specs.ApartHistories.{IsApart, IsOfDeath, AreOfOneApart, PutInNoSlot, RegisterOwn}
use Rattle.ref_share.specs.ApartHistories.{AdoptNone, OthersLeave, IsNowhere, IsKeptApart, WasFoundDead}
use Rattle.ref_base.specs.declared.heap_step.HeapStep.TheVariants as heap
use Rattle.ref_base.specs.declared.plain_step.PlainStep.TheVariants as plain
use Rattle.ref_base.specs.declared.reply.Reply.TheVariants as told
use Rattle.ref_world.specs.declared.heap_machine.HeapReply.TheVariants as replies
use Rattle.ref_share.specs.declared.clean_machine.CleanStep.TheVariants as steps
use Rattle.ref_share.specs.declared.clean_machine.CleanReply.TheVariants as answers

abbrev config : Config
config = config_of 1

abbrev hold : HoldName
hold = record { heap_no = 7; object = 2 }

abbrev object_made : HeapEntry
object_made = entry 0 (heap.Plain (plain.New 0 1 0)) (replies.Told (told.Object 1))

abbrev made : HeapEntry
made = entry 0 (heap.Plain (makes_phantom 0 0 1 2)) (replies.Told (told.Object 2))

abbrev held : HeapEntry
held = entry 0 (heap.Hold 0 2) (replies.Held hold)

abbrev dropped : HeapEntry
dropped = entry 0 (heap.Plain (plain.Drop 0 2)) (replies.Told told.Done)

abbrev adopted : HeapEntry
adopted = entry 0 (heap.Adopt 0 3 hold) (replies.Told (told.Object 2))

-- ---- apart

-- what is in no slot of a list is in none by number
in_none : (slots : List (Option ℕ)) (n i : ℕ) → has (present slots) n ≡ false → slice_index_or slots i None ≢ Some n
in_none [] n i lacks is = cc
in_none (None ∷ slots) n zero lacks is = cc
in_none (None ∷ slots) n (suc i) lacks is = in_none slots n i lacks is
in_none (Some k ∷ slots) n zero lacks is = grind arith
in_none (Some k ∷ slots) n (suc i) lacks is = grind (arith, in_none slots n i)

it_is_apart : IsApart config 7 (object_made ∷ made ∷ held ∷ dropped ∷ []) 2
it_is_apart = record {
  in_no_slot = λ m s.
      in_none (heap_replayed config 7 (object_made ∷ made ∷ held ∷ dropped ∷ [])).heap.slots 2 (16 * m + s) refl;
  held_once = refl;
}

still_in_its_slot : ¬ (IsApart config 7 (object_made ∷ made ∷ held ∷ []) 2)
still_in_its_slot is = is.in_no_slot 0 2 refl

held_twice : ¬ (IsApart config 7 (object_made ∷ made ∷ held ∷ held ∷ dropped ∷ []) 2)
held_twice is = absurd (omega (arith, is.held_once))

it_was_registered_apart : AreOfOneApart 0 0 1 2 2 (object_made ∷ made ∷ held ∷ dropped ∷ [])
it_was_registered_apart = record {
  before = object_made ∷ [];
  between = [];
  behind = [];
  by = 0;
  hold = hold;
  of_it = refl;
  calls_are = refl;
  others = ((((λ is. grind arith), tt), (refl, tt)), (tt, tt), (tt, tt));
}

another_put_it_into_a_slot : ¬ (PutInNoSlot 2 (object_made ∷ adopted ∷ []))
another_put_it_into_a_slot others = others.1.0 refl

none_put_it_into_a_slot : PutInNoSlot 2 (object_made ∷ dropped ∷ [])
none_put_it_into_a_slot = ((λ is. grind arith), ((λ is. absurd cc), tt))

-- ---- kept apart, and told by steps

-- where no object of a list refers to n, none by number does
none_refers : (os : List Object) (n : ℕ) → AllByRecursion (λ o. has (targets_of any_referent (Some o)) n ≡ false) os
    → (m : ℕ) → has (targets_at any_referent os m) n ≡ false
none_refers [] n all m = refl
none_refers (o ∷ os) n all m =
    elim (cases_Bool (o.no == m)) [
      | inl same ↦ simp same all.0
      | inr other ↦ simp other (none_refers os n all.1 m)
    ]

it_is_kept_apart : IsKeptApart config 7 (object_made ∷ made ∷ held ∷ dropped ∷ []) 2
it_is_kept_apart = record {
  is_made = refl;
  nowhere = record {
    in_no_slot = it_is_apart.in_no_slot;
    in_no_object = none_refers (heap_replayed config 7 (object_made ∷ made ∷ held ∷ dropped ∷ [])).heap.objects 2
        (refl, (refl, tt));
  };
  once_or_dead = λ twice. absurd (omega (arith, twice));
}

-- an object with a field, which then holds the reference
abbrev with_a_field : HeapEntry
with_a_field = entry 0 (heap.Plain (plain.New 0 1 1)) (replies.Told (told.Object 1))

abbrev stored : HeapEntry
stored = entry 0 (heap.Plain (plain.Store 0 1 0 2)) (replies.Told told.Done)

it_is_in_an_object : ¬ (IsNowhere config 7 (with_a_field ∷ made ∷ held ∷ stored ∷ dropped ∷ []) 2)
it_is_in_an_object is = false≢true (sym (is.in_no_object 1))

-- whether one of the calls ends a mark
abbrev is_end : NamedStep → Bool
is_end (heap.Plain plain.EndMark) = true
is_end step = false

abbrev ends_a_mark : List HeapEntry → Bool
ends_a_mark [] = false
ends_a_mark (call ∷ calls) = is_end call.step || ends_a_mark calls

there_is_an_end : (before behind : List HeapEntry) (end : HeapEntry) → is_end end.step ≡ true
    → ends_a_mark (before ++ end ∷ behind) ≡ true
there_is_an_end [] behind end is = or_left (is_end end.step) (ends_a_mark behind) is
there_is_an_end (call ∷ before) behind end is =
    or_right (is_end call.step) (ends_a_mark (before ++ end ∷ behind)) (there_is_an_end before behind end is)

no_mark_ended : ¬ (WasFoundDead config 7 (object_made ∷ made ∷ held ∷ held ∷ dropped ∷ []) 2)
no_mark_ended dead =
    let end = dead.1 in
    false≢true (sym (ap ends_a_mark end.is_earlier) ∙ there_is_an_end end.before end.behind _ refl)

a_live_one_is_held_twice : ¬ (IsKeptApart config 7 (object_made ∷ made ∷ held ∷ held ∷ dropped ∷ []) 2)
a_live_one_is_held_twice is = no_mark_ended (is.once_or_dead (omega arith))

none_adopts_it : AdoptNone 2 (object_made ∷ held ∷ dropped ∷ [])
none_adopts_it = ((λ is. absurd cc), ((λ is. absurd cc), ((λ is. absurd cc), tt)))

another_adopts_it : ¬ (AdoptNone 2 (object_made ∷ adopted ∷ []))
another_adopts_it none = none.1.0 refl

-- seat 0 uses mutator 0, and seat 1 another
the_other_uses_its_own : OthersLeave 0 0 (made ∷ entry 1 (heap.Plain (plain.Drop 1 2)) (replies.Told told.Done) ∷ [])
the_other_uses_its_own = ((λ other. absurd (other refl)), ((λ other is. absurd cc), tt))

the_other_uses_the_same : ¬ (OthersLeave 0 0
    (made ∷ entry 1 (heap.Plain (plain.Drop 0 2)) (replies.Told told.Done) ∷ []))
the_other_uses_the_same leave = leave.1.0 (λ is. absurd (omega (arith, is))) refl

-- ---- of a death

enqueued_by_hand : (calls : List HeapEntry)
    → ¬ (IsOfDeath config 7 calls (record { hold = hold; queue = 0; cause = Own }))
enqueued_by_hand calls is = let other = is.2 in absurd cc

-- ---- a cleaner's jobs

abbrev registered : ℕ → CleanEntry ℕ
registered n = entry 0 (steps.Register n hold 30) (answers.Registered (Ok tt))

it_has_its_own_hold : RegisterOwn (registered 2 ∷ [])
it_has_its_own_hold = (refl, tt)

it_has_anothers_hold : ¬ (RegisterOwn (registered 3 ∷ []))
it_has_anothers_hold is = absurd (omega (arith, is.0))
