-- A profile that may do what another may has all its legal traces.
use Rattle.ref_base.proofs.Common.{◌≡◌, ℕ, zero, suc, Bool, true, false, List, [], ◌∷◌, inl, inr, refl, sym}
use Rattle.ref_base.proofs.Common.{subst, Option, Some, None, false≢true, and_parts, cases_Bool, arith, Graph}
use Rattle.ref_base.proofs.Common.{Reference, object_at, is_kept, is_soft, soft_referents, State}
use Rattle.ref_base.proofs.Common.{NamedStep, doomed_at, graph_of, take, length, Notice}
use Rattle.std.specs.Prelude.{min, ◌&&◌, ◌-◌, nat_le}
use Rattle.ref_base.specs.KeptPaths.{is_normal}
use Rattle.ref_base.specs.declared.policy.Policy.{Policy}
use Rattle.ref_base.specs.declared.config.Config.{Config}
use Rattle.ref_base.specs.declared.row.Row.{Row}
use Rattle.ref_base.specs.declared.fault.Fault.{Fault}
use Rattle.ref_base.specs.declared.reply.Reply.{Reply}
use Rattle.ref_base.specs.declared.reply.Reply.TheVariants as replies
use Rattle.ref_base.specs.declared.step.Step.{Step}
use Rattle.ref_base.specs.declared.step.Step.TheVariants as steps
use Rattle.ref_base.specs.declared.heap_step.HeapStep.TheVariants as heap
use Rattle.ref_base.specs.declared.plain_step.PlainStep.{PlainStep}
use Rattle.ref_base.specs.declared.plain_step.PlainStep.TheVariants as plain
use Rattle.ref_base.proofs.PathLaws.{ends-wider, targets_of-wider}
use Rattle.ref_judge.specs.KeptBounds.{EverEnds, MayBeKept, MayDoomAs, may_keep, must_keep}
use Rattle.ref_judge.specs.ProfiledRows.{IsLeftAs, IsButAs, says_anew, AcceptsAnew, ScansAs, EndsMarkAs, MayTake}
use Rattle.ref_judge.specs.ProfiledRows.{AreTakenFrom, PlainAcceptsAs, HeapAcceptsAs, QueuesAcceptAs, AcceptsAskingAs}
use Rattle.ref_judge.specs.ProfiledRows.{IsAnswerAs, IsRowAs, IsLegalAs}
use Rattle.ref_judge.specs.declared.order.Order.{Order}
use Rattle.ref_judge.specs.declared.order.Order.TheVariants.{First, Any}
use Rattle.ref_judge.specs.declared.profile.Profile.{Profile}
use Rattle.ref_judge.proofs.Runs.{runs_through}
use Rattle.ref_judge.proofs.StrictRows.{after_scan}

-- what may be kept for p may be for q, what must be kept for q must be for p, and q's queues give what p's may
pub record Loosens (p q : Profile) : Type 0 where
  pub kept : (a : State) (n : ℕ) → MayBeKept p a n → MayBeKept q a n
  pub must : (policy : Policy) (r : Reference) → must_keep q policy r ≡ true → must_keep p policy r ≡ true
  pub takes : (count : ℕ) (stands taken : List Notice) → MayTake p.order count stands taken
      → MayTake q.order count stands taken

module _ (p q : Profile) (looser : Loosens p q) where
  left_looser : (a : State) (n : ℕ) → IsLeftAs p a n → IsLeftAs q a n
  left_looser a n left = (looser.kept a n left.0, left.1, left.2)

  but_looser : (c b : State) → IsButAs p c b → IsButAs q c b
  but_looser c b but = (but.0, but.1, λ said. let one = but.2 said in (one.0, left_looser b one.0 one.1))

  anew_looser : (anew : Bool) (a b : State) (step : PlainStep) (reply : Reply) → AcceptsAnew p anew a step reply b
      → AcceptsAnew q anew a step reply b
  anew_looser true a b step reply row = (row.0, row.1, but_looser row.0 b row.2)
  anew_looser false a b step reply row = row

  scans_looser : (a b : State) (k : ℕ) (reply : Reply) → ScansAs p a k reply b → ScansAs q a k reply b
  scans_looser a b k (replies.Scanned n) row = (row.0, left_looser a n row.1, but_looser (after_scan a k n) b row.2)
  scans_looser a b k reply row = row

  doom_looser : (a : State) (d : List ℕ) → MayDoomAs p a d → MayDoomAs q a d
  doom_looser a d may = record {
    none_kept = λ n doomed ends.
        may.none_kept n doomed
        (ends-wider (must_keep q a.world.policy) (must_keep p a.world.policy) (looser.must a.world.policy)
        (graph_of a.world) n ends);
    never_kept = λ n there never. may.never_kept n there (λ kept. never (looser.kept a n kept));
    closed = λ m n there outside target.
        may.closed m n there outside
        (targets_of-wider (must_keep q a.world.policy) (must_keep p a.world.policy) (looser.must a.world.policy)
        (object_at a.world.heap.objects m) n target);
  }

  ends_looser : (a b : State) (reply : Reply) → EndsMarkAs p a reply b → EndsMarkAs q a reply b
  ends_looser a b reply row = record {
    answer = row.answer;
    may_doom = doom_looser a (doomed_at a) row.may_doom;
    found = row.found;
    are_found = row.are_found;
    all_found = row.all_found;
    after = row.after;
  }

  plain_looser : (a b : State) (step : PlainStep) (reply : Reply) → PlainAcceptsAs p a step reply b
      → PlainAcceptsAs q a step reply b
  plain_looser a b (plain.Scan k) reply row = scans_looser a b k reply row
  plain_looser a b plain.EndMark reply row = ends_looser a b reply row
  plain_looser a b step reply row = anew_looser (says_anew a step reply) a b step reply row

  heap_looser : (a b : State) (step : NamedStep) (reply : Reply) → HeapAcceptsAs p a step reply b
      → HeapAcceptsAs q a step reply b
  heap_looser a b (heap.Plain step) reply row = plain_looser a b step reply row
  heap_looser a b step reply row = row

  queues_looser : (a b : State) (step : Step) (reply : Reply) → QueuesAcceptAs p a step reply b
      → QueuesAcceptAs q a step reply b
  queues_looser a b (steps.Poll m q) reply row = (row.0, looser.takes 1 _ row.0 row.1, row.2)
  queues_looser a b (steps.Polls m q max) reply row = (row.0, looser.takes max _ row.0 row.1, row.2)
  queues_looser a b step reply row = row

  asking_looser : (a b : State) (asked : Option NamedStep) (step : Step) (reply : Reply)
      → AcceptsAskingAs p a asked step reply b → AcceptsAskingAs q a asked step reply b
  asking_looser a b None step reply row = queues_looser a b step reply row
  asking_looser a b (Some asked) step reply row = (row.0, heap_looser a row.0 asked reply row.1, row.2)

  answer_looser : (a b : State) (fault : Option Fault) (step : Step) (reply : Reply)
      → IsAnswerAs p a fault step reply b → IsAnswerAs q a fault step reply b
  answer_looser a b (Some fault) step reply row = row
  answer_looser a b None step reply row = asking_looser a b _ step reply row

  pub traces_looser : (config : Config) (rows : List Row) → IsLegalAs p config rows → IsLegalAs q config rows
  traces_looser config rows legal = (
    legal.0,
    runs_through (IsRowAs p) (IsRowAs q) (λ a row b. answer_looser a b _ row.step row.reply) _ rows _ legal.1,
  )

-- ---- keeping more

more_kept : (p : Profile) (a : State) (n : ℕ) → MayBeKept p a n → MayBeKept (record p { keeps_more = true }) a n
more_kept p a n (inl ever) = inl ever
more_kept p a n (inr there) = inr (refl, there.1)

pub keeping_more : (p : Profile) → Loosens p (record p { keeps_more = true })
keeping_more p = record { kept = more_kept p; must = λ policy r is. is; takes = λ count stands taken may. may }

-- ---- free soft references

may_softly : (p : Profile) (policy : Policy) (r : Reference) → may_keep p policy r ≡ true → soft_referents r ≡ true
may_softly p policy r may =
    elim (cases_Bool p.soft_free) [
      | inl free ↦ simp free at may
      | inr not ↦
          let kept : is_kept policy r ≡ true = simp not at may in
          (and_parts (is_soft r.strength) (is_normal policy.urgency && nat_le (policy.clock - r.stamp) policy.span)
          kept).0
    ]

ever_softly : (p : Profile) (policy : Policy) (gs : List Graph) (n : ℕ) → EverEnds (may_keep p policy) gs n
    → EverEnds soft_referents gs n
ever_softly p policy [] n ends = ends
ever_softly p policy (g ∷ gs) n (inl here) =
    inl (ends-wider (may_keep p policy) soft_referents (may_softly p policy) g n here)
ever_softly p policy (g ∷ gs) n (inr later) = inr (ever_softly p policy gs n later)

softly_kept : (p : Profile) (a : State) (n : ℕ) → MayBeKept p a n → MayBeKept (record p { soft_free = true }) a n
softly_kept p a n (inl ever) = inl (ever_softly p a.world.policy a.moments n ever)
softly_kept p a n (inr there) = inr there

pub free_soft : (p : Profile) → Loosens p (record p { soft_free = true })
free_soft p = record {
  kept = softly_kept p;
  must = λ policy r is. absurd (false≢true is);
  takes = λ count stands taken may. may;
}

-- ---- any order

pub first_taken : (count : ℕ) (stands : List Notice) → AreTakenFrom stands (take count stands)
first_taken zero stands = tt
first_taken (suc count) [] = tt
first_taken (suc count) (notice ∷ rest) = grind (arith, first_taken count rest)

pub any_order : (p : Profile) → p.order ≡ First → Loosens p (record p { order = Any })
any_order p is = record {
  kept = λ a n may. may;
  must = λ policy r must. must;
  takes = λ count stands taken may.
      let first : taken ≡ take count stands = subst (λ (o : Order). MayTake o count stands taken) is may in
      subst (λ ns. (length ns ≡ min count (length stands)) × AreTakenFrom stands ns) (sym first)
      (length_taken count stands, first_taken count stands);
}
  where
    length_taken : (count : ℕ) (stands : List Notice) → length (take count stands) ≡ min count (length stands)
    length_taken zero stands = grind arith
    length_taken (suc count) [] = grind arith
    length_taken (suc count) (notice ∷ rest) = grind (arith, length_taken count rest)
