-- What a collector of a profile may keep is what the abstract one keeps under another policy. So in a mark its rows
-- over the heap are rows of the abstract collector under that policy, and what is known there is known of it.
use Rattle.ref_base.proofs.Common.{arith, ◌≡◌, ℕ, ◌-◌, Bool, true, false, ◌&&◌, if◌then◌else◌, List, [], ◌∷◌, take, map}
use Rattle.ref_base.proofs.Common.{Option, Some, None, refl, sym, ap, ◌∙◌, subst, inl, inr, cases_Bool, false≢true}
use Rattle.ref_base.proofs.Common.{Graph, Reference, is_kept, is_soft, EverKept, NamedStep, State, World, Notice}
use Rattle.ref_base.proofs.Common.{ticked, is_in, on_heap, with_world, with_slot, with_hold, slot_at, got, cut, Gives}
use Rattle.ref_base.proofs.Common.{GivesAnewIf, IsLeft, Loads, Gets, Unhooks, Holds, Scans, HeapAccepts, handed_each}
use Rattle.ref_base.proofs.Common.{notice_from, pending_of, batch_of, one_handed, all_handed, Pending, HandsOn}
use Rattle.ref_base.proofs.Common.{handed_on, value_reply}
use Rattle.std.specs.Prelude.{nat_le}
use Rattle.ref_base.specs.Paths.{soft_referents}
use Rattle.ref_base.proofs.ReplayKeeps.{each_keeps}
use Rattle.ref_base.specs.CollectorRows.{PlainAccepts}
use Rattle.ref_base.proofs.PathLaws.{ends-wider}
use Rattle.ref_base.proofs.Outcomes.{outcome}
use Rattle.ref_base.proofs.Fitting.{saying, with_scanned}
use Rattle.ref_base.specs.declared.policy.Policy.{Policy}
use Rattle.ref_base.specs.declared.phase.Phase.TheVariants.{Marking}
use Rattle.ref_base.specs.declared.cause.Cause.TheVariants.{Own}
use Rattle.ref_base.specs.declared.heap_step.HeapStep.TheVariants as heap
use Rattle.ref_base.specs.declared.plain_step.PlainStep.{PlainStep}
use Rattle.ref_base.specs.declared.plain_step.PlainStep.TheVariants as plain
use Rattle.ref_base.specs.declared.reply.Reply.{Reply}
use Rattle.ref_base.specs.declared.reply.Reply.TheVariants as replies
use Rattle.ref_judge.specs.KeptBounds.{EverEnds, MayBeKept, may_keep}
use Rattle.ref_judge.specs.ProfiledRows.{IsLeftAs, says_anew, AcceptsAnew, ScansAs, PlainAcceptsAs}
pub use Rattle.ref_judge.specs.Policies.{soft_policy, policy_as, profiled}
use Rattle.ref_judge.specs.declared.profile.Profile.{Profile}
use Rattle.ref_judge.proofs.FittingRows.{ticked_as_said}

-- ---- what is kept

-- under it a soft reference is as young as may be
soft_kept : (r : Reference) → is_kept soft_policy r ≡ is_soft r.strength
soft_kept r = always (is_soft r.strength) (nat_le (0 - r.stamp) 0) (none r.stamp)
  where
    always : (soft young : Bool) → young ≡ true → (soft && (true && young)) ≡ soft
    always true true is = refl
    always false true is = refl
    always soft false is = absurd (false≢true is)

    none : (n : ℕ) → nat_le (0 - n) 0 ≡ true
    none n = grind arith

pub kept_under : (p : Profile) (policy : Policy) (r : Reference)
    → is_kept (policy_as p policy) r ≡ may_keep p policy r
kept_under p policy r = of_word p.soft_free
  where
    of_word : (free : Bool)
        → is_kept (if free then soft_policy else policy) r ≡ (if free then soft_referents else is_kept policy) r
    of_word true = soft_kept r
    of_word false = refl

-- what was ever kept under it may be kept
pub ever_under : (p : Profile) (policy : Policy) (gs : List Graph) (n : ℕ) → EverKept (policy_as p policy) gs n
    → EverEnds (may_keep p policy) gs n
ever_under p policy [] n ends = ends
ever_under p policy (g ∷ gs) n (inl here) =
    inl (ends-wider (is_kept (policy_as p policy)) (may_keep p policy) (λ r is. sym (kept_under p policy r) ∙ is) g n
    here)
ever_under p policy (g ∷ gs) n (inr later) = inr (ever_under p policy gs n later)

-- and what may be kept was ever kept under it
pub under_ever : (p : Profile) (policy : Policy) (gs : List Graph) (n : ℕ) → EverEnds (may_keep p policy) gs n
    → EverKept (policy_as p policy) gs n
under_ever p policy [] n ends = ends
under_ever p policy (g ∷ gs) n (inl here) =
    inl (ends-wider (may_keep p policy) (is_kept (policy_as p policy)) (λ r is. kept_under p policy r ∙ is) g n here)
under_ever p policy (g ∷ gs) n (inr later) = inr (under_ever p policy gs n later)

-- ---- rows of a heap

-- the step is a mutator's
abbrev pub IsMutators : PlainStep → Type 0
IsMutators (plain.New m d k) = Unit {0}
IsMutators (plain.Refer m strength d s q k) = Unit {0}
IsMutators (plain.Store m s i v) = Unit {0}
IsMutators (plain.Load m d s i) = Unit {0}
IsMutators (plain.Copy m d s) = Unit {0}
IsMutators (plain.Drop m s) = Unit {0}
IsMutators (plain.Get m d s) = Unit {0}
IsMutators (plain.Clear m s) = Unit {0}
IsMutators (plain.RefersTo m s v) = Unit {0}
IsMutators step = ⊥

-- the step hands something over
abbrev pub HandsOver : NamedStep → Type 0
HandsOver (heap.Plain step) = ⊥
HandsOver step = Unit {0}

-- a moment more of a mark, and the policy, in either order
under_ticked : (p : Profile) (c : State) → profiled p (ticked c) ≡ ticked (profiled p c)
under_ticked p c =
    elim (cases_Bool (is_in c.world.phase Marking)) [ inl marks ↦ simp marks refl | inr other ↦ simp other refl ]

under_said : (p : Profile) (c : State) → profiled p (ticked c) ≡ saying (ticked (profiled p c)) false
under_said p c =
    elim (cases_Bool (is_in c.world.phase Marking)) [ inl marks ↦ simp marks refl | inr other ↦ simp other refl ]

-- the policy is no part of what hands do
each_under : (policy : Policy) (k : ℕ) (notices : List Notice) (w : World)
    → record (handed_each w k notices) { policy = policy } ≡ handed_each (record w { policy = policy }) k notices
each_under policy k [] w = refl
each_under policy k (notice ∷ rest) w = each_under policy k rest (handed_on w k notice.object)

module _ (p : Profile) (a b : State) where
  -- one answer
  gives_under : (c : State) (answer reply : Reply) → Gives answer c reply b
      → Gives answer (profiled p c) reply (profiled p b)
  gives_under c answer reply row = (row.0, ap (profiled p) row.1 ∙ under_ticked p c)

  -- an answer that may say something anew says that none is left
  anew_under : (c : State) (marks : Bool) (answer reply : Reply) → GivesAnewIf marks answer c reply b
      → GivesAnewIf marks answer (profiled p c) reply (profiled p b)
  anew_under c true answer reply row =
      (row.0, (false, ap (profiled p) row.1.1 ∙ under_said p c, λ no. absurd (false≢true no)))
  anew_under c false answer reply row = gives_under c answer reply row

  loads_under : (m d : ℕ) (value : Option ℕ) (reply : Reply) → Loads a m d value reply b
      → Loads (profiled p a) m d value reply (profiled p b)
  loads_under m d None reply row =
      gives_under (on_heap a (with_slot a.world.heap m d None)) replies.Null reply row
  loads_under m d (Some n) reply row =
      anew_under (on_heap a (with_slot a.world.heap m d (Some n))) (is_in a.world.phase Marking) (replies.Object n)
      reply row

  gets_under : (m d s : ℕ) (value : Option ℕ) (reply : Reply) → Gets a m d s value reply b
      → Gets (profiled p a) m d s value reply (profiled p b)
  gets_under m d s None reply row = gives_under (on_heap a (got a.world.heap m d s None)) replies.Null reply row
  gets_under m d s (Some n) reply row =
      anew_under (on_heap a (got a.world.heap m d s (Some n))) (is_in a.world.phase Marking) (replies.Object n) reply
      row

  unhooks_under : (m s : ℕ) (held queue : Option ℕ) (reply : Reply) → Unhooks a m s held queue reply b
      → Unhooks (profiled p a) m s held queue reply (profiled p b)
  unhooks_under m s None queue reply row = gives_under (on_heap a (cut a.world.heap m s)) replies.Nothing reply row
  unhooks_under m s (Some n) None reply row = gives_under (on_heap a (cut a.world.heap m s)) replies.Nothing reply row
  unhooks_under m s (Some n) (Some q) reply row =
      gives_under (on_heap a (with_hold (cut a.world.heap m s) n)) (replies.Notice n q Own) reply row

  holds_under : (held : Option ℕ) (reply : Reply) → Holds a held reply b
      → Holds (profiled p a) held reply (profiled p b)
  holds_under None reply row = absurd row
  holds_under (Some n) reply row = gives_under (on_heap a (with_hold a.world.heap n)) (replies.Object n) reply row

  hands_under : (k : ℕ) (answer : Reply) (some : List Pending) (reply : Reply) → HandsOn a k answer some reply b
      → HandsOn (profiled p a) k answer some reply (profiled p b)
  hands_under k answer some reply row =
      let notices : List Notice = map (notice_from k) some in
      let w : World = handed_each a.world k notices in
      let policy : w.policy ≡ a.world.policy = each_keeps (λ v. v.policy) (λ v j n. refl) a.world k notices in
      let all = gives_under (with_world a w) answer reply row in (
        all.0,
        all.1 ∙ ap (λ (v : World). ticked (record a { world = v; left = false }))
            (ap (λ (q : Policy). record w { policy = policy_as p q }) policy
            ∙ each_under (policy_as p a.world.policy) k (map (notice_from k) some) a.world),
      )

  -- what a step of the abstract collector leaves in a mark, but a scan
  pub plain_under : (step : PlainStep) (reply : Reply) → IsMutators step → PlainAccepts a step reply b
      → PlainAccepts (profiled p a) step reply (profiled p b)
  plain_under (plain.New m d k) reply inside row =
      gives_under (outcome a (heap.Plain (plain.New m d k)) (replies.Object a.next)) (replies.Object a.next) reply row
  plain_under (plain.Refer m strength d s q k) reply inside row =
      gives_under (outcome a (heap.Plain (plain.Refer m strength d s q k)) (replies.Object a.next))
      (replies.Object a.next) reply row
  plain_under (plain.Store m s i v) reply inside row =
      gives_under (outcome a (heap.Plain (plain.Store m s i v)) replies.Done) replies.Done reply row
  plain_under (plain.Load m d s i) reply inside row = loads_under m d _ reply row
  plain_under (plain.Copy m d s) reply inside row =
      gives_under (on_heap a (with_slot a.world.heap m d (slot_at a.world.heap m s)))
      (value_reply (slot_at a.world.heap m s)) reply row
  plain_under (plain.Drop m s) reply inside row =
      gives_under (outcome a (heap.Plain (plain.Drop m s)) replies.Done) replies.Done reply row
  plain_under (plain.Get m d s) reply inside row = gets_under m d s _ reply row
  plain_under (plain.Clear m s) reply inside row =
      gives_under (outcome a (heap.Plain (plain.Clear m s)) replies.Done) replies.Done reply row
  plain_under (plain.RefersTo m s v) reply inside row = gives_under a _ reply row
  plain_under step reply inside row = absurd inside

  -- and a step that hands something over
  pub heap_under : (step : NamedStep) (reply : Reply) → HandsOver step → HeapAccepts a step reply b
      → HeapAccepts (profiled p a) step reply (profiled p b)
  heap_under (heap.Plain step) reply over row = absurd over
  heap_under (heap.Unhook m s) reply over row = unhooks_under m s _ _ reply row
  heap_under (heap.Hold m s) reply over row = holds_under (slot_at a.world.heap m s) reply row
  heap_under (heap.Adopt m d hold) reply over row =
      gives_under (outcome a (heap.Adopt m d hold) (replies.Object hold.object)) (replies.Object hold.object) reply row
  heap_under (heap.Release hold) reply over row =
      gives_under (outcome a (heap.Release hold) replies.Done) replies.Done reply row
  heap_under (heap.Hand k) reply over row =
      hands_under k (one_handed k (take 1 (pending_of a.world k))) (take 1 (pending_of a.world k)) reply row
  heap_under (heap.Hands k max batch) reply over row =
      let some : List Pending = batch_of max (pending_of a.world k) in hands_under k (all_handed k some) some reply row

-- ---- what a collector of the profile leaves

module _ (p : Profile) (a b : State) where
  -- a step of a mutator, whether it says anew that an object is left or not
  anew_accepted : (anew : Bool) (step : PlainStep) (reply : Reply) → IsMutators step → AcceptsAnew p anew a step reply b
      → PlainAccepts (profiled p a) step reply (profiled p b)
  anew_accepted true step reply inside row =
      subst (λ (s : State). PlainAccepts (profiled p a) step reply s) (sym (ap (profiled p) row.2.1))
      (plain_under p a row.0 step reply inside row.1)
  anew_accepted false step reply inside row = plain_under p a b step reply inside row

  pub mutator_under : (step : PlainStep) (reply : Reply) → IsMutators step → PlainAcceptsAs p a step reply b
      → PlainAccepts (profiled p a) step reply (profiled p b)
  mutator_under (plain.Scan k) reply inside row = absurd inside
  mutator_under plain.EndMark reply inside row = absurd inside
  mutator_under step reply inside row = anew_accepted (says_anew a step reply) step reply inside row

  -- what is left for the profile is left under its policy, where no more is kept
  pub left_under : p.keeps_more ≡ false → (n : ℕ) → IsLeftAs p a n → IsLeft (profiled p a) n
  left_under less n left = (kept left.0, left.1, left.2)
    where
      kept : MayBeKept p a n → EverKept (profiled p a).world.policy a.moments n
      kept (inl ever) = under_ever p a.world.policy a.moments n ever
      kept (inr more) = absurd (false≢true (sym less ∙ more.0))

  -- a scan, from the state that says so whether an object is left
  pub scan_under : p.keeps_more ≡ false → (k : ℕ) (reply : Reply) → ScansAs p a k reply b
      → (left : Bool) × Scans (saying (profiled p a) left) k reply (profiled p b)
  scan_under less k (replies.Scanned n) row =
      let c : State = with_scanned a k n in (
        true,
        (
          refl,
          left_under less n row.1,
          (
            false,
            ap (profiled p) row.2.1 ∙ under_said p c
                ∙ ap (λ (s : State). saying s false) (sym (ticked_as_said (profiled p c) true)),
            λ no. absurd (false≢true no),
          ),
        ),
      )
  scan_under less k reply row = (false, (refl, gives_under p a b a replies.Nothing reply row.1))
