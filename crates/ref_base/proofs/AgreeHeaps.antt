-- A row of a heap keeps that the collector has the world of the replay, but for what was swept and for what waits to be
-- cleared: a row that ends no phase, and one that makes an object.
use Rattle.ref_base.proofs.Common.{◌≡◌, ℕ, ◌+◌, ◌<◌, ◌≤◌, Bool, true, false, ◌&&◌, ◌==◌, List, [], ◌∷◌, ◌++◌, take}
use Rattle.ref_base.proofs.Common.{Some, refl, sym, ap, ◌∙◌, subst, arith, and_right, false≢true, eq-eqb, has, Object}
use Rattle.ref_base.proofs.Common.{is_there, numbers, IsRising, if_any, World, NamedStep, after_heap, State, joined}
use Rattle.ref_base.proofs.Common.{is_in, with_world, without, is_waiting, Agrees, Phase, Clearing, Reply}
use Rattle.ref_base.proofs.Common.{length}
use Rattle.std.proofs.lemmas.Bool.{false_from_ne_true}
use Rattle.std.proofs.lemmas.List.{length-append}
use Rattle.ref_base.specs.DoomedSets.{unscanned}
use Rattle.ref_base.proofs.HasLaws.{has-cases}
use Rattle.ref_base.proofs.Outcomes.{settled}
use Rattle.ref_base.proofs.ReplayUnder.{made_number, IsNoLook, IsNoBegin, IsApart, heap_through}
use Rattle.ref_base.proofs.ReplayKeeps.{numbers_of, numbers_same, numbers_after, same_phase, EndsNoPhase, MakesNone}
use Rattle.ref_base.proofs.ReplayKeeps.{FreesNone, same_swept}
use Rattle.ref_base.proofs.Subsequences.{Sub, sub_through, sub_longer}
use Rattle.ref_base.proofs.SeenObjects.{object_at-without, object_at-gone}
use Rattle.ref_base.specs.declared.heap_step.HeapStep.TheVariants as heap
use Rattle.ref_base.specs.declared.plain_step.PlainStep.TheVariants as plain
use Rattle.ref_base.specs.declared.reply.Reply.TheVariants as replies

abbrev pub AreBelow : ℕ → List ℕ → Type 0
AreBelow next ns = (n : ℕ) → has ns n ≡ true → n < next

-- The collector has the replay's world, but for what is gone and what waits; the replay's objects stand in order of
-- number; each number that is there, gone, doomed or cleared is below the next; while references are cleared, those
-- that the mark's end cleared aren't gone; what is doomed is there, in order; and the replay has as many objects more
-- as were swept.
pub record Agreeing (gone : List ℕ) (w : World) (a : State) : Type 0 where
  pub agrees : Agrees gone w a
  pub rising : IsRising (numbers_of w)
  pub below : AreBelow a.next (numbers_of w)
  pub gone_below : AreBelow a.next gone
  pub doomed_below : AreBelow a.next a.doomed
  pub cleared_below : AreBelow a.next a.cleared
  pub cleared_stay : a.world.phase ≡ Clearing → (n : ℕ) → has a.cleared n ≡ true → has gone n ≡ false
  pub listed : Sub a.doomed (numbers_of a.world)
  pub counted : length (numbers_of w) ≡ length (numbers_of a.world) + w.swept

-- what is gone after a row of a heap
abbrev pub gone_after : State → List ℕ → NamedStep → Reply → List ℕ
gone_after a gone (heap.Plain (plain.Sweep k)) (replies.Swept count) = gone ++ take 64 a.doomed
gone_after a gone step reply = gone

-- ---- numbers

pub rising_last : (ns : List ℕ) (n : ℕ) → IsRising ns → AreBelow n ns → IsRising (ns ++ n ∷ [])
rising_last [] n rising below = tt
rising_last (m ∷ []) n rising below = let own : (m == m) ≡ true = eq-eqb m m refl in (below m (simp own refl), tt)
rising_last (m ∷ k ∷ ns) n rising below = grind (arith, rising_last (k ∷ ns) n rising.1)

below_more : (next more : ℕ) (ns : List ℕ) → next ≤ more → AreBelow next ns → AreBelow more ns
below_more next more ns grows below n there = let old = below n there in omega (arith, old, grows)

below_last : (next : ℕ) (ns : List ℕ) → AreBelow next ns → AreBelow (next + 1) (ns ++ next ∷ [])
below_last next ns below n there = grind (arith, has-cases)

-- a number that isn't below isn't there
pub fresh : (next : ℕ) (ns : List ℕ) → AreBelow next ns → has ns next ≡ false
fresh next ns below =
    false_from_ne_true (has ns next) (λ there. let less = below next there in absurd (omega (arith, less)))

pub there-numbers : (os : List Object) (n : ℕ) → is_there os n ≡ true → has (numbers os) n ≡ true
there-numbers [] n there = absurd (false≢true there)
there-numbers (o ∷ os) n there = grind (arith, there-numbers os n)

pub unscanned-there : (os : List Object) (born : ℕ) (scanned : List ℕ) (n : ℕ)
    → has (unscanned os born scanned) n ≡ true → is_there os n ≡ true
unscanned-there [] born scanned n h = absurd (false≢true h)
unscanned-there (o ∷ os) born scanned n h = grind (arith, unscanned-there os born scanned n)

-- what is there still isn't gone
pub there-without : (gone : List ℕ) (os : List Object) (n : ℕ) → is_there (without gone os) n ≡ true
    → (has gone n ≡ false) × (is_there os n ≡ true)
there-without gone os n there = grind (arith, object_at-gone, object_at-without)

-- ---- what waits

-- nothing waits in another phase
pub none_waits : (a : State) (phase : Phase) → a.world.phase ≡ phase → is_in phase Clearing ≡ false
    → is_waiting a ≡ (λ n. false)
none_waits a phase is other = grind arith

pub same_waits : (a : State) (w : World) → w.phase ≡ a.world.phase → is_waiting (with_world a w) ≡ is_waiting a
same_waits a w same =
    ap {B = ℕ → Bool} (λ p n. is_in p Clearing && (has (joined a.found) n && has a.cleared n)) same

pub not_in : (a : State) (phase : Phase) → a.world.phase ≡ phase → is_in phase Clearing ≡ false
    → a.world.phase ≡ Clearing → ⊥
not_in a phase is other clearing = grind arith

module _ (gone : List ℕ) (w : World) (a c : State) (reply : Reply) (is : Agreeing gone w a) where
  -- the worlds agree after a row that is none of a worker's looks, where what waits is the same
  lands : (step : NamedStep) → IsNoLook step → IsNoBegin step
      → IsApart gone (is_waiting a) (made_number step reply) → c.world ≡ after_heap a.world step reply
      → is_waiting c ≡ is_waiting a → Agrees gone (after_heap w step reply) c
  lands step no_end old apart leads same = grind (arith, heap_through)

  -- a row that ends no phase and makes nothing
  pub still : (step : NamedStep) → IsNoLook step → IsNoBegin step → EndsNoPhase step → MakesNone step → FreesNone step
      → IsApart gone (is_waiting a) (made_number step reply)
      → settled c ≡ settled (with_world a (after_heap a.world step reply)) → Agreeing gone (after_heap w step reply) c
  still step no_end old_cycle ends makes frees apart leads =
      let next : a.next ≡ c.next = ap (λ (s : State). s.next) (sym leads) in
      let phase : c.world.phase ≡ a.world.phase =
      ap (λ (s : State). s.world.phase) leads ∙ same_phase a.world step reply ends in
      let old : numbers_of w ≡ numbers_of (after_heap w step reply) = sym (numbers_same w step reply makes) in
      let here : numbers_of a.world ≡ numbers_of c.world =
      sym (ap (λ (s : State). numbers_of s.world) leads ∙ numbers_same a.world step reply makes) in
      record {
        agrees = lands step no_end old_cycle apart (ap (λ (s : State). s.world) leads)
            (ap (λ (s : State). is_waiting s) leads ∙ same_waits a (after_heap a.world step reply)
            (same_phase a.world step reply ends));
        rising = subst IsRising old is.rising;
        below = subst (λ k. AreBelow k (numbers_of (after_heap w step reply))) next
            (subst (AreBelow a.next) old is.below);
        gone_below = subst (λ k. AreBelow k gone) next is.gone_below;
        doomed_below = subst (λ k. AreBelow k c.doomed) next
            (subst (AreBelow a.next) (ap (λ (s : State). s.doomed) (sym leads)) is.doomed_below);
        cleared_below = subst (λ k. AreBelow k c.cleared) next
            (subst (AreBelow a.next) (ap (λ (s : State). s.cleared) (sym leads)) is.cleared_below);
        cleared_stay = λ clearing n cleared.
            is.cleared_stay (sym phase ∙ clearing) n
            (ap (λ (s : State). has s.cleared n) (sym leads) ∙ cleared);
        listed = subst (Sub c.doomed) here
            (subst (λ (d : List ℕ). Sub d (numbers_of a.world)) (ap (λ (s : State). s.doomed) (sym leads)) is.listed);
        counted = ap length (sym old) ∙ is.counted
            ∙ ap (λ (ns : List ℕ). length ns + w.swept) here
            ∙ ap (λ k. length (numbers_of c.world) + k) (sym (same_swept w step reply frees));
      }

  -- a row that makes an object
  pub makes : (step : NamedStep) → IsNoLook step → IsNoBegin step → EndsNoPhase step → FreesNone step
      → made_number step reply ≡ Some a.next
      → settled c ≡ settled (record a { world = after_heap a.world step reply; next = a.next + 1 })
      → Agreeing gone (after_heap w step reply) c
  makes step no_end old_cycle ends frees number leads =
      let next : a.next + 1 ≡ c.next = ap (λ (s : State). s.next) (sym leads) in
      let grows : a.next ≤ c.next = omega (arith, next) in
      let phase : c.world.phase ≡ a.world.phase =
      ap (λ (s : State). s.world.phase) leads ∙ same_phase a.world step reply ends in
      let apart : IsApart gone (is_waiting a) (Some a.next) = (
        fresh a.next gone is.gone_below,
        and_right (is_in a.world.phase Clearing) _
            (and_right (has (joined a.found) a.next) _ (fresh a.next a.cleared is.cleared_below)),
      ) in
      let more : numbers_of w ++ a.next ∷ [] ≡ numbers_of (after_heap w step reply) =
      sym (numbers_after w step reply ∙ ap (λ o. numbers_of w ++ if_any o) number) in
      let here : numbers_of a.world ++ a.next ∷ [] ≡ numbers_of c.world =
      sym (ap (λ (s : State). numbers_of s.world) leads ∙ numbers_after a.world step reply
      ∙ ap (λ o. numbers_of a.world ++ if_any o) number) in
      let swept : w.swept ≡ (after_heap w step reply).swept = sym (same_swept w step reply frees) in
      record {
        agrees = lands step no_end old_cycle (subst (IsApart gone (is_waiting a)) (sym number) apart)
            (ap (λ (s : State). s.world) leads)
            (ap (λ (s : State). is_waiting s) leads ∙ same_waits a (after_heap a.world step reply)
            (same_phase a.world step reply ends));
        rising = subst IsRising more (rising_last (numbers_of w) a.next is.rising is.below);
        below = subst (λ k. AreBelow k (numbers_of (after_heap w step reply))) next
            (subst (AreBelow (a.next + 1)) more (below_last a.next (numbers_of w) is.below));
        gone_below = below_more a.next c.next gone grows is.gone_below;
        doomed_below = below_more a.next c.next c.doomed grows
            (subst (AreBelow a.next) (ap (λ (s : State). s.doomed) (sym leads)) is.doomed_below);
        cleared_below = below_more a.next c.next c.cleared grows
            (subst (AreBelow a.next) (ap (λ (s : State). s.cleared) (sym leads)) is.cleared_below);
        cleared_stay = λ clearing n cleared.
            is.cleared_stay (sym phase ∙ clearing) n
            (ap (λ (s : State). has s.cleared n) (sym leads) ∙ cleared);
        listed = subst (Sub c.doomed) here
            (subst (λ (d : List ℕ). Sub d (numbers_of a.world ++ a.next ∷ []))
            (ap (λ (s : State). s.doomed) (sym leads))
            (sub_through a.doomed (numbers_of a.world) (numbers_of a.world ++ a.next ∷ []) is.listed
            (sub_longer (numbers_of a.world) (a.next ∷ []))));
        counted =
            let left : length (numbers_of w ++ a.next ∷ []) ≡ length (numbers_of w) + 1 =
            length-append (numbers_of w) (a.next ∷ []) in
            let right : length (numbers_of a.world ++ a.next ∷ []) ≡ length (numbers_of a.world) + 1 =
            length-append (numbers_of a.world) (a.next ∷ []) in
            let was = is.counted in
            let one : length (numbers_of w ++ a.next ∷ []) ≡ length (numbers_of a.world ++ a.next ∷ []) + w.swept =
            omega (arith, left, right, was) in
            ap length (sym more) ∙ one ∙ ap (λ (ns : List ℕ). length ns + w.swept) here
            ∙ ap (λ k. length (numbers_of c.world) + k) swept;
      }
