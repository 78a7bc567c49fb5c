-- The sizes of each state to which rows lead are those of its configuration.
use Rattle.ref_base.proofs.Common.{◌≡◌, ℕ, List, [], length, Option, Some, None, refl, ap, ◌∙◌, inl, inr, State, World}
use Rattle.ref_base.proofs.Common.{NamedStep, HeapAccepts, length-set, pended, told_notices, registered_in}
use Rattle.ref_base.proofs.Common.{reference_at, pending_of, without_pending, Pending, length-replicate}
use Rattle.ref_base.specs.declared.config.Config.{Config}
use Rattle.ref_base.specs.declared.reply.Reply.{Reply}
use Rattle.ref_base.specs.declared.reply.Reply.TheVariants as replies
use Rattle.ref_base.specs.declared.heap_step.HeapStep.TheVariants as heap
use Rattle.ref_base.specs.declared.plain_step.PlainStep.TheVariants as plain
use Rattle.ref_base.proofs.OutcomeParts.{heap_config, heap_number}
use Rattle.ref_base.proofs.ReplayKeeps.{each_keeps}
use Rattle.ref_base.proofs.RowChanges.{heap_tells, pending_after}
use Rattle.ref_judge.specs.Standing.{Lawful}
use Rattle.ref_judge.specs.declared.profile.Profile.{Profile}
use Rattle.ref_judge.proofs.LawfulRuns.{lawful_holds}
use Rattle.ref_judge.proofs.LawfulStates.{lawful_turn}
use Rattle.ref_judge.proofs.RowTurns.{IsTurnAs}

-- the configuration and number of the heap, and how many pending lists there are
abbrev identity : State → Config × ℕ × ℕ
identity a = (a.world.heap.config, a.world.heap.no, length a.world.pending)

pended_long : (w : World) (k n : ℕ) (queue : Option ℕ) → length (pended w k n queue).pending ≡ length w.pending
pended_long w k n None = refl
pended_long w k n (Some q) = length-set w.pending k _

pending_long : (w : World) (step : NamedStep) (reply : Reply)
    → length (pending_after w (Some step) reply) ≡ length w.pending
pending_long w (heap.Plain (plain.ClearNext k)) (replies.Cleared n) =
    pended_long w k n (registered_in (reference_at w.heap n))
pending_long w (heap.Hand k) reply =
    each_keeps (λ (v : World). length v.pending)
    (λ v j n. length-set v.pending j (without_pending (pending_of v j) n)) w k (told_notices reply)
pending_long w (heap.Hands k max batch) reply =
    each_keeps (λ (v : World). length v.pending)
    (λ v j n. length-set v.pending j (without_pending (pending_of v j) n)) w k (told_notices reply)
pending_long w step reply = refl

accepted_identity : (a c : State) (step : NamedStep) (reply : Reply) → HeapAccepts a step reply c
    → identity c ≡ identity a
accepted_identity a c step reply row =
    let long : length c.world.pending ≡ length a.world.pending =
    ap (λ (ps : List (List Pending)). length ps) (heap_tells a c step reply row).pending
    ∙ pending_long a.world step reply in
    rw (heap_config a c step reply row, heap_number a c step reply row, long) refl

identity_turn : (p : Profile) (a b : State) (reply : Reply) → IsTurnAs p a reply b → identity b ≡ identity a
identity_turn p a b reply (inl same) = ap identity same
identity_turn p a b reply (inr (inl of)) =
    ap identity of.after ∙ accepted_identity a of.left of.step reply of.accepts
identity_turn p a b reply (inr (inr (inl of))) = ap identity of.after
identity_turn p a b reply (inr (inr (inr of))) = ap identity of.after ∙ ap identity of.ends.after

pub lawful_identity : (p : Profile) (config : Config) (a : State) → Lawful p config a
    → (a.world.heap.config ≡ config) × (a.world.heap.no ≡ 0) × (length a.world.pending ≡ config.workers)
lawful_identity p config a lawful = parts (all a lawful)
  where
    all : (a : State) → Lawful p config a → identity a ≡ (config, 0, config.workers)
    all =
        lawful_holds p config (λ a. identity a ≡ (config, 0, config.workers))
        (rw (length-replicate {A = List Pending} config.workers []) refl)
        (λ a b row lawful is h.
        identity_turn p a b row.reply (lawful_turn p config a b row lawful h) ∙ is)

    parts : identity a ≡ (config, 0, config.workers)
        → (a.world.heap.config ≡ config) × (a.world.heap.no ≡ 0) × (length a.world.pending ≡ config.workers)
    parts is = (ap (λ i. i.0) is, ap (λ i. i.1) is, ap (λ i. i.2) is)
