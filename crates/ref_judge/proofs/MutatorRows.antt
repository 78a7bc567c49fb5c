-- What a judge does at the rows of mutators that make nothing and say nothing anew.
use Rattle.ref_base.proofs.Common.{arith, ◌≡◌, ℕ, false, refl, ap, ◌∙◌, Option, Some, None, Heap, slot_at, with_slot}
use Rattle.ref_base.proofs.Common.{reference_of}
use Rattle.std.specs.Prelude.{Ok}
use Rattle.ref_base.specs.CollectorRows.{value_reply, is_same, referent_of}
use Rattle.ref_base.specs.Graphs.{Reference}
use Rattle.ref_base.specs.Heaps.{stored, cut, with_field, with_reference, cleared}
use Rattle.ref_base.specs.Refusals.{drop_refusal, copy_refusal, store_refusal, clear_refusal, get_refusal}
use Rattle.ref_base.specs.declared.fault.Fault.{Fault}
use Rattle.ref_base.specs.declared.plain_step.PlainStep.TheVariants as plain
use Rattle.ref_base.specs.declared.reply.Reply.TheVariants as replies
use Rattle.ref_base.specs.declared.step.Step.TheVariants.{Plain}
use Rattle.ref_objects.specs.Grounds.{Ground, read_as}
use Rattle.ref_judge.specs.Judged.{Judged}
use Rattle.ref_judge.specs.Standing.{DoesAs}
use Rattle.ref_judge.proofs.StandingHeaps.{slot_same, with_slot_same, stored_same, cut_same, reference_of_same}
use Rattle.ref_judge.proofs.SameObjects.{same_itself, same_slot, same_stored, same_cut, holds_changed}
use Rattle.ref_judge.proofs.StandingRows.{judging, mutator_does}

module _ (old : Judged) where
  pub drops : (m s : ℕ) → drop_refusal old.ground.heap m s ≡ None
      → DoesAs old (Plain (plain.Drop m s)) (Ok replies.Done) (judging old (with_slot old.ground.heap m s None))
  drops m s none =
      mutator_does old (with_slot old.ground.heap m s None) (plain.Drop m s) replies.Done tt tt (λ a. none)
      (λ a stands.
      record {
        after = with_slot a.world.heap m s None;
        accepts = (refl, refl);
        plain = tt;
        heap = with_slot_same old a stands m s None;
        same = same_slot a.world.heap m s None;
        holds = refl;
      })

  pub copies : (m d s : ℕ) → copy_refusal old.ground.heap m d s ≡ None
      → let value = slot_at old.ground.heap m s in
      DoesAs old (Plain (plain.Copy m d s)) (Ok (value_reply value))
      (judging old (with_slot old.ground.heap m d value))
  copies m d s none =
      let value = slot_at old.ground.heap m s in
      mutator_does old (with_slot old.ground.heap m d value) (plain.Copy m d s) (value_reply value) tt tt (λ a. none)
      (λ a stands.
      record {
        after = with_slot a.world.heap m d (slot_at a.world.heap m s);
        accepts = (ap value_reply (slot_same old a stands m s), refl);
        plain = tt;
        heap =
            ap (λ (v : Option ℕ). with_slot old.ground.heap m d v) (slot_same old a stands m s)
            ∙ with_slot_same old a stands m d (slot_at a.world.heap m s);
        same = same_slot a.world.heap m d (slot_at a.world.heap m s);
        holds = refl;
      })

  pub stores : (m s i v : ℕ) → store_refusal old.ground.heap m s i v ≡ None
      → DoesAs old (Plain (plain.Store m s i v)) (Ok replies.Done) (judging old (stored old.ground.heap m s i v))
  stores m s i v none =
      mutator_does old (stored old.ground.heap m s i v) (plain.Store m s i v) replies.Done tt tt (λ a. none)
      (λ a stands.
      record {
        after = stored a.world.heap m s i v;
        accepts = (refl, refl);
        plain = tt;
        heap = stored_same old a stands m s i v;
        same = same_stored a.world.heap m s i v;
        holds = holds_changed a.world.heap (slot_at a.world.heap m s) (with_field i (slot_at a.world.heap m v));
      })

  pub clears : (m s : ℕ) → clear_refusal old.ground.heap m s ≡ None
      → DoesAs old (Plain (plain.Clear m s)) (Ok replies.Done) (judging old (cut old.ground.heap m s))
  clears m s none =
      mutator_does old (cut old.ground.heap m s) (plain.Clear m s) replies.Done tt tt (λ a. none)
      (λ a stands.
      record {
        after = cut a.world.heap m s;
        accepts = (refl, refl);
        plain = tt;
        heap = cut_same old a stands m s;
        same = same_cut a.world.heap m s;
        holds = holds_changed a.world.heap (slot_at a.world.heap m s) (with_reference cleared);
      })

-- ---- a comparison

-- what isn't hidden is read
pub read_shown : (g : Ground) (value : Option ℕ) → read_as g false value ≡ value
read_shown g None = refl
read_shown g (Some n) = refl

-- it is refused for its other slot, or as a clear is
pub other_refused : (h : Heap) (m s v : ℕ) (fault : Fault) → drop_refusal h m v ≡ Some fault
    → get_refusal h m v s ≡ Some fault
other_refused h m s v fault refused = grind arith

pub compare_refusal : (h : Heap) (m s v : ℕ) → drop_refusal h m v ≡ None
    → get_refusal h m v s ≡ clear_refusal h m s
compare_refusal h m s v none = grind arith

module _ (old : Judged) where
  pub compares : (m s v : ℕ) → drop_refusal old.ground.heap m v ≡ None → clear_refusal old.ground.heap m s ≡ None
      → let h = old.ground.heap in
      DoesAs old (Plain (plain.RefersTo m s v))
      (Ok (replies.Refers (is_same (referent_of (reference_of h (slot_at h m s))) (slot_at h m v)))) old
  compares m s v other none =
      let h = old.ground.heap in
      mutator_does old h (plain.RefersTo m s v)
      (replies.Refers (is_same (referent_of (reference_of h (slot_at h m s))) (slot_at h m v))) tt tt
      (λ a. compare_refusal h m s v other ∙ none)
      (λ a stands.
      record {
        after = a.world.heap;
        accepts = (
          ap (λ (r : Option Reference). replies.Refers (is_same (referent_of r) (slot_at h m v)))
              (reference_of_same old a stands m s)
              ∙ ap (λ (x : Option ℕ).
              replies.Refers (is_same (referent_of (reference_of a.world.heap (slot_at a.world.heap m s))) x))
              (slot_same old a stands m v),
          refl,
        );
        plain = tt;
        heap = stands.heap;
        same = same_itself a.world.heap;
        holds = refl;
      })
