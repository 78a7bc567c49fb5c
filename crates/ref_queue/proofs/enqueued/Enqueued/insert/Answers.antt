use Rattle.std.proofs.Common.{◌≡◌, ◌*◌, ◌%◌, ◌/◌, ◌^◌, ℕ, false, nat_eq, refl, sym, ap, ◌∙◌, subst, Some, None, IsSome}
use Rattle.std.specs.Int.RustNames.{bit_or}
use Rattle.std.specs.Map.{lookup}
use Rattle.ref_base.specs.Members.{has}
use Rattle.ref_queue.specs.NumberBlocks.{word_or_none}
use Rattle.ref_queue.proofs.enqueued.Enqueued.insert.Goals.{in-Some+else-is_set+in_ok-reserve-in-Some}
use Rattle.ref_queue.proofs.enqueued.Enqueued.insert.Goals.{in-None+in_ok-reserve-in-None+in_ok-insert-in-None}
use Rattle.ref_queue.proofs.NumberLemmas.{tells_more, told_by_word, told_by_none}
use Rattle.ref_queue.proofs.enqueued.Enqueued.insert.Goals as goal

pub invariant_of-self-2 : goal.invariant_of-self-2
invariant_of-self-2 g c =
    let n : ℕ = c.number.inside.0 in
    elim c.match-get_mut.branch [
      | in-Some+else-is_set+in_ok-reserve-in-Some w ↦
          let word : ℕ = w.in-Some.word.now in
          let found : lookup (nat_eq (n / 64)) c.self.inside.blocks.entries ≡ Some word = sym w.in-Some.ensures.value in
          let written = c.get_mut.follows.holds (bit_or word (1 * 2 ^ (n % 64) % 2 ^ 64)) in
          let is_new : has c.self.inside.in_order.items n ≡ false =
          sym (told_by_word c.self.invariant n found) ∙ sym w.is_set.ensures ∙ w.if-is_set.false in
          rw (w.self-inside-is, c.push_reserved.ensures.items, ← c.number.view_is)
          (rw (ap (λ s. s.in_order.items) w.self-inside-is, w.reserve.ensures.items)
          (tells_more c.self.invariant n word _ (written.3 (subst IsSome (sym found) refl)).0 (ap word_or_none found)
          is_new))
      | in-None+in_ok-reserve-in-None+in_ok-insert-in-None w ↦
          let none : lookup (nat_eq (n / 64)) c.self.inside.blocks.entries ≡ None = sym w.in-None.ensures.value in
          let written = w.in_ok-insert-in-None.ensures.updates in
          rw (w.self-inside-is, c.push_reserved.ensures.items, ← c.number.view_is)
          (rw (ap (λ s. s.in_order.items) w.self-inside-is, w.reserve-in-None.ensures.items)
          (tells_more c.self.invariant n 0 _ (rw c.get_mut.follows.holds-at-none at written.0) (ap word_or_none none)
          (told_by_none c.self.invariant n none)))
    ]
