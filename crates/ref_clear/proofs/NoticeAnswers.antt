-- What the code of holds and notices asks: when a hold is minted, and that a cut may come behind a hold.
use Rattle.ref_clear.proofs.Common.{arith, ◌≡◌, ℕ, true, refl, Option, Some, None, has, pending_numbers, holds_refusal}
use Rattle.ref_clear.proofs.Common.{State, Fault, mint_refusal, CycleHeap, with_cleared, unless_refused, mint_answer_in}
use Rattle.ref_clear.proofs.Common.{after_mint_in, ground_of, ClearHeap, holding, HeapStands}
use Rattle.ref_clear.proofs.PendingFacts.{pending_is_there, pending_is_not_doomed}
use Rattle.ref_base.specs.declared.reply.Reply.TheVariants as replies

-- what is pending is there, so only the count of holds may refuse a hold of it
pub mint_of_pending : (c : ClearHeap) (a : State) (n : ℕ) → HeapStands c a → has (pending_numbers c.pending) n ≡ true
    → mint_refusal (ground_of c.mark) n ≡ holds_refusal c.mark.heap
mint_of_pending c a n stands waits = grind (arith, pending_is_there, pending_is_not_doomed)

-- and so may a clear
pub clear_holding : (k : CycleHeap) (m s n : ℕ) → with_cleared (holding k n) m s ≡ holding (with_cleared k m s) n
clear_holding k m s n = grind arith

-- ---- mints

refused_by : (r : Option Fault) (k j : CycleHeap) (n : ℕ) (fault : Fault)
    → replies.Refused fault ≡ unless_refused r replies.Refused (replies.Object n)
    → j ≡ unless_refused r (λ fault. k) (holding k n) → (r ≡ Some fault) × (j ≡ k)
refused_by None k j n fault answer after =
    absurd (let wrong : replies.Refused fault ≡ replies.Object n = answer in cc)
refused_by (Some other) k j n fault answer after = search

pub mint_refused : (k : CycleHeap) {j : CycleHeap} (n : ℕ) (fault : Fault)
    → replies.Refused fault ≡ mint_answer_in k n → j ≡ after_mint_in k n
    → (mint_refusal (ground_of k) n ≡ Some fault) × (j ≡ k)
mint_refused k {j} n fault answer after = refused_by (mint_refusal (ground_of k) n) k j n fault answer after

minted_by : (r : Option Fault) (k j : CycleHeap) (n object : ℕ)
    → replies.Object object ≡ unless_refused r replies.Refused (replies.Object n)
    → j ≡ unless_refused r (λ fault. k) (holding k n) → (r ≡ None) × (object ≡ n) × (j ≡ holding k n)
minted_by None k j n object answer after =
    (refl, (let e : replies.Object object ≡ replies.Object n = answer in cc), after)
minted_by (Some fault) k j n object answer after =
    absurd (let wrong : replies.Object object ≡ replies.Refused fault = answer in cc)

pub minted : (k : CycleHeap) {j : CycleHeap} (n object : ℕ)
    → replies.Object object ≡ mint_answer_in k n → j ≡ after_mint_in k n
    → (mint_refusal (ground_of k) n ≡ None) × (object ≡ n) × (j ≡ holding k n)
minted k {j} n object answer after = minted_by (mint_refusal (ground_of k) n) k j n object answer after
