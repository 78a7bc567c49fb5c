-- Notices that a heap gives at once, as a hand holds them.
use Rattle.ref_world.proofs.Common.{◌≡◌, ℕ, List, [], ◌∷◌, ◌++◌, refl, sym, ap, subst, ◌∙◌, slice_set, Notice, Actor}
use Rattle.ref_world.proofs.Common.{Mutator, Worker, None, Hands, hand_in, with_hand_in, received, filling_some_refusal}
use Rattle.std.proofs.Common.{map}
use Rattle.std.proofs.lemmas.List.{set-get_or}
use Rattle.std.specs.List.{AllByRecursion}
use Rattle.ref_base.specs.HeapSteps.{HeldNotice}
use Rattle.ref_clear.specs.ClearCalls.{held_notices}
use Rattle.ref_world.specs.Cores.{as_notice, IsOfWorld}
use Rattle.ref_world.proofs.HandRows.{free_from, free_for_some}

own : (notices : List Notice) → AllByRecursion IsOfWorld (held_notices 0 notices)
own [] = tt
own (notice ∷ rest) = (refl, own rest)

as_held : (notices : List Notice) → map as_notice (held_notices 0 notices) ≡ notices
as_held [] = refl
as_held (notice ∷ rest) = ap (λ ns. notice ∷ ns) (as_held rest)

-- what came into an empty batch from the world's heap
module _ (batch before : List HeldNotice) (heap_no : ℕ) (notices : List Notice) (none : before ≡ [])
    (number : heap_no ≡ 0) (given : batch ≡ before ++ held_notices heap_no notices) where
  is : batch ≡ held_notices 0 notices
  is = given ∙ ap (λ hs. hs ++ held_notices heap_no notices) none ∙ ap (λ no. held_notices no notices) number

  pub given_own : AllByRecursion IsOfWorld batch
  given_own = subst (AllByRecursion IsOfWorld) (sym is) (own notices)

  pub given_notices : map as_notice batch ≡ notices
  given_notices = ap (map as_notice) is ∙ as_held notices

-- a hand that held nothing
pub all_received : (hands : Hands) (who : Actor) (notices : List Notice) → hand_in hands who ≡ []
    → with_hand_in hands who notices ≡ received hands who notices
all_received hands who (notice ∷ rest) free = refl
all_received hands (Mutator m) [] free =
    ap (λ (hs : List (List Notice)). record hands { mutators = hs })
    (ap (λ (h : List Notice). slice_set hands.mutators m h) (sym free) ∙ set-get_or hands.mutators m [])
all_received hands (Worker k) [] free =
    ap (λ (hs : List (List Notice)). record hands { workers = hs })
    (ap (λ (h : List Notice). slice_set hands.workers k h) (sym free) ∙ set-get_or hands.workers k [])

-- a worker's hand, as a call sees it and as its caller does
pub worker_received : {hands now : Hands} {i k : ℕ} {hand told : List Notice} (max : ℕ) → hands ≡ now → i ≡ k
    → hand ≡ told → filling_some_refusal now (Worker k) max ≡ None
    → with_hand_in hands (Worker i) hand ≡ received now (Worker k) told
worker_received {hands} {now} {i} {k} {hand} {told} max seen named is accepted =
    ap (λ (hs : Hands). with_hand_in hs (Worker i) hand) seen
    ∙ ap (λ place. with_hand_in now (Worker place) hand) named
    ∙ ap (λ (ns : List Notice). with_hand_in now (Worker k) ns) is
    ∙ all_received now (Worker k) told (free_from now (Worker k) (free_for_some now (Worker k) max accepted).0)
