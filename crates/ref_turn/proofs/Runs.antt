-- What a turn adds to the history.
use Rattle.ref_turn.proofs.Common.{arith, ◌≡◌, [], ◌∷◌, ◌++◌, sym, ap, ◌∙◌, subst, Some, same_Some, Option, rest, Entry}
use Rattle.ref_turn.proofs.Common.{View, calls_by, Reaches, entry, Extends, IsHistory}
use Rattle.std.proofs.Common.{ℕ, List, None}
use Rattle.ref_turn.specs.Turns.{HoldsMachine, HoldsTurn}
use Rattle.ref_turn.proofs.Logs.{calls_by-own, reaches-snoc}

module _ {M : Type 0} where
  first_held : List (ℕ × Option M) → Option M
  first_held [] = None
  first_held (c ∷ cs) = c.1

  one_held : (cs : List (ℕ × Option M)) (x : Option M) (m n : M) → cs ≡ (0, Some m) ∷ [] → cs ≡ (0, x) ∷ rest cs
      → x ≡ Some n → m ≡ n
  unfolding first_held
  one_held cs x m n carries has is = same_Some m n (ap first_held (sym carries ∙ has) ∙ is)

module _ {M X S R : Type 0} (stands_for : M → X → Type 0) (steps_to : X → S → R → X → Type 0) where
  -- the machine that was applied is in a state after its entry
  pub reached : (acts : M → S → R → M → Type 0)
      → ((m n : M) (s : S) (r : R) → acts m s r n → (x : X) → stands_for m x
      → (y : X) × steps_to x s r y × stands_for n y)
      → (v : View M S R) (cs : List (ℕ × Option M)) (x : Option M) (m n : M) (asked s : S) (r : R)
      → HoldsTurn stands_for steps_to (v, cs) → cs ≡ (0, x) ∷ rest cs → x ≡ Some m → asked ≡ s → acts m s r n
      → (k : M)
      × HoldsMachine (v, (0, Some n) ∷ rest cs) k
      × Reaches stands_for steps_to v.start (v.seen ++ entry v.number asked r ∷ []) k
  reached acts follows v cs x m n asked s r turn has is says did =
      let held = turn.1 in let carries = held.1.1 in
      let before : Reaches stands_for steps_to v.start v.seen m =
      subst (λ k. Reaches stands_for steps_to v.start v.seen k) (one_held cs x held.0 m carries has is) held.2 in
      let did' : acts m asked r n = subst (λ z. acts m z r n) (sym says) did in (
        n,
        (held.1.0, ap (λ l. (0, Some n) ∷ rest l) carries),
        reaches-snoc stands_for steps_to v.start v.seen m n (entry v.number asked r) (follows m n asked r did') before,
      )

  -- after its turn the seat has a legal history, with its own calls
  pub ran : (v w : View M S R) (e : Entry S R) (m : M) → e.by ≡ v.number → calls_by v.number v.seen ≡ v.mine
      → Reaches stands_for steps_to v.start (v.seen ++ e ∷ []) m → Extends v e w → w.seen ≡ v.seen ++ e ∷ []
      → IsHistory stands_for steps_to w
  ran v w e m own mine reaches extends seen = grind (arith, calls_by-own)
