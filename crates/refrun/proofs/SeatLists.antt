-- The seats of a stress run's threads.
use Rattle.refrun.proofs.Common.{◌≡◌, ℕ, List, [], ◌∷◌, ◌++◌, sym, subst, All, IsSeatedAt, Shared, Task}
use Rattle.std.proofs.lemmas.List.Elements.{All-push}
use denote.Param.Members.{Mut}

module _ (shared : Shared) {X : Type 0} {F : X → Type 0} {g : Mut ((x : X) × F x) (ℕ × Unit {0}) ℕ} where
  -- one more thread that has its seats
  pub seated_more : (old new : List (Task X F g)) (task : Task X F g) → All (IsSeatedAt shared) old
      → IsSeatedAt shared task → new ≡ old ++ task ∷ [] → All (IsSeatedAt shared) new
  seated_more old new task before one more =
      subst (All (IsSeatedAt shared)) (sym more) (All-push (IsSeatedAt shared) old task before one)
