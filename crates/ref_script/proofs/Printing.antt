-- What a formatter prints into.
use Rattle.ref_script.proofs.Common.{◌≡◌, ℕ, List, ◌++◌, refl, Ok, Err}
use Rattle.std.proofs.lemmas.Fmt.{contents_after_writes}
use Rattle.std.specs.declared.fmt.Formatter.{Formatter}
use Rattle.std.specs.Fmt.{HasWritten, IsPlainFormatter, formatter_writer}
use Rattle.std.specs.Result.{IsOk, OnOk}
use Rattle.std.specs.Prelude.{Result}

module _ {W : Type 0} {took : W → List ℕ → W → Type 0} (contents : W → List ℕ)
    (appends : (w : W) (bs : List ℕ) (v : W) → took w bs v → contents v ≡ contents w ++ bs) where
  -- what it has written stands behind what stood there
  pub stands_behind : {f g : Formatter W} {bs : List ℕ} → HasWritten took f bs g
      → (contents (formatter_writer g) ≡ contents (formatter_writer f) ++ bs) × IsPlainFormatter g
  stands_behind wrote = (contents_after_writes took contents appends _ _ _ wrote.wrote, wrote.plain)

  -- where it was done
  pub if_done : {E : Type 0} {f g : Formatter W} {bs : List ℕ} (r : Result (Unit {0}) E) → IsPlainFormatter f
      → (IsPlainFormatter f → IsOk r → HasWritten took f bs g)
      → OnOk r ((contents (formatter_writer g) ≡ contents (formatter_writer f) ++ bs) × IsPlainFormatter g)
  if_done (Ok done) plain written = stands_behind (written plain refl)
  if_done (Err error) plain written = tt
