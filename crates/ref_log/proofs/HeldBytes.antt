-- What is held of a chunk behind the front of it that was taken.
use Rattle.ref_log.proofs.Common.{◌≡◌, ℕ, ◌+◌, ◌-◌, ◌<◌, ◌≤◌, Bool, true, false, List, ◌∷◌, ◌++◌, length, take, drop}
use Rattle.ref_log.proofs.Common.{refl, sym, ap, ◌∙◌, arith}
use Rattle.std.proofs.Common.{nat_lt}
use Rattle.std.proofs.lemmas.Bool.{ltb-true}
use Rattle.std.proofs.lemmas.List.{drop-take, drop-drop, length-take, take-append-drop}
use Rattle.std.specs.Int.{from_bool}
use Rattle.ref_log.specs.StreamAnswers.{behind_lf}

module _ (bytes : List ℕ) (at end : ℕ) where
  abbrev held : List ℕ
  held = take (end - at) (drop at bytes)

  -- as many bytes further
  further : (n : ℕ) → n ≤ length held → drop n held ≡ take (end - (at + n)) (drop (at + n) bytes)
  further n within =
      let bound = length-take (end - at) (drop at bytes) in
      let parts : end - at ≡ n + (end - (at + n)) = omega (arith, within, bound) in
      ap (λ (k : ℕ). drop n (take k (drop at bytes))) parts
      ∙ drop-take n (end - (at + n)) (drop at bytes)
      ∙ ap (take (end - (at + n))) (drop-drop n at bytes)

  -- the front and its LF, where there is one, are in front of what is held then
  pub front_taken : (n b : ℕ) (is_whole : Bool) → n ≤ length held
      → (n < length held → drop n held ≡ 10 ∷ drop (n + 1) held) → is_whole ≡ nat_lt n (length held)
      → b ≡ from_bool is_whole
      → held ≡ take n held ++ behind_lf is_whole (take (end - (at + (n + b))) (drop (at + (n + b)) bytes))
  front_taken n b true within lf whole one =
      let less : n < length held = ltb-true n (length held) (sym whole) in
      let next : drop (n + 1) held ≡ take (end - (at + (n + 1))) (drop (at + (n + 1)) bytes) =
      further (n + 1) (omega (arith, less)) in
      sym (take-append-drop n held) ∙ ap (λ (l : List ℕ). take n held ++ l)
      (lf less ∙ ap (λ (l : List ℕ). 10 ∷ l) (next ∙ rw one refl))
  front_taken n b false within lf whole none =
      let same : n + b ≡ n = omega (arith, none) in
      sym (take-append-drop n held) ∙ ap (λ (l : List ℕ). take n held ++ l) (further n within ∙ rw same refl)

  -- where it has no LF it is all that was held
  pub front_is_all : (n : ℕ) → n ≤ length held → nat_lt n (length held) ≡ false → length (take n held) ≡ length held
  front_is_all n within none = grind (arith, length-take)
