-- Lists that are filled in place.
use Rattle.ref_base.proofs.Common.{◌≡◌, ℕ, ◌+◌, ◌-◌, ◌<◌, List, [], ◌∷◌, ◌++◌, length, take, replicate, slice_set}
use Rattle.ref_base.proofs.Common.{ap, sym, ◌∙◌, refl, zero, suc, arith, append_assoc, length-set}
use Rattle.std.proofs.Math.Seq.{set-append_seam}
use Rattle.std.proofs.lemmas.List.{length-append}
use Rattle.ref_base.specs.Filled.{filled, IsFilled}

-- a list that is filled in place
pub take-pushed : {X : Type 0} (xs : List X) (n : ℕ) (x : X) → n < length xs
    → take (n + 1) (slice_set xs n x) ≡ take n xs ++ x ∷ []
take-pushed [] n x within = absurd (omega (arith, within))
take-pushed (y ∷ ys) zero x within = refl
take-pushed (y ∷ ys) (suc n) x within = grind (arith, take-pushed ys n x)

-- one more entry stands behind the list, in the place of a filler
module _ {T : Type 0} (filler x : T) (held : List T) (count : ℕ) (is : IsFilled filler held count) (room : count < 32)
  where
    at_seam : slice_set held count x ≡ take count held ++ x ∷ replicate (31 - count) filler
    at_seam =
        let front : List T = take count held in
        let rest : 32 - length front ≡ suc (31 - count) = omega (arith, is.counted) in
        ap (λ h. slice_set h count x) (sym is.behind)
        ∙ ap (λ n. slice_set (front ++ replicate n filler) count x) rest
        ∙ ap (λ i. slice_set (front ++ filler ∷ replicate (31 - count) filler) i x) (sym is.counted)
        ∙ set-append_seam front filler (replicate (31 - count) filler) x

    one_more : take (count + 1) (slice_set held count x) ≡ take count held ++ x ∷ []
    one_more = take-pushed held count x (omega (arith, is.whole))

    pub filled-pushed : IsFilled filler (slice_set held count x) (count + 1)
    filled-pushed =
        let front : List T = take count held in
        let longer : length (front ++ x ∷ []) ≡ count + 1 =
        length-append front (x ∷ []) ∙ ap (λ n. n + 1) is.counted in
        let left : 32 - length (front ++ x ∷ []) ≡ 31 - count = omega (arith, longer) in
        record {
          few = omega arith;
          whole = length-set held count x ∙ is.whole;
          counted = ap length one_more ∙ longer;
          behind =
              ap (filled filler) one_more
              ∙ ap (λ n. (front ++ x ∷ []) ++ replicate n filler) left
              ∙ append_assoc front (x ∷ []) (replicate (31 - count) filler)
              ∙ sym at_seam;
        }
