-- What the words of blocks tell of numbers, before one more comes and after.
use Rattle.std.proofs.Common.{◌≡◌, ℕ, ◌*◌, ◌/◌, ◌%◌, ◌^◌, true, false, ◌==◌, ◌||◌, nat_eq, refl, sym, ap, ◌∙◌, arith}
use Rattle.std.proofs.Common.{cond, inl, inr, List, [], ◌∷◌, ◌++◌, Some, None}
use Rattle.std.proofs.lemmas.Bool.{cases_Bool, eqb-true, eqb-false, eq-eqb}
use Rattle.std.proofs.lemmas.Nat.Bits.{bit_at-zero, bit_at_set_same, bit_at_set_other}
use Rattle.std.proofs.lemmas.Map.Keys.{IsDistinct-push}
use Rattle.std.specs.Cmp.{nat_eq_equiv}
use Rattle.std.specs.Int.{bit_at, w64}
use Rattle.std.specs.Int.RustNames.{bit_or}
use Rattle.std.specs.Map.{lookup}
use Rattle.ref_base.specs.Members.{has}
use Rattle.ref_base.proofs.HasLaws.{has-append, has-list_any}
use Rattle.ref_queue.specs.NumberBlocks.{word_or_none, is_told, TellsNumbers}

-- two numbers of one block at one place are one
same_number : (n m : ℕ) → n / 64 ≡ m / 64 → n % 64 ≡ m % 64 → n ≡ m
same_number n m block place = omega (arith, block, place)

module _ {words : List (ℕ × ℕ)} {ns : List ℕ} (tells : TellsNumbers words ns) (n : ℕ) where
  -- its word, where the block has one, tells whether it came
  pub told_by_word : {word : ℕ} → lookup (nat_eq (n / 64)) words ≡ Some word → (bit_at word (n % 64) == 1) ≡ has ns n
  told_by_word {word} found = ap (λ w. bit_at (word_or_none w) (n % 64) == 1) (sym found) ∙ tells.told n

  -- and where it has none it didn't come
  pub told_by_none : lookup (nat_eq (n / 64)) words ≡ None → has ns n ≡ false
  told_by_none none =
      sym (tells.told n) ∙ ap (λ w. bit_at (word_or_none w) (n % 64) == 1) none
      ∙ ap (λ bit. bit == 1) (bit_at-zero (n % 64))

  has_more : (m : ℕ) → has (ns ++ n ∷ []) m ≡ (has ns m || ((n == m) || false))
  has_more m = has-append ns (n ∷ []) m

  -- its bit is set in the word of its block
  module _ (word : ℕ) where
    abbrev with_bit : ℕ
    with_bit = bit_or word (1 * 2 ^ (n % 64) % 2 ^ 64)

    told_itself : (m : ℕ) → n ≡ m → (bit_at with_bit (m % 64) == 1) ≡ true
    told_itself m same =
        ap (λ i. bit_at with_bit (i % 64) == 1) (sym same)
        ∙ eq-eqb (bit_at with_bit (n % 64)) 1 (bit_at_set_same w64 word (n % 64) (omega arith))

    told_other : (m : ℕ) → word_or_none (lookup (nat_eq (n / 64)) words) ≡ word → n / 64 ≡ m / 64 → (n ≡ m → ⊥)
        → (bit_at with_bit (m % 64) == 1) ≡ is_told words m
    told_other m is block apart =
        ap (λ bit. bit == 1)
        (bit_at_set_other w64 word (n % 64) (omega arith) (m % 64) (λ at. apart (same_number n m block (sym at))))
        ∙ ap (λ w. bit_at w (m % 64) == 1) (sym is)
        ∙ ap (λ b. bit_at (word_or_none (lookup (nat_eq b) words)) (m % 64) == 1) block

    -- it comes: each other word stays
    module _ (words_new : List (ℕ × ℕ)) (updated : (b : ℕ) → lookup (nat_eq b) words_new
        ≡ cond (nat_eq (n / 64) b) (Some with_bit) (lookup (nat_eq b) words)) where
      in_block : (m : ℕ) → nat_eq (n / 64) (m / 64) ≡ true → is_told words_new m ≡ (bit_at with_bit (m % 64) == 1)
      in_block m same =
          let now : lookup (nat_eq (m / 64)) words_new ≡ Some with_bit = updated (m / 64) ∙ simp same refl in
          ap (λ w. bit_at (word_or_none w) (m % 64) == 1) now

      elsewhere : (m : ℕ) → nat_eq (n / 64) (m / 64) ≡ false → is_told words_new m ≡ is_told words m
      elsewhere m other =
          let now : lookup (nat_eq (m / 64)) words_new ≡ lookup (nat_eq (m / 64)) words =
          updated (m / 64) ∙ simp other refl in
          ap (λ w. bit_at (word_or_none w) (m % 64) == 1) now

      module _ (is : word_or_none (lookup (nat_eq (n / 64)) words) ≡ word) (is_new : has ns n ≡ false) where
        told_more : (m : ℕ) → is_told words_new m ≡ has (ns ++ n ∷ []) m
        told_more m =
            elim (cases_Bool (n == m)) [
              | inl same ↦
                  let is_same = eqb-true n m same in
                  let after : (has ns m || ((n == m) || false)) ≡ true = grind (arith, same) in
                  in_block m (eq-eqb (n / 64) (m / 64) (ap (λ i. i / 64) is_same)) ∙ told_itself m is_same
                  ∙ sym (has_more m ∙ after)
              | inr other ↦
                  let after : (has ns m || ((n == m) || false)) ≡ has ns m = grind (arith, other) in
                  let stays : is_told words_new m ≡ is_told words m =
                  elim (cases_Bool (nat_eq (n / 64) (m / 64))) [
                    | inl block ↦
                        in_block m block
                        ∙ told_other m is (eqb-true (n / 64) (m / 64) block) (eqb-false n m other)
                    | inr apart ↦ elsewhere m apart
                  ] in
                  stays ∙ tells.told m ∙ sym (has_more m ∙ after)
            ]

        pub tells_more : TellsNumbers words_new (ns ++ n ∷ [])
        tells_more = record {
          told = told_more;
          distinct = IsDistinct-push nat_eq_equiv ns n tells.distinct (sym (has-list_any ns n) ∙ is_new);
        }
