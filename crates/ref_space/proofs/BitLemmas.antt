-- A bitmap's list: the lowest bit that is set, how many aren't, one that is set or cleared.
use Rattle.std.proofs.Common.{◌≡◌, ℕ, zero, suc, ◌+◌, ◌-◌, ◌*◌, ◌/◌, ◌%◌, ◌^◌, ◌<◌, Bool, true, false, not, ◌==◌}
use Rattle.std.proofs.Common.{if◌then◌else◌, refl, sym, ap, subst, ◌∙◌, arith, length, get_or, set, Option, Some}
use Rattle.std.proofs.Common.{inl, inr, List, [], ◌∷◌}
use Rattle.std.proofs.lemmas.Bool.{cases_Bool, eqb-true, eqb-false, eq-eqb, not-true, true≢false}
use Rattle.std.proofs.lemmas.List.{ext_get_or, length-set, get_or-set_same, get_or-set_other}
use Rattle.std.proofs.lemmas.Nat.Bits.{bit_at-suc, bit_at_set_same, bit_at_set_other}
use Rattle.std.proofs.lemmas.Nat.Bits.{bit_at_clear_same, bit_at_clear_other}
use Rattle.std.specs.Int.{bit_at, bit_not, trailing_zeros, w64}
use Rattle.std.specs.Int.RustNames.{bit_or, count_ones}
use Rattle.std.specs.Option.{option_map}
use lib.Bits.{bit_and}
use lib.Count.{count_trailing_zeros, under, ones, ones_step}
use Rattle.ref_space.specs.Bits.{bits, bits_of, first_set, first_clear, any_set, count_clear}
use Rattle.ref_space.specs.Pages.{all_free}

length-bits : (k w : ℕ) → length (bits k w) ≡ k
length-bits zero w = refl
length-bits (suc k) w = ap suc (length-bits k (w / 2))

get_or-bits : (k w i : ℕ) → i < k → get_or (bits k w) i false ≡ (bit_at w i == 1)
get_or-bits zero w i below = absurd (omega arith)
get_or-bits (suc k) w zero below = let e : w % 2 ≡ bit_at w 0 = omega arith in ap (λ n. n == 1) e
get_or-bits (suc k) w (suc i) below =
    get_or-bits k (w / 2) i (omega arith) ∙ ap (λ n. n == 1) (sym (bit_at-suc w i))

-- the lowest that is set
digit_cases : (n k t : ℕ) → n ≡ t % 2 → (rest : Option ℕ) → (z : ℕ) → (n ≡ 0 → rest ≡ Some z)
    → (if n == 1 then Some 0 else option_map suc rest) ≡ Some (under n z)
digit_cases zero k t e rest z found = ap (option_map suc) (found refl)
digit_cases (suc zero) k t e rest z found = refl
digit_cases (suc (suc n)) k t e rest z found = absurd (omega arith)

first_set-bits : (k w : ℕ) → 0 < w → w < 2 ^ k → first_set (bits k w) ≡ Some (count_trailing_zeros k w)
unfolding count_trailing_zeros
first_set-bits zero w some small = absurd (omega arith)
first_set-bits (suc k) w some small =
    digit_cases (w % 2) k w refl (first_set (bits k (w / 2))) (count_trailing_zeros k (w / 2))
    (λ even. first_set-bits k (w / 2) (omega arith) (omega arith))

pub any_set-bits : (k w : ℕ) → 0 < w → w < 2 ^ k → any_set (bits k w) ≡ true
any_set-bits zero w some small = absurd (omega arith)
any_set-bits (suc k) w some small = grind (arith, any_set-bits k)

pub any_set-none : (k : ℕ) → any_set (bits k 0) ≡ false
any_set-none zero = refl
any_set-none (suc k) = any_set-none k

-- how many are clear
ones-none : ones 0 ≡ 0
unfolding ones
ones-none = refl

count_clear-bits : (k w : ℕ) → w < 2 ^ k → count_clear (bits k w) + ones w ≡ k
count_clear-bits zero w small =
    let e : w ≡ 0 = omega arith in
    let none = ap ones e ∙ ones-none in omega (arith, none)
count_clear-bits (suc k) w small = grind (arith, ones_step, count_clear-bits k)

-- one is set, or cleared
bits-set : (w v i : ℕ) (b : Bool) → (bit_at v i == 1) ≡ b → ((j : ℕ) → j < 64 → (j ≡ i → ⊥) → bit_at v j ≡ bit_at w j)
    → i < 64 → bits 64 v ≡ set (bits 64 w) i b
bits-set w v i b own others within =
    ext_get_or false (bits 64 v) (set (bits 64 w) i b)
    (length-bits 64 v ∙ sym (length-set (bits 64 w) i b ∙ length-bits 64 w))
    (λ j below.
    let small : j < 64 = subst (λ n. j < n) (length-bits 64 v) below in
    let inside : i < length (bits 64 w) = subst (λ n. i < n) (sym (length-bits 64 w)) within in
    elim (cases_Bool (j == i)) [
      | inl same ↦
          let is = eqb-true j i same in
          get_or-bits 64 v j small ∙ ap (λ n. bit_at v n == 1) is ∙ own
          ∙ sym (ap (λ n. get_or (set (bits 64 w) i b) n false) is ∙ get_or-set_same (bits 64 w) i b false inside)
      | inr other ↦
          let differs = eqb-false j i other in
          get_or-bits 64 v j small ∙ ap (λ n. n == 1) (others j small differs) ∙ sym (get_or-bits 64 w j small)
          ∙ sym (get_or-set_other (bits 64 w) i j b false differs)
    ])

-- ---- 64 of them

pub first_set-bits_of : (w : ℕ) → 0 < w → w < 2 ^ 64 → first_set (bits_of w) ≡ Some (trailing_zeros w64 w)
unfolding bits_of
first_set-bits_of w some small = first_set-bits 64 w some small

pub any_set-bits_of : (w : ℕ) → w < 2 ^ 64 → any_set (bits_of w) ≡ not (w == 0)
unfolding bits_of
any_set-bits_of w small =
    elim (cases_Bool (w == 0)) [
      | inl none ↦ simp none (ap (λ n. any_set (bits 64 n)) (eqb-true w 0 none) ∙ any_set-none 64)
      | inr some ↦
          let differs = eqb-false w 0 some in
          simp some (any_set-bits 64 w (omega (arith, differs)) small)
    ]

pub count_clear-bits_of : (w : ℕ) → w < 2 ^ 64 → count_clear (bits_of w) + count_ones w ≡ 64
unfolding bits_of
count_clear-bits_of w small = count_clear-bits 64 w small

pub get_or-bits_of : (w i : ℕ) → i < 64 → get_or (bits_of w) i false ≡ (bit_at w i == 1)
unfolding bits_of
get_or-bits_of w i within = get_or-bits 64 w i within

pub bits_of-all : bits_of (2 ^ 64 - 1) ≡ all_free
unfolding bits_of all_free
bits_of-all = refl

pub bits_of-set : (w i : ℕ) → i < 64 → bits_of (bit_or w (1 * 2 ^ i % 2 ^ 64)) ≡ set (bits_of w) i true
unfolding bits_of
bits_of-set w i within =
    bits-set w (bit_or w (1 * 2 ^ i % 2 ^ 64)) i true (eq-eqb _ 1 (bit_at_set_same w64 w i within))
    (λ j below differs. bit_at_set_other w64 w i within j differs) within

pub bits_of-cleared : (w i : ℕ) → i < 64
    → bits_of (bit_and w (bit_not w64 (1 * 2 ^ i % 2 ^ 64))) ≡ set (bits_of w) i false
unfolding bits_of
bits_of-cleared w i within =
    bits-set w (bit_and w (bit_not w64 (1 * 2 ^ i % 2 ^ 64))) i false
    (ap (λ n. n == 1) (bit_at_clear_same w64 w i within))
    (λ j below differs. bit_at_clear_other w64 w i within j below differs) within

pub some_bit : (w : ℕ) → w < 2 ^ 64 → any_set (bits_of w) ≡ true → 0 < w
some_bit w small any =
    let differs = eqb-false w 0 (not-true (w == 0) (sym (any_set-bits_of w small) ∙ any)) in omega (arith, differs)

-- the lowest that is clear
first_clear-at : (bs : List Bool) (r : ℕ) → r < length bs → get_or bs r false ≡ false
    → ((j : ℕ) → j < r → get_or bs j false ≡ true) → first_clear bs ≡ Some r
first_clear-at [] r within clear below = absurd (omega arith)
first_clear-at (true ∷ bs) zero within clear below = absurd (true≢false clear)
first_clear-at (false ∷ bs) zero within clear below = refl
first_clear-at (b ∷ bs) (suc r) within clear below =
    let own : b ≡ true = below 0 (omega arith) in
    simp own (ap (option_map suc) (first_clear-at bs r (omega arith) clear (λ j less. below (suc j) (omega arith))))

pub first_clear-bits_of : (w r : ℕ) → (r < 64) × (bit_at w r ≡ 0) × ((i : ℕ) → i < r → bit_at w i ≡ 1)
    → first_clear (bits_of w) ≡ Some r
unfolding bits_of
first_clear-bits_of w r told =
    first_clear-at (bits_of w) r (let size = length-bits 64 w in omega (arith, size, told.0))
    (get_or-bits_of w r told.0 ∙ ap (λ n. n == 1) told.1)
    (λ j below. get_or-bits_of w j (let within = told.0 in omega (arith, below, within))
    ∙ ap (λ n. n == 1) (told.2 j below))

none_of_all : count_clear all_free ≡ 0
unfolding all_free
none_of_all = refl

pub some_clear : (w : ℕ) → w < 2 ^ 64 → 0 < count_clear (bits_of w) → w + 1 < 2 ^ 64
some_clear w small some =
    elim (cases_Bool (w == 2 ^ 64 - 1)) [
      | inl all ↦
          let none : count_clear (bits_of w) ≡ 0 =
          ap (λ n. count_clear (bits_of n)) (eqb-true w (2 ^ 64 - 1) all) ∙ ap count_clear bits_of-all ∙ none_of_all in
          absurd (omega (arith, some, none))
      | inr differs ↦ let apart = eqb-false w (2 ^ 64 - 1) differs in omega (arith, small, apart)
    ]
