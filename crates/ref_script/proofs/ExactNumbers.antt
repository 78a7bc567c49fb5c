-- Numbers without leading zeros are what is printed of their values.
use Rattle.ref_script.proofs.Common.{◌≡◌, ℕ, ◌^◌, ◌<◌, ◌≤◌, ◌&&◌, Bool, true, false, List, []}
use Rattle.ref_script.proofs.Common.{◌∷◌}
use Rattle.ref_script.proofs.Common.{length, get_or, Option, Some, None, refl, sym, ap, ◌∙◌, arith, inl}
use Rattle.ref_script.proofs.Common.{inr}
use Rattle.ref_script.proofs.Common.{le-leb, lt-ltb, ne_eqb, digits_value, list_all, number_below}
use Rattle.std.proofs.Common.{decimal, if◌then◌else◌, nat_lt}
use Rattle.std.specs.Char.{is_ascii_digit}
use Rattle.std.specs.Str.{all_ascii_digits}
use Rattle.std.proofs.lemmas.Bool.{cases_lt, ltb-true}
use Rattle.std.proofs.lemmas.Fmt.{decimal_is_IsNumeral, decimal_digit, first_decimal, decimal-digits_value}
use Rattle.std.proofs.lemmas.Fmt.{length-decimal-le}
use Rattle.std.proofs.lemmas.Str.Parse.{numerals_by_value, tells_all_ascii_digits}
use Rattle.ref_script.specs.Numerals.{is_numeral}
use Rattle.ref_script.specs.ReplyReading.{is_padded, exact_below}

-- both words for digits alone
same_digits : (ds : List ℕ) → all_ascii_digits ds ≡ list_all is_ascii_digit ds
same_digits [] = refl
same_digits (d ∷ ds) = ap (λ b. is_ascii_digit d && b) (same_digits ds)

-- one digit, or another first digit than 0
lead : (word : List ℕ) → is_padded word ≡ false → 0 < length word → get_or word 0 0 ≡ 48 → length word ≡ 1
lead [] h some zero_first = absurd (omega (arith, some))
lead (b ∷ []) h some zero_first = refl
lead (b ∷ c ∷ bs) h some zero_first = grind arith

-- the parts of a number that was read
record IsExact (limit : ℕ) (word : List ℕ) (n : ℕ) : Type 0 where
  padded : is_padded word ≡ false
  some : 0 < length word
  digits : list_all is_ascii_digit word ≡ true
  value : n ≡ digits_value 10 word
  below : digits_value 10 word < limit

not_padded : (padded : Bool) (read : Option ℕ) (n : ℕ) → (if padded then None else read) ≡ Some n
    → (padded ≡ false) × (read ≡ Some n)
not_padded true read n h = absurd cc
not_padded false read n h = (refl, h)

both_hold : (a b : Bool) (value n : ℕ) → (if (a && b) then Some value else None) ≡ Some n
    → (a ≡ true) × (b ≡ true) × (n ≡ value)
both_hold true true value n h = (refl, refl, cc)
both_hold true false value n h = absurd cc
both_hold false b value n h = absurd cc

numeral_parts : (word : List ℕ) → is_numeral word ≡ true → (0 < length word) × (list_all is_ascii_digit word ≡ true)
numeral_parts word h = grind arith

parts : (limit : ℕ) (word : List ℕ) (n : ℕ) → exact_below limit word ≡ Some n → IsExact limit word n
parts limit word n h =
    let unpadded = not_padded (is_padded word) (number_below limit word) n h in
    let (numeral, small, is) =
    both_hold (is_numeral word) (nat_lt (digits_value 10 word) limit) (digits_value 10 word) n unpadded.1 in
    let (some, digits) = numeral_parts word numeral in record {
      padded = unpadded.0;
      some = some;
      digits = digits;
      value = is;
      below = ltb-true _ _ small;
    }

-- a number that was read is printed as its word
pub exact_is_decimal : (limit : ℕ) (word : List ℕ) (n : ℕ) → limit ≤ 2 ^ 64 → exact_below limit word ≡ Some n
    → (word ≡ decimal n) × (n < limit)
exact_is_decimal limit word n few h =
    let p = parts limit word n h in
    let spelled : decimal (digits_value 10 word) ≡ word =
    decimal-digits_value (numerals_by_value _ tells_all_ascii_digits) word (same_digits word ∙ p.digits) p.some
    (lead word p.padded p.some) (omega (arith, p.below, few)) in
    (rw p.value (sym spelled), rw p.value p.below)

-- what is printed of a number has one digit, or doesn't begin with 0
other_first : (word : List ℕ) → 48 < get_or word 0 0 → is_padded word ≡ false
other_first [] h = refl
other_first (b ∷ []) h = refl
other_first (b ∷ c ∷ bs) h = ne_eqb b 48 (λ same. omega (arith, h, same))

pub decimal_unpadded : (n : ℕ) → n < 2 ^ 64 → is_padded (decimal n) ≡ false
decimal_unpadded n small =
    elim (cases_lt n 10) [
      | inl one ↦ rw (decimal_digit n one) refl
      | inr more ↦ other_first (decimal n) (first_decimal n (omega (arith, more)) small)
    ]

pub decimal_digits : (n : ℕ) → n < 2 ^ 64 → list_all is_ascii_digit (decimal n) ≡ true
decimal_digits n small =
    sym (same_digits (decimal n))
    ∙ (numerals_by_value _ tells_all_ascii_digits).from (decimal n) (decimal_is_IsNumeral n small).0.1

pub decimal_some : (n : ℕ) → n < 2 ^ 64 → 0 < length (decimal n)
decimal_some n small = (decimal_is_IsNumeral n small).0.0

number_is : (limit : ℕ) (word : List ℕ) (n : ℕ) → 1 ≤ length word → length word ≤ 20
    → list_all is_ascii_digit word ≡ true → digits_value 10 word ≡ n → n < limit → number_below limit word ≡ Some n
number_is limit word n some few digits value below =
    rw (le-leb 1 (length word) some, le-leb (length word) 20 few, digits, value, lt-ltb n limit below) refl

-- what is printed of a number is read as it
pub decimal_is_exact : (limit n : ℕ) → n < limit → limit ≤ 2 ^ 64 → exact_below limit (decimal n) ≡ Some n
decimal_is_exact limit n below few =
    let small : n < 2 ^ 64 = omega (arith, below, few) in
    let (numeral, value) = decimal_is_IsNumeral n small in
    rw (decimal_unpadded n small)
    (number_is limit (decimal n) n (omega (arith, numeral.0))
    (length-decimal-le 20 n (omega arith) (omega (arith, small)) small) (decimal_digits n small) value below)
