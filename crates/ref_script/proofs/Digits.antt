-- What digits write, one after the other.
use Rattle.ref_script.proofs.Common.{◌≡◌, ℕ, ◌+◌, ◌-◌, ◌<◌, ◌≤◌, true, List, length, get_or, take, subst, arith}
use Rattle.ref_script.proofs.Common.{digits_value}
use Rattle.std.proofs.Common.{◌*◌, ◌^◌}
use Rattle.std.proofs.Math.Nat.{pow-le-pow_right}
use Rattle.std.proofs.lemmas.Grind.{pow_more}
use Rattle.std.specs.Char.{is_ascii_digit}
use Rattle.std.proofs.lemmas.Int.Digits.{digits_value_more}
use Rattle.std.proofs.lemmas.Str.Parse.{digits_value-take-le}

-- a digit more makes ten times the number, and the digit
pub one_digit_more : (w : List ℕ) (i : ℕ) → i < length w → is_ascii_digit (get_or w i 0) ≡ true
    → digits_value 10 (take (i + 1) w) ≡ digits_value 10 (take i w) * 10 + (get_or w i 0 - 48)
one_digit_more w i within digit = grind (arith, digits_value_more)

-- and no front writes a greater number than all
pub front_value : (w : List ℕ) (i : ℕ) → i < length w → is_ascii_digit (get_or w i 0) ≡ true
    → digits_value 10 (take i w) * 10 + (get_or w i 0 - 48) ≤ digits_value 10 w
front_value w i within digit =
    subst (λ n. n ≤ digits_value 10 w) (one_digit_more w i within digit)
    (digits_value-take-le 10 w (i + 1) (omega arith))

-- what fewer than 9 digits write is in 32 bits with one digit more
pub few_fit : (n digit count : ℕ) → n < 10 ^ count → count < 9 → digit ≤ 9 → n * 10 + digit < 2 ^ 32
few_fit n digit count small few is_digit =
    let most : 10 ^ count ≤ 10 ^ 8 = pow-le-pow_right {n = 10} (omega arith) {i = count} {j = 8} (omega (arith, few)) in
    omega (arith, small, most, is_digit)

-- and below the next power of ten
pub one_power_more : (n digit count : ℕ) → n < 10 ^ count → digit ≤ 9 → n * 10 + digit < 10 ^ (count + 1)
one_power_more n digit count small is_digit = rw (pow_more 10 count) (omega (arith, small, is_digit))
