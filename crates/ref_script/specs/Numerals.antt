-- Numbers as a text spells them (this project's profile).
use Rattle.std.specs.Prelude.{ℕ, ◌^◌, Bool, ◌&&◌, if◌then◌else◌, ◌==◌, nat_lt, nat_le, List, [], ◌∷◌, length, Option}
use Rattle.std.specs.Prelude.{Some, None}
use Rattle.std.specs.Char.{is_ascii_digit}
use Rattle.std.specs.List.{list_all}
use Rattle.std.specs.Str.Parse.{digits_value}

-- 1 to 20 decimal digits, leading zeros allowed
abbrev pub is_numeral : List ℕ → Bool
is_numeral word = nat_le 1 (length word) && nat_le (length word) 20 && list_all is_ascii_digit word

-- the number below the limit that a word spells
abbrev pub number_below : ℕ → List ℕ → Option ℕ
number_below limit word =
    if is_numeral word && nat_lt (digits_value 10 word) limit then Some (digits_value 10 word) else None

-- the number below 2^32 that a word spells behind letters
abbrev pub number_behind : List ℕ → List ℕ → Option ℕ
number_behind [] word = number_below (2 ^ 32) word
number_behind (c ∷ letters) [] = None
number_behind (c ∷ letters) (b ∷ word) = if b == c then number_behind letters word else None
