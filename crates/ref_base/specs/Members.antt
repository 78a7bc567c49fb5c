-- Whether a number is in a list, and a list without its first entry, or without the first of a number.
use Rattle.std.specs.Prelude.{◌≡◌, ℕ, Bool, false, ◌||◌, ◌==◌, if◌then◌else◌, List, [], ◌∷◌, Option, Some, None}

-- whether n is among the numbers
abbrev pub has : List ℕ → ℕ → Bool
has [] n = false
has (m ∷ ms) n = (m == n) || has ms n

-- no number stands twice
abbrev pub AreDistinct : List ℕ → Type 0
AreDistinct [] = Unit {0}
AreDistinct (n ∷ ns) = (has ns n ≡ false) × AreDistinct ns

-- the first entry, where there is one
abbrev pub first_of : {T : Type 0} → List T → Option T
first_of [] = None
first_of (x ∷ xs) = Some x

-- the list without its first entry, where there is one
abbrev pub rest_of : {T : Type 0} → List T → List T
rest_of [] = []
rest_of (x ∷ xs) = xs

-- the list without the first entry whose number is n, where there is one
abbrev pub without_first : {T : Type 0} → (T → ℕ) → List T → ℕ → List T
without_first number [] n = []
without_first number (x ∷ xs) n = if number x == n then xs else x ∷ without_first number xs n
