-- How a short list is kept in place: in front of an array, with the same behind it everywhere.
use Rattle.std.specs.Prelude.{◌≡◌, ℕ, ◌-◌, ◌≤◌, List, ◌++◌, length, take, replicate}

module _ {T : Type 0} (filler : T) where
  -- the list, filled up to 32 entries
  abbrev pub filled : List T → List T
  filled xs = xs ++ replicate (32 - length xs) filler

  -- what holds of an array and of how many of its entries are the list
  pub record IsFilled (held : List T) (count : ℕ) : Type 0 where
    pub few : count ≤ 32
    pub whole : length held ≡ 32
    pub counted : length (take count held) ≡ count
    pub behind : filled (take count held) ≡ held
