-- The numbers in front of a line, one by one.
use Rattle.ref_script.proofs.Common.{◌≡◌, ℕ, ◌≤◌, List, ◌++◌, length}
use Rattle.ref_script.specs.ReplyReading.{numbers_in_front, behind_numbers}

-- the numbers so far stand in front of what is left
pub record IsInFront (words : List (List ℕ)) (numbers : List ℕ) (rest : List (List ℕ)) : Type 0 where
  pub front : numbers_in_front words ≡ numbers ++ numbers_in_front rest
  pub behind : behind_numbers words ≡ behind_numbers rest
  pub few : length numbers ≤ 32
