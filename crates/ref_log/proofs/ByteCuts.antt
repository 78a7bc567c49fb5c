-- Where a line is cut at the first word that is a colon: byte by byte, as the code goes.
use Rattle.ref_script.proofs.Common.{◌≡◌, ℕ, ◌+◌, ◌<◌, ◌≤◌, ◌==◌, ◌&&◌, Bool, true, false, not, if◌then◌else◌, List, []}
use Rattle.ref_script.proofs.Common.{◌∷◌, ◌++◌, length, take, drop, get_or, Option, Some, None, refl, sym, ap, ◌∙◌}
use Rattle.ref_script.proofs.Common.{append_assoc, append-nil, arith, take_more}
use Rattle.std.proofs.lemmas.Bool.{eq-eqb, ne_eqb}
use Rattle.std.proofs.lemmas.List.{at_drop_all, at_drop_more, drop-drop}
use Rattle.ref_script.specs.Lines.{goes_on}

-- the bytes in front of a colon, and those behind it
pub record Cut : Type 0 where
  pub front : List ℕ
  pub back : List ℕ

-- a byte more in front
abbrev pub onto_cut : ℕ → Option Cut → Option Cut
onto_cut b None = None
onto_cut b (Some cut) = Some (record cut { front = b ∷ cut.front })

-- and bytes more
abbrev pub behind : List ℕ → Option Cut → Option Cut
behind bytes None = None
behind bytes (Some cut) = Some (record cut { front = bytes ++ cut.front })

-- a colon stands here that is a word, where a word may begin or one goes on
abbrev pub is_cut : Bool → ℕ → List ℕ → Bool
is_cut begins b bs = begins && b == 58 && not (goes_on bs)

-- the cut of the bytes from here on
abbrev pub byte_cut : Bool → List ℕ → Option Cut
byte_cut begins [] = None
byte_cut begins (b ∷ bs) =
    if is_cut begins b bs then Some (record { front = []; back = bs }) else onto_cut b (byte_cut (b == 32) bs)

behind_one : (bytes : List ℕ) (b : ℕ) (cut : Option Cut)
    → behind bytes (onto_cut b cut) ≡ behind (bytes ++ b ∷ []) cut
behind_one bytes b None = refl
behind_one bytes b (Some cut) = simp append_assoc refl

module _ (line : List ℕ) (at : ℕ) (begins : Bool) (within : at < length line) where
  -- one byte further, where it is no such colon
  pub one_further : is_cut begins (get_or line at 0) (drop (at + 1) line) ≡ false
      → behind (take at line) (byte_cut begins (drop at line))
      ≡ behind (take (at + 1) line) (byte_cut (get_or line at 0 == 32) (drop (at + 1) line))
  one_further isnt =
      let here = at_drop_more (byte_cut begins) line at 0 within in
      let on : byte_cut begins (drop at line) ≡ onto_cut (get_or line at 0)
      (byte_cut (get_or line at 0 == 32) (drop (at + 1) line)) = here ∙ simp isnt refl in
      let more = take_more line at 0 within in
      ap (behind (take at line)) on
      ∙ behind_one (take at line) (get_or line at 0) (byte_cut (get_or line at 0 == 32) (drop (at + 1) line))
      ∙ ap (λ (bytes : List ℕ). behind bytes (byte_cut (get_or line at 0 == 32) (drop (at + 1) line))) (sym more)

  -- where it is one, the line is cut there
  pub cut_here : is_cut begins (get_or line at 0) (drop (at + 1) line) ≡ true
      → behind (take at line) (byte_cut begins (drop at line))
      ≡ Some (record { front = take at line; back = drop (at + 1) line })
  cut_here is =
      let here = at_drop_more (byte_cut begins) line at 0 within in
      let on : byte_cut begins (drop at line) ≡ Some (record { front = []; back = drop (at + 1) line }) =
      here ∙ simp is refl in
      ap (behind (take at line)) on ∙ simp append-nil refl

-- behind a byte that the line is split at stands what does behind that place
pub behind_byte : (line rest back : List ℕ) (at : ℕ) → rest ≡ drop at line → back ≡ drop 1 rest
    → back ≡ drop (at + 1) line
behind_byte line rest back at rest_is back_is = back_is ∙ ap (λ (bs : List ℕ). drop 1 bs) rest_is ∙ drop-drop 1 at line

-- no colon stands here that is a word: a word goes on behind it, it is another byte, or no word begins here
pub no_cut_before : (begins : Bool) (b : ℕ) (bs : List ℕ) → goes_on bs ≡ true → is_cut begins b bs ≡ false
no_cut_before begins b bs on = grind arith

pub no_cut_at : (begins : Bool) (b : ℕ) (bs : List ℕ) → (b ≡ 58 → ⊥) → is_cut begins b bs ≡ false
no_cut_at begins b bs other = let isnt = ne_eqb b 58 other in grind arith

pub no_cut_within : (begins : Bool) (b : ℕ) (bs : List ℕ) → begins ≡ false → is_cut begins b bs ≡ false
no_cut_within begins b bs within = grind arith

pub cut_between : (begins : Bool) (b : ℕ) (bs : List ℕ) → begins ≡ true → b ≡ 58 → goes_on bs ≡ false
    → is_cut begins b bs ≡ true
cut_between begins b bs may is ends = let same = eq-eqb b 58 is in grind arith

-- past the last byte there is none
pub no_cut_behind : (line : List ℕ) (at : ℕ) (begins : Bool) → length line ≤ at
    → behind (take at line) (byte_cut begins (drop at line)) ≡ None
no_cut_behind line at begins past = ap (behind (take at line)) (at_drop_all (byte_cut begins) line at past)
