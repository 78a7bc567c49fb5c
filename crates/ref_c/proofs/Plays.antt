-- Plays: their steps one after the other.
use Rattle.std.proofs.Common.{◌≡◌, ℕ, ◌+◌, ◌<◌, List, [], ◌∷◌, ◌++◌, length, slice_set, refl, ap, sym, ◌∙◌, subst}
use Rattle.std.proofs.Common.{add-one, arith, append_assoc, append-nil, suc, take}
use Rattle.std.proofs.Math.Seq.{take-suc}
use Rattle.std.proofs.lemmas.List.{length-take-le}
use Rattle.std.specs.Prelude.{slice_index_or}
use Rattle.std.specs.declared.option.Option.{Option}
use Rattle.ref_c.proofs.WrittenLemmas.{nothing-written, written-more, written-none}
use Rattle.ref_c.specs.Holding.{KeptWorld}
use Rattle.ref_c.specs.ReplyNumbers.{all_listed, all_numbers, listed_by, numbers_of}
use Rattle.ref_c.specs.WorldSteps.{Plays, Steps}
use Rattle.ref_c.specs.Written.{IsWritten, lesser, written_over}
use Rattle.ref_c.specs.declared.answer.Answer.{Answer}
use Rattle.ref_c.specs.declared.answer.RefReply.{RefReply}
use Rattle.ref_c.specs.declared.step.RefStep.{RefStep}

pub numbers-behind : (answers : List Answer) (last : Answer)
    → all_numbers (answers ++ last ∷ []) ≡ all_numbers answers ++ numbers_of last ∷ []
numbers-behind [] last = refl
numbers-behind (first ∷ rest) last = ap (λ ns. numbers_of first ∷ ns) (numbers-behind rest last)

pub listed-behind : (answers : List Answer) (last : Answer)
    → all_listed (answers ++ last ∷ []) ≡ all_listed answers ++ listed_by last
listed-behind [] last = append-nil (listed_by last)
listed-behind (first ∷ rest) last =
    ap (λ ns. listed_by first ++ ns) (listed-behind rest last)
    ∙ sym (append_assoc (listed_by first) (all_listed rest) (listed_by last))

pub numbers-length : (answers : List Answer) → length (all_numbers answers) ≡ length answers
numbers-length [] = refl
numbers-length (first ∷ rest) = ap suc (numbers-length rest)

-- a step behind a play
pub plays-behind : (old between new : Option KeptWorld) (steps : List RefStep) (answers : List Answer) (step : RefStep)
    (answer : Answer) → Plays old steps answers between → Steps between step answer new
    → Plays old (steps ++ step ∷ []) (answers ++ answer ∷ []) new
plays-behind old between new [] [] step answer is does =
    (new, subst (λ (held : Option KeptWorld). Steps held step answer new) is does, refl)
plays-behind old between new [] (first ∷ rest) step answer is does = absurd is
plays-behind old between new (first ∷ rest) [] step answer is does = absurd is
plays-behind old between new (s ∷ steps) (a ∷ answers) step answer (next, first, rest) does =
    (next, first, plays-behind next between new steps answers step answer rest does)

-- there is an answer for each step
pub plays-length : (old new : Option KeptWorld) (steps : List RefStep) (answers : List Answer)
    → Plays old steps answers new → length answers ≡ length steps
plays-length old new [] [] is = refl
plays-length old new [] (first ∷ rest) is = absurd is
plays-length old new (first ∷ rest) [] is = absurd is
plays-length old new (s ∷ steps) (a ∷ answers) (next, first, rest) =
    ap suc (plays-length next new steps answers rest)

-- so far these steps were played, and so many places of the list are used
abbrev pub Played : Option KeptWorld → List RefStep → List RefReply → List RefReply → List ℕ → List ℕ → ℕ
    → Option KeptWorld → Type 0
Played old steps replies replies' list list' used now =
    (answers : List Answer) × Plays old steps answers now × (replies' ≡ written_over replies (all_numbers answers))
    × IsWritten list (all_listed answers) list' used

pub nothing-played : (old now : Option KeptWorld) (replies : List RefReply) (list : List ℕ) → old ≡ now
    → Played old [] replies replies list list 0 now
nothing-played old now replies list is = ([], sym is, sym (written-none replies), nothing-written list)

-- one step more, which is told in the next reply
pub one-more-played : (old between new : Option KeptWorld) (steps : List RefStep) (step : RefStep) (answer : Answer)
    (replies told : List RefReply) (list now then : List ℕ) (used behind : ℕ)
    → Played old steps replies told list now used between → Steps between step answer new
    → length steps < length replies
    → ((first new : List ℕ) → IsWritten first new now used → IsWritten first (new ++ listed_by answer) then behind)
    → Played old (steps ++ step ∷ []) replies (slice_set told (length steps) (numbers_of answer)) list then behind new
one-more-played old between new steps step answer replies told list now then used behind
    (answers, plays, numbers, listed) does room lists =
    let many : length (all_numbers answers) ≡ length steps =
    numbers-length answers ∙ plays-length old between steps answers plays in
    let fits : length (all_numbers answers) < length replies = omega (arith, many, room) in
    let written_more = written-more replies (all_numbers answers) (numbers_of answer) fits in
    let placed : slice_set told (length steps) (numbers_of answer)
    ≡ slice_set (written_over replies (all_numbers answers)) (length (all_numbers answers)) (numbers_of answer) =
    ap (λ rs. slice_set rs (length steps) (numbers_of answer)) numbers
    ∙ ap (λ n. slice_set (written_over replies (all_numbers answers)) n (numbers_of answer)) (sym many) in
    let in_list = lists list (all_listed answers) listed in (
      answers ++ answer ∷ [],
      plays-behind old between new steps answers step answer plays does,
      placed ∙ written_more ∙ ap (λ ns. written_over replies ns) (sym (numbers-behind answers answer)),
      subst (λ ns. IsWritten list ns then behind) (sym (listed-behind answers answer)) in_list,
    )

-- the next of these steps
pub next-played : (old between new : Option KeptWorld) (steps : List RefStep) (place : ℕ) (other : RefStep)
    (answer : Answer) (replies told : List RefReply) (list now then : List ℕ) (used behind : ℕ)
    → Played old (take place steps) replies told list now used between
    → Steps between (slice_index_or steps place other) answer new → place < length steps → place < length replies
    → ((first new : List ℕ) → IsWritten first new now used → IsWritten first (new ++ listed_by answer) then behind)
    → Played old (take (place + 1) steps) replies (slice_set told place (numbers_of answer)) list then behind new
next-played old between new steps place other answer replies told list now then used behind is does within room
    lists =
    let many : length (take place steps) ≡ place = length-take-le place steps (omega (arith, within)) in
    let fits : length (take place steps) < length replies = omega (arith, many, room) in
    let more = one-more-played old between new (take place steps) (slice_index_or steps place other) answer replies
    told list now then used behind is does fits lists in
    rw add-one (rw (take-suc steps place other within)
    (subst (λ (n : ℕ). Played old (take place steps ++ slice_index_or steps place other ∷ []) replies
    (slice_set told n (numbers_of answer)) list then behind new) many more))

-- what is below the lesser of two is below both
pub below-first : (n m place : ℕ) → place < lesser n m → place < n
below-first n m place below = grind (arith, below)

pub below-second : (n m place : ℕ) → place < lesser n m → place < m
below-second n m place below = grind (arith, below)
