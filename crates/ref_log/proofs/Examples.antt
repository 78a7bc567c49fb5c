-- What an advance may not answer.
use Rattle.ref_log.proofs.Common.{◌≡◌, true, false, List, [], ◌∷◌, Some, Ok, Err, refl, arith, length, ℕ, Option}
use Rattle.ref_log.proofs.Common.{Advances, CountsLine, Streamed, TextLine, ap, line_in, lines_of}
use Rattle.ref_log.specs.declared.stream.StreamFault.TheVariants.{TooLong, NumbersSpent}

-- `a`, read
abbrev a_line : Streamed
a_line = record { held = []; line = 97 ∷ []; is_ended = true; number = 1 }

-- promise: LineStream::advance: what was read behind the line is not lost
what_is_behind_is_not_lost : ¬ Advances (97 ∷ 10 ∷ 98 ∷ []) (Some []) a_line (Ok true)
what_is_behind_is_not_lost (rest, left, lines) =
    let none : rest ≡ [] = cc in
    let one : lines_of (97 ∷ 10 ∷ 98 ∷ []) ≡ record { bytes = 97 ∷ []; is_ended = true } ∷ [] = rw none at lines in
    absurd cc

-- promise: LineStream::advance: the last line needs no LF
the_last_line_needs_no_lf : (new : Streamed) → ¬ Advances (97 ∷ []) (Some []) new (Ok false)
the_last_line_needs_no_lf new (none, left, held) = absurd cc

-- promise: LineStream::advance: an LF is told from the end of the text
an_lf_is_told_from_the_end : ¬ Advances (97 ∷ []) (Some []) a_line (Ok true)
an_lf_is_told_from_the_end (rest, left, lines) =
    let same : record { bytes = 97 ∷ []; is_ended = false } ≡ line_in a_line = cc in
    let told : false ≡ true = ap (λ (line : TextLine). line.is_ended) same in absurd cc

-- promise: LineStream::advance: a short line is not too long
a_short_line_is_not_too_long : (left : Option (List ℕ)) (new : Streamed)
    → ¬ Advances (97 ∷ 10 ∷ []) left new (Err TooLong)
a_short_line_is_not_too_long left new h =
    let same : record { bytes = 97 ∷ []; is_ended = true } ≡ h.line = cc (h.lines) in
    let short : length h.line.bytes ≡ 1 = rw (← same) refl in
    let long = h.too_long in absurd (omega (arith, short, long))

-- promise: LineStream::advance, LineStream::number: each line has the next number
each_line_has_the_next_number : ¬ CountsLine 1 1 (Ok true)
each_line_has_the_next_number h = absurd (omega (arith, h.0))

-- promise: LineStream::advance: numbers are spent only behind the greatest
numbers_are_spent_at_the_greatest : (new : ℕ) → ¬ CountsLine 7 new (Err NumbersSpent)
numbers_are_spent_at_the_greatest new h = absurd (omega (arith, h))
