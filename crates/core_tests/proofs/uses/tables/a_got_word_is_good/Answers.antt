use Rattle.ref_space.proofs.Common.{◌≡◌, ℕ, true, ap, sym, ◌∙◌, refl, arith, Option, Some, None, Table, inl, inr}
use Rattle.ref_space.proofs.Common.{cases_Bool}
use Rattle.ref_base.specs.Members.{has}
use Rattle.ref_space.specs.ColouredWords.{are_in_colour}
use Rattle.ref_space.specs.Tables.{brought, held_at, left_of, referent_held, with_read, word_name}
use Rattle.core_tests.proofs.uses.tables.a_got_word_is_good.Goals as goal

-- what moves leaves the round
round_brought : (t : Table) (n : Option ℕ) → (brought t n).round ≡ t.round
round_brought t None = refl
round_brought t (Some n) =
    elim (cases_Bool (has (left_of t) n)) [ inl leaves ↦ simp leaves refl | inr stays ↦ simp stays refl ]

in_colour : (c : goal.After-has_colour) → are_in_colour c.args.good c.in-Some-word_of_referent.bits ≡ true
in_colour c =
    let t = c.args.table.now in
    let named = with_read t (word_name (held_at t c.args.from) None) in
    let round = ap (λ (s : Table). s.round) c.get_referent.ensures.after
    ∙ round_brought named (referent_held t c.args.from) in
    ap (λ good. are_in_colour good c.in-Some-word_of_referent.bits)
    (sym (ap (λ r. r.good) round ∙ c.requires.good))
    ∙ c.in-Some-word_of_referent.ensures.read
    (ap (λ r. r.read) round ∙ ap (λ n. word_name n None) (sym c.in-Some.ensures))

pub returns-else-bits-eq0 : goal.returns-else-bits-eq0
returns-else-bits-eq0 c = let good = in_colour c in grind arith
