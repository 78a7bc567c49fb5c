use Rattle.refrun.proofs.Common.{◌≡◌, true, refl, sym, ◌∙◌, flat_map, arith, true≢false, has}
use Rattle.std.specs.Prelude.{slice_index_or}
use Rattle.std.proofs.lemmas.List.{get_or_default}
use Rattle.refrun.proofs.NoEvidence.{contained, is_given, next_of_all}
use Rattle.refrun.proofs.evidence.not_taken.Goals as goal

pub returns-then-not-is_taken-clause-shows : goal.returns-then-not-is_taken-clause-shows
returns-then-not-is_taken-clause-shows g c =
    let n = c.number-item.result in
    let lists = c.args.lists.now in (
      (c.loop-number.number-index, omega arith, sym c.number-item.is),
      λ k d within stands.
          true≢false
          (sym
          (is_given (λ v. v.items) lists k (slice_index_or lists k d) (slice_index_or lists k d).items within
          (get_or_default lists k d (slice_index_or lists k d) within) refl n
          (contained (slice_index_or lists k d).items n stands)) ∙ sym c.is_taken.ensures ∙ c.if-not-is_taken.true),
    )

pub loop-number-preserved : goal.loop-number-preserved
loop-number-preserved g c =
    next_of_all c.args.taken.now c.loop-number.number-index c.number-item.result (omega arith) c.number-item.is
    (λ n. has (flat_map (λ v. v.items) c.args.lists.now) n ≡ true) c.loop-number.invariant
    (sym c.is_taken.ensures ∙ c.if-not-is_taken.false)
