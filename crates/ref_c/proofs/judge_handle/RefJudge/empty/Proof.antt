-- A handle of nothing is the null pointer, and owns nothing. Assumes `Logic`.
use Rattle.std.proofs.Common.{◌≡◌, [], ◌∷◌, refl, lit<}
use mir.Syntax.{Fn}
use mir.Val.{Val}
use base.Logic.{SProp, emp}
use contract.Monad.{fact, fact_i}
use contract.Running.{tables}
use types.ByLocal.{alloc_all, pass_all, free_all, look_at, sets}
use types.Kit.{‵, raw, ◌⊛◌, ◌$◌, ◌∵◌, !, qed, by, move, drop, split, use0, feq_i}
use types.Part.{agg}
use types.Run.{lit, no_more, and_then, returns, enter}
use denote.RattleType.{owns}
use denote.RawPtr.{Ptr, null_ptr, ptr_val}
use denote.Signature.{types_at}
use denote.Steps.{nothing}
use denote.Triple.Entry.{alive}
use denote.Triple.Walked.{Stays, walk_of}
use Rattle.std.proofs.raw_atomic.Walks.{proved_at, leaves}
use Rattle.std.specs.declared.option.Option.{Option}
use Rattle.std.specs.declared.option.Option.TheVariants.{None}
use Rattle.ref_c.proofs.Handles.{one}
use Rattle.ref_c.proofs.JudgeHandles.{judge_in}
use Rattle.ref_c.proofs.judge_handle.RefJudge.empty.Code as code
use Rattle.ref_c.proofs.judge_handle.RefJudge.empty.Statement.{statement}
use Rattle.ref_c.specs.Holding.{KeptJudge}
use Rattle.ref_c.specs.contracts.judge_handle.RefJudge.empty.{ended, clauses}
use Rattle.ref_c.specs.contracts.judge_handle.RefJudge.empty.Key.{name}

pub empty_spec : {M : Type 1} → statement M
empty_spec 𝓤 𝓛 𝓜 𝓡 wired =
    let fn : Fn = code.function in
    let says = clauses 𝓛 𝓜.mem 𝓡.returns in
    let stayed : Stays ended.signature.params ended.kept = tt in
    let 𝓣 = tables 𝓤 𝓛.H 𝓜 𝓡 𝓡.env in
    let none : Option KeptJudge = None in
    proved_at 𝓛 ended stayed says 𝓜 𝓡 tt name fn (code.unfolded 𝓤 𝓛.H 𝓜 𝓡 wired) (λ z are.
    let Post : Val → SProp 𝓤 = (walk_of 𝓛 ended stayed says).post z in
    let tokens = raw (alive 𝓛 ended.signature z.0.0 z.0.1) in
    let arguments = ‵ (owns (types_at ended.signature.params z.0.0) z.0.3 z.0.4) in
    qed 𝓛 ((tokens ⊛ arguments) ∷ raw ((says z.0.0 z.0.3).requires z.1) ∷ []) ∵
    split ! $ move ! (1 ∷ 2 ∷ []) $ drop ! $
    -- [the empty requires; the tokens]
    enter ! 𝓣.C 𝓣.Λ fn [] Post $ alloc_all ! (λ l. pass_all ! refl tt $
    sets ! (agg ! (and_then ! (lit ! tt) (no_more !))) refl (tt, (record { fits = lit< tt }, tt)) $
    returns ! (look_at ! 0 refl) $ free_all ! refl $ drop ! $
    -- [the tokens], and then the handle and what is ensured
    feq_i ! Ptr null_ptr null_ptr refl $ judge_in ! null_ptr None $
    use0 𝓛 (raw (fact 𝓤 (none ≡ none))) (fact_i 𝓤 (none ≡ none) (emp 𝓤) refl) $
    nothing ! $ move ! (3 ∷ 0 ∷ 2 ∷ 1 ∷ []) $
    by ! (leaves 𝓛 ended stayed says z (one (ptr_val null_ptr)) (record { at = null_ptr; held = None }) tt tt)))
