-- `of` keeps the pointer alone, and the box goes with it. Assumes `Logic`.
use Rattle.std.proofs.Common.{◌≡◌, List, [], ◌∷◌, ◌++◌, refl, sym, subst}
use mir.Syntax.{Fn}
use mir.Val.{Val, vptr}
use base.Logic.{SProp, ent, emp, id⊢}
use contract.Monad.{fact, fact_i}
use contract.Running.{tables}
use prog.Wp.{WpFn}
use types.ByLocal.{alloc_all, pass_all, free_all, look_at, get, get_in, sets}
use types.Kit.{‵, raw, ◌⊛◌, ◌$◌, ◌∵◌, !, qed, by, move, keep, split, fsplit, fjoin, fpack, suffices, use0}
use types.Part.{agg, sub, whole}
use types.Run.{stop, fld, of_opd, no_more, and_then, returns, enter}
use denote.Exit.{yes}
use denote.RattleType.{RattleType, owns}
use denote.RawPtr.{block_ptr}
use denote.Signature.{types_at, plain}
use denote.Steps.{nothing}
use denote.Triple.Entry.{alive}
use denote.Triple.Walked.{AllGo, Stays, stay_dropped, Goes-dropped, walk_of}
use Rattle.std.proofs.alloc.Global.TheLaws as heap_laws
use Rattle.std.proofs.raw_atomic.Walks.{proved_at, leaves}
use Rattle.std.specs.contracts.alloc.Global as heap
use Rattle.std.specs.contracts.impls.GlobalAllocator.TheImpl.{ghosts}
use Rattle.std.specs.declared.alloc.Global.{Global}
use Rattle.std.specs.declared.option.Option.{Option}
use Rattle.std.specs.declared.option.Option.TheVariants.{Some}
use Rattle.ref_c.proofs.Handles.{one}
use Rattle.ref_c.proofs.JudgeHandles.{judge_in}
use Rattle.ref_c.proofs.LooseValues.{Row, opened, word, word_fits}
use Rattle.ref_c.proofs.judge_handle.RefJudge.of.Code as code
use Rattle.ref_c.proofs.judge_handle.RefJudge.of.Statement.{statement}
use Rattle.ref_c.specs.Holding.{KeptJudge, boxed}
use Rattle.ref_c.specs.contracts.judge_handle.RefJudge.of.{ended, clauses}
use Rattle.ref_c.specs.contracts.judge_handle.RefJudge.of.Key.{name}
use Rattle.ref_c.specs.contracts.judged.KeptJudge as kept

pub of_spec : {M : Type 1} → statement M
of_spec 𝓤 𝓛 𝓜 𝓡 wired =
    let R : RattleType = kept.the_row in
    let Z : RattleType = heap.the_row in
    let laws = heap_laws.the_row_laws in
    let Loose : RattleType = Row R Z laws ghosts in
    let fn : Fn = code.function in
    let says = clauses 𝓛 𝓜.mem 𝓡.returns in
    let stayed : Stays ended.signature.params ended.kept = (stay_dropped (plain (λ _. Loose)) yes, tt) in
    let goes : AllGo 𝓛 ended.signature.lifetimes ended.signature.params ended.kept stayed =
    (Goes-dropped 𝓛 0 (plain (λ _. Loose)) yes (λ κs x w. refl), tt) in
    let 𝓣 = tables 𝓤 𝓛.H 𝓜 𝓡 𝓡.env in
    proved_at 𝓛 ended stayed says 𝓜 𝓡 goes name fn (code.unfolded 𝓤 𝓛.H 𝓜 𝓡 wired) (λ z are.
    let loose = z.0.3.0 in let held : Option KeptJudge = Some loose.value in
    let Post : Val → SProp 𝓤 = (walk_of 𝓛 ended stayed says).post z in
    let Run : List Val → SProp 𝓤 = λ ws. WpFn 𝓤 𝓛.H 𝓣.C 𝓣.Λ fn ws Post in
    let tokens = raw (alive 𝓛 ended.signature z.0.0 z.0.1) in
    let arguments = ‵ (owns (types_at ended.signature.params z.0.0) z.0.3 z.0.4) in
    qed 𝓛 ((tokens ⊛ arguments) ∷ raw ((says z.0.0 z.0.3).requires z.1) ∷ []) ∵
    split ! $ move ! (1 ∷ []) $ fsplit ! $
    opened R Z laws ghosts ! loose z.0.4.0 (λ b o h is_at is_word fits.
    -- [the box; the allocator's handle; nothing more; the tokens; the empty requires]
    let w : Val = word b o h in
    suffices ! (Run (w ∷ [])) (subst (λ (us : List Val). ent 𝓤 (Run (w ∷ [])) (Run us))
    (sym (λ i. is_word i ++ [])) (id⊢ 𝓤 (Run (w ∷ [])))) $
    enter ! 𝓣.C 𝓣.Λ fn (w ∷ []) Post $
    alloc_all ! (λ l. pass_all ! refl (word_fits R Z laws ghosts b o h fits, tt) $
    sets ! (of_opd ! (get_in ! (fld ! refl (stop !)) (sub ! 0 refl (whole !)))) refl (tt, tt) $
    sets ! (of_opd ! (get ! refl)) refl (tt, tt) $
    sets ! (agg ! (and_then ! (get ! refl) (no_more !))) refl (tt, (tt, tt)) $
    returns ! (look_at ! 0 refl) $ free_all ! refl $ keep ! (0 ∷ 3 ∷ []) $
    -- [the box; the tokens], and then the handle and what is ensured
    fpack ! Global (λ a. boxed R a (block_ptr b o) loose.value) loose.alloc $ judge_in ! (block_ptr b o) held $
    use0 𝓛 (raw (fact 𝓤 (held ≡ held))) (fact_i 𝓤 (held ≡ held) (emp 𝓤) refl) $
    nothing ! $ nothing ! $ fjoin ! $ move ! (3 ∷ 0 ∷ 2 ∷ 1 ∷ []) $
    by ! (leaves 𝓛 ended stayed says z (one (vptr b o)) (record { at = block_ptr b o; held = held }) (tt, tt)
    (tt, tt)))))
