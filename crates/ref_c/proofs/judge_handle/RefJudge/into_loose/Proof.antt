-- `into_loose` compares the pointer with null, and the box goes with it. Assumes `Logic`.
use Rattle.std.proofs.Common.{◌≡◌, List, [], ◌∷◌, ◌++◌, refl, sym, ap, ◌∙◌, subst, lit<}
use mir.Syntax.{Fn}
use mir.Val.{Val, vcons, vnil}
use base.Logic.{SProp, ent, emp, id⊢}
use contract.Monad.{fact, fact_i}
use contract.Running.{tables}
use prog.Wp.{WpFn}
use types.ByLocal.{alloc_all, pass_all, free_all, look_at, get, get_in, sets, sets_last, env}
use types.Kit.{‵, raw, ◌⊛◌, given, at_ret, ◌$◌, ◌∵◌, !, qed}
use types.Kit.{by, move, keep, split, fsplit, fjoin, suffices, use0, use1, learn}
use types.Match.{live}
use types.Part.{agg, sub, whole}
use types.Run.{stop, fld, lit, of_opd, bin, no_more, and_then, first, branches, exec, returns, enter}
use denote.Exit.{yes}
use denote.Param.{layout}
use denote.RattleType.{RattleType, owns}
use denote.RawPtr.{Ptr, block_ptr, null_ptr, ptr_val, tests_null, Testable}
use denote.Signature.{types_at, type_at, plain}
use denote.Steps.{nothing}
use denote.Triple.Entry.{alive}
use denote.Triple.Walked.{AllGo, Stays, stay_dropped, Goes-dropped, walk_of}
use Rattle.core.proofs.alloc.Calls.{handle_tells}
use Rattle.core.proofs.alloc.Shapes.{after}
use Rattle.core.proofs.cell.Inside.{Good}
use Rattle.core.proofs.option.Made.{Some-of, none_of}
use Rattle.core.specs.declared.option.Option.TheVariants.{None, Some}
use Rattle.std.proofs.alloc.Global.TheLaws as heap_laws
use Rattle.std.proofs.raw_atomic.Walks.{proved_at, leaves}
use Rattle.std.specs.contracts.alloc.Global as heap
use Rattle.std.specs.contracts.impls.GlobalAllocator.TheImpl.{ghosts}
use Rattle.std_alloc.proofs.ResultValues.{and_tt}
use Rattle.ref_c.proofs.Handles.{one, either_holds, tested}
use Rattle.ref_c.proofs.JudgeHandles.{JudgeHandle, judge_out}
use Rattle.ref_c.proofs.LooseValues.{Row, closed, handles, word, word_fits}
use Rattle.ref_c.proofs.judge_handle.RefJudge.into_loose.Code as code
use Rattle.ref_c.proofs.judge_handle.RefJudge.into_loose.Statement.{statement}
use Rattle.ref_c.specs.Holding.{boxed}
use Rattle.ref_c.specs.contracts.judge_handle.RefJudge.into_loose.{ended, clauses}
use Rattle.ref_c.specs.contracts.judge_handle.RefJudge.into_loose.Key.{name}
use Rattle.ref_c.specs.contracts.judged.KeptJudge as kept

pub into_loose_spec : {M : Type 1} → statement M
into_loose_spec 𝓤 𝓛 𝓜 𝓡 wired =
    let R : RattleType = kept.the_row in
    let Z : RattleType = heap.the_row in
    let laws = heap_laws.the_row_laws in
    let Loose : RattleType = Row R Z laws ghosts in
    let fn : Fn = code.function in
    let says = clauses 𝓛 𝓜.mem 𝓡.returns in
    let stayed : Stays ended.signature.params ended.kept =
    (stay_dropped (plain (λ _. JudgeHandle)) yes, (stay_dropped (plain (λ _. Z)) yes, tt)) in
    let goes : AllGo 𝓛 ended.signature.lifetimes ended.signature.params ended.kept stayed = (
      Goes-dropped 𝓛 0 (plain (λ _. JudgeHandle)) yes (λ κs x w. refl),
      (Goes-dropped 𝓛 0 (plain (λ _. Z)) yes (λ κs x w. refl), tt),
    ) in
    let 𝓣 = tables 𝓤 𝓛.H 𝓜 𝓡 𝓡.env in
    proved_at 𝓛 ended stayed says 𝓜 𝓡 goes name fn (code.unfolded 𝓤 𝓛.H 𝓜 𝓡 wired) (λ z are.
    let d = z.0.3.0 in let g = z.0.3.1.0 in
    let Out : RattleType = type_at ended.signature.result z.0.0 in
    let Post : Val → SProp 𝓤 = (walk_of 𝓛 ended stayed says).post z in
    let Run : List Val → SProp 𝓤 = λ ws. WpFn 𝓤 𝓛.H 𝓣.C 𝓣.Λ fn ws Post in
    let tokens = raw (alive 𝓛 ended.signature z.0.0 z.0.1) in
    let arguments = ‵ (owns (types_at ended.signature.params z.0.0) z.0.3 z.0.4) in
    qed 𝓛 ((tokens ⊛ arguments) ∷ raw ((says z.0.0 z.0.3).requires z.1) ∷ []) ∵
    split ! $ move ! (1 ∷ []) $ fsplit ! $ move ! (1 ∷ []) $ fsplit ! $
    handle_tells (handles R Z laws ghosts) ! g z.0.4.1.0 (λ h is_handle fits. move ! (2 ∷ []) $
    judge_out ! d z.0.4.0 (λ is_word.
    -- [what the handle holds; the allocator's handle; nothing more; the tokens; the empty requires]
    let Start : Ptr → List Val = λ p. one (ptr_val p) ∷ h ∷ [] in
    let begins : (p : Ptr) → d.at ≡ p → ent 𝓤 (Run (Start p)) (Run (z.0.4.0 ++ (z.0.4.1.0 ++ []))) = λ p is.
    subst (λ (us : List Val). ent 𝓤 (Run (Start p)) (Run (us ++ (z.0.4.1.0 ++ []))))
    (sym (is_word ∙ ap (λ (q : Ptr). one (ptr_val q) ∷ []) is))
    (subst (λ (us : List Val). ent 𝓤 (Run (Start p)) (Run (one (ptr_val p) ∷ (us ++ []))))
    (sym is_handle) (id⊢ 𝓤 (Run (Start p)))) in
    either_holds R ! d.at d.held
    (λ is was.
    suffices ! (Run (Start null_ptr)) (begins null_ptr is) $
    enter ! 𝓣.C 𝓣.Λ fn (Start null_ptr) Post $
    alloc_all ! (λ l. pass_all ! refl ((tt, (record { fits = lit< tt }, tt)), (fits, tt)) $
    let place = env fn.locals l in
    sets ! (of_opd ! (get_in ! (fld ! refl (stop !)) (sub ! 0 refl (whole !)))) refl (tt, record { fits = lit< tt }) $
    sets ! (bin ! (get ! refl) (lit ! tt) tt) refl (tt, tt) $ first ! $ branches ! (get ! refl)
    (λ yes.
    sets_last ! (agg ! (and_then ! (lit ! tt) (no_more !))) refl (tt, (record { fits = lit< tt }, tt)) $
    exec ! 𝓣.C 𝓣.Λ place (after 3 fn.body) (at_ret place Post) $
    sets ! (of_opd ! (get ! refl)) refl (tt, (record { fits = lit< tt }, tt)) $
    returns ! (look_at ! 0 refl) $ free_all ! refl $
    use0 𝓛 (‵ (Out.own_val None (live 0 vnil ∷ []))) (none_of 𝓛 Loose) $
    use0 𝓛 (raw (fact 𝓤 (d.held ≡ None))) (fact_i 𝓤 (d.held ≡ None) (emp 𝓤) was) $
    nothing ! $ nothing ! $ fjoin ! $ nothing ! $ fjoin ! $ keep ! (5 ∷ 0 ∷ 2 ∷ 1 ∷ []) $
    by ! (leaves 𝓛 ended stayed says z (live 0 vnil) None (tt, (tt, tt)) (tt, (tt, tt))))
    (λ no. absurd no)))
    (λ b o a x is was.
    let p = block_ptr b o in
    use1 𝓛 (given (Testable p) (‵ (boxed R a p x))) (tested R 𝓛 a p x) $ learn ! (λ testable.
    let inside : Val = word b o h in
    let typed = word_fits R Z laws ghosts b o h fits in
    let v : Val = live 1 (vcons inside vnil) in
    let made : Loose.Denot = record { at = p; alloc = g; value = x } in
    let good : Good (layout Out) v = (and_tt _ typed.0, (record { fits = lit< tt }, (typed.1, tt))) in
    suffices ! (Run (Start p)) (begins p is) $
    enter ! 𝓣.C 𝓣.Λ fn (Start p) Post $
    alloc_all ! (λ l. pass_all ! refl ((tt, (tt, tt)), (fits, tt)) $ let place = env fn.locals l in
    sets ! (of_opd ! (get_in ! (fld ! refl (stop !)) (sub ! 0 refl (whole !)))) refl (tt, tt) $
    sets ! (bin ! (get ! refl) (lit ! tt) (tests_null p testable)) refl (tt, tt) $
    first ! $ branches ! (get ! refl)
    (λ yes. absurd yes)
    (λ no.
    sets ! (of_opd ! (get ! refl)) refl (tt, tt) $
    sets ! (agg ! (and_then ! (get ! refl) (and_then ! (get ! refl) (no_more !)))) refl typed $
    sets_last ! (agg ! (and_then ! (lit ! tt) (and_then ! (get ! refl) (no_more !)))) refl good $
    exec ! 𝓣.C 𝓣.Λ place (after 3 fn.body) (at_ret place Post) $ sets ! (of_opd ! (get ! refl)) refl good $
    closed R Z laws ghosts ! b o h g x $
    use1 𝓛 (‵ (Out.own_val (Some made) (v ∷ []))) (Some-of 𝓛 Loose made inside) $
    use0 𝓛 (raw (fact 𝓤 (d.held ≡ Some x))) (fact_i 𝓤 (d.held ≡ Some x) (emp 𝓤) was) $
    nothing ! $ nothing ! $ fjoin ! $ nothing ! $ fjoin ! $
    returns ! (look_at ! 0 refl) $ free_all ! refl $ keep ! (4 ∷ 0 ∷ 2 ∷ 1 ∷ []) $
    by ! (leaves 𝓛 ended stayed says z v (Some made) (tt, (tt, tt)) (tt, (tt, tt))))))))))
