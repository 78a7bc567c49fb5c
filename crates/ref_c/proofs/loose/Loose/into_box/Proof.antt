-- `into_box` hands the pointer and the handle to `from_raw`, with what the `Loose` owns. Assumes `Logic`.
use Rattle.std.proofs.Common.{◌≡◌, List, [], ◌∷◌, ◌++◌, refl, sym, ap, subst}
use mir.MapTy.{inst_fn}
use mir.Syntax.{Args, Dicts, Fn, a_type, dcons, dnil}
use mir.Val.{Val, vptr}
use base.Fml.{ftrue, flft}
use base.Logic.{SProp, ent, id⊢}
use contract.BorrowLft.{◌⊑◌}
use contract.Monad.{fact}
use contract.Running.{tables}
use prog.Wp.{WpFn}
use types.ByLocal.{alloc_all, pass_all, free_all, look_at, get, get_in, sets, lands_last, env}
use types.Kit.{‵, raw, ◌⊛◌, some, later, at_ret, ◌$◌, ◌∵◌, !, qed, by, move}
use types.Kit.{keep, drop, use1, split, split3, join, fsplit, fjoin, pick, await, rewrite, suffices, feq_i}
use types.Part.{sub, whole}
use types.Run.{stop, fld, of_opd, no_more, and_then, first, blocks, exec, returns, enter}
use denote.Exit.{no}
use denote.Param.{bounded, layout, param}
use denote.Param.Laws.{param_laws}
use denote.RattleType.{RattleType, owns}
use denote.RawPtr.{block_ptr}
use denote.Signature.{types_at, plain}
use denote.Steps.{nothing, only}
use denote.Triple.Call.{calls_at_last}
use denote.Triple.Clauses.{Lasts, lasts}
use denote.Triple.Spec.{triple_of}
use denote.Triple.Walked.{AllGo, Stays, stay_dropped, walk_of}
use Rattle.core.proofs.alloc.Calls.{Al, Goes-blank}
use Rattle.core.proofs.alloc.Shapes.{after}
use Rattle.core.proofs.atomic.Steps.{fm}
use Rattle.core.proofs.cell.Inside.{Good}
use Rattle.std.proofs.raw_atomic.Walks.{proved_at, leaves}
use Rattle.std_alloc.proofs.BoxSteps.Form.{Bx, B, box_typed}
use Rattle.std_alloc.proofs.BoxSteps.Steps.{box_out, box_in}
use Rattle.std_alloc.proofs.boxed.Box.from_raw.Met.{met}
use Rattle.std_alloc.specs.contracts.boxed.Box.from_raw as boxes
use Rattle.ref_c.proofs.LooseValues.{Row, opened, word, word_fits}
use Rattle.ref_c.proofs.loose.Loose.into_box.Code as code
use Rattle.ref_c.proofs.loose.Loose.into_box.Statement.{statement}
use Rattle.ref_c.specs.contracts.loose.Loose.into_box.{ended, clauses}
use Rattle.ref_c.specs.contracts.loose.Loose.into_box.Key.{name}

pub into_box_spec : {M : Type 1} → statement M
into_box_spec 𝓤 𝓛 𝓜 𝓡 wired T A laws handle_laws ghosts dict drops handle_drops allocator glue handle_glue =
    let R : RattleType = param 0 T in
    let Z : RattleType = param 1 A in
    let Zs = param_laws 1 A handle_laws in
    let al : Al = record { row = A; laws = handle_laws; g = ghosts; d = dict; drops = handle_drops } in
    let E : Bx = record { row = T; laws = laws; al = al } in
    let dicts : Dicts = dcons dict (dcons drops (dcons handle_drops dnil)) in
    let args : Args = bounded (a_type ∷ a_type ∷ []) (T, (A, tt)) dicts in
    let fn : Fn = inst_fn args code.function in
    let F = ended T A ghosts dict drops handle_drops in
    let says = clauses T A ghosts dict drops handle_drops 𝓛 𝓜.mem 𝓡.returns in
    let stayed : Stays F.signature.params F.kept = (stay_dropped (plain (λ _. Row R Z Zs ghosts)) no, tt) in
    let goes : AllGo 𝓛 F.signature.lifetimes F.signature.params F.kept stayed =
    (Goes-blank 𝓛 2 (plain (λ _. Row R Z Zs ghosts)) no (λ κs x w. tt), tt) in
    let 𝓣 = tables 𝓤 𝓛.H 𝓜 𝓡 𝓡.env in
    let opens = code.unfolded 𝓤 𝓛.H 𝓜 𝓡 wired (T, (A, tt)) dict drops handle_drops in
    proved_at 𝓛 F stayed says 𝓜 𝓡 goes (name args) fn opens (λ z are.
    let κs = z.0.0 in let qs = z.0.1 in let loose = z.0.3.0 in let a = loose.alloc in let x = loose.value in
    let Post : Val → SProp 𝓤 = (walk_of 𝓛 F stayed says).post z in
    let Run : List Val → SProp 𝓤 = λ ws. WpFn 𝓤 𝓛.H 𝓣.C 𝓣.Λ fn ws Post in
    let tokens = ‵ (flft κs.0 qs.0) ⊛ ‵ (flft κs.1.0 qs.1.0) ⊛ ‵ ftrue in
    let asked = raw ((says κs z.0.3).requires z.1) in
    qed 𝓛 ((tokens ⊛ ‵ (owns (types_at F.signature.params κs) z.0.3 z.0.4)) ∷ asked ∷ []) ∵
    split ! $ move ! (1 ∷ []) $ fsplit ! $
    opened R Z Zs ghosts ! loose z.0.4.0 (λ b o h is_at is_word fits.
    -- [the block with the right; the handle; nothing more; the tokens; the requires, which bounds T and A]
    let w : Val = word b o h in
    let G = triple_of 𝓛 (boxes.signature T A ghosts dict handle_drops)
    (boxes.spec T A ghosts dict handle_drops 𝓛 𝓜.mem 𝓡.returns) in
    let y : G.Ghost = ((κs, qs, tt, (a, (block_ptr b o, tt)), (h ∷ [], (vptr b o ∷ [], tt))), x) in
    let known = met 𝓤 𝓛 𝓜 𝓡 (code.calls-std_alloc::boxed::Box::from_raw 𝓡.env wired)
    T A laws handle_laws ghosts dict handle_drops allocator handle_glue in
    let Bounds = raw (fact 𝓤 (κs.0 ⊑ T.lives)) ⊛ raw (fact 𝓤 (κs.1.0 ⊑ A.lives)) ⊛ ‵ ftrue in
    move ! (4 ∷ []) $ use1 𝓛 Bounds (id⊢ 𝓤 _) $ split3 ! $ move ! (2 ∷ []) $ drop ! $
    -- [the bounds of T and of A; the block with the right; the handle; nothing more; the tokens]
    move ! (1 ∷ 2 ∷ []) $ join ! $ move ! (1 ∷ 0 ∷ []) $ join ! $ move ! (2 ∷ []) $
    feq_i ! (List Val) (vptr b o ∷ []) (vptr b o ∷ []) refl $ fjoin ! $ move ! (2 ∷ 0 ∷ []) $ fjoin ! $
    move ! (2 ∷ 0 ∷ []) $ join ! $ join ! $ use1 𝓛 (raw (G.pre y)) (id⊢ 𝓤 _) $
    suffices ! (Run (w ∷ [])) (subst (λ (us : List Val). ent 𝓤 (Run (w ∷ [])) (Run us))
    (sym (λ i. is_word i ++ [])) (id⊢ 𝓤 (Run (w ∷ [])))) $
    enter ! 𝓣.C 𝓣.Λ fn (w ∷ []) Post $
    alloc_all ! (λ l. pass_all ! refl (word_fits R Z Zs ghosts b o h fits, tt) $
    let place = env fn.locals l in
    sets ! (of_opd ! (get_in ! (fld ! refl (stop !)) (sub ! 0 refl (whole !)))) refl (tt, tt) $
    sets ! (of_opd ! (get_in ! (fld ! refl (stop !)) (sub ! 1 refl (whole !)))) refl fits $
    first ! $ blocks ! $ sets ! (of_opd ! (get ! refl)) refl fits $
    calls_at_last ! (fm 𝓛 𝓜 𝓡) G known y (and_then ! (get ! refl) (and_then ! (get ! refl) (no_more !))) (λ u.
    -- what the call gives: the tokens and a box, what is left of the arguments, and what it ensures
    let Box : RattleType = B E in
    use1 𝓛 (later (some (λ (r : Box.Denot). (tokens ⊛ ‵ (Box.own_val r (u ∷ []))) ⊛
    some (λ (ls : Lasts (boxes.ended T A ghosts dict handle_drops) κs y.0.3).
    ‵ (lasts (boxes.ended T A ghosts dict handle_drops) κs y.0.3 ls) ⊛
    (raw (fact 𝓤 (r.value ≡ x)) ⊛ raw (fact 𝓤 (r.alloc ≡ a))))))) (id⊢ 𝓤 (G.post y u)) $
    await ! tt $ pick ! (λ r. split ! $ move ! (1 ∷ []) $ pick ! (λ ls. split3 ! $ drop ! $
    move ! (2 ∷ []) $ split ! $ move ! (1 ∷ []) $
    -- [the box; the tokens; that it has the value; that it has the handle; nothing more]
    box_out E ! r (u ∷ []) (λ b' o' h' is_at' is_word' fits'. box_in E ! r b' o' r.value is_at' refl $
    rewrite ! 0 (λ (us : List Val). ‵ (Box.own_val r us)) (sym is_word') refl $
    let good : Good (layout Box) u = subst (Good (layout Box)) (sym (ap only is_word')) (box_typed E h' b' o' fits') in
    lands_last ! refl good $ exec ! 𝓣.C 𝓣.Λ place (after 3 fn.body) (at_ret place Post) $
    sets ! (of_opd ! (get ! refl)) refl good $ nothing ! $ nothing ! $ fjoin ! $
    returns ! (look_at ! 0 refl) $ free_all ! refl $ keep ! (2 ∷ 0 ∷ 1 ∷ 3 ∷ []) $
    by ! (leaves 𝓛 F stayed says z u r ((tt, (tt, tt)), tt) (tt, tt)))))))))
