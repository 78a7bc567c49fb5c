-- `of` asks `into_raw_with_allocator` for the pointer and the handle, and puts them side by side. Assumes `Logic`.
use Rattle.std.proofs.Common.{◌≡◌, List, [], ◌∷◌, ◌++◌, refl, sym, ap, ◌∙◌, subst}
use mir.MapTy.{inst_fn}
use mir.Syntax.{Args, Dicts, Fn, a_type, dcons, dnil}
use mir.Raw.{raw as bare}
use mir.Val.{Val, vstruct, of_list}
use base.Fml.{ftrue, flft}
use base.Logic.{SProp, ent, emp, fst∗, id⊢, never}
use contract.Monad.{fact, fact_i}
use contract.Running.{tables}
use prog.Wp.{WpFn}
use types.ByLocal.{alloc_all, pass_all, free_all, look_at, get, get_in, lands_as, sets}
use types.Kit.{‵, raw, ◌⊛◌, some, later, ◌$◌, ◌∵◌, !, qed, by, move, keep, drop}
use types.Kit.{use0, use1, split, split3, join, fsplit, fjoin, fpick, pick, await, rewrite, suffices, feq_l}
use types.Logic.{sem}
use types.Part.{agg, sub, whole}
use types.Run.{stop, fld, of_opd, no_more, and_then, returns, enter}
use denote.Builtin.{RawPtr}
use denote.Exit.{no}
use denote.Param.{bounded, layout, param}
use denote.Param.Laws.{param_laws}
use denote.RattleType.{RattleType, owns}
use denote.RawPtr.{Ptr, block_ptr, null_ptr, ptr_val, in_a_block}
use denote.Signature.{types_at, plain}
use denote.Steps.{nothing, only, heard}
use denote.Struct.Tuple.{Tuple}
use denote.Triple.Call.{calls_at}
use denote.Triple.Clauses.{Lasts, lasts}
use denote.Triple.Spec.{triple_of}
use denote.Triple.Walked.{AllGo, Stays, stay_dropped, walk_of}
use Rattle.core.proofs.alloc.Calls.{Al, Goes-blank, handle_tells}
use Rattle.core.proofs.atomic.Steps.{fm}
use Rattle.std.proofs.raw_atomic.Walks.{proved_at, leaves}
use Rattle.std_alloc.proofs.BoxSteps.Form.{Bx, B, box_typed, word as box_word}
use Rattle.std_alloc.proofs.BoxSteps.Steps.{box_out, box_in}
use Rattle.std_alloc.proofs.boxed.Box.into_raw_with_allocator.Met.{met}
use Rattle.std_alloc.specs.contracts.boxed.Box.into_raw_with_allocator as unboxes
use Rattle.ref_c.proofs.LooseValues.{closed, owned_at, word, word_fits}
use Rattle.ref_c.proofs.loose.Loose.of.Code as code
use Rattle.ref_c.proofs.loose.Loose.of.Statement.{statement}
use Rattle.ref_c.specs.contracts.loose.Loose.of.{ended, clauses}
use Rattle.ref_c.specs.contracts.loose.Loose.of.Key.{name}

pub of_spec : {M : Type 1} → statement M
of_spec 𝓤 𝓛 𝓜 𝓡 wired T A laws handle_laws ghosts dict drops handle_drops allocator glue handle_glue =
    let R : RattleType = param 0 T in
    let Z : RattleType = param 1 A in
    let Zs = param_laws 1 A handle_laws in
    let al : Al = record { row = A; laws = handle_laws; g = ghosts; d = dict; drops = handle_drops } in
    let E : Bx = record { row = T; laws = laws; al = al } in
    let dicts : Dicts = dcons dict (dcons drops (dcons handle_drops dnil)) in
    let args : Args = bounded (a_type ∷ a_type ∷ []) (T, (A, tt)) dicts in
    let fn : Fn = inst_fn args code.function in
    let F = ended T A ghosts dict drops handle_drops in
    let says = clauses T A ghosts dict drops handle_drops 𝓛 𝓜.mem 𝓡.returns in
    let stayed : Stays F.signature.params F.kept = (stay_dropped (plain (λ _. B E)) no, tt) in
    let goes : AllGo 𝓛 F.signature.lifetimes F.signature.params F.kept stayed =
    (Goes-blank 𝓛 2 (plain (λ _. B E)) no (λ κs x w. tt), tt) in
    let 𝓣 = tables 𝓤 𝓛.H 𝓜 𝓡 𝓡.env in
    let opens = code.unfolded 𝓤 𝓛.H 𝓜 𝓡 wired (T, (A, tt)) dict drops handle_drops in
    proved_at 𝓛 F stayed says 𝓜 𝓡 goes (name args) fn opens (λ z are.
    let κs = z.0.0 in let qs = z.0.1 in let boxed = z.0.3.0 in let a = boxed.alloc in let x = boxed.value in
    let Post : Val → SProp 𝓤 = (walk_of 𝓛 F stayed says).post z in
    let Run : List Val → SProp 𝓤 = λ ws. WpFn 𝓤 𝓛.H 𝓣.C 𝓣.Λ fn ws Post in
    let tokens = ‵ (flft κs.0 qs.0) ⊛ ‵ (flft κs.1.0 qs.1.0) ⊛ ‵ ftrue in
    let asked = raw ((says κs z.0.3).requires z.1) in
    qed 𝓛 ((tokens ⊛ ‵ (owns (types_at F.signature.params κs) z.0.3 z.0.4)) ∷ asked ∷ []) ∵
    split ! $ move ! (1 ∷ []) $ fsplit ! $
    -- [the box; nothing more; the tokens; the empty requires]
    box_out E ! boxed z.0.4.0 (λ b o h is_at is_word fits. box_in E ! boxed b o x is_at refl $
    let w : Val = box_word E h b o in
    let G = triple_of 𝓛 (unboxes.signature T A ghosts dict handle_drops drops)
    (unboxes.spec T A ghosts dict handle_drops drops 𝓛 𝓜.mem 𝓡.returns) in
    let y : G.Ghost = ((κs, qs, tt, (boxed, tt), (w ∷ [], tt)), tt) in
    let known = met 𝓤 𝓛 𝓜 𝓡 (code.calls-std_alloc::boxed::Box::into_raw_with_allocator 𝓡.env wired)
    T A laws handle_laws ghosts dict handle_drops drops allocator handle_glue glue in
    let Pair : RattleType = Tuple (RawPtr ∷ Z ∷ []) in
    let Block = owned_at R Z Zs ghosts a in
    -- [what the call asks for; the empty requires]
    fjoin ! $ move ! (1 ∷ 0 ∷ []) $ join ! $ join ! $ use1 𝓛 (raw (G.pre y)) (id⊢ 𝓤 _) $
    suffices ! (Run (w ∷ [])) (subst (λ (us : List Val). ent 𝓤 (Run (w ∷ [])) (Run us))
    (sym (λ i. is_word i ++ [])) (id⊢ 𝓤 (Run (w ∷ [])))) $
    enter ! 𝓣.C 𝓣.Λ fn (w ∷ []) Post $
    alloc_all ! (λ l. pass_all ! refl (box_typed E h b o fits, tt) $
    sets ! (of_opd ! (get ! refl)) refl (box_typed E h b o fits) $
    calls_at ! (fm 𝓛 𝓜 𝓡) G known y (and_then ! (get ! refl) (no_more !)) (λ u.
    -- what the call gives: the tokens and the pair, what is left of the box, and what it ensures
    use1 𝓛 (later (some (λ (r : Ptr × A.Denot). (tokens ⊛ ‵ (Pair.own_val r (u ∷ []))) ⊛
    some (λ (ls : Lasts (unboxes.ended T A ghosts dict handle_drops drops) κs y.0.3).
    ‵ (lasts (unboxes.ended T A ghosts dict handle_drops drops) κs y.0.3 ls) ⊛
    (raw (fact 𝓤 (r.1 ≡ a)) ⊛ ‵ (Block r.0 x)))))) (id⊢ 𝓤 (G.post y u)) $
    await ! tt $ pick ! (λ r. split ! $ move ! (1 ∷ []) $ pick ! (λ ls. split3 ! $ drop ! $ heard ! (r.1 ≡ a) (λ same.
    let nowhere = sem 𝓛 (ghosts.dealloc_token a (bare (layout T)) null_ptr) in
    in_a_block ! r.0 (λ p. Block p x) (fst∗ 𝓤 (never 𝓤) nowhere) (λ b' o' is_at'.
    -- [the block with the right; the tokens and the pair; the empty requires]
    move ! (1 ∷ []) $ split ! $ move ! (1 ∷ []) $
    fpick ! (λ parts. fsplit ! $ feq_l ! (λ is_pair. fsplit ! $ feq_l ! (λ is_ptr. fsplit ! $
    rewrite ! 0 (λ (s : A.Denot). ‵ (A.own_val s parts.1.0)) same refl $
    handle_tells al ! a parts.1.0 (λ h' is_handle fits'.
    let made = word_fits R Z Zs ghosts b' o' h' fits' in
    let listed : List Val → List Val → List Val = λ ps hs. vstruct (of_list (ps ++ (hs ++ []))) ∷ [] in
    let told = is_pair ∙ ap (λ (ps : List Val). listed ps parts.1.0) is_ptr
    ∙ ap (λ (hs : List Val). listed (ptr_val r.0 ∷ []) hs) is_handle
    ∙ ap (λ (p : Ptr). listed (ptr_val p ∷ []) (h' ∷ [])) is_at' in
    lands_as ! (ap only told) refl made $
    sets ! (of_opd ! (get_in ! (fld ! refl (stop !)) (sub ! 0 refl (whole !)))) refl (tt, tt) $
    sets ! (of_opd ! (get_in ! (fld ! refl (stop !)) (sub ! 1 refl (whole !)))) refl fits' $
    sets ! (of_opd ! (get ! refl)) refl fits' $
    sets ! (agg ! (and_then ! (get ! refl) (and_then ! (get ! refl) (no_more !)))) refl made $
    -- [the handle; nothing more; the tokens; the block with the right; the empty requires]
    move ! (3 ∷ 0 ∷ []) $ closed R Z Zs ghosts ! b' o' h' a x $
    use0 𝓛 (raw (fact 𝓤 (x ≡ x))) (fact_i 𝓤 (x ≡ x) (emp 𝓤) refl) $ nothing ! $ nothing ! $ fjoin ! $
    returns ! (look_at ! 0 refl) $ free_all ! refl $ keep ! (4 ∷ 0 ∷ 2 ∷ 1 ∷ []) $
    by ! (leaves 𝓛 F stayed says z (word b' o' h') (record { at = block_ptr b' o'; alloc = a; value = x })
    ((tt, (tt, tt)), tt) (tt, tt))))))))))))))
