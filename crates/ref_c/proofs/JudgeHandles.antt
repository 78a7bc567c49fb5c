-- The machine value of a judge's handle. Assumes `Logic`.
use Rattle.std.proofs.Common.{◌≡◌, List, [], ◌∷◌, ◌++◌, refl, subst}
use seplogic.Ra.Ura.{Ura}
use mir.Val.{Val, vstruct, of_list}
use types.Kit.{Item, Goal, Seq, Step, step, ‵, ◌$◌, drop, fsplit, fjoin, fpick, fpack, feq_i, feq_l}
use types.Logic.{Logic}
use denote.Builtin.{RawPtr}
use denote.RattleType.{RattleType, Valss}
use denote.RawPtr.{Ptr, ptr_val}
use denote.Steps.{nothing}
use denote.Struct.Owning.{shape}
use denote.Struct.Struct.{within}
use Rattle.std.specs.declared.option.Option.{Option}
use Rattle.ref_c.proofs.Handles.{one}
use Rattle.ref_c.specs.Holding.{KeptJudge, holds_judge}
use Rattle.ref_c.specs.contracts.judge_handle.RefJudge as handle

abbrev pub JudgeHandle : RattleType
JudgeHandle = handle.the_row

module _ {M : Type 1} {𝓤 : Ura M} {𝓛 : Logic 𝓤} {K : Type 0} {Γ : List (Item 𝓤)} {G : Goal 𝓤 𝓛.H} where
  -- a handle is its pointer, and owns what lies there
  pub judge_out : K → (d : JudgeHandle.Denot) (vs : List Val)
      → (vs ≡ one (ptr_val d.at) ∷ [] → Seq K 𝓛 (‵ (holds_judge d.at d.held) ∷ Γ) G)
      → Seq K 𝓛 (‵ (JudgeHandle.own_val d vs) ∷ Γ) G
  judge_out t d vs rest =
      fsplit t $ fpick t (λ parts. fsplit t $ feq_l t (λ is_word. fsplit t $ feq_l t (λ is_ptr. drop t $
      rest (subst (λ (ps : List Val). vs ≡ vstruct (of_list (ps ++ [])) ∷ []) is_ptr is_word))))

  pub judge_in : K → (p : Ptr) (x : Option KeptJudge)
      → Step K 𝓛 (‵ (JudgeHandle.own_val (record { at = p; held = x }) (one (ptr_val p) ∷ [])) ∷ Γ) G
      (‵ (holds_judge p x) ∷ Γ) G
  judge_in t p x = step (λ rest.
      let word = one (ptr_val p) ∷ [] in
      nothing t $ feq_i t (List Val) (ptr_val p ∷ []) (ptr_val p ∷ []) refl $ fjoin t $
      feq_i t (List Val) word word refl $ fjoin t $
      fpack t (Valss (RawPtr ∷ [])) (within (shape handle.the_type) (p, tt) word) (ptr_val p ∷ [], tt) $ fjoin t $ rest)
