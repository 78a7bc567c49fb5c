-- The machine value of a world's handle. Assumes `Logic`.
use Rattle.std.proofs.Common.{◌≡◌, List, [], ◌∷◌, ◌++◌, refl, subst}
use seplogic.Ra.Ura.{Ura}
use mir.Val.{Val, vstruct, of_list}
use types.Kit.{Item, Goal, Seq, Step, step, ‵, ◌$◌, drop, fsplit, fjoin, fpick, fpack, feq_i, feq_l}
use types.Logic.{Logic}
use denote.Builtin.{RawPtr}
use denote.RattleType.{RattleType, Valss}
use denote.RawPtr.{Ptr, ptr_val}
use denote.Steps.{nothing}
use denote.Struct.Owning.{shape}
use denote.Struct.Struct.{within}
use Rattle.std.specs.declared.option.Option.{Option}
use Rattle.ref_c.proofs.Handles.{one}
use Rattle.ref_c.specs.Holding.{KeptWorld, holds_world}
use Rattle.ref_c.specs.contracts.handle.RefWorld as handle

abbrev pub WorldHandle : RattleType
WorldHandle = handle.the_row

module _ {M : Type 1} {𝓤 : Ura M} {𝓛 : Logic 𝓤} {K : Type 0} {Γ : List (Item 𝓤)} {G : Goal 𝓤 𝓛.H} where
  -- a handle is its pointer, and owns what lies there
  pub world_out : K → (d : WorldHandle.Denot) (vs : List Val)
      → (vs ≡ one (ptr_val d.at) ∷ [] → Seq K 𝓛 (‵ (holds_world d.at d.held) ∷ Γ) G)
      → Seq K 𝓛 (‵ (WorldHandle.own_val d vs) ∷ Γ) G
  world_out t d vs rest =
      fsplit t $ fpick t (λ parts. fsplit t $ feq_l t (λ is_word. fsplit t $ feq_l t (λ is_ptr. drop t $
      rest (subst (λ (ps : List Val). vs ≡ vstruct (of_list (ps ++ [])) ∷ []) is_ptr is_word))))

  pub world_in : K → (p : Ptr) (x : Option KeptWorld)
      → Step K 𝓛 (‵ (WorldHandle.own_val (record { at = p; held = x }) (one (ptr_val p) ∷ [])) ∷ Γ) G
      (‵ (holds_world p x) ∷ Γ) G
  world_in t p x = step (λ rest.
      let word = one (ptr_val p) ∷ [] in
      nothing t $ feq_i t (List Val) (ptr_val p ∷ []) (ptr_val p ∷ []) refl $ fjoin t $
      feq_i t (List Val) word word refl $ fjoin t $
      fpack t (Valss (RawPtr ∷ [])) (within (shape handle.the_type) (p, tt) word) (ptr_val p ∷ [], tt) $ fjoin t $ rest)
