-- The machine value of a `Loose`: a pointer to a block, and beside it the allocator's handle. Assumes `Logic`.
use Rattle.std.proofs.Common.{◌≡◌, ℕ, List, [], ◌∷◌, ◌++◌, refl, ap, ◌∙◌}
use lib.Dec.{T}
use seplogic.Ra.Ura.{Ura}
use mathlib.Core.Bool.{true, ◌&&◌}
use mir.Raw.{raw as bare}
use mir.Syntax.{impl, tnil, dnil}
use mir.Val.{Val, vptr, vstruct, vcons, vnil, of_list, has_ty, WT}
use base.Fml.{Fml}
use base.Logic.{never, fst∗}
use types.Logic.{Logic, sem}
use types.Kit.{Item, Goal, Seq, Step, step, ‵, ◌$◌, move, drop, fsplit, fjoin, fpick, fpack, feq_i, feq_l}
use denote.Builtin.{RawPtr}
use denote.Memory.{lone}
use denote.Param.{layout}
use denote.Param.Laws.{Laws}
use denote.RattleType.{RattleType, Valss}
use denote.RawPtr.{Ptr, block_ptr, null_ptr, ptr_val, in_a_block}
use denote.Steps.{nothing}
use denote.Struct.Owning.{shape}
use denote.Struct.Struct.{within}
use Rattle.core.proofs.alloc.Calls.{Al, Fits, handle_tells}
use Rattle.core.specs.declared.alloc.Allocator.{Ghosts}
use Rattle.std_alloc.proofs.ResultValues.{and_tt}
use Rattle.std_alloc.specs.Box.Ownership.{box_owns}
use Rattle.ref_c.specs.contracts.loose.Loose as loose

-- block b at the offset o, and the handle h
abbrev pub word : ℕ → ℕ → Val → Val
word b o h = vstruct (vcons (vptr b o) (vcons h vnil))

-- the row of what is in the block, and the allocator's, with its laws and its ghosts
module _ (R Z : RattleType) (laws : Laws Z) (ghosts : Ghosts Z.Denot) where
  abbrev pub Row : RattleType
  Row = loose.the_row R Z ghosts

  abbrev pub handles : Al
  handles = record { row = Z; laws = laws; g = ghosts; d = impl [] tnil dnil; drops = impl [] tnil dnil }

  abbrev pub owned_at : Z.Denot → Ptr → R.Denot → Fml
  owned_at a = box_owns (ghosts.dealloc_token a) R

  pub word_fits : (b o : ℕ) (h : Val) → Fits handles h → T (has_ty (layout Z) h && true) × WT (word b o h)
  word_fits b o h fits = (and_tt (has_ty (layout Z) h) fits.0, (tt, (fits.1, tt)))

  module _ {M : Type 1} {𝓤 : Ura M} {𝓛 : Logic 𝓤} {K : Type 0} {Γ : List (Item 𝓤)} {G : Goal 𝓤 𝓛.H} where
    -- its parts: [the block with the right to free it; the handle]
    pub opened : K → (d : Row.Denot) (vs : List Val)
        → ((b o : ℕ) (h : Val) → d.at ≡ block_ptr b o → vs ≡ word b o h ∷ [] → Fits handles h
        → Seq K 𝓛 (‵ (owned_at d.alloc (block_ptr b o) d.value) ∷ ‵ (Z.own_val d.alloc (h ∷ [])) ∷ Γ) G)
        → Seq K 𝓛 (‵ (Row.own_val d vs) ∷ Γ) G
    opened t d vs rest =
        fsplit t $ fpick t (λ parts. fsplit t $ feq_l t (λ is_word. fsplit t $ feq_l t (λ is_ptr. fsplit t $
        handle_tells handles t d.alloc parts.1.0 (λ h is_handle fits. move t (1 ∷ []) $ drop t $ move t (1 ∷ []) $
        -- [the block with the right; the handle]
        let nowhere = sem 𝓛 (ghosts.dealloc_token d.alloc (bare (lone R.mir)) null_ptr) in
        in_a_block t d.at (λ p. owned_at d.alloc p d.value) (fst∗ 𝓤 (never 𝓤) nowhere) (λ b o is_at.
        let listed : List Val → List Val → List Val = λ ps hs. vstruct (of_list (ps ++ (hs ++ []))) ∷ [] in
        let told = is_word ∙ ap (λ (ps : List Val). listed ps parts.1.0) is_ptr
        ∙ ap (λ (hs : List Val). listed (ptr_val d.at ∷ []) hs) is_handle
        ∙ ap (λ (p : Ptr). listed (ptr_val p ∷ []) (h ∷ [])) is_at in
        rest b o h is_at told fits)))))

    pub closed : K → (b o : ℕ) (h : Val) (a : Z.Denot) (x : R.Denot)
        → Step K 𝓛 (‵ (Row.own_val (record { at = block_ptr b o; alloc = a; value = x }) (word b o h ∷ [])) ∷ Γ) G
        (‵ (owned_at a (block_ptr b o) x) ∷ ‵ (Z.own_val a (h ∷ [])) ∷ Γ) G
    closed t b o h a x = step (λ rest.
        let held = within (shape (loose.the_type R Z ghosts)) (block_ptr b o, (a, tt)) (word b o h ∷ []) in
        nothing t $ move t (2 ∷ 0 ∷ []) $ fjoin t $
        feq_i t (List Val) (vptr b o ∷ []) (vptr b o ∷ []) refl $ fjoin t $
        feq_i t (List Val) (word b o h ∷ []) (word b o h ∷ []) refl $ fjoin t $
        fpack t (Valss (RawPtr ∷ Z ∷ [])) held (vptr b o ∷ [], (h ∷ [], tt)) $ fjoin t $ rest)
