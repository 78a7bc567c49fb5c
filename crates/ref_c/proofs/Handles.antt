-- What lies behind the pointer of a handle. Assumes `Logic`.
use Rattle.std.proofs.Common.{◌≡◌, ℕ, List, ◌∷◌, refl}
use seplogic.Ra.Ura.{Ura}
use mir.Raw.{raw as bare}
use mir.Val.{Val, vstruct, vcons, vnil}
use base.Fraction.{full_share}
use base.Logic.{ent, guard, via, fst∗, snd∗, never, guard_i}
use contract.Monad.{fact_use}
use types.Kit.{Item, Goal, Seq, ‵, ◌$◌, fpick, feq_l}
use types.Logic.{Logic, sem}
use denote.Memory.{lone}
use denote.RattleType.{RattleType}
use denote.RawPtr.{Ptr, block_ptr, null_ptr, lies_at, in_a_block, Testable}
use Rattle.std.proofs.GlobalToken.{dealloc_token-Testable}
use Rattle.std.specs.contracts.impls.GlobalAllocator.TheImpl.{ghosts}
use Rattle.std.specs.declared.alloc.Global.{Global}
use Rattle.std.specs.declared.option.Option.{Option}
use Rattle.std.specs.declared.option.Option.TheVariants.{None, Some}
use Rattle.ref_c.specs.Holding.{boxed, holds}

-- a struct of one machine value
abbrev pub one : Val → Val
one v = vstruct (vcons v vnil)

-- the row of what is in the box
module _ (R : RattleType) where
  module _ {M : Type 1} {𝓤 : Ura M} {𝓛 : Logic 𝓤} {K : Type 0} {Γ : List (Item 𝓤)} {G : Goal 𝓤 𝓛.H} where
    -- at null there is nothing, and elsewhere a box
    pub either_holds : K → (p : Ptr) (h : Option R.Denot)
        → (p ≡ null_ptr → h ≡ None → Seq K 𝓛 Γ G)
        → ((b o : ℕ) (a : Global) (x : R.Denot) → p ≡ block_ptr b o → h ≡ Some x
        → Seq K 𝓛 (‵ (boxed R a (block_ptr b o) x) ∷ Γ) G)
        → Seq K 𝓛 (‵ (holds R p h) ∷ Γ) G
    either_holds t p None none full = feq_l t (λ is. none is refl)
    either_holds t p (Some x) none full =
        fpick t (λ a.
        let nowhere = sem 𝓛 (ghosts.dealloc_token a (bare (lone R.mir)) null_ptr) in
        in_a_block t p (λ q. boxed R a q x) (fst∗ 𝓤 (never 𝓤) nowhere) (λ b o is. full b o a x is refl))

  -- where a box is, its pointer may be compared with null: the right to free it says so
  module _ {M : Type 1} {𝓤 : Ura M} (𝓛 : Logic 𝓤) (a : Global) (p : Ptr) (x : R.Denot) where
    pub tested : ent 𝓤 (sem 𝓛 (boxed R a p x)) (guard 𝓤 (Testable p) (sem 𝓛 (boxed R a p x)))
    tested =
        let Box = sem 𝓛 (boxed R a p x) in
        let layout = bare (lone R.mir) in
        let right = snd∗ 𝓤 (sem 𝓛 (lies_at R full_share p x)) (sem 𝓛 (ghosts.dealloc_token a layout p)) in
        fact_use 𝓤 (Testable p) (via 𝓤 _ right (dealloc_token-Testable 𝓛 a layout p)) (guard_i 𝓤 (Testable p) Box)
