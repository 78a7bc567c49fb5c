-- What a mark's end has to look at: that no root is doomed, and that no kept edge leads from outside into the doomed.
use Rattle.ref_base.proofs.Common.{◌≡◌, ℕ, true, false, List, sym, ◌∙◌, inl, inr, cases_Bool, true≢false, has, Graph}
use Rattle.ref_base.proofs.Common.{is_there, targets_at, Policy, is_kept, IsKept, EverKept, MayDoom}
use Rattle.ref_base.proofs.PathLaws.{root_ends, path_within}

-- no root is among them
abbrev pub OffRoots : Graph → List ℕ → Type 0
OffRoots g d = (n : ℕ) → is_there g.objects n ≡ true → has g.roots n ≡ true → has d n ≡ false

-- no kept edge leads into them from outside
abbrev pub OffEdges : Policy → Graph → List ℕ → Type 0
OffEdges p g d =
    (m n : ℕ) → is_there g.objects m ≡ true → has d m ≡ false → has (targets_at (is_kept p) g.objects m) n ≡ true
    → has d n ≡ false

-- each that isn't among them was ever kept
abbrev pub OthersEver : Policy → Graph → List Graph → List ℕ → Type 0
OthersEver p g moments d = (n : ℕ) → is_there g.objects n ≡ true → has d n ≡ false → EverKept p moments n

-- a mark may doom these exactly where all three are so
pub doom_parts : (p : Policy) (g : Graph) (moments : List Graph) (d : List ℕ) → MayDoom p g moments d
    → OffRoots g d × OffEdges p g d
doom_parts p g moments d may = (off, may.closed)
  where
    off : OffRoots g d
    off n there root =
        elim (cases_Bool (has d n)) [
          | inl doomed ↦ absurd (may.none_kept n doomed (root_ends (is_kept p) g n there root))
          | inr out ↦ out
        ]

-- and where all three are so, a mark may doom these
pub doom_from : (p : Policy) (g : Graph) (moments : List Graph) (d : List ℕ) → OffRoots g d → OffEdges p g d
    → OthersEver p g moments d → MayDoom p g moments d
doom_from p g moments d roots edges others = record {
  none_kept = λ n doomed kept. true≢false (sym doomed ∙ (off n kept).1);
  never_kept = λ n there never.
      elim (cases_Bool (has d n)) [ inl doomed ↦ doomed | inr out ↦ absurd (never (others n there out)) ];
  closed = edges;
}
  where
    off : (n : ℕ) → IsKept p g n → (is_there g.objects n ≡ true) × (has d n ≡ false)
    off n kept =
        path_within (is_kept p) g (λ k. (is_there g.objects k ≡ true) × (has d k ≡ false))
        (λ k there root. (there, roots k there root))
        (λ k m before target there. (there, edges k m before.0 before.1 target)) n kept.0 kept.1
