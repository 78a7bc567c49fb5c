-- What a cycle keeps is reachable, and what it keeps at one moment was ever kept.
use Rattle.ref_base.proofs.Common.{arith, ◌≡◌, ℕ, false, ◌&&◌, ◌-◌, sym, ◌∙◌, List, [], ◌∷◌, ◌++◌, ◌⊎◌, inl, inr}
use Rattle.ref_base.proofs.Common.{and_parts, false≢true, Graph, EndsPath, no_referents, soft_referents, is_soft}
use Rattle.ref_base.proofs.Common.{HasStrength, Policy, is_kept, IsKept, EverKept, Reach, Strong, Soft, Phantom}
use Rattle.ref_base.proofs.Common.{Unreachable}
use Rattle.std.proofs.Common.{nat_le}
use Rattle.ref_base.specs.KeptPaths.{is_normal}
use Rattle.ref_base.specs.declared.reach.Reach.TheVariants.{Weak}
use Rattle.ref_base.proofs.PathLaws.{ends-wider}
use Rattle.ref_base.proofs.StrengthLaws.{some_strength, weak_from_soft}

-- a kept path goes through soft references alone
pub softly : (p : Policy) (g : Graph) (n : ℕ) → IsKept p g n → EndsPath soft_referents g n
softly p g n kept =
    ends-wider (is_kept p) soft_referents
    (λ r may. (and_parts (is_soft r.strength) (is_normal p.urgency && nat_le (p.clock - r.stamp) p.span) may).0) g n
    kept

-- in an urgent cycle a kept path goes through no reference
pub strongly : (p : Policy) (g : Graph) (n : ℕ) → is_normal p.urgency ≡ false → IsKept p g n → EndsPath no_referents g n
strongly p g n urgent kept =
    ends-wider (is_kept p) no_referents
    (λ r may.
    let within = nat_le (p.clock - r.stamp) p.span in
    let normal = (and_parts (is_normal p.urgency) within
    (and_parts (is_soft r.strength) (is_normal p.urgency && within) may).1).0 in
    absurd (false≢true (sym urgent ∙ normal))) g n kept

-- what a soft path ends at is strongly or softly reachable
soft_or_strong : (g : Graph) (n : ℕ) → EndsPath soft_referents g n → (reach : Reach) → HasStrength g n reach
    → HasStrength g n Strong ⊎ HasStrength g n Soft
soft_or_strong g n ends Strong has = inl has
soft_or_strong g n ends Soft has = inr has
soft_or_strong g n ends Weak has = absurd (has.0 ends)
soft_or_strong g n ends Phantom has = absurd (has.0 (weak_from_soft g n ends))
soft_or_strong g n ends Unreachable has = absurd (has.0 (weak_from_soft g n ends))

pub kept_is_reachable : (p : Policy) (g : Graph) (n : ℕ) → IsKept p g n → HasStrength g n Strong ⊎ HasStrength g n Soft
kept_is_reachable p g n kept = grind (arith, soft_or_strong, some_strength g n, softly p g n kept)

-- what is kept at one of the moments of a mark was ever kept in it
pub ever_kept : (p : Policy) (later : List Graph) (g : Graph) (earlier : List Graph) (n : ℕ) → IsKept p g n
    → EverKept p (later ++ g ∷ earlier) n
ever_kept p [] g earlier n kept = inl kept
ever_kept p (h ∷ hs) g earlier n kept = inr (ever_kept p hs g earlier n kept)
