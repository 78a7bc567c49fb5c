-- What a judge knows to be kept in a mark: what a row that brings nothing new leaves so, and what a making brings.
use Rattle.ref_base.proofs.Common.{◌≡◌, ℕ, true, false, refl, sym, ◌∙◌, Option, Some, None, has, State, is_in}
use Rattle.ref_base.specs.declared.phase.Phase.{Phase}
use Rattle.ref_base.specs.declared.phase.Phase.TheVariants.{Idle, Marking, Clearing, Sweeping, Moving}
use Rattle.ref_base.specs.declared.row.Row.{Row}
use Rattle.ref_base.proofs.EverWorlds.{Knows, BringsNone}
use Rattle.ref_base.proofs.ApartWorlds.{OfValue}
use Rattle.ref_base.proofs.CarryRows.{all_more}
use Rattle.ref_base.specs.Worlds.{Pending, pending_of}
use Rattle.ref_judge.specs.Judged.{Judged}
use Rattle.ref_judge.specs.Policies.{profiled}
use Rattle.ref_judge.specs.ProfiledRows.{IsRowAs}
use Rattle.ref_judge.specs.Standing.{StandsFor}
use Rattle.ref_judge.proofs.KnownRows.{known_row_as}
use Rattle.ref_judge.proofs.LegalFacts.{legal_facts}

pub is_marking : (phase : Phase) → is_in phase Marking ≡ true → phase ≡ Marking
is_marking Idle is = absurd cc
is_marking Marking is = refl
is_marking Clearing is = absurd cc
is_marking Sweeping is = absurd cc
is_marking Moving is = absurd cc

-- in a mark of the judge the state is in it
pub marks_of : (j : Judged) (a : State) → StandsFor j a → is_in j.phase Marking ≡ true → a.world.phase ≡ Marking
marks_of j a stands is = sym stands.phase ∙ is_marking j.phase is

-- what is known of a row's state, where it brings nothing new
pub kept_row : (old : Judged) (a b : State) (row : Row) → StandsFor old a → BringsNone row.step
    → IsRowAs old.profile a row b → is_in old.phase Marking ≡ true → old.profile.keeps_more ≡ false
    → Knows (λ n. has old.ground.marked n ≡ true) (profiled old.profile b)
kept_row old a b row stands brings h is less =
    known_row_as old.profile (λ n. has old.ground.marked n ≡ true) a b less
    (legal_facts old.profile old.config a stands.lawful).notices.counted (marks_of old a stands is)
    (stands.kept is less) row brings h

-- ---- sets with the same members

value_of : (V W : ℕ → Type 0) → ((n : ℕ) → V n → W n) → (value : Option ℕ) → OfValue V value → OfValue W value
value_of V W to None is = tt
value_of V W to (Some n) is = to n is

pub known_alike : (V W : ℕ → Type 0) (a : State) → ((n : ℕ) → V n → W n) → ((n : ℕ) → W n → V n) → Knows V a
    → Knows W a
known_alike V W a to from knows = (
  record {
    sound = λ n is. knows.0.sound n (from n is);
    complete = λ n ever. to n (knows.0.complete n ever);
    closed = record {
      slots = λ i. value_of V W to _ (knows.0.closed.slots i);
      holds = λ n held. to n (knows.0.closed.holds n held);
      pendings = λ k.
          all_more (λ (p : Pending). V p.object) (λ (p : Pending). W p.object) (pending_of a.world k)
          (λ p is. to p.object is) (knows.0.closed.pendings k);
      targets = λ m n is target. to n (knows.0.closed.targets m n (from m is) target);
    };
  },
  record { scanned = λ n is. to n (knows.1.scanned n is); young = λ n there old. to n (knows.1.young n there old) },
)
