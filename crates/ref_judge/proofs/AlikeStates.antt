-- States are alike that are equal but for the moments of their marks, and at these paths end at the same objects. Each
-- row from the one is one from the other, and leads to states that are alike.
use Rattle.ref_base.proofs.Common.{◌≡◌, ℕ, Bool, true, false, if◌then◌else◌, List, ◌∷◌, inl, inr, refl, sym, ap, ◌∙◌}
use Rattle.ref_base.proofs.Common.{subst, Graph, State, ticked, is_in, graph_of, false≢true, EndsPath, Allowed}
use Rattle.ref_base.proofs.Common.{cases_Bool, Gives, GivesAnewIf, IsLeft, is_kept}
use Rattle.std.specs.Prelude.{◌↔◌}
use Rattle.ref_base.specs.declared.reply.Reply.{Reply}
use Rattle.ref_base.specs.declared.reply.Reply.TheVariants as replies
use Rattle.ref_base.specs.declared.phase.Phase.TheVariants.{Marking}
use Rattle.ref_judge.specs.KeptBounds.{EverEnds, MayBeKept, may_keep}
use Rattle.ref_judge.specs.ProfiledRows.{IsLeftAs}
use Rattle.ref_judge.specs.declared.profile.Profile.{Profile}
use Rattle.ref_judge.proofs.StrictRows.{ever_strict, strict_ever}

abbrev pub with_moments : State → List Graph → State
with_moments a ms = record a { moments = ms }

-- at the moments of the one list paths end where they do at those of the other
abbrev pub Alike : List Graph → List Graph → Type 0
Alike gs hs = (allow : Allowed) (n : ℕ) → EverEnds allow gs n ↔ EverEnds allow hs n

-- in a mark, what a path ends at now it ended at in some moment of the mark
abbrev pub CountsNow : State → Type 0
CountsNow a =
    is_in a.world.phase Marking ≡ true → (allow : Allowed) (n : ℕ) → EndsPath allow (graph_of a.world) n
    → EverEnds allow a.moments n

one_more_is_alike : (g : Graph) (gs hs : List Graph) → Alike gs hs → Alike (g ∷ gs) (g ∷ hs)
one_more_is_alike g gs hs alike allow n = (
  λ ends. elim ends [ inl now ↦ inl now | inr before ↦ inr ((alike allow n).0 before) ],
  λ ends. elim ends [ inl now ↦ inl now | inr before ↦ inr ((alike allow n).1 before) ],
)

-- ---- the moment that a row adds

-- the moments after a row that leaves this state, where these were the moments before
abbrev pub after_tick : State → List Graph → List Graph
after_tick c ms = if is_in c.world.phase Marking then graph_of c.world ∷ ms else ms

ticked_is_alike : (c : State) (ms : List Graph) → Alike c.moments ms → Alike (ticked c).moments (after_tick c ms)
ticked_is_alike c ms alike =
    elim (cases_Bool (is_in c.world.phase Marking)) [
      | inl marks ↦ simp marks (one_more_is_alike (graph_of c.world) c.moments ms alike)
      | inr other ↦ simp other alike
    ]

ticked_but_for_moments : (c : State) (ms : List Graph)
    → ticked (with_moments c ms) ≡ with_moments (ticked c) (after_tick c ms)
ticked_but_for_moments c ms =
    elim (cases_Bool (is_in c.world.phase Marking)) [ inl marks ↦ simp marks refl | inr other ↦ simp other refl ]

ticked_counts_now : (c : State) → CountsNow (ticked c)
ticked_counts_now c =
    elim (cases_Bool (is_in c.world.phase Marking)) [
      | inl marks ↦ simp marks (λ marking allow n ends. inl ends)
      | inr other ↦ simp other (λ marking allow n ends. absurd (false≢true marking))
    ]

-- ---- an object that is left

-- whether an object is left is said anew, and said so only where there is one that is left in this sense
abbrev pub ButBy : (State → ℕ → Type 0) → State → State → Type 0
ButBy Left c b = (left : Bool) × (b ≡ record c { left = left }) × (left ≡ true → (n : ℕ) × Left b n)

-- what is left in this sense is so in alike states
abbrev pub IsCarried : (State → ℕ → Type 0) → Type 0
IsCarried Left = (s : State) (ms : List Graph) → Alike s.moments ms → (n : ℕ) → Left s n → Left (with_moments s ms) n

left_is_carried : IsCarried IsLeft
left_is_carried s ms alike n left = (
  ever_strict s.world.policy ms n
      ((alike (is_kept s.world.policy) n).0 (strict_ever s.world.policy s.moments n left.0)),
  left.1,
  left.2,
)

pub may_is_carried : (p : Profile) → IsCarried (MayBeKept p)
may_is_carried p s ms alike n (inl ever) = inl ((alike (may_keep p s.world.policy) n).0 ever)
may_is_carried p s ms alike n (inr there) = inr there

pub left_as_is_carried : (p : Profile) → IsCarried (IsLeftAs p)
left_as_is_carried p s ms alike n left = (may_is_carried p s ms alike n left.0, left.1, left.2)

-- c and b, of which b says anew whether an object is left, with other moments
pub record Said (Left : State → ℕ → Type 0) (c : State) (ms : List Graph) (b : State) : Type 0 where
  pub but : ButBy Left (with_moments c ms) (with_moments b ms)
  pub alike : Alike b.moments ms
  pub counts : CountsNow b

pub said_anew : (Left : State → ℕ → Type 0) → IsCarried Left → (c : State) (ms : List Graph) → Alike c.moments ms
    → CountsNow c → (b : State) → ButBy Left c b → Said Left c ms b
said_anew Left carried c ms alike counts b but =
    let still : Alike b.moments ms =
    subst (λ gs. Alike gs ms) (sym (ap (λ (s : State). s.moments) but.1)) alike in
    record {
      but = (
        but.0,
        ap (λ (s : State). with_moments s ms) but.1,
        λ said. let one = but.2 said in (one.0, carried b ms still one.0 one.1),
      );
      alike = still;
      counts = subst CountsNow (sym but.1) counts;
    }

-- ---- the forms of a row

abbrev pub is_refused : Reply → Bool
is_refused (replies.Refused fault) = true
is_refused reply = false

-- A row from a state alike to a leads to one alike to b (goes); in b the present moment counts, and what was refused
-- leaves a itself.
pub record Follows (a : State) (reply : Reply) (goes : State → Type 0) (b : State) : Type 0 where
  pub moments : List Graph
  pub row : goes (with_moments b moments)
  pub alike : Alike b.moments moments
  pub counts : CountsNow b
  pub refused : is_refused reply ≡ true → b ≡ a

pub widened : (a : State) (goes more : State → Type 0) → ((y : State) → goes y → more y) → (reply : Reply) (b : State)
    → Follows a reply goes b → Follows a reply more b
widened a goes more also reply b row = record {
  moments = row.moments;
  row = also (with_moments b row.moments) row.row;
  alike = row.alike;
  counts = row.counts;
  refused = row.refused;
}

-- what is answered otherwise isn't refused
pub no_refusal : (answer reply : Reply) → is_refused answer ≡ false → reply ≡ answer → is_refused reply ≡ true → ⊥
no_refusal answer reply accepts is refused =
    false≢true (sym accepts ∙ sym (ap (λ (r : Reply). is_refused r) is) ∙ refused)

module _ (a : State) where
  pub given_follows : (answer : Reply) → is_refused answer ≡ false → (c : State) (ms : List Graph) → Alike c.moments ms
      → (reply : Reply) (b : State) → Gives answer c reply b
      → Follows a reply (λ y. Gives answer (with_moments c ms) reply y) b
  given_follows answer accepts c ms alike reply b row = record {
    moments = after_tick c ms;
    row = (row.0, ap (λ (s : State). with_moments s (after_tick c ms)) row.1 ∙ sym (ticked_but_for_moments c ms));
    alike =
        subst (λ gs. Alike gs (after_tick c ms)) (sym (ap (λ (s : State). s.moments) row.1))
        (ticked_is_alike c ms alike);
    counts = subst CountsNow (sym row.1) (ticked_counts_now c);
    refused = λ refused. absurd (no_refusal answer reply accepts row.0 refused);
  }

  pub but_follows : (Left : State → ℕ → Type 0) → IsCarried Left → (answer : Reply) → is_refused answer ≡ false
      → (c : State) (ms : List Graph) → Alike c.moments ms → (reply : Reply) (b : State) → reply ≡ answer
      → ButBy Left (ticked c) b → Follows a reply (λ y. ButBy Left (ticked (with_moments c ms)) y) b
  but_follows Left carried answer accepts c ms alike reply b is but =
      let said =
      said_anew Left carried (ticked c) (after_tick c ms) (ticked_is_alike c ms alike) (ticked_counts_now c) b but in
      record {
        moments = after_tick c ms;
        row =
            subst (λ (s : State). ButBy Left s (with_moments b (after_tick c ms))) (sym (ticked_but_for_moments c ms))
            said.but;
        alike = said.alike;
        counts = said.counts;
        refused = λ refused. absurd (no_refusal answer reply accepts is refused);
      }

  pub given_anew_follows : (flag : Bool) (answer : Reply) → is_refused answer ≡ false → (c : State) (ms : List Graph)
      → Alike c.moments ms → (reply : Reply) (b : State) → GivesAnewIf flag answer c reply b
      → Follows a reply (λ y. GivesAnewIf flag answer (with_moments c ms) reply y) b
  given_anew_follows true answer accepts c ms alike reply b row =
      let but = but_follows IsLeft left_is_carried answer accepts c ms alike reply b row.0 row.1 in
      record {
        moments = but.moments;
        row = (row.0, but.row);
        alike = but.alike;
        counts = but.counts;
        refused = but.refused;
      }
  given_anew_follows false answer accepts c ms alike reply b row = given_follows answer accepts c ms alike reply b row
