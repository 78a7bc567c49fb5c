-- The queues of a judge are those of a state that it stands for, but for why there are their notices, and what was
-- taken.
use Rattle.ref_base.proofs.Common.{arith, ◌≡◌, ℕ, zero, suc, ◌<◌, List, [], ◌∷◌, length, refl, sym, ◌∙◌, Notice}
use Rattle.ref_base.proofs.Common.{slice_index_or, slice_set, State, Lists, queue_at, new_queue}
use Rattle.ref_base.proofs.Common.{true, false, subst, has, object_of, nat_eq}
use Rattle.std.specs.Prelude.{◌≤◌}
use Rattle.std.specs.List.{IsDistinct, AllByRecursion}
use Rattle.std.proofs.lemmas.Map.Steps.{length-le_from_distinct_below}
use Rattle.ref_base.specs.Members.{AreDistinct}
use Rattle.ref_base.specs.QueueLists.{enqueued}
use Rattle.ref_base.proofs.HasLaws.{has-list_any}
use Rattle.ref_judge.proofs.LegalFacts.{legal_facts}
use Rattle.ref_judge.specs.Judged.{Judged, Line, IsLine, AreLines}
use Rattle.ref_judge.specs.Standing.{StandsFor}
use Rattle.ref_judge.proofs.HandsAlike.{sizes}

pub lines_length : (lines : List Line) (qs : List (Lists Notice)) → AreLines lines qs → length lines ≡ length qs
lines_length [] [] are = refl
lines_length [] (q ∷ qs) are = absurd are
lines_length (line ∷ lines) [] are = absurd are
lines_length (line ∷ lines) (q ∷ qs) are = grind (arith, lines_length lines qs are.1)

pub line_alike_at : (lines : List Line) (qs : List (Lists Notice)) (i : ℕ) (d : Line) (e : Lists Notice)
    → AreLines lines qs → i < length lines → IsLine (slice_index_or lines i d) (slice_index_or qs i e)
line_alike_at [] qs i d e are within = absurd (omega (arith, within))
line_alike_at (line ∷ lines) [] i d e are within = absurd are
line_alike_at (line ∷ lines) (q ∷ qs) zero d e are within = are.0
line_alike_at (line ∷ lines) (q ∷ qs) (suc i) d e are within =
    line_alike_at lines qs i d e are.1 (omega (arith, within))

pub set_line_alike : (lines : List Line) (qs : List (Lists Notice)) (i : ℕ) (line : Line) (q : Lists Notice)
    → AreLines lines qs → IsLine line q → AreLines (slice_set lines i line) (slice_set qs i q)
set_line_alike [] [] i line q are is = tt
set_line_alike [] (r ∷ qs) i line q are is = absurd are
set_line_alike (l ∷ lines) [] i line q are is = absurd are
set_line_alike (l ∷ lines) (r ∷ qs) zero line q are is = (is, are.1)
set_line_alike (l ∷ lines) (r ∷ qs) (suc i) line q are is = (are.0, set_line_alike lines qs i line q are.1 is)

module _ (j : Judged) (a : State) (stands : StandsFor j a) where
  -- there are as many queues as the configuration says
  pub lines_same : length j.lines ≡ j.config.queues
  lines_same = lines_length j.lines a.world.queues stands.lines ∙ (sizes j a stands).queues

  pub line_same : (q : ℕ) (d : Line) → q < length j.lines → IsLine (slice_index_or j.lines q d) (queue_at a.world q)
  line_same q d within = line_alike_at j.lines a.world.queues q d (new_queue q) stands.lines within

lacks_each : (n : ℕ) (ms : List ℕ) → has ms n ≡ false → AllByRecursion (λ m. nat_eq n m ≡ false) ms
lacks_each n [] none = tt
lacks_each n (m ∷ ms) none = grind (arith, lacks_each n ms)

as_distinct : (ms : List ℕ) → AreDistinct ms → IsDistinct nat_eq ms
unfolding IsDistinct
as_distinct [] distinct = tt
as_distinct (m ∷ ms) distinct = (lacks_each m ms distinct.0, as_distinct ms distinct.1)

-- numbers of which none stands twice are no more than there are below a bound
distinct_few : (ns : List ℕ) (count : ℕ) → AreDistinct ns → ((n : ℕ) → has ns n ≡ true → n < count)
    → length ns ≤ count
distinct_few ns count distinct below =
    length-le_from_distinct_below ns count (as_distinct ns distinct)
    (λ n h. below n (has-list_any ns n ∙ h))

-- no more was ever put into a queue than there are numbers
pub line_below : (j : Judged) (a : State) → StandsFor j a → (q : ℕ) (d : Line) → q < length j.lines
    → (slice_index_or j.lines q d).put ≤ j.ground.next
line_below j a stands q d within =
    let facts = legal_facts j.profile j.config a stands.lawful in
    subst (λ (k : ℕ). k ≤ j.ground.next) (line_same j a stands q d within).put
    (subst (λ (k : ℕ). length (enqueued object_of (queue_at a.world q)) ≤ k) (sym stands.next)
    (distinct_few (enqueued object_of (queue_at a.world q)) a.next (facts.notices.once q) (facts.numbers.put_below q)))
