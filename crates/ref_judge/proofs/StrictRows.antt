-- Of the strict profile the rows are those of the abstract collector.
use Rattle.ref_base.proofs.Common.{◌≡◌, ℕ, ◌+◌, Bool, true, false, List, [], ◌∷◌, inl, inr, refl, sym, ap, ◌∙◌, subst}
use Rattle.ref_base.proofs.Common.{Option, Some, None, false≢true, and_parts, Graph, EverKept, is_kept, State}
use Rattle.ref_base.proofs.Common.{IsBut, IsLeft, GivesAnewIf, Loads, Gets, Scans, EndsMark, MayDoom, NamedStep}
use Rattle.ref_base.proofs.Common.{HeapAccepts, QueuesAccept, AcceptsAsking, IsAnswer, IsRow}
use Rattle.ref_base.proofs.Common.{is_in, is_some, ticked, doomed_at, graph_of, IsLegal, queue_at, Polls, list_at}
use Rattle.ref_base.proofs.Common.{◌++◌, slice_set}
use Rattle.std.specs.Prelude.{◌↔◌, take}
use Rattle.ref_base.specs.Told.{told_object}
use Rattle.ref_base.specs.CollectorRows.{PlainAccepts, one_taken, begun_state, free_cells}
use Rattle.ref_base.specs.Replay.{begun}
use Rattle.ref_base.specs.declared.urgency.Urgency.{Urgency}
use Rattle.ref_base.specs.declared.policy.Policy.{Policy}
use Rattle.ref_base.specs.declared.config.Config.{Config}
use Rattle.ref_base.specs.declared.row.Row.{Row}
use Rattle.ref_base.specs.declared.phase.Phase.TheVariants.{Marking}
use Rattle.ref_base.specs.declared.fault.Fault.{Fault}
use Rattle.ref_base.specs.declared.reply.Reply.{Reply}
use Rattle.ref_base.specs.declared.reply.Reply.TheVariants as replies
use Rattle.ref_base.specs.declared.step.Step.{Step}
use Rattle.ref_base.specs.declared.step.Step.TheVariants as steps
use Rattle.ref_base.specs.declared.heap_step.HeapStep.TheVariants as heap
use Rattle.ref_base.specs.declared.plain_step.PlainStep.{PlainStep}
use Rattle.ref_base.specs.declared.plain_step.PlainStep.TheVariants as plain
use Rattle.ref_judge.specs.KeptBounds.{EverEnds, MayBeKept, MayDoomAs}
use Rattle.ref_judge.specs.ProfiledRows.{strict, IsLeftAs, IsButAs, says_anew, AcceptsAnew, ScansAs, EndsMarkAs}
use Rattle.ref_judge.specs.ProfiledRows.{PlainAcceptsAs, HeapAcceptsAs, QueuesAcceptAs, AcceptsAskingAs, IsAnswerAs}
use Rattle.ref_judge.specs.ProfiledRows.{IsRowAs, IsLegalAs}
use Rattle.ref_judge.proofs.Runs.{runs_through}

-- ---- what may be kept, and what is left

pub ever_strict : (p : Policy) (gs : List Graph) (n : ℕ) → EverEnds (is_kept p) gs n → EverKept p gs n
ever_strict p [] n ends = ends
ever_strict p (g ∷ gs) n (inl here) = inl here
ever_strict p (g ∷ gs) n (inr later) = inr (ever_strict p gs n later)

pub strict_ever : (p : Policy) (gs : List Graph) (n : ℕ) → EverKept p gs n → EverEnds (is_kept p) gs n
strict_ever p [] n ends = ends
strict_ever p (g ∷ gs) n (inl here) = inl here
strict_ever p (g ∷ gs) n (inr later) = inr (strict_ever p gs n later)

may_strict : (a : State) (n : ℕ) → MayBeKept strict a n → EverKept a.world.policy a.moments n
may_strict a n (inl ever) = ever_strict a.world.policy a.moments n ever
may_strict a n (inr more) = absurd (false≢true more.0)

left_strict : (a : State) (n : ℕ) → IsLeftAs strict a n → IsLeft a n
left_strict a n left = (may_strict a n left.0, left.1, left.2)

strict_left : (a : State) (n : ℕ) → IsLeft a n → IsLeftAs strict a n
strict_left a n left = (inl (strict_ever a.world.policy a.moments n left.0), left.1, left.2)

but_strict : (c b : State) → IsButAs strict c b → IsBut c b
but_strict c b but = (but.0, but.1, λ said. let one = but.2 said in (one.0, left_strict b one.0 one.1))

strict_but : (c b : State) → IsBut c b → IsButAs strict c b
strict_but c b but = (but.0, but.1, λ said. let one = but.2 said in (one.0, strict_left b one.0 one.1))

-- ---- what is said anew may be said anew again

anew_twice : (first c b : State) → IsBut first c → IsBut c b → IsBut first b
anew_twice first c b once again =
    (again.0, again.1 ∙ ap (λ (s : State). record s { left = again.0 }) once.1, again.2)

anew_itself : (first b : State) → IsBut first b → IsBut b b
anew_itself first b but =
    (b.left, refl, λ said. but.2 (sym (ap (λ (s : State). s.left) but.1) ∙ said))

given_twice : (marks : Bool) (answer reply : Reply) (first c b : State) → marks ≡ true
    → GivesAnewIf marks answer first reply c → IsBut c b → GivesAnewIf marks answer first reply b
given_twice true answer reply first c b is row but = (row.0, anew_twice (ticked first) c b row.1 but)
given_twice false answer reply first c b is row but = absurd (false≢true is)

given_itself : (marks : Bool) (answer reply : Reply) (first b : State) → marks ≡ true
    → GivesAnewIf marks answer first reply b → IsBut b b
given_itself true answer reply first b is row = anew_itself (ticked first) b row.1
given_itself false answer reply first b is row = absurd (false≢true is)

-- null isn't an object
null_tells_none : (reply : Reply) → reply ≡ replies.Null → is_some (told_object reply) ≡ true → ⊥
null_tells_none reply is told = false≢true (sym (ap (λ (r : Reply). is_some (told_object r)) is) ∙ told)

loads_twice : (a c b : State) (m d : ℕ) (value : Option ℕ) (reply : Reply) → is_in a.world.phase Marking ≡ true
    → is_some (told_object reply) ≡ true → Loads a m d value reply c → IsBut c b → Loads a m d value reply b
loads_twice a c b m d None reply marks told row but = absurd (null_tells_none reply row.0 told)
loads_twice a c b m d (Some n) reply marks told row but =
    given_twice (is_in a.world.phase Marking) (replies.Object n) reply _ c b marks row but

loads_itself : (a b : State) (m d : ℕ) (value : Option ℕ) (reply : Reply) → is_in a.world.phase Marking ≡ true
    → is_some (told_object reply) ≡ true → Loads a m d value reply b → IsBut b b
loads_itself a b m d None reply marks told row = absurd (null_tells_none reply row.0 told)
loads_itself a b m d (Some n) reply marks told row =
    given_itself (is_in a.world.phase Marking) (replies.Object n) reply _ b marks row

gets_twice : (a c b : State) (m d s : ℕ) (value : Option ℕ) (reply : Reply) → is_in a.world.phase Marking ≡ true
    → is_some (told_object reply) ≡ true → Gets a m d s value reply c → IsBut c b → Gets a m d s value reply b
gets_twice a c b m d s None reply marks told row but = absurd (null_tells_none reply row.0 told)
gets_twice a c b m d s (Some n) reply marks told row but =
    given_twice (is_in a.world.phase Marking) (replies.Object n) reply _ c b marks row but

gets_itself : (a b : State) (m d s : ℕ) (value : Option ℕ) (reply : Reply) → is_in a.world.phase Marking ≡ true
    → is_some (told_object reply) ≡ true → Gets a m d s value reply b → IsBut b b
gets_itself a b m d s None reply marks told row = absurd (null_tells_none reply row.0 told)
gets_itself a b m d s (Some n) reply marks told row =
    given_itself (is_in a.world.phase Marking) (replies.Object n) reply _ b marks row

-- a cycle has begun
abbrev pub beginning : State → ℕ → Urgency → State
beginning a now how = begun_state a (begun a.world (free_cells a.world.heap) now how (a.world.cycle + 1))

-- a row after which that is said anew is one of the abstract collector
from_anew : (anew : Bool) (a b : State) (step : PlainStep) (reply : Reply)
    → ((c : State) → anew ≡ true → PlainAccepts a step reply c → IsBut c b → PlainAccepts a step reply b)
    → AcceptsAnew strict anew a step reply b → PlainAccepts a step reply b
from_anew true a b step reply again row = again row.0 refl row.1 (but_strict row.0 b row.2)
from_anew false a b step reply again row = row

to_anew : (anew : Bool) (a b : State) (step : PlainStep) (reply : Reply) → (anew ≡ true → IsBut b b)
    → PlainAccepts a step reply b → AcceptsAnew strict anew a step reply b
to_anew true a b step reply itself row = (b, row, strict_but b b (itself refl))
to_anew false a b step reply itself row = row

-- ---- scans and marks' ends

abbrev pub after_scan : State → ℕ → ℕ → State
after_scan a k n = ticked (record a { scanned = slice_set a.scanned k (list_at a.scanned k ++ n ∷ []) })

scans_strict : (a b : State) (k : ℕ) (reply : Reply) → ScansAs strict a k reply b → Scans a k reply b
scans_strict a b k (replies.Scanned n) row = (row.0, left_strict a n row.1, but_strict (after_scan a k n) b row.2)
scans_strict a b k reply row = row

strict_scans : (a b : State) (k : ℕ) (reply : Reply) → Scans a k reply b → ScansAs strict a k reply b
strict_scans a b k (replies.Scanned n) row = (row.0, strict_left a n row.1, strict_but (after_scan a k n) b row.2)
strict_scans a b k reply row = row

doom_strict : (a : State) (d : List ℕ) → MayDoomAs strict a d → MayDoom a.world.policy (graph_of a.world) a.moments d
doom_strict a d may = record {
  none_kept = may.none_kept;
  never_kept = λ n there never. may.never_kept n there (λ kept. never (may_strict a n kept));
  closed = may.closed;
}

strict_doom : (a : State) (d : List ℕ) → MayDoom a.world.policy (graph_of a.world) a.moments d → MayDoomAs strict a d
strict_doom a d may = record {
  none_kept = may.none_kept;
  never_kept = λ n there never.
      may.never_kept n there (λ kept. never (inl (strict_ever a.world.policy a.moments n kept)));
  closed = may.closed;
}

ends_strict : (a b : State) (reply : Reply) → EndsMarkAs strict a reply b → EndsMark a reply b
ends_strict a b reply row = record {
  answer = row.answer;
  may_doom = doom_strict a (doomed_at a) row.may_doom;
  found = row.found;
  are_found = row.are_found;
  all_found = row.all_found;
  after = row.after;
}

strict_ends : (a b : State) (reply : Reply) → EndsMark a reply b → EndsMarkAs strict a reply b
strict_ends a b reply row = record {
  answer = row.answer;
  may_doom = strict_doom a (doomed_at a) row.may_doom;
  found = row.found;
  are_found = row.are_found;
  all_found = row.all_found;
  after = row.after;
}

-- ---- all rows, one way

plain_strict : (a b : State) (step : PlainStep) (reply : Reply) → PlainAcceptsAs strict a step reply b
    → PlainAccepts a step reply b
plain_strict a b (plain.Scan k) reply row = scans_strict a b k reply row
plain_strict a b plain.EndMark reply row = ends_strict a b reply row
plain_strict a b (plain.Load m d s i) reply row =
    from_anew (says_anew a (plain.Load m d s i) reply) a b (plain.Load m d s i) reply
    (λ c anew given but.
    let both = and_parts (is_in a.world.phase Marking) (is_some (told_object reply)) anew in
    loads_twice a c b m d _ reply both.0 both.1 given but) row
plain_strict a b (plain.Get m d s) reply row =
    from_anew (says_anew a (plain.Get m d s) reply) a b (plain.Get m d s) reply
    (λ c anew given but.
    let both = and_parts (is_in a.world.phase Marking) (is_some (told_object reply)) anew in
    gets_twice a c b m d s _ reply both.0 both.1 given but) row
plain_strict a b (plain.Begin now how) reply row =
    from_anew true a b (plain.Begin now how) reply
    (λ c anew given but. (given.0, anew_twice (ticked (beginning a now how)) c b given.1 but)) row
plain_strict a b step reply row = row

heap_strict : (a b : State) (step : NamedStep) (reply : Reply) → HeapAcceptsAs strict a step reply b
    → HeapAccepts a step reply b
heap_strict a b (heap.Plain step) reply row = plain_strict a b step reply row
heap_strict a b step reply row = row

queues_strict : (a b : State) (step : Step) (reply : Reply) → QueuesAcceptAs strict a step reply b
    → QueuesAccept a step reply b
queues_strict a b (steps.Poll m q) reply row =
    subst (λ ns. Polls a m q one_taken ns reply b) row.1 row.2
queues_strict a b (steps.Polls m q max) reply row =
    subst (λ ns. Polls a m q replies.TookSome ns reply b) row.1 row.2
queues_strict a b step reply row = row

asking_strict : (a b : State) (asked : Option NamedStep) (step : Step) (reply : Reply)
    → AcceptsAskingAs strict a asked step reply b → AcceptsAsking a asked step reply b
asking_strict a b None step reply row = queues_strict a b step reply row
asking_strict a b (Some asked) step reply row = (row.0, heap_strict a row.0 asked reply row.1, row.2)

answer_strict : (a b : State) (fault : Option Fault) (step : Step) (reply : Reply)
    → IsAnswerAs strict a fault step reply b → IsAnswer a fault step reply b
answer_strict a b (Some fault) step reply row = row
answer_strict a b None step reply row = asking_strict a b _ step reply row

-- ---- and back

strict_plain : (a b : State) (step : PlainStep) (reply : Reply) → PlainAccepts a step reply b
    → PlainAcceptsAs strict a step reply b
strict_plain a b (plain.Scan k) reply row = strict_scans a b k reply row
strict_plain a b plain.EndMark reply row = strict_ends a b reply row
strict_plain a b (plain.Load m d s i) reply row =
    to_anew (says_anew a (plain.Load m d s i) reply) a b (plain.Load m d s i) reply
    (λ anew.
    let both = and_parts (is_in a.world.phase Marking) (is_some (told_object reply)) anew in
    loads_itself a b m d _ reply both.0 both.1 row) row
strict_plain a b (plain.Get m d s) reply row =
    to_anew (says_anew a (plain.Get m d s) reply) a b (plain.Get m d s) reply
    (λ anew.
    let both = and_parts (is_in a.world.phase Marking) (is_some (told_object reply)) anew in
    gets_itself a b m d s _ reply both.0 both.1 row) row
strict_plain a b (plain.Begin now how) reply row =
    to_anew true a b (plain.Begin now how) reply (λ anew. anew_itself (ticked (beginning a now how)) b row.1) row
strict_plain a b step reply row = row

strict_heap : (a b : State) (step : NamedStep) (reply : Reply) → HeapAccepts a step reply b
    → HeapAcceptsAs strict a step reply b
strict_heap a b (heap.Plain step) reply row = strict_plain a b step reply row
strict_heap a b step reply row = row

strict_queues : (a b : State) (step : Step) (reply : Reply) → QueuesAccept a step reply b
    → QueuesAcceptAs strict a step reply b
strict_queues a b (steps.Poll m q) reply row = (take 1 (queue_at a.world q).stands, refl, row)
strict_queues a b (steps.Polls m q max) reply row = (take max (queue_at a.world q).stands, refl, row)
strict_queues a b step reply row = row

strict_asking : (a b : State) (asked : Option NamedStep) (step : Step) (reply : Reply)
    → AcceptsAsking a asked step reply b → AcceptsAskingAs strict a asked step reply b
strict_asking a b None step reply row = strict_queues a b step reply row
strict_asking a b (Some asked) step reply row = (row.0, strict_heap a row.0 asked reply row.1, row.2)

strict_answer : (a b : State) (fault : Option Fault) (step : Step) (reply : Reply)
    → IsAnswer a fault step reply b → IsAnswerAs strict a fault step reply b
strict_answer a b (Some fault) step reply row = row
strict_answer a b None step reply row = strict_asking a b _ step reply row

-- ---- traces

pub strict_traces : (config : Config) (rows : List Row) → IsLegalAs strict config rows ↔ IsLegal config rows
strict_traces config rows = (
  λ legal. (
    legal.0,
    runs_through (IsRowAs strict) IsRow (λ a row b. answer_strict a b _ row.step row.reply) _ rows _ legal.1,
  ),
  λ legal. (
    legal.0,
    runs_through IsRow (IsRowAs strict) (λ a row b. strict_answer a b _ row.step row.reply) _ rows _ legal.1,
  ),
)
