-- Where a row of a heap leads: to the world that its replay gives, but for what a worker looks at in Clearing and what
-- a sweep frees; and then a moment of a mark joins the others. A mark's end says itself where it leads.
use Rattle.ref_base.proofs.Common.{arith, ◌≡◌, ℕ, ◌+◌, Bool, true, false, List, [], ◌∷◌, ◌++◌, take, drop, Option, Some}
use Rattle.ref_base.proofs.Common.{None, refl, sym, ap, ◌∙◌, subst, inl, inr, ◌⊎◌, slice_set, cases_Bool, reference_at}
use Rattle.ref_base.proofs.Common.{if◌then◌else◌, registered_in, with_slot, GivesAnewIf, Pending, with_heap}
use Rattle.ref_base.proofs.Common.{is_done, is_selected, NamedStep, pended, after_heap, State, Gives, IsBut, ticked}
use Rattle.ref_base.proofs.Common.{on_heap, with_world, Loads, Gets, Unhooks, Holds, Scans, ClearsNext, HandsOn, Sweeps}
use Rattle.ref_base.proofs.Common.{Selects, Moves, EndsMove, HeapAccepts, value_reply, looked_at, list_at, begun_state}
use Rattle.ref_base.proofs.Common.{without, is_in, Marking, Reply}
use Rattle.ref_base.proofs.Common.{if_told, told_cycle, begun, map, Notice}
use Rattle.ref_base.proofs.Common.{told_notices, handed_each, notice_from, one_handed, all_handed, batch_of, pending_of}
use Rattle.ref_base.proofs.BatchParts.{tells_one, tells_all}
use Rattle.ref_base.specs.Worlds.{with_swept}
use Rattle.ref_base.specs.CollectorRows.{looked, free_cells}
use Rattle.ref_base.specs.declared.heap_step.HeapStep.TheVariants as heap
use Rattle.ref_base.specs.declared.plain_step.PlainStep.TheVariants as plain
use Rattle.ref_base.specs.declared.reply.Reply.TheVariants as replies

-- b is c, or what c is as a moment of its mark, or that but that it says anew whether an object is left
abbrev pub Becomes : State → State → Type 0
Becomes c b = (b ≡ c) ⊎ ((b ≡ ticked c) ⊎ IsBut (ticked c) b)

-- a state but for the moments of its mark and whether it says that an object is left
abbrev pub settled : State → State
settled a = record a { moments = []; left = false }

-- what was scanned, after a scan with this answer
abbrev pub scanned_by : List (List ℕ) → ℕ → Reply → List (List ℕ)
scanned_by lists k (replies.Scanned n) = slice_set lists k (list_at lists k ++ n ∷ [])
scanned_by lists k reply = lists

-- the state with the first that a worker found taken off
abbrev pub found_less : State → ℕ → State
found_less a k = record a { found = slice_set a.found k (drop 1 (list_at a.found k)) }

-- where a step of a heap with this answer leads
abbrev pub outcome : State → NamedStep → Reply → State
outcome a (heap.Plain (plain.New m d k)) reply =
    record a { world = after_heap a.world (heap.Plain (plain.New m d k)) reply; next = a.next + 1 }
outcome a (heap.Plain (plain.Refer m strength d s q k)) reply =
    record a { world = after_heap a.world (heap.Plain (plain.Refer m strength d s q k)) reply; next = a.next + 1 }
outcome a (heap.Plain (plain.Begin now how)) reply =
    begun_state a (if_told (told_cycle reply) (λ n. begun a.world (free_cells a.world.heap) now how n) a.world)
outcome a (heap.Plain (plain.Scan k)) reply = record a { scanned = scanned_by a.scanned k reply }
outcome a (heap.Plain (plain.ClearNext k)) (replies.Cleared n) =
    with_world (found_less a k) (pended a.world k n (registered_in (reference_at a.world.heap n)))
outcome a (heap.Plain (plain.ClearNext k)) (replies.Kept n) = found_less a k
outcome a (heap.Plain (plain.ClearNext k)) (replies.Skipped n) = found_less a k
outcome a (heap.Plain (plain.ClearNext k)) reply = a
outcome a (heap.Plain (plain.Sweep k)) (replies.Swept count) = record a {
  world = with_swept
      (with_heap a.world (record a.world.heap { objects = without (take 64 a.doomed) a.world.heap.objects })) count;
  doomed = drop 64 a.doomed;
}
outcome a (heap.Plain (plain.Sweep k)) reply = a
outcome a (heap.Plain plain.EndSweep) reply = record a {
  world = after_heap a.world (heap.Plain plain.EndSweep) reply;
  moved = if is_done reply then false else a.moved;
}
outcome a (heap.Plain plain.Select) reply = record a {
  world = after_heap a.world (heap.Plain plain.Select) reply;
  moved = if is_selected reply then true else a.moved;
}
outcome a step reply = with_world a (after_heap a.world step reply)

-- the step isn't a mark's end
abbrev pub IsNoEnd : NamedStep → Type 0
IsNoEnd (heap.Plain plain.EndMark) = ⊥
IsNoEnd step = Unit {0}

-- ---- the forms of a row

pub settled_ticked : (c : State) → settled (ticked c) ≡ settled c
settled_ticked c =
    elim (cases_Bool (is_in c.world.phase Marking)) [ inl marks ↦ simp marks refl | inr other ↦ simp other refl ]

pub settled_becomes : (c b : State) → Becomes c b → settled b ≡ settled c
settled_becomes c b (inl same) = ap settled same
settled_becomes c b (inr (inl tick)) = ap settled tick ∙ settled_ticked c
settled_becomes c b (inr (inr but)) = ap settled but.1 ∙ settled_ticked c

-- b is where this answer to the step leads
abbrev Leads : State → NamedStep → Reply → State → Type 0
Leads a step reply b = Becomes (outcome a step reply) b

answered : (a c b : State) (step : NamedStep) (answer reply : Reply) → reply ≡ answer → c ≡ outcome a step answer
    → Becomes c b → Leads a step reply b
answered a c b step answer reply is leads becomes =
    subst (λ (s : State). Becomes s b) (leads ∙ ap (λ (r : Reply). outcome a step r) (sym is)) becomes

given : (a c b : State) (step : NamedStep) (answer reply : Reply) → Gives answer c reply b → c ≡ outcome a step answer
    → Leads a step reply b
given a c b step answer reply row leads = answered a c b step answer reply row.0 leads (inr (inl row.1))

given_anew : (a c b : State) (step : NamedStep) (marks : Bool) (answer reply : Reply)
    → GivesAnewIf marks answer c reply b → c ≡ outcome a step answer → Leads a step reply b
given_anew a c b step true answer reply row leads = answered a c b step answer reply row.0 leads (inr (inr row.1))
given_anew a c b step false answer reply row leads = given a c b step answer reply row leads

-- ---- rows

loads : (a b : State) (m d s i : ℕ) (value : Option ℕ) (reply : Reply) → Loads a m d value reply b
    → Leads a (heap.Plain (plain.Load m d s i)) reply b
loads a b m d s i None reply row = given a _ b (heap.Plain (plain.Load m d s i)) _ reply row refl
loads a b m d s i (Some n) reply row = given_anew a _ b (heap.Plain (plain.Load m d s i)) _ _ reply row refl

copies : (a b : State) (m d s : ℕ) (value : Option ℕ) (reply : Reply)
    → Gives (value_reply value) (on_heap a (with_slot a.world.heap m d value)) reply b
    → Leads a (heap.Plain (plain.Copy m d s)) reply b
copies a b m d s None reply row = given a _ b (heap.Plain (plain.Copy m d s)) _ reply row refl
copies a b m d s (Some n) reply row = given a _ b (heap.Plain (plain.Copy m d s)) _ reply row refl

gets : (a b : State) (m d s : ℕ) (value : Option ℕ) (reply : Reply) → Gets a m d s value reply b
    → Leads a (heap.Plain (plain.Get m d s)) reply b
gets a b m d s None reply row = given a _ b (heap.Plain (plain.Get m d s)) _ reply row refl
gets a b m d s (Some n) reply row = given_anew a _ b (heap.Plain (plain.Get m d s)) _ _ reply row refl

unhooks : (a b : State) (m s : ℕ) (held queue : Option ℕ) (reply : Reply) → Unhooks a m s held queue reply b
    → Leads a (heap.Unhook m s) reply b
unhooks a b m s None queue reply row = given a _ b (heap.Unhook m s) _ reply row refl
unhooks a b m s (Some n) None reply row = given a _ b (heap.Unhook m s) _ reply row refl
unhooks a b m s (Some n) (Some q) reply row = given a _ b (heap.Unhook m s) _ reply row refl

holds : (a b : State) (m s : ℕ) (held : Option ℕ) (reply : Reply) → Holds a held reply b
    → Leads a (heap.Hold m s) reply b
holds a b m s None reply row = absurd row
holds a b m s (Some n) reply row = given a _ b (heap.Hold m s) _ reply row refl

scans : (a b : State) (k : ℕ) (reply : Reply) → Scans a k reply b → Leads a (heap.Plain (plain.Scan k)) reply b
scans a b k (replies.Scanned n) row = inr (inr row.2)
scans a b k reply row = given a a b (heap.Plain (plain.Scan k)) replies.Nothing reply row.1 refl

looks : (a b : State) (k n : ℕ) (rest : List ℕ) (reply : Reply) → list_at a.found k ≡ n ∷ rest
    → Gives (looked_at a k n) (looked a k n rest) reply b → Leads a (heap.Plain (plain.ClearNext k)) reply b
looks a b k n rest reply is row = grind arith

looks_at : (a b : State) (k : ℕ) (found : List ℕ) (reply : Reply) → list_at a.found k ≡ found
    → ClearsNext a k found reply b → Leads a (heap.Plain (plain.ClearNext k)) reply b
looks_at a b k [] reply is row = given a a b (heap.Plain (plain.ClearNext k)) replies.Nothing reply row refl
looks_at a b k (n ∷ rest) reply is row = looks a b k n rest reply is row

hands_on : (a b : State) (k : ℕ) (step : NamedStep) (answer : Reply) (ps : List Pending) (reply : Reply)
    → HandsOn a k answer ps reply b → told_notices answer ≡ map (notice_from k) ps
    → outcome a step answer ≡ with_world a (handed_each a.world k (told_notices answer)) → Leads a step reply b
hands_on a b k step answer ps reply row tells leads =
    given a _ b step answer reply row
    (ap (λ (ns : List Notice). with_world a (handed_each a.world k ns)) (sym tells) ∙ sym leads)

sweeps : (a b : State) (k : ℕ) (doomed : List ℕ) (reply : Reply) → a.doomed ≡ doomed → Sweeps a doomed reply b
    → Leads a (heap.Plain (plain.Sweep k)) reply b
sweeps a b k [] reply is row = given a a b (heap.Plain (plain.Sweep k)) replies.Nothing reply row refl
sweeps a b k (n ∷ ns) reply is row = grind arith

selects : (a b : State) (reply : Reply) → Selects a reply b → Leads a (heap.Plain plain.Select) reply b
selects a b reply row = grind arith

moves : (a b : State) (k : ℕ) (reply : Reply) → Moves a reply b → Leads a (heap.Plain (plain.MoveNext k)) reply b
moves a b k (replies.Moved n) row = inl row.1
moves a b k reply row = inl row.1

ends_move : (a b : State) (reply : Reply) → EndsMove a reply b → Leads a (heap.Plain plain.EndMove) reply b
ends_move a b reply row = grind arith

-- a row of a heap that isn't a mark's end leads where its answer says
pub heap_becomes : (a b : State) (step : NamedStep) (reply : Reply) → IsNoEnd step → HeapAccepts a step reply b
    → Becomes (outcome a step reply) b
heap_becomes a b (heap.Plain (plain.Load m d s i)) reply no_end row = loads a b m d s i _ reply row
heap_becomes a b (heap.Plain (plain.Copy m d s)) reply no_end row = copies a b m d s _ reply row
heap_becomes a b (heap.Plain (plain.Get m d s)) reply no_end row = gets a b m d s _ reply row
heap_becomes a b (heap.Unhook m s) reply no_end row = unhooks a b m s _ _ reply row
heap_becomes a b (heap.Hold m s) reply no_end row = holds a b m s _ reply row
heap_becomes a b (heap.Plain (plain.Begin now how)) reply no_end row =
    given_anew a _ b (heap.Plain (plain.Begin now how)) true _ reply row refl
heap_becomes a b (heap.Plain (plain.Scan k)) reply no_end row = scans a b k reply row
heap_becomes a b (heap.Plain plain.EndMark) reply no_end row = absurd no_end
heap_becomes a b (heap.Plain (plain.ClearNext k)) reply no_end row = looks_at a b k _ reply refl row
heap_becomes a b (heap.Hand k) reply no_end row =
    let ps = pending_of a.world k in
    hands_on a b k (heap.Hand k) (one_handed k (take 1 ps)) (take 1 ps) reply row (tells_one k ps) refl
heap_becomes a b (heap.Hands k max batch) reply no_end row =
    let ps = pending_of a.world k in
    hands_on a b k (heap.Hands k max batch) (all_handed k (batch_of max ps)) (batch_of max ps) reply row
    (tells_all k max ps) refl
heap_becomes a b (heap.Plain (plain.Sweep k)) reply no_end row = sweeps a b k a.doomed reply refl row
heap_becomes a b (heap.Plain plain.Select) reply no_end row = selects a b reply row
heap_becomes a b (heap.Plain (plain.MoveNext k)) reply no_end row = moves a b k reply row
heap_becomes a b (heap.Plain plain.EndMove) reply no_end row = ends_move a b reply row
heap_becomes a b step reply no_end row = given a _ b step _ reply row refl

-- in one equation
pub heap_outcome : (a b : State) (step : NamedStep) (reply : Reply) → IsNoEnd step → HeapAccepts a step reply b
    → settled b ≡ settled (outcome a step reply)
heap_outcome a b step reply no_end row =
    settled_becomes (outcome a step reply) b (heap_becomes a b step reply no_end row)
