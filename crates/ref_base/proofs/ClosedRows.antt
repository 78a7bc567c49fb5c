-- What holds of whatever a root names, and goes along with all paths of a kind, goes on doing so in each row of a heap
-- but a mark's end, and holds of what a reply names: given that it holds of what is made, and of what a get answers.
-- Where paths may go through any reference, it does hold of that.
use Rattle.ref_base.proofs.Common.{arith, ◌≡◌, ℕ, ◌+◌, ◌*◌, Bool, true, false, if◌then◌else◌, List, [], ◌∷◌, ◌++◌}
use Rattle.ref_base.proofs.Common.{length, Option, Some, None, sym, ap, ◌∙◌, subst, AllByRecursion, has, Object}
use Rattle.ref_base.proofs.Common.{object_at, plain_object, Allowed, any_referent, targets_of, Heap, slot_at, with_slot}
use Rattle.ref_base.proofs.Common.{with_reference, got_at, got, cut, stored, made, nulls, new_reference, changed_in}
use Rattle.ref_base.proofs.Common.{with_hold, without_hold, World, Pending, pending_of, with_heap, with_pending}
use Rattle.ref_base.proofs.Common.{told_object, Notice, told_notices, told_cycle, begun, with_phase, NamedStep, pended}
use Rattle.ref_base.proofs.Common.{map, handed_each, unhooked, one_handed, all_handed, batch_of, GivesAnewIf, Loads}
use Rattle.ref_base.proofs.Common.{Gets, is_in, Marking, handed_on, without_pending, after_heap, State, Gives, Unhooks}
use Rattle.ref_base.proofs.Common.{Holds, Scans, ClearsNext, Sweeps, HeapAccepts, value_reply, list_at, field_in}
use Rattle.ref_base.proofs.Common.{referent_got, reference_of, heap_refusal, Own, Cycle, Phase, Clearing, Urgency}
use Rattle.ref_base.proofs.Common.{Reply, Strength, if_told, refl, take, drop, without, with_world}
use Rattle.ref_base.proofs.BatchParts.{all_batch}
use Rattle.ref_base.specs.Told.{is_nothing, told_value, told_swept, named_by}
use Rattle.std.proofs.Common.{min}
use Rattle.ref_base.specs.CollectorRows.{free_cells}
use Rattle.ref_base.specs.Worlds.{with_swept}
use Rattle.ref_base.specs.Replay.{adopted}
use Rattle.ref_base.proofs.Places.{all_push}
use Rattle.ref_base.proofs.CarryLaws.{all_without_first}
use Rattle.ref_base.proofs.HasLaws.{has-cases}
use Rattle.ref_base.proofs.RowForms.{ticked_world}
use Rattle.ref_base.proofs.Outcomes.{IsNoEnd, outcome, heap_outcome}
use Rattle.ref_base.proofs.ReplayUnder.{made_number}
use Rattle.ref_base.proofs.PhaseLaws.{of_phase}
use Rattle.ref_base.proofs.ObjectTargets.{field_target, got_target, no_nulls}
use Rattle.ref_base.proofs.ApartWorlds.{OfValue, IsClosed, closed_slot, closed_hold, closed_fewer, closed_pending}
use Rattle.ref_base.proofs.ApartWorlds.{closed_stored, closed_cut, closed_got, closed_push, closed_swept}
use Rattle.ref_base.specs.declared.heap_step.HeapStep.TheVariants as heap
use Rattle.ref_base.specs.declared.plain_step.PlainStep.TheVariants as plain
use Rattle.ref_base.specs.declared.reply.Reply.TheVariants as replies

-- V holds of what a get answers
abbrev pub OfGot : (ℕ → Type 0) → State → NamedStep → Type 0
OfGot V a (heap.Plain (plain.Get m d s)) =
    OfValue V (referent_got (reference_of a.world.heap (slot_at a.world.heap m s)))
OfGot V a step = Unit {0}

-- the step is no get, and no look at what a worker found
abbrev IsOther : NamedStep → Type 0
IsOther (heap.Plain (plain.Get m d s)) = ⊥
IsOther (heap.Plain (plain.ClearNext k)) = ⊥
IsOther step = Unit {0}

-- V holds of whatever these roots and objects name, also where the rest of the world is another
pub closed_same : (allow : Allowed) (V : ℕ → Type 0) (v w : World) → w.heap.slots ≡ v.heap.slots
    → w.heap.holds ≡ v.heap.holds → w.pending ≡ v.pending → w.heap.objects ≡ v.heap.objects → IsClosed allow V v
    → IsClosed allow V w
closed_same allow V v w slots holds pending objects closed = grind arith

module _ (allow : Allowed) (V : ℕ → Type 0) where
  in_world : (b : State) (w : World) → b.world ≡ w → IsClosed allow V w → IsClosed allow V b.world
  in_world b w is closed = subst (IsClosed allow V) (sym is) closed

  given : (c b : State) (answer reply : Reply) → Gives answer c reply b → IsClosed allow V c.world
      → IsClosed allow V b.world
  given c b answer reply row closed =
      in_world b c.world (ap (λ (s : State). s.world) row.1 ∙ ticked_world c) closed

  given_anew : (c b : State) (marks : Bool) (answer reply : Reply) → GivesAnewIf marks answer c reply b
      → IsClosed allow V c.world → IsClosed allow V b.world
  given_anew c b true answer reply row closed =
      in_world b c.world (ap (λ (s : State). s.world) row.1.1 ∙ ticked_world c) closed
  given_anew c b false answer reply row closed = given c b answer reply row closed

  -- what the object in a slot refers to
  field_is : (w : World) (held : Option ℕ) (i : ℕ) (value : Option ℕ) → OfValue V held → IsClosed allow V w
      → field_in w.heap held i ≡ value → OfValue V value
  field_is w held i None of closed is = tt
  field_is w None i (Some n) of closed is = absurd cc
  field_is w (Some m) i (Some n) of closed is =
      closed.targets m n of (field_target allow (object_at w.heap.objects m) i n is)

  -- ---- what a reply names

  names_one : (k : ℕ) (ps : List Pending) → AllByRecursion (λ p. V p.object) ps
      → AllByRecursion V (named_by (one_handed k (take 1 ps)))
  names_one k [] all = tt
  names_one k (p ∷ ps) all = (all.0, tt)

  objects_of : (ps : List Pending) → AllByRecursion (λ p. V p.object) ps → AllByRecursion V (map (λ p. p.object) ps)
  objects_of [] all = tt
  objects_of (p ∷ ps) all = (all.0, objects_of ps all.1)

  names_all : (k : ℕ) (ps : List Pending) → AllByRecursion (λ p. V p.object) ps
      → AllByRecursion V (named_by (all_handed k ps))
  names_all k [] all = tt
  names_all k (p ∷ ps) all = objects_of (p ∷ ps) all

  told_of : (q cycle k : ℕ) (ns : List ℕ) → AllByRecursion V ns
      → AllByRecursion (λ (x : Notice). V x.object)
      (map (λ n. record { object = n; queue = q; cause = Cycle cycle k }) ns)
  told_of q cycle k [] all = tt
  told_of q cycle k (n ∷ ns) all = (all.0, told_of q cycle k ns all.1)

  -- then V holds of what each notice reports
  told_named : (reply : Reply) → AllByRecursion V (named_by reply)
      → AllByRecursion (λ (x : Notice). V x.object) (told_notices reply)
  told_named (replies.Notice n q cause) all = (all.0, tt)
  told_named (replies.Notices ns q cycle k) all = told_of q cycle k ns all
  told_named reply all = tt

  told_is : (answer reply : Reply) → reply ≡ answer → AllByRecursion V (named_by answer)
      → AllByRecursion V (named_by reply)
  told_is answer reply is holds = subst (λ (r : Reply). AllByRecursion V (named_by r)) (sym is) holds

  object_is : (n : ℕ) (reply : Reply) → reply ≡ replies.Object n → V n → AllByRecursion V (named_by reply)
  object_is n reply told is = told_is (replies.Object n) reply told (is, tt)

  value_is : (value : Option ℕ) → OfValue V value → AllByRecursion V (named_by (value_reply value))
  value_is None is = tt
  value_is (Some n) is = (is, tt)

  module _ (a b : State) (closed : IsClosed allow V a.world) where
    unhooks : (m s : ℕ) (held queue : Option ℕ) (reply : Reply) → OfValue V held → Unhooks a m s held queue reply b
        → AllByRecursion V (named_by reply)
    unhooks m s None queue reply is row = told_is replies.Nothing reply row.0 tt
    unhooks m s (Some n) None reply is row = told_is replies.Nothing reply row.0 tt
    unhooks m s (Some n) (Some q) reply is row = told_is (replies.Notice n q Own) reply row.0 (is, tt)

    holds : (held : Option ℕ) (reply : Reply) → OfValue V held → Holds a held reply b
        → AllByRecursion V (named_by reply)
    holds None reply is row = absurd row
    holds (Some n) reply is row = told_is (replies.Object n) reply row.0 (is, tt)

    anew : (marks : Bool) (n : ℕ) (c : State) (reply : Reply) → V n → GivesAnewIf marks (replies.Object n) c reply b
        → AllByRecursion V (named_by reply)
    anew true n c reply is row = object_is n reply row.0 is
    anew false n c reply is row = object_is n reply row.0 is

    loads_named : (m d : ℕ) (value : Option ℕ) (reply : Reply) → OfValue V value → Loads a m d value reply b
        → AllByRecursion V (named_by reply)
    loads_named m d None reply is row = told_is replies.Null reply row.0 tt
    loads_named m d (Some n) reply is row = anew (is_in a.world.phase Marking) n _ reply is row

    gets_named : (m d s : ℕ) (value : Option ℕ) (reply : Reply) → OfValue V value → Gets a m d s value reply b
        → AllByRecursion V (named_by reply)
    gets_named m d s None reply is row = told_is replies.Null reply row.0 tt
    gets_named m d s (Some n) reply is row = anew (is_in a.world.phase Marking) n _ reply is row

    scans : (k : ℕ) (reply : Reply) → Scans a k reply b → AllByRecursion V (named_by reply)
    scans k (replies.Scanned n) row = tt
    scans k reply row = told_is replies.Nothing reply row.1.0 tt

    looks : (k : ℕ) (found : List ℕ) (reply : Reply) → ClearsNext a k found reply b → AllByRecursion V (named_by reply)
    looks k [] reply row = told_is replies.Nothing reply row.0 tt
    looks k (n ∷ rest) reply row = grind arith

    sweeps : (doomed : List ℕ) (reply : Reply) → Sweeps a doomed reply b → AllByRecursion V (named_by reply)
    sweeps [] reply row = told_is replies.Nothing reply row.0 tt
    sweeps (n ∷ ns) reply row = told_is (replies.Swept (min 64 (length (n ∷ ns)))) reply row.0 tt

    slot_is : (m s : ℕ) → OfValue V (slot_at a.world.heap m s)
    slot_is m s = closed.slots (16 * m + s)

    -- V holds of what the reply names, where it holds of the number of what is made, and of what a get answers
    pub names_in : (step : NamedStep) (reply : Reply) → (made_number step reply ≡ Some a.next → V a.next)
        → OfGot V a step → heap_refusal a step ≡ None → HeapAccepts a step reply b → AllByRecursion V (named_by reply)
    names_in (heap.Plain (plain.New m d k)) reply next got none row =
        told_is (replies.Object a.next) reply row.0 (next (ap told_object row.0), tt)
    names_in (heap.Plain (plain.Refer m strength d s q k)) reply next got none row =
        told_is (replies.Object a.next) reply row.0 (next (ap told_object row.0), tt)
    names_in (heap.Plain (plain.Load m d s i)) reply next got none row =
        let held : Option ℕ = slot_at a.world.heap m s in
        loads_named m d (field_in a.world.heap held i) reply (field_is a.world held i _ (slot_is m s) closed refl) row
    names_in (heap.Plain (plain.Get m d s)) reply next got none row = gets_named m d s _ reply got row
    names_in (heap.Hand k) reply next got none row =
        let ps : List Pending = pending_of a.world k in
        told_is (one_handed k (take 1 ps)) reply row.0 (names_one k ps (closed.pendings k))
    names_in (heap.Hands k max batch) reply next got none row =
        let ps : List Pending = pending_of a.world k in
        told_is (all_handed k (batch_of max ps)) reply row.0
        (names_all k (batch_of max ps) (all_batch (λ p. V p.object) max ps (closed.pendings k)))
    names_in step reply next got none row =
        grind (arith, told_is, object_is, field_is, value_is, slot_is, unhooks, holds, scans, looks, sweeps)

  -- ---- where a row leads

  -- V is closed in this world, as a record that search can see
  record At (w : World) : Type 0 where
    pub closed : IsClosed allow V w

  gives : (w : World) → IsClosed allow V w → (k n : ℕ) → V n → IsClosed allow V (handed_on w k n)
  gives w closed k n is =
      let left : List Pending = without_pending (pending_of w k) n in
      closed_hold allow V (with_pending w k left) n is
      (closed_pending allow V w k left
      (all_without_first (λ p. V p.object) (λ (p : Pending). p.object) (pending_of w k) n (closed.pendings k))
      closed)

  gives_each : (w : World) → IsClosed allow V w → (k : ℕ) (notices : List Notice)
      → AllByRecursion (λ (x : Notice). V x.object) notices → At (handed_each w k notices)
  gives_each w closed k [] all = record { closed = closed }
  gives_each w closed k (notice ∷ rest) all =
      gives_each (handed_on w k notice.object) (gives w closed k notice.object all.0) k rest all.1

  module _ (w : World) (closed : IsClosed allow V w) where
    before : At w
    before = record { closed = closed }

    sets : (m d : ℕ) (value : Option ℕ) → OfValue V value → At (with_heap w (with_slot w.heap m d value))
    sets m d value is = record { closed = closed_slot allow V w m d value is closed }

    stores : (m s i v : ℕ) → At (with_heap w (stored w.heap m s i v))
    stores m s i v = grind (arith, closed_stored)

    cuts : (m s : ℕ) → At (with_heap w (cut w.heap m s))
    cuts m s = record { closed = closed_cut allow V w (slot_at w.heap m s) closed }

    -- what a get answers is what the reference refers to, which may be kept from now on
    gets : (m d s : ℕ) (value : Option ℕ) → referent_got (reference_of w.heap (slot_at w.heap m s)) ≡ value
        → OfValue V value → At (with_heap w (got w.heap m d s value))
    gets m d s None is holds = sets m d None tt
    gets m d s (Some n) is holds =
        let f : Object → Object = with_reference (got_at w.heap.clock) in record {
          closed = closed_slot allow V (with_heap w (changed_in w.heap (slot_at w.heap m s) f)) m d (Some n) holds
              (closed_got allow V w (slot_at w.heap m s) w.heap.clock n is holds closed);
        }

    makes : (m d : ℕ) (o : Object) → V o.no → ((n : ℕ) → has (targets_of allow (Some o)) n ≡ true → V n)
        → At (with_heap w (made w.heap m d o))
    makes m d o is fresh =
        let h : Heap = record w.heap { objects = w.heap.objects ++ o ∷ [] } in record {
          closed = closed_slot allow V (with_heap w h) m d (Some o.no) is (closed_push allow V w o fresh closed);
        }

    holds_one : (n : ℕ) → V n → At (with_heap w (with_hold w.heap n))
    holds_one n is = record { closed = closed_hold allow V w n is closed }

    cuts_holding : (m s n : ℕ) → V n → At (with_heap w (with_hold (cut w.heap m s) n))
    cuts_holding m s n is = record {
      closed = closed_hold allow V (with_heap w (cut w.heap m s)) n is (cuts m s).closed;
    }

    releases : (n : ℕ) → At (with_heap w (without_hold w.heap n))
    releases n = record { closed = closed_fewer allow V w n closed }

    adopts : (m d n : ℕ) → V n → At (with_heap w (adopted w.heap m d n))
    adopts m d n is = record {
      closed = closed_slot allow V (with_heap w (without_hold w.heap n)) m d (Some n) is
          (closed_fewer allow V w n closed);
    }

    plain_targets : (i k n : ℕ) → has (targets_of allow (Some (plain_object i (nulls k)))) n ≡ true → V n
    plain_targets i k n target = grind (arith, has-cases, no_nulls)

    reference_targets : (i m s k n : ℕ) (strength : Strength) (q : Option ℕ)
        → has (targets_of allow (Some (new_reference w.heap i strength (slot_at w.heap m s) q k))) n ≡ true → V n
    reference_targets i m s k n strength q target = grind (arith, has-cases, no_nulls)

    done : (is : Bool) (u : World) → At u → At (if is then u else w)
    done true u after = after
    done false u after = before

    objects : (reply : Reply) (change : ℕ → World) → AllByRecursion V (named_by reply) → ((n : ℕ) → V n → At (change n))
        → At (if_told (told_object reply) change w)
    objects (replies.Object n) change is after = after n is.0
    objects reply change is after = before

    values : (reply : Reply) (change : Option ℕ → World) → AllByRecursion V (named_by reply)
        → ((value : Option ℕ) → OfValue V value → At (change value)) → At (if_told (told_value reply) change w)
    values (replies.Object n) change is after = after (Some n) is.0
    values replies.Null change is after = after None tt
    values reply change is after = before

    unhooks_any : (m s : ℕ) (nothing : Bool) (notices : List Notice)
        → AllByRecursion (λ (x : Notice). V x.object) notices
        → At (if nothing then with_heap w (cut w.heap m s) else unhooked w m s notices)
    unhooks_any m s true notices all = cuts m s
    unhooks_any m s false [] all = before
    unhooks_any m s false (notice ∷ rest) all = cuts_holding m s notice.object all.0

    begins : (free now : ℕ) (how : Urgency) (reply : Reply)
        → At (if_told (told_cycle reply) (λ n. begun w free now how n) w)
    begins free now how (replies.Cycle n) = record { closed = assumption closed }
    begins free now how reply = before

    counts : (reply : Reply) → At (if_told (told_swept reply) (λ count. with_swept w count) w)
    counts (replies.Swept count) = record { closed = assumption closed }
    counts reply = before

    phases : (phase : Phase) → At (with_phase w phase)
    phases phase = record { closed = assumption closed }

    -- where such a row leads, which its replay says, it is so
    after_closed : (step : NamedStep) (reply : Reply) → IsOther step → AllByRecursion V (named_by reply)
        → At (after_heap w step reply)
    after_closed (heap.Plain (plain.New m d k)) reply other is = search (objects, makes, plain_targets)
    after_closed (heap.Plain (plain.Refer m strength d s q k)) reply other is =
        search (objects, makes, reference_targets)
    after_closed (heap.Plain (plain.ClearNext k)) reply other is = absurd other
    after_closed (heap.Plain (plain.Get m d s)) reply other is = absurd other
    after_closed (heap.Unhook m s) reply other is =
        unhooks_any m s (is_nothing reply) (told_notices reply) (told_named reply is)
    after_closed (heap.Hand k) reply other is =
        gives_each w closed k (told_notices reply) (told_named reply is)
    after_closed (heap.Hands k max batch) reply other is =
        gives_each w closed k (told_notices reply) (told_named reply is)
    after_closed step reply other is =
        search (
          before,
          done,
          objects,
          values,
          begins,
          counts,
          phases,
          sets,
          stores,
          cuts,
          holds_one,
          releases,
          adopts,
          is,
          tt,
        )

  module _ (a b : State) (closed : IsClosed allow V a.world) where
    pends : (k n : ℕ) (queue : Option ℕ) → V n → IsClosed allow V (pended a.world k n queue)
    pends k n None is = closed
    pends k n (Some q) is = grind (arith, closed_pending, all_push)

    looks_at : (k : ℕ) (found : List ℕ) (reply : Reply) → ((n : ℕ) → has a.cleared n ≡ true → V n)
        → ClearsNext a k found reply b → IsClosed allow V b.world
    looks_at k [] reply clears row = given a b replies.Nothing reply row closed
    looks_at k (n ∷ rest) reply clears row = grind (arith, pends)

    frees : (doomed : List ℕ) (reply : Reply) → Sweeps a doomed reply b → IsClosed allow V b.world
    frees [] reply row = given a b replies.Nothing reply row closed
    frees (n ∷ ns) reply row =
        let left : World = with_heap a.world
        (record a.world.heap { objects = without (take 64 (n ∷ ns)) a.world.heap.objects }) in
        let freed : IsClosed allow V left = search closed_swept in
        let count : ℕ = min 64 (length (n ∷ ns)) in
        let after : State = record a { world = with_swept left count; doomed = drop 64 (n ∷ ns) } in
        given after b (replies.Swept count) reply row (closed_same allow V left after.world refl refl refl refl freed)

    leads : (step : NamedStep) (reply : Reply) → IsNoEnd step → HeapAccepts a step reply b
        → IsClosed allow V (outcome a step reply).world → IsClosed allow V b.world
    leads step reply no_end row after = grind (arith, heap_outcome)

    gets_row : (m d s : ℕ) (value : Option ℕ) (reply : Reply)
        → referent_got (reference_of a.world.heap (slot_at a.world.heap m s)) ≡ value → OfValue V value
        → Gets a m d s value reply b → IsClosed allow V b.world
    gets_row m d s None reply is holds row =
        given (with_world a (with_heap a.world (got a.world.heap m d s None))) b replies.Null reply row
        (gets a.world closed m d s None is tt).closed
    gets_row m d s (Some n) reply is holds row =
        given_anew (with_world a (with_heap a.world (got a.world.heap m d s (Some n)))) b
        (is_in a.world.phase Marking) (replies.Object n) reply row (gets a.world closed m d s (Some n) is holds).closed

    -- a row keeps it, where it holds of what its reply names, and of what the mark's end cleared
    pub closed_on : (step : NamedStep) (reply : Reply) → IsNoEnd step → heap_refusal a step ≡ None
        → AllByRecursion V (named_by reply) → OfGot V a step
        → (a.world.phase ≡ Clearing → (n : ℕ) → has a.cleared n ≡ true → V n) → HeapAccepts a step reply b
        → IsClosed allow V b.world
    closed_on (heap.Plain (plain.ClearNext k)) reply no_end none named got clears row =
        looks_at k (list_at a.found k) reply (clears (of_phase a (heap.Plain (plain.ClearNext k)) none)) row
    closed_on (heap.Plain (plain.Sweep k)) reply no_end none named got clears row = frees a.doomed reply row
    closed_on (heap.Plain plain.EndMark) reply no_end none named got clears row = absurd no_end
    closed_on (heap.Plain (plain.Get m d s)) reply no_end none named got clears row =
        gets_row m d s _ reply refl got row
    closed_on (heap.Plain (plain.Begin now how)) reply no_end none named got clears row =
        leads (heap.Plain (plain.Begin now how)) reply no_end row
        (begins a.world closed (free_cells a.world.heap) now how reply).closed
    closed_on step reply no_end none named got clears row =
        leads step reply no_end row (after_closed a.world closed step reply tt named).closed

-- ---- along paths through any reference

module _ (V : ℕ → Type 0) (a b : State) (closed : IsClosed any_referent V a.world) where
  -- what a get answers is what the reference refers to
  got_target_in : (held value : Option ℕ) → OfValue V held → referent_got (reference_of a.world.heap held) ≡ value
      → OfValue V value
  got_target_in held None of is = tt
  got_target_in None (Some n) of is = absurd cc
  got_target_in (Some m) (Some n) of is =
      closed.targets m n of (got_target (object_at a.world.heap.objects m) n is)

  got_in : (step : NamedStep) → OfGot V a step
  got_in (heap.Plain (plain.Get m d s)) =
      got_target_in (slot_at a.world.heap m s) _ (closed.slots (16 * m + s)) refl
  got_in step = tt

  -- V holds of what the reply names, where it holds of the number of what is made
  pub named_is : (step : NamedStep) (reply : Reply) → (made_number step reply ≡ Some a.next → V a.next)
      → heap_refusal a step ≡ None → HeapAccepts a step reply b → AllByRecursion V (named_by reply)
  named_is step reply next none row = names_in any_referent V a b closed step reply next (got_in step) none row

  -- a row keeps it, where it holds of the next number, and of what the mark's end cleared
  pub heap_closed : (step : NamedStep) (reply : Reply) → IsNoEnd step → heap_refusal a step ≡ None
      → (made_number step reply ≡ Some a.next → V a.next)
      → (a.world.phase ≡ Clearing → (n : ℕ) → has a.cleared n ≡ true → V n) → HeapAccepts a step reply b
      → IsClosed any_referent V b.world
  heap_closed step reply no_end none next clears row =
      closed_on any_referent V a b closed step reply no_end none (named_is step reply next none row) (got_in step)
      clears row
