-- Rows of a heap of a collector of any profile, from states that are equal but for the moments of their marks.
use Rattle.ref_base.proofs.Common.{◌≡◌, ◌+◌, ◌++◌, ℕ, Bool, true, false, if◌then◌else◌, List, [], ◌∷◌, inl, inr, refl}
use Rattle.ref_base.proofs.Common.{sym, ap, subst, Graph, State, false≢true, Option, Some, None, is_some, has, take}
use Rattle.ref_base.proofs.Common.{length, drop, Gives, Loads, Gets, ClearsNext, Sweeps, Selects, Moves, EndsMove}
use Rattle.ref_base.proofs.Common.{Object, and_parts, is_in, on_heap, with_slot, slot_at, got, looked_at, referent_of}
use Rattle.ref_base.proofs.Common.{reference_at, without, ticked, with_heap, with_world, with_phase, made, value_reply}
use Rattle.ref_base.proofs.Common.{plain_object, nulls, new_reference, stored, field_in, referent_got, reference_of}
use Rattle.ref_base.proofs.Common.{cut, list_at, Scans, doomed_at, slice_set, Unhooks, Holds, with_hold, HandsOn}
use Rattle.ref_base.proofs.Common.{Pending, handed_each, map, notice_from, one_handed, all_handed, NamedStep}
use Rattle.ref_base.proofs.Common.{registered_in, without_hold, pending_of, batch_of}
use Rattle.std.specs.Prelude.{min}
use Rattle.ref_base.specs.Replay.{adopted}
use Rattle.ref_base.specs.Worlds.{with_swept}
use Rattle.ref_base.specs.Told.{told_object}
use Rattle.ref_base.specs.CollectorRows.{Makes, PlainAccepts, looked, move_begun, sweep_ended, is_same}
use Rattle.ref_base.specs.declared.cause.Cause.TheVariants.{Own}
use Rattle.ref_base.specs.declared.heap_step.HeapStep.TheVariants as heap
use Rattle.ref_base.specs.declared.phase.Phase.TheVariants.{Marking, Idle, Sweeping}
use Rattle.ref_base.specs.declared.plain_step.PlainStep.{PlainStep}
use Rattle.ref_base.specs.declared.plain_step.PlainStep.TheVariants as plain
use Rattle.ref_base.specs.declared.reply.Reply.{Reply}
use Rattle.ref_base.specs.declared.reply.Reply.TheVariants as replies
use Rattle.ref_judge.specs.ProfiledRows.{HeapAcceptsAs, IsLeftAs, AcceptsAnew, ScansAs, EndsMarkAs, PlainAcceptsAs}
use Rattle.ref_judge.specs.ProfiledRows.{says_anew}
use Rattle.ref_judge.specs.KeptBounds.{MayDoomAs}
use Rattle.ref_judge.specs.declared.profile.Profile.{Profile}
use Rattle.ref_judge.proofs.StrictRows.{beginning}
use Rattle.ref_judge.proofs.AlikeStates.{with_moments, Alike, CountsNow, Follows, is_refused, given_follows}
use Rattle.ref_judge.proofs.AlikeStates.{given_anew_follows, but_follows, ButBy, said_anew, left_as_is_carried}
use Rattle.ref_judge.proofs.AlikeStates.{may_is_carried, widened, no_refusal}

-- neither a scan nor a mark's end
abbrev is_other : PlainStep → Bool
is_other (plain.Scan k) = false
is_other plain.EndMark = false
is_other step = true

-- worker k scanned n too
abbrev scanned_more : State → ℕ → ℕ → State
scanned_more a k n = record a { scanned = slice_set a.scanned k (list_at a.scanned k ++ n ∷ []) }

module _ (p : Profile) (a : State) (ms : List Graph) (alike : Alike a.moments ms) (counts : CountsNow a) where
  pub unchanged_follows : (reply : Reply) (goes : State → Type 0) (b : State) → b ≡ a → goes (with_moments a ms)
      → Follows a reply goes b
  unchanged_follows reply goes b is row =
      subst (λ (s : State). Follows a reply goes s) (sym is)
      (record { moments = ms; row = row; alike = alike; counts = counts; refused = λ refused. refl })

  -- ---- plain steps of the abstract collector

  loads_follow : (m d : ℕ) (value : Option ℕ) (reply : Reply) (b : State) → Loads a m d value reply b
      → Follows a reply (λ y. Loads (with_moments a ms) m d value reply y) b
  loads_follow m d None reply b row =
      given_follows a replies.Null refl (on_heap a (with_slot a.world.heap m d None)) ms alike reply b row
  loads_follow m d (Some n) reply b row =
      given_anew_follows a _ (replies.Object n) refl (on_heap a (with_slot a.world.heap m d (Some n))) ms alike reply b
      row

  gets_follow : (m d s : ℕ) (value : Option ℕ) (reply : Reply) (b : State) → Gets a m d s value reply b
      → Follows a reply (λ y. Gets (with_moments a ms) m d s value reply y) b
  gets_follow m d s None reply b row =
      given_follows a replies.Null refl (on_heap a (got a.world.heap m d s None)) ms alike reply b row
  gets_follow m d s (Some n) reply b row =
      given_anew_follows a _ (replies.Object n) refl (on_heap a (got a.world.heap m d s (Some n))) ms alike reply b row

  clears_follow : (k : ℕ) (found : List ℕ) (reply : Reply) (b : State) → ClearsNext a k found reply b
      → Follows a reply (λ y. ClearsNext (with_moments a ms) k found reply y) b
  clears_follow k [] reply b row = given_follows a replies.Nothing refl a ms alike reply b row
  clears_follow k (n ∷ rest) reply b row =
      given_follows a (looked_at a k n)
      (look_is_no_refusal n (has a.cleared n) (is_some (referent_of (reference_at a.world.heap n))))
      (looked a k n rest) ms alike reply b row
    where
      look_is_no_refusal : (n : ℕ) (cleared there : Bool)
          → is_refused (if cleared then replies.Cleared n else (if there then replies.Kept n else replies.Skipped n))
          ≡ false
      look_is_no_refusal n true there = refl
      look_is_no_refusal n false true = refl
      look_is_no_refusal n false false = refl

  sweeps_follow : (doomed : List ℕ) (reply : Reply) (b : State) → Sweeps a doomed reply b
      → Follows a reply (λ y. Sweeps (with_moments a ms) doomed reply y) b
  sweeps_follow [] reply b row = given_follows a replies.Nothing refl a ms alike reply b row
  sweeps_follow (n ∷ ns) reply b row =
      given_follows a (replies.Swept (min 64 (length (n ∷ ns)))) refl
      (record a {
        world = with_swept
            (with_heap a.world (record a.world.heap { objects = without (take 64 (n ∷ ns)) a.world.heap.objects }))
            (min 64 (length (n ∷ ns)));
        doomed = drop 64 (n ∷ ns);
      }) ms alike reply b row

  selects_follow : (reply : Reply) (b : State) → Selects a reply b
      → Follows a reply (Selects (with_moments a ms) reply) b
  selects_follow reply b (inl (count, row)) =
      widened a (λ y. Gives (replies.Selected count) (move_begun (with_moments a ms)) reply y)
      (Selects (with_moments a ms) reply) (λ y given. inl (count, given)) reply b
      (given_follows a (replies.Selected count) refl (move_begun a) ms alike reply b row)
  selects_follow reply b (inr (why, is)) =
      unchanged_follows reply (Selects (with_moments a ms) reply) b is (inr (why, refl))

  moves_follow : (reply : Reply) (b : State) → Moves a reply b → Follows a reply (Moves (with_moments a ms) reply) b
  moves_follow (replies.Moved n) b row = unchanged_follows (replies.Moved n) _ b row.1 (row.0, refl)
  moves_follow reply b row = unchanged_follows reply (Moves (with_moments a ms) reply) b row.1 (row.0, refl)

  move_ends_follow : (reply : Reply) (b : State) → EndsMove a reply b
      → Follows a reply (EndsMove (with_moments a ms) reply) b
  move_ends_follow reply b (inl row) =
      widened a (λ y. Gives replies.Done (with_world (with_moments a ms) (with_phase a.world Idle)) reply y)
      (EndsMove (with_moments a ms) reply) (λ y given. inl given) reply b
      (given_follows a replies.Done refl (with_world a (with_phase a.world Idle)) ms alike reply b row)
  move_ends_follow reply b (inr (why, is)) =
      unchanged_follows reply (EndsMove (with_moments a ms) reply) b is (inr (why, refl))

  makes_follow : (m d : ℕ) (o : Object) (reply : Reply) (b : State) → Makes a m d o reply b
      → Follows a reply (λ y. Makes (with_moments a ms) m d o reply y) b
  makes_follow m d o reply b row =
      given_follows a (replies.Object a.next) refl
      (record a { world = with_heap a.world (made a.world.heap m d o); next = a.next + 1 }) ms alike reply b row

  value_is_no_refusal : (value : Option ℕ) → is_refused (value_reply value) ≡ false
  value_is_no_refusal None = refl
  value_is_no_refusal (Some n) = refl

  plain_follows : (step : PlainStep) (reply : Reply) (b : State) → is_other step ≡ true → PlainAccepts a step reply b
      → Follows a reply (λ y. PlainAccepts (with_moments a ms) step reply y) b
  plain_follows (plain.New m d k) reply b is row = makes_follow m d (plain_object a.next (nulls k)) reply b row
  plain_follows (plain.Refer m strength d s q k) reply b is row =
      makes_follow m d (new_reference a.world.heap a.next strength (slot_at a.world.heap m s) q k) reply b row
  plain_follows (plain.Store m s i v) reply b is row =
      given_follows a replies.Done refl (on_heap a (stored a.world.heap m s i v)) ms alike reply b row
  plain_follows (plain.Load m d s i) reply b is row =
      loads_follow m d (field_in a.world.heap (slot_at a.world.heap m s) i) reply b row
  plain_follows (plain.Copy m d s) reply b is row =
      given_follows a (value_reply (slot_at a.world.heap m s)) (value_is_no_refusal (slot_at a.world.heap m s))
      (on_heap a (with_slot a.world.heap m d (slot_at a.world.heap m s))) ms alike reply b row
  plain_follows (plain.Drop m s) reply b is row =
      given_follows a replies.Done refl (on_heap a (with_slot a.world.heap m s None)) ms alike reply b row
  plain_follows (plain.Get m d s) reply b is row =
      gets_follow m d s (referent_got (reference_of a.world.heap (slot_at a.world.heap m s))) reply b row
  plain_follows (plain.Clear m s) reply b is row =
      given_follows a replies.Done refl (on_heap a (cut a.world.heap m s)) ms alike reply b row
  plain_follows (plain.RefersTo m s v) reply b is row =
      given_follows a
      (replies.Refers
      (is_same (referent_of (reference_of a.world.heap (slot_at a.world.heap m s))) (slot_at a.world.heap m v)))
      refl a ms alike reply b row
  plain_follows (plain.Begin now urgency) reply b is row =
      given_anew_follows a true (replies.Cycle (a.world.cycle + 1)) refl (beginning a now urgency) []
      (λ allow n. (λ ends. ends, λ ends. ends)) reply b row
  plain_follows (plain.Scan k) reply b is row = absurd (false≢true is)
  plain_follows plain.EndMark reply b is row = absurd (false≢true is)
  plain_follows (plain.ClearNext k) reply b is row = clears_follow k (list_at a.found k) reply b row
  plain_follows plain.EndClear reply b is row =
      given_follows a replies.Done refl (with_world a (with_phase a.world Sweeping)) ms alike reply b row
  plain_follows (plain.Sweep k) reply b is row = sweeps_follow a.doomed reply b row
  plain_follows plain.EndSweep reply b is row = given_follows a replies.Done refl (sweep_ended a) ms alike reply b row
  plain_follows plain.Select reply b is row = selects_follow reply b row
  plain_follows (plain.MoveNext k) reply b is row = moves_follow reply b row
  plain_follows plain.EndMove reply b is row = move_ends_follow reply b row

  -- ---- and of a collector of this profile

  anew_follows : (flag : Bool) (step : PlainStep) (reply : Reply) (b : State) → is_other step ≡ true
      → (flag ≡ true → (c : State) → PlainAccepts a step reply c → is_refused reply ≡ true → ⊥)
      → AcceptsAnew p flag a step reply b → Follows a reply (λ y. AcceptsAnew p flag (with_moments a ms) step reply y) b
  anew_follows true step reply b is accepted row =
      let first = plain_follows step reply row.0 is row.1 in
      let said =
      said_anew (IsLeftAs p) (left_as_is_carried p) row.0 first.moments first.alike first.counts b row.2 in
      record {
        moments = first.moments;
        row = (with_moments row.0 first.moments, first.row, said.but);
        alike = said.alike;
        counts = said.counts;
        refused = λ refused. absurd (accepted refl row.0 row.1 refused);
      }
  anew_follows false step reply b is accepted row = plain_follows step reply b is row

  -- where an object is told, nothing is refused
  told_is_no_refusal : (reply : Reply) → is_some (told_object reply) ≡ true → is_refused reply ≡ true → ⊥
  told_is_no_refusal (replies.Object n) told refused = false≢true refused
  told_is_no_refusal reply told refused = false≢true told

  scans_follow : (k : ℕ) (reply : Reply) (b : State) → ScansAs p a k reply b
      → Follows a reply (λ y. ScansAs p (with_moments a ms) k reply y) b
  scans_follow k (replies.Scanned n) b row =
      widened a (λ y. ButBy (IsLeftAs p) (ticked (with_moments (scanned_more a k n) ms)) y)
      (λ y. ScansAs p (with_moments a ms) k (replies.Scanned n) y)
      (λ y but. (row.0, left_as_is_carried p a ms alike n row.1, but)) (replies.Scanned n) b
      (but_follows a (IsLeftAs p) (left_as_is_carried p) (replies.Scanned n) refl (scanned_more a k n) ms alike
      (replies.Scanned n) b refl row.2)
  scans_follow k reply b row =
      widened a (λ y. Gives replies.Nothing (with_moments a ms) reply y)
      (λ y. Scans (with_moments a ms) k reply y)
      (λ y given. (row.0, given)) reply b
      (given_follows a replies.Nothing refl a ms alike reply b row.1)

  may_doom_is_carried : (d : List ℕ) → MayDoomAs p a d → MayDoomAs p (with_moments a ms) d
  may_doom_is_carried d may = record {
    none_kept = may.none_kept;
    never_kept = λ n there never. may.never_kept n there (λ kept. never (may_is_carried p a ms alike n kept));
    closed = may.closed;
  }

  mark_ends_follow : (reply : Reply) (b : State) → EndsMarkAs p a reply b
      → Follows a reply (λ y. EndsMarkAs p (with_moments a ms) reply y) b
  mark_ends_follow reply b row = record {
    moments = ms;
    row = record {
      answer = row.answer;
      may_doom = may_doom_is_carried (doomed_at a) row.may_doom;
      found = row.found;
      are_found = row.are_found;
      all_found = row.all_found;
      after = ap (λ (s : State). with_moments s ms) row.after;
    };
    alike = subst (λ gs. Alike gs ms) (sym (ap (λ (s : State). s.moments) row.after)) alike;
    counts = subst CountsNow (sym row.after) (λ marks allow n ends. absurd (false≢true marks));
    refused = λ refused. absurd (no_refusal (replies.Doomed (length (doomed_at a))) reply refl row.answer refused);
  }

  plain_follows_as : (step : PlainStep) (reply : Reply) (b : State) → PlainAcceptsAs p a step reply b
      → Follows a reply (λ y. PlainAcceptsAs p (with_moments a ms) step reply y) b
  plain_follows_as (plain.Scan k) reply b row = scans_follow k reply b row
  plain_follows_as plain.EndMark reply b row = mark_ends_follow reply b row
  plain_follows_as (plain.Load m d s i) reply b row =
      anew_follows (says_anew a (plain.Load m d s i) reply) (plain.Load m d s i) reply b refl
      (λ anew c given refused.
      told_is_no_refusal reply (and_parts (is_in a.world.phase Marking) (is_some (told_object reply)) anew).1 refused)
      row
  plain_follows_as (plain.Get m d s) reply b row =
      anew_follows (says_anew a (plain.Get m d s) reply) (plain.Get m d s) reply b refl
      (λ anew c given refused.
      told_is_no_refusal reply (and_parts (is_in a.world.phase Marking) (is_some (told_object reply)) anew).1 refused)
      row
  plain_follows_as (plain.Begin now how) reply b row =
      anew_follows true (plain.Begin now how) reply b refl
      (λ anew c given refused. no_refusal (replies.Cycle (a.world.cycle + 1)) reply refl given.0 refused) row
  plain_follows_as step reply b row = plain_follows step reply b refl row

  -- ---- rows of a heap

  unhooks_follow : (m s : ℕ) (held queue : Option ℕ) (reply : Reply) (b : State) → Unhooks a m s held queue reply b
      → Follows a reply (λ y. Unhooks (with_moments a ms) m s held queue reply y) b
  unhooks_follow m s None queue reply b row =
      given_follows a replies.Nothing refl (on_heap a (cut a.world.heap m s)) ms alike reply b row
  unhooks_follow m s (Some n) None reply b row =
      given_follows a replies.Nothing refl (on_heap a (cut a.world.heap m s)) ms alike reply b row
  unhooks_follow m s (Some n) (Some q) reply b row =
      given_follows a (replies.Notice n q Own) refl (on_heap a (with_hold (cut a.world.heap m s) n)) ms alike reply b
      row

  holds_follow : (held : Option ℕ) (reply : Reply) (b : State) → Holds a held reply b
      → Follows a reply (λ y. Holds (with_moments a ms) held reply y) b
  holds_follow None reply b row = absurd row
  holds_follow (Some n) reply b row =
      given_follows a (replies.Object n) refl (on_heap a (with_hold a.world.heap n)) ms alike reply b row

  handing_follows : (k : ℕ) (answer : Reply) (some : List Pending) (reply : Reply) (b : State)
      → is_refused answer ≡ false → HandsOn a k answer some reply b
      → Follows a reply (λ y. HandsOn (with_moments a ms) k answer some reply y) b
  handing_follows k answer some reply b accepted row =
      given_follows a answer accepted (with_world a (handed_each a.world k (map (notice_from k) some))) ms alike reply b
      row

  one_handed_is_no_refusal : (k : ℕ) (some : List Pending) → is_refused (one_handed k some) ≡ false
  one_handed_is_no_refusal k [] = refl
  one_handed_is_no_refusal k (first ∷ rest) = refl

  all_handed_is_no_refusal : (k : ℕ) (some : List Pending) → is_refused (all_handed k some) ≡ false
  all_handed_is_no_refusal k [] = refl
  all_handed_is_no_refusal k (first ∷ rest) = refl

  pub heap_follows : (step : NamedStep) (reply : Reply) (b : State) → HeapAcceptsAs p a step reply b
      → Follows a reply (λ y. HeapAcceptsAs p (with_moments a ms) step reply y) b
  heap_follows (heap.Plain step) reply b row = plain_follows_as step reply b row
  heap_follows (heap.Unhook m s) reply b row =
      let held = slot_at a.world.heap m s in
      unhooks_follow m s held (registered_in (reference_of a.world.heap held)) reply b row
  heap_follows (heap.Hold m s) reply b row = holds_follow (slot_at a.world.heap m s) reply b row
  heap_follows (heap.Adopt m d hold) reply b row =
      given_follows a (replies.Object hold.object) refl (on_heap a (adopted a.world.heap m d hold.object)) ms alike
      reply b row
  heap_follows (heap.Release hold) reply b row =
      given_follows a replies.Done refl (on_heap a (without_hold a.world.heap hold.object)) ms alike reply b row
  heap_follows (heap.Hand k) reply b row =
      let first = take 1 (pending_of a.world k) in
      handing_follows k (one_handed k first) first reply b (one_handed_is_no_refusal k first) row
  heap_follows (heap.Hands k max batch) reply b row =
      let some = batch_of max (pending_of a.world k) in
      handing_follows k (all_handed k some) some reply b (all_handed_is_no_refusal k some) row
