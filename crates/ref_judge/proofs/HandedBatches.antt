-- Rows in which a worker hands on as many notices as go together, at once.
use Rattle.ref_base.proofs.Common.{arith, ◌≡◌, ℕ, ◌+◌, ◌-◌, ◌<◌, ◌≤◌, ◌==◌, Bool, true, false, List, [], ◌∷◌, ◌++◌}
use Rattle.ref_base.proofs.Common.{length, map, take, drop, Option, Some, None, refl, sym, ap, ◌∙◌, subst, eq-eqb, zero}
use Rattle.ref_base.proofs.Common.{suc}
use Rattle.ref_base.proofs.Common.{slice_set, get_or, Notice, Pending, State, hand_of, pending_of}
use Rattle.ref_base.proofs.Common.{handed_each, notice_from, told_notices, unless, is_actor, hands_refusal}
use Rattle.ref_base.proofs.Common.{refusal, fits, batch_of, all_handed, ticked, with_world, HandsOn, HeapAccepts}
use Rattle.ref_base.proofs.Common.{length-map}
use Rattle.std.specs.List.{list_all}
use Rattle.std.specs.Prelude.{Ok, Err, ◌^◌}
use Rattle.ref_base.proofs.BatchParts.{tells_all, batch_front}
use Rattle.ref_base.proofs.RowForms.{unless_passes}
use Rattle.ref_base.specs.Members.{first_of}
use Rattle.ref_base.specs.Refusals.{front_with}
use Rattle.ref_base.specs.declared.actor.Actor.{Actor}
use Rattle.ref_base.specs.declared.actor.Actor.TheVariants.{Worker}
use Rattle.ref_base.specs.declared.fault.Fault.{Fault}
use Rattle.ref_base.specs.declared.fault.Fault.TheVariants.{NoSuchActor, BadConfig, NumbersSpent}
use Rattle.ref_base.specs.declared.heap_step.HeapStep.TheVariants as heap
use Rattle.ref_base.specs.declared.reply.Reply.{Reply}
use Rattle.ref_base.specs.declared.reply.Reply.TheVariants as replies
use Rattle.ref_base.specs.declared.step.Step.TheVariants as steps
use Rattle.ref_judge.specs.Judged.{Judged, Finder, has_carrier, hand_at, with_hand_at, finder_at, free_hand_refusal}
use Rattle.ref_judge.specs.Judged.{fitting_refusal}
use Rattle.ref_judge.specs.Standing.{StandsFor, DoesAs, IsOfSomeState}
use Rattle.ref_judge.proofs.FilledHands.{filling_fails, filling_passes}
use Rattle.ref_judge.proofs.HandsAlike.{actor_same, hand_same, count_same}
use Rattle.ref_judge.proofs.HandedOn.{pending_same, finder_read, pends_none, pends_first, worker_there, worker_is}
use Rattle.ref_judge.proofs.HandedOn.{nothing_passes, hands_on, set_pending, with_rest_pending}
use Rattle.ref_judge.proofs.SoundJudges.{refused_does}
use Rattle.ref_judge.proofs.StandingHands.{handing, hands_does}

-- ---- how many may be asked for

fits_fails : (there fit : Bool) (fault : Fault) (later : Option Fault)
    → unless there NoSuchActor (unless fit BadConfig None) ≡ Some fault
    → unless there NoSuchActor (unless fit BadConfig later) ≡ Some fault
fits_fails true true fault later fails = absurd cc
fits_fails true false fault later fails = fails
fits_fails false fit fault later fails = fails

fits_passes : (there fit : Bool) (later : Option Fault)
    → unless there NoSuchActor (unless fit BadConfig None) ≡ None
    → unless there NoSuchActor (unless fit BadConfig later) ≡ unless there NoSuchActor later
fits_passes true true later passes = refl
fits_passes true false later passes = absurd cc
fits_passes false fit later passes = absurd cc

module _ (j : Judged) (a : State) (stands : StandsFor j a) (who : Actor) (max : ℕ) (later : Option Fault) where
  fitting_same : unless (is_actor a.world.heap who) NoSuchActor
      (unless (fits max (length (hand_of a.world who))) BadConfig None)
      ≡ fitting_refusal j.hands who max
  fitting_same =
      ap (λ test. unless test NoSuchActor (unless (fits max (length (hand_of a.world who))) BadConfig None))
      (actor_same j a stands who)
      ∙ ap (λ held. unless (has_carrier j.hands who) NoSuchActor (unless (fits max held) BadConfig None))
      (count_same (hand_at j.hands who) (hand_of a.world who) (hand_same j a stands who))

  -- too many, or none, are refused
  pub fitting_fails : (fault : Fault) → fitting_refusal j.hands who max ≡ Some fault
      → unless (is_actor a.world.heap who) NoSuchActor (unless (fits max (length (hand_of a.world who))) BadConfig
      later)
      ≡ Some fault
  fitting_fails fault fails =
      fits_fails (is_actor a.world.heap who) (fits max (length (hand_of a.world who))) fault later
      (fitting_same ∙ fails)

  -- else that refuses which comes later
  pub fitting_passes : fitting_refusal j.hands who max ≡ None
      → unless (is_actor a.world.heap who) NoSuchActor (unless (fits max (length (hand_of a.world who))) BadConfig
      later)
      ≡ unless (is_actor a.world.heap who) NoSuchActor later
  fitting_passes passes =
      fits_passes (is_actor a.world.heap who) (fits max (length (hand_of a.world who))) later (fitting_same ∙ passes)

fits_less : (max held : ℕ) → fits max held ≡ true → fits max 0 ≡ true
fits_less max held fit = grind (arith, fit)

-- at least one is asked for, and at most 32
pub fits_some : (max held : ℕ) → fits max held ≡ true → (1 ≤ max) × (max ≤ 32)
fits_some max held fit = (grind (arith, fit), grind (arith, fit))

module _ (j : Judged) (k max : ℕ) (fit : fitting_refusal j.hands (Worker k) max ≡ None) where
  pub fit_is : fits max (length (hand_at j.hands (Worker k)).objects) ≡ true
  fit_is =
      (unless_passes (fits max (length (hand_at j.hands (Worker k)).objects)) BadConfig None
      (unless_passes (has_carrier j.hands (Worker k)) NoSuchActor _ fit).1).0

  pub fit_some : (1 ≤ max) × (max ≤ 32)
  fit_some = fits_some max (length (hand_at j.hands (Worker k)).objects) fit_is

  module _ (a : State) (stands : StandsFor j a) where
    -- where the hand isn't empty
    pub hands_full : (fault : Fault) → free_hand_refusal j.hands (Worker k) ≡ Some fault
        → refusal a (steps.Hands k max) ≡ Some fault
    hands_full fault fails =
        fitting_passes j a stands (Worker k) max _ fit ∙ filling_fails j a stands (Worker k) _ fault fails

    -- and where it is
    pub hands_refused : free_hand_refusal j.hands (Worker k) ≡ None
        → refusal a (steps.Hands k max) ≡ hands_refusal (batch_of max (finder_at j k).pending) a.world.heap
    hands_refused free =
        let ps : List Pending = batch_of max (pending_of a.world k) in
        fitting_passes j a stands (Worker k) max _ fit ∙ filling_passes j a stands (Worker k) _ free
        ∙ ap (λ test. unless test NoSuchActor (unless (fits max 0) BadConfig (hands_refusal ps a.world.heap)))
        (worker_is j a stands k free)
        ∙ ap (λ test. unless test BadConfig (hands_refusal ps a.world.heap))
        (fits_less max (length (hand_at j.hands (Worker k)).objects) fit_is)
        ∙ ap (λ (qs : List Pending). hands_refusal (batch_of max qs) a.world.heap) (pending_same j a stands k)

-- ---- what goes together

-- a front that goes with the first has it
front_first : (p : Pending) (ps : List Pending) → front_with p (p ∷ ps) ≡ p ∷ front_with p ps
front_first p ps = grind (arith, eq-eqb p.queue p.queue refl, eq-eqb p.cycle p.cycle refl)

batch_first : (p : Pending) (ps : List Pending) (max : ℕ) → 1 ≤ max
    → batch_of max (p ∷ ps) ≡ p ∷ take (max - 1) (front_with p ps)
batch_first p ps zero some = absurd (omega (arith, some))
batch_first p ps (suc max) some = grind arith

-- the notices told are for the queue told
told_queue : (ns : List ℕ) (q cycle k : ℕ)
    → list_all (λ (x : Notice). x.queue == q) (told_notices (replies.Notices ns q cycle k)) ≡ true
told_queue [] q cycle k = refl
told_queue (n ∷ ns) q cycle k = grind (arith, eq-eqb q q refl, told_queue ns q cycle k)

drop_front : (ps qs : List Pending) → drop (length ps) (ps ++ qs) ≡ qs
drop_front [] qs = refl
drop_front (p ∷ ps) qs = drop_front ps qs

-- ---- rows

given_nothing : (a : State) (k max : ℕ) → pending_of a.world k ≡ []
    → HeapAccepts a (heap.Hands k max []) replies.Nothing (ticked (with_world a a.world))
given_nothing a k max none =
    subst (λ (ps : List Pending). HandsOn a k (all_handed k (batch_of max ps)) (batch_of max ps) replies.Nothing
    (ticked (with_world a a.world))) (sym none) (refl, refl)

module _ (old : Judged) (k max : ℕ) (fit : fitting_refusal old.hands (Worker k) max ≡ None)
    (free : free_hand_refusal old.hands (Worker k) ≡ None) where
  none_given : (finder_at old k).pending ≡ []
      → DoesAs old (steps.Hands k max) (Ok replies.Nothing)
      (handing old old.ground.heap old.holds old.hands old.workers)
  none_given none =
      hands_does old old.ground.heap old.holds old.hands old.workers (λ i. refl) (steps.Hands k max) replies.Nothing tt
      (λ a. refl) (λ a stands. record {
        after = a.world;
        asked = heap.Hands k max [];
        none =
            hands_refused old k max fit a stands free
            ∙ ap (λ (ps : List Pending). hands_refusal (batch_of max ps) a.world.heap) none;
        asks = refl;
        accepts = given_nothing a k max (pending_same old a stands k ∙ none);
        passes = nothing_passes old a stands;
        alike = record { mutators = stands.mutator_hands; workers = stands.worker_hands };
      })

  module _ (p : Pending) (qs ps rest : List Pending) (pends : (finder_at old k).pending ≡ qs)
      (batch : batch_of max qs ≡ p ∷ ps) (front : qs ≡ (p ∷ ps) ++ rest) where
    batch_refused : (a : State) → StandsFor old a
        → refusal a (steps.Hands k max) ≡ hands_refusal (p ∷ ps) a.world.heap
    batch_refused a stands =
        hands_refused old k max fit a stands free
        ∙ ap (λ (xs : List Pending). hands_refusal xs a.world.heap) (ap (batch_of max) pends ∙ batch)

    too_many : 2 ^ 64 - 1 - old.holds < length (p ∷ ps) → old.holds ≤ 2 ^ 64 - 1
        → DoesAs old (steps.Hands k max) (Err NumbersSpent) old
    too_many many fit = refused_does old (steps.Hands k max) NumbersSpent (λ a stands.
        batch_refused a stands ∙ (let same = stands.holds in grind (arith, same, many, fit)))

    batch_given : old.holds + length (p ∷ ps) ≤ 2 ^ 64 - 1
        → DoesAs old (steps.Hands k max)
        (Ok (replies.Notices (map (λ (x : Pending). x.object) (p ∷ ps)) p.queue p.cycle k))
        (handing old old.ground.heap (old.holds + length (p ∷ ps))
        (with_hand_at old.hands (Worker k)
        (record { queue = p.queue; objects = map (λ (x : Pending). x.object) (p ∷ ps) }))
        (with_rest_pending old k rest))
    batch_given few =
        let reply : Reply = replies.Notices (map (λ (x : Pending). x.object) (p ∷ ps)) p.queue p.cycle k in
        let told : told_notices reply ≡ map (notice_from k) (p ∷ ps) =
        subst (λ (xs : List Pending). told_notices (all_handed k xs) ≡ map (notice_from k) xs) batch
        (tells_all k max qs) in
        hands_does old old.ground.heap (old.holds + length (p ∷ ps))
        (with_hand_at old.hands (Worker k)
        (record { queue = p.queue; objects = map (λ (x : Pending). x.object) (p ∷ ps) }))
        (with_rest_pending old k rest) (λ i. set_pending old.workers k i rest) (steps.Hands k max) reply tt (λ a. refl)
        (λ a stands. hands_on old k p ps rest (steps.Hands k max) (heap.Hands k max []) reply (pends ∙ front) told
        (told_queue (map (λ (x : Pending). x.object) (p ∷ ps)) p.queue p.cycle k) (λ w. refl) a stands
        (batch_refused a stands ∙ (let same = stands.holds in grind (arith, same, few)))
        refl
        (subst (λ (xs : List Pending). HandsOn a k (all_handed k xs) xs reply
        (ticked (with_world a (handed_each a.world k (map (notice_from k) (p ∷ ps))))))
        (sym (ap (batch_of max) (pending_same old a stands k ∙ pends) ∙ batch)) (refl, refl)))

-- ---- as a worker is read

abbrev rest_at : Judged → ℕ → List Pending
rest_at j k = drop 1 (finder_at j k).pending

abbrev tail_of : Pending → ℕ → List Pending → List Pending
tail_of p max rest = take (max - 1) (front_with p rest)

module _ (old : Judged) (sound : IsOfSomeState old) (k i max : ℕ) (same : i ≡ k)
    (fit : fitting_refusal old.hands (Worker k) max ≡ None)
    (free : free_hand_refusal old.hands (Worker k) ≡ None) (f : Finder) (read : f ≡ get_or old.workers i f)
    (o : Option Pending) (first : o ≡ first_of f.pending) where
  is : f ≡ finder_at old k
  is = finder_read old k i f same (worker_there old k sound free) read

  read_first : first_of (finder_at old k).pending ≡ o
  read_first = ap (λ (x : Finder). first_of x.pending) (sym is) ∙ sym first

  pub some_nothing : o ≡ None
      → DoesAs old (steps.Hands k max) (Ok replies.Nothing)
      (handing old old.ground.heap old.holds old.hands old.workers)
  some_nothing none = none_given old k max fit free (pends_none (finder_at old k).pending (read_first ∙ none))

  module _ (p : Pending) (some : o ≡ Some p) (e : Finder) (next : e ≡ get_or old.workers i e) (objects : List ℕ)
      (told : objects ≡ map (λ (x : Pending). x.object) (take max (front_with p e.pending))) where
    pends : (finder_at old k).pending ≡ p ∷ rest_at old k
    pends = pends_first (finder_at old k).pending p (read_first ∙ some)

    batch : batch_of max (p ∷ rest_at old k) ≡ p ∷ tail_of p max (rest_at old k)
    batch = batch_first p (rest_at old k) max (fit_some old k max fit).0

    behind : (left : List Pending) × (p ∷ rest_at old k ≡ (p ∷ tail_of p max (rest_at old k)) ++ left)
    behind =
        subst (λ (xs : List Pending). (left : List Pending) × (p ∷ rest_at old k ≡ xs ++ left)) batch
        (batch_front max (p ∷ rest_at old k))

    objects_are : objects ≡ map (λ (x : Pending). x.object) (p ∷ tail_of p max (rest_at old k))
    objects_are =
        told
        ∙ ap (λ (x : Finder). map (λ (y : Pending). y.object) (take max (front_with p x.pending)))
        (finder_read old k i e same (worker_there old k sound free) next)
        ∙ ap (λ (ps : List Pending). map (λ (y : Pending). y.object) (take max (front_with p ps))) pends
        ∙ ap (λ (ps : List Pending). map (λ (y : Pending). y.object) (take max ps)) (front_first p (rest_at old k))
        ∙ ap (map (λ (y : Pending). y.object)) batch

    count_is : length objects ≡ length (p ∷ tail_of p max (rest_at old k))
    count_is =
        ap length objects_are ∙ length-map (p ∷ tail_of p max (rest_at old k)) (λ (x : Pending). x.object)

    pub some_spent : 2 ^ 64 - 1 - old.holds < length objects → old.holds ≤ 2 ^ 64 - 1
        → DoesAs old (steps.Hands k max) (Err NumbersSpent) old
    some_spent many within =
        too_many old k max fit free p (p ∷ rest_at old k) (tail_of p max (rest_at old k)) behind.0 pends batch behind.1
        (subst (λ count. 2 ^ 64 - 1 - old.holds < count) count_is many) within

    pub some_given : (g : Finder) → g ≡ get_or old.workers i g → old.holds + length objects ≤ 2 ^ 64 - 1
        → DoesAs old (steps.Hands k max) (Ok (replies.Notices objects p.queue p.cycle k))
        (handing old old.ground.heap (old.holds + length objects)
        (with_hand_at old.hands (Worker k) (record { queue = p.queue; objects = objects }))
        (slice_set old.workers i (record g { pending = drop (length objects) g.pending })))
    some_given g read-again few =
        let again : g ≡ finder_at old k = finder_read old k i g same (worker_there old k sound free) read-again in
        let qs : List Pending = p ∷ tail_of p max (rest_at old k) in
        let left : drop (length objects) (finder_at old k).pending ≡ behind.0 =
        ap (λ count. drop count (finder_at old k).pending) count_is
        ∙ ap (drop (length qs)) (pends ∙ behind.1) ∙ drop_front qs behind.0 in
        let workers : with_rest_pending old k behind.0
        ≡ slice_set old.workers i (record g { pending = drop (length objects) g.pending }) =
        ap (with_rest_pending old k) (sym left)
        ∙ ap (λ (x : Finder). slice_set old.workers k (record x { pending = drop (length objects) x.pending }))
        (sym again)
        ∙ ap (λ n. slice_set old.workers n (record g { pending = drop (length objects) g.pending })) (sym same) in
        subst (λ (ws : List Finder).
        DoesAs old (steps.Hands k max) (Ok (replies.Notices objects p.queue p.cycle k))
        (handing old old.ground.heap (old.holds + length objects)
        (with_hand_at old.hands (Worker k) (record { queue = p.queue; objects = objects })) ws)) workers
        (subst (λ (count : ℕ).
        DoesAs old (steps.Hands k max) (Ok (replies.Notices objects p.queue p.cycle k))
        (handing old old.ground.heap (old.holds + count)
        (with_hand_at old.hands (Worker k) (record { queue = p.queue; objects = objects }))
        (with_rest_pending old k behind.0))) (sym count_is)
        (subst (λ (ns : List ℕ).
        DoesAs old (steps.Hands k max) (Ok (replies.Notices ns p.queue p.cycle k))
        (handing old old.ground.heap (old.holds + length qs)
        (with_hand_at old.hands (Worker k) (record { queue = p.queue; objects = ns }))
        (with_rest_pending old k behind.0))) (sym objects_are)
        (batch_given old k max fit free p (p ∷ rest_at old k) (tail_of p max (rest_at old k)) behind.0 pends batch
        behind.1 (subst (λ count. old.holds + count ≤ 2 ^ 64 - 1) count_is few))))
