-- Handing on a batch is some rows of handing on, one after the other.
use Rattle.std.proofs.Common.{arith, ◌≡◌, ◌<◌, ◌∷◌, ◌++◌, [], refl, subst, sym, ap, append_assoc, ℕ, zero, suc}
use Rattle.std.proofs.Common.{Bool, true, false, List, Option, Some, None, length, map, if◌then◌else◌, min}
use Rattle.std.proofs.lemmas.Bool.{eqb-true}
use Rattle.std.proofs.lemmas.List.{append-nil, map-append, set-set, set-get_or, length-set}
use Rattle.ref_base.proofs.BatchParts.{all_joined}
use Rattle.ref_base.proofs.RunLaws.{one_on}
use Rattle.ref_process.proofs.RunOrder.{changed_lists}
use Rattle.ref_process.specs.DeskRows.{Crew, Hands, IsDeskRow, IsDeskRun, lists_at, queue_under, with_finder}
use Rattle.ref_process.specs.Desks.{new_lists}
use Rattle.ref_process.specs.HandBatches.{Handing, handing, next_queue, is_of_queue, if_notice, first_handed}
use Rattle.ref_process.specs.HandBatches.{hand_each, handed_batch, all_notices, AreHandedOn}
use Rattle.ref_process.specs.NoticeQueues.{AreFor}
use Rattle.ref_process.specs.Notices.{handed_for, handed_at, handed_first, after_hand, lists_hand}
use Rattle.ref_process.specs.Places.{reference_under}
use Rattle.ref_process.specs.declared.finder.Pending.{Pending}
use Rattle.ref_process.specs.declared.handed.Handed.{Handed}
use Rattle.ref_process.specs.declared.notice.Notice.{Notice}
use Rattle.ref_process.specs.declared.place.Place.{Place}
use Rattle.ref_process.specs.declared.place.Reference.{Reference}

-- ---- a notice is for the queue of its reference

own_for : (q : ℕ) (x : Pending) (w : ℕ) (told : Bool) (queue : Option ℕ) → is_of_queue q queue ≡ true
    → AreFor q (if_notice (handed_for x w (if told then None else queue)))
own_for q x w true queue is = tt
own_for q x w false None is = tt
own_for q x w false (Some n) is = (eqb-true n q is, tt)

own_at : (q : ℕ) (x : Pending) (w : ℕ) (o : Option Reference) → is_of_queue q (queue_under o) ≡ true
    → AreFor q (if_notice (handed_at x w o))
own_at q x w None is = tt
own_at q x w (Some r) is = own_for q x w r.is_told r.queue is

own_first : (q : ℕ) (ps : List Place) (w : ℕ) (xs : List Pending) → is_of_queue q (next_queue ps xs) ≡ true
    → AreFor q (if_notice (handed_first ps w xs))
own_first q ps w [] is = tt
own_first q ps w (x ∷ xs) is = own_at q x w (reference_under ps x.key) is

-- ---- one more row

notices_joined : (xs ys : List Handed) → all_notices (xs ++ ys) ≡ all_notices xs ++ all_notices ys
notices_joined [] ys = refl
notices_joined (x ∷ xs) ys = grind (arith, append_assoc, notices_joined xs ys)

module _ (c : Crew) (i : ℕ) (there : i < length c.finders) where
  -- the crew with what is left
  abbrev crew_with : Handing → Crew
  crew_with s = with_finder c s.desk i s.finder

  crew_at_first : (xs : List Notice) → crew_with (handing c.desk (lists_at c i) xs) ≡ c
  crew_at_first xs = ap (λ fs. record c { finders = fs }) (set-get_or c.finders i (new_lists 0))

  hands_row : (s : Handing)
      → IsDeskRow (crew_with s) (Hands i (handed_first s.desk.places s.finder.worker s.finder.pending))
      (crew_with (first_handed s))
  hands_row s =
      let lists : lists_at (crew_with s) i ≡ s.finder = changed_lists c s.desk i s.finder there in (
        λ h. false,
        (
          (omega (arith, there, length-set c.finders i s.finder), rw lists refl),
          rw lists (ap
              (λ fs. record { desk = after_hand s.desk s.finder.pending; finders = fs })
              (sym (set-set c.finders i s.finder (lists_hand s.finder s.finder.pending)))),
        ),
      )

  module _ (q : ℕ) (xs : List Notice) where
    one_more : (s : Handing) (own : Bool) → is_of_queue q (next_queue s.desk.places s.finder.pending) ≡ own
        → AreHandedOn c i q xs s → AreHandedOn c i q xs (if own then first_handed s else s)
    one_more s false is so_far = so_far
    one_more s true is so_far =
        let x : Handed = handed_first s.desk.places s.finder.worker s.finder.pending in
        let run = one_on IsDeskRow c (map (Hands i) so_far.0) (crew_with s) (crew_with (first_handed s)) (Hands i x)
        so_far.1 (hands_row s) in (
          so_far.0 ++ x ∷ [],
          subst (λ rows. IsDeskRun c rows (crew_with (first_handed s)))
              (sym (map-append (Hands i) so_far.0 (x ∷ []))) run,
          grind (arith, append_assoc, append-nil, so_far.2, notices_joined so_far.0 (x ∷ [])),
          subst (AreFor q) (sym (notices_joined so_far.0 (x ∷ [])))
              (all_joined (λ (y : Notice). y.queue ≡ q) (all_notices so_far.0) (all_notices (x ∷ [])) so_far.3
              (subst (AreFor q) (sym (append-nil (if_notice x)))
              (own_first q s.desk.places s.finder.worker s.finder.pending is))),
        )

    each_handed_on : (n : ℕ) → AreHandedOn c i q xs (hand_each q n (handing c.desk (lists_at c i) xs))
    each_handed_on zero = ([], crew_at_first xs, sym (append-nil xs), tt)
    each_handed_on (suc n) =
        let s : Handing = hand_each q n (handing c.desk (lists_at c i) xs) in
        one_more s (is_of_queue q (next_queue s.desk.places s.finder.pending)) refl (each_handed_on n)

pub batch_handed_on : (c : Crew) (i : ℕ) → i < length c.finders → (q most : ℕ) (xs : List Notice)
    → AreHandedOn c i q xs (handed_batch q most c.desk (lists_at c i) xs)
batch_handed_on c i there q most xs =
    each_handed_on c i there q xs (min most (length (lists_at c i).pending))
