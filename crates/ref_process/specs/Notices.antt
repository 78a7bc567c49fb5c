-- Notices: who gets one, and what handing them on and spending them does.
use Rattle.std.specs.Prelude.{ℕ, Bool, true, false, if◌then◌else◌, List, [], ◌∷◌, Option, Some, None}
use Rattle.ref_base.specs.declared.cause.Cause.{Cause}
use Rattle.ref_base.specs.declared.cause.Cause.TheVariants.{Own, Cycle}
use Rattle.ref_process.specs.Desks.{Desk, FinderLists}
use Rattle.ref_process.specs.Looks.{cut_in}
use Rattle.ref_process.specs.Places.{reference_under, put_at}
use Rattle.ref_process.specs.declared.finder.Pending.{Pending}
use Rattle.ref_process.specs.declared.handed.Handed.{Handed}
use Rattle.ref_process.specs.declared.handed.Handed.TheVariants as handed
use Rattle.ref_process.specs.declared.key.Key.{Key}
use Rattle.ref_process.specs.declared.notice.Notice.{Notice}
use Rattle.ref_process.specs.declared.place.Place.{Place}
use Rattle.ref_process.specs.declared.place.Reference.{Reference}

-- the queue for which the reference gets a notice now: its own, unless a notice of it was given
abbrev pub notice_queue : Reference → Option ℕ
notice_queue r = if r.is_told then None else r.queue

-- the notice for that queue, if there is one
abbrev pub notice_for : Key → Cause → Option ℕ → Option Notice
notice_for k cause None = None
notice_for k cause (Some q) = Some (record { key = k; queue = q; cause = cause })

-- the reference whose notice is given and out, if there is a queue for it
abbrev pub told_for : Reference → Option ℕ → Reference
told_for r None = r
told_for r (Some q) = record r { is_told = true; is_out = true }

-- what a reference's own enqueue answers
abbrev pub enqueued_of : Key → Option Reference → Option Notice
enqueued_of k None = None
enqueued_of k (Some r) = notice_for k Own (notice_queue r)

-- what is read is cleared, and the notice is out
abbrev pub after_enqueue : (ℕ → Bool) → Desk → Key → Option Reference → Desk
after_enqueue marked d k None = d
after_enqueue marked d k (Some r) =
    record d { places = put_at d.places k (told_for (cut_in marked d.phase r) (notice_queue r)) }

-- ---- handing on

abbrev pub handed_for : Pending → ℕ → Option ℕ → Handed
handed_for x worker None = handed.Already x.key
handed_for x worker (Some q) = handed.Notice (record { key = x.key; queue = q; cause = Cycle x.cycle worker })

abbrev pub handed_at : Pending → ℕ → Option Reference → Handed
handed_at x worker None = handed.Already x.key
handed_at x worker (Some r) = handed_for x worker (notice_queue r)

-- what handing on the first that is pending answers
abbrev pub handed_first : List Place → ℕ → List Pending → Handed
handed_first ps worker [] = handed.Nothing
handed_first ps worker (x ∷ xs) = handed_at x worker (reference_under ps x.key)

abbrev pub after_hand_at : Desk → Key → Option Reference → Desk
after_hand_at d k None = d
after_hand_at d k (Some r) =
    record d { places = put_at d.places k (record (told_for r (notice_queue r)) { is_pending = false }) }

-- the first is pending no more
abbrev pub after_hand : Desk → List Pending → Desk
after_hand d [] = d
after_hand d (x ∷ xs) = after_hand_at d x.key (reference_under d.places x.key)

abbrev pub lists_hand : FinderLists → List Pending → FinderLists
lists_hand f [] = f
lists_hand f (x ∷ xs) = record f { pending = xs }

-- ---- spending

-- the notice of the key is out no more
abbrev pub after_spend : Desk → Key → Option Reference → Desk
after_spend d k None = d
after_spend d k (Some r) = record d { places = put_at d.places k (record r { is_out = false }) }
