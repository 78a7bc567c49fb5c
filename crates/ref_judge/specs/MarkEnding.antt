-- What a judge looks at as a mark ends, and what it changes then (this project's).
use Rattle.std.specs.Prelude.{◌≡◌, ℕ, ◌+◌, ◌-◌, ◌^◌, ◌<◌, Bool, true, false, not, ◌&&◌, ◌||◌, ◌==◌, if◌then◌else◌}
use Rattle.std.specs.Prelude.{nat_lt}
use Rattle.std.specs.Prelude.{List, map, length, Option, Some, None}
use Rattle.std.specs.List.{list_all}
use Rattle.ref_base.specs.Members.{has}
use Rattle.ref_base.specs.DoomedSets.{refers_into}
use Rattle.ref_base.specs.Graphs.{Object, Reference, is_there, numbers, object_at}
use Rattle.ref_base.specs.Heaps.{reference_at, cleared, with_reference}
use Rattle.ref_base.specs.KeptPaths.{is_kept}
use Rattle.ref_base.specs.Strengths.{IsRising}
use Rattle.ref_base.specs.Worlds.{Pending}
use Rattle.ref_space.specs.Tables.{Tag, fields_in}
use Rattle.ref_objects.specs.Grounds.{Ground, cleared_in_at, least_from}
use Rattle.ref_judge.specs.Judged.{Judged, Line, Finder, AllHands}
use Rattle.ref_judge.specs.declared.hand.Hand.{Hand}
use Rattle.ref_judge.specs.declared.survivors.MarkEnd.{MarkEnd}
use Rattle.ref_judge.specs.declared.worker.Found.{Found}

-- ---- what is doomed

-- whether the end of the mark dooms no object of this number: it was made in the mark, or scanned in it
abbrev pub spares : MarkEnd → List Tag → ℕ → Bool
spares end tags n = not (nat_lt n end.born) || (cleared_in_at tags n == end.cycle)

abbrev pub dooms : MarkEnd → List Tag → ℕ → Bool
dooms end tags n = not (spares end tags n)

-- whether what a slot or a field holds passes the test, if it holds anything
abbrev pub passes : (ℕ → Bool) → Option ℕ → Bool
passes test None = true
passes test (Some n) = test n

-- whether it may not clear the reference
abbrev pub must_stay : MarkEnd → Option Reference → Bool
must_stay end None = false
must_stay end (Some r) = not end.soft_free && is_kept end.policy r

-- whether the object leads to a doomed one by a field, or as a reference that the mark's end may not clear: one whose
-- referent must be kept, or that wasn't scanned
abbrev pub leads_out : MarkEnd → Ground → ℕ → Bool
leads_out end g n =
    not (list_all (passes (spares end g.tags)) (fields_in (object_at g.heap.objects n)))
    || (refers_into (dooms end g.tags) (reference_at g.heap n)
    && (must_stay end (reference_at g.heap n) || not (cleared_in_at g.tags n == end.cycle)))

-- the number of the next object behind this one
abbrev pub next_behind : Ground → ℕ → Option ℕ
next_behind g n = least_from (numbers g.heap.objects) (n + 1)

-- the numbers of objects rise, and each is below 2^32
pub record AreFew (g : Ground) : Type 0 where
  pub rising : IsRising (numbers g.heap.objects)
  pub few : (n : ℕ) → has (numbers g.heap.objects) n ≡ true → n < 2 ^ 32

-- ---- whether the mark may end

abbrev pub mark_end : Judged → MarkEnd
mark_end j = record { born = j.born; cycle = j.cycle; policy = j.policy; soft_free = j.profile.soft_free }

-- nothing that hands report is doomed
abbrev pub carry_spared : MarkEnd → List Tag → AllHands → Bool
carry_spared end tags hands =
    list_all (λ (h : Hand). list_all (spares end tags) h.objects) hands.mutators
    && list_all (λ (h : Hand). list_all (spares end tags) h.objects) hands.workers

-- no root is doomed: what slots hold, what notices report in hands and in queues, and what is pending
abbrev pub are_roots_spared : Judged → Bool
are_roots_spared j =
    let spared : ℕ → Bool = spares (mark_end j) j.ground.tags in
    list_all (passes spared) j.ground.heap.slots
    && (carry_spared (mark_end j) j.ground.tags j.hands
    && (list_all (λ (l : Line). list_all spared l.stands) j.lines
    && list_all (λ (w : Finder). list_all (λ (p : Pending). spared p.object) w.pending) j.workers))

-- nor does what is spared lead to it; and so many are doomed
abbrev pub may_end : Judged → ℕ → Bool
may_end j count =
    (count + j.ground.next + j.scanned == length j.ground.heap.objects + j.born)
    && (are_roots_spared j
    && list_all (λ n. dooms (mark_end j) j.ground.tags n || not (leads_out (mark_end j) j.ground n))
    (numbers j.ground.heap.objects))

-- ---- a walk over the objects

-- whether a walk that comes to this next has passed n
abbrev pub is_passed : Option ℕ → ℕ → Bool
is_passed None n = true
is_passed (Some next) n = nat_lt n next

-- what comes next is one of these
abbrev pub IsNextOf : List ℕ → Option ℕ → Type 0
IsNextOf ns None = Unit {0}
IsNextOf ns (Some n) = has ns n ≡ true

-- how far it has to go
abbrev pub to_walk : Option ℕ → ℕ
to_walk None = 0
to_walk (Some n) = 2 ^ 32 - n

-- ---- what the end changes

-- the reference is cleared if it is spared and its referent isn't
abbrev pub ended_if : Bool → MarkEnd → List Tag → Object → Object
ended_if so end tags o =
    if so && (spares end tags o.no && refers_into (dooms end tags) o.reference) then with_reference cleared o else o

abbrev pub ended : MarkEnd → List Tag → Object → Object
ended = ended_if true

-- of what was passed, just what is spared is marked, and each reference of that to what isn't is cleared
pub record EndsTo (at : Option ℕ) (end : MarkEnd) (old new : Ground) : Type 0 where
  pub heap :
      new.heap
      ≡ record old.heap { objects = map (λ o. ended_if (is_passed at o.no) end old.tags o) old.heap.objects }
  pub next : new.next ≡ old.next
  pub tags : new.tags ≡ old.tags
  pub condemning : new.condemning ≡ old.condemning
  pub space : new.space ≡ old.space
  pub marked :
      (n : ℕ) → has new.marked n ≡ (is_there old.heap.objects n && (is_passed at n && spares end old.tags n))

-- one more is passed
abbrev pub EndsOne : MarkEnd → ℕ → Ground → Ground → Type 0
EndsOne end n now new =
    (old : Ground) → AreFew old → has (numbers old.heap.objects) n ≡ true → EndsTo (Some n) end old now
    → EndsTo (next_behind now n) end old new

-- and of all
abbrev pub EndsAll : MarkEnd → Ground → Ground → Type 0
EndsAll = EndsTo None

-- the worker has looked at none, and each says whether the mark's end cleared it
abbrev pub told_found : MarkEnd → Ground → Found → Found
told_found end g f = record f { is_cleared = refers_into (dooms end g.tags) (reference_at g.heap f.object) }

abbrev pub told_each : MarkEnd → Ground → Finder → Finder
told_each end g w = record w { at = 0; found = map (λ f. told_found end g f) w.found }
