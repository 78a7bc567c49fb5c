-- What a worker may look at next (this project's).
use Rattle.std.specs.Prelude.{◌≡◌, ◌⊎◌, true, ℕ, ◌+◌, ◌==◌, ◌&&◌, ◌||◌, not, Bool, false, if◌then◌else◌, nat_lt, List}
use Rattle.std.specs.Prelude.{[], ◌∷◌, ◌++◌, length, drop}
use Rattle.std.specs.Prelude.{Option, Some, None}
use Rattle.std.specs.List.{list_any}
use Rattle.ref_base.specs.Worlds.{Pending}
use Rattle.ref_judge.specs.Judged.{Finder}
use Rattle.ref_base.specs.declared.reply.Reply.{Reply}
use Rattle.ref_base.specs.declared.reply.Reply.TheVariants as replies
use Rattle.ref_judge.specs.declared.worker.Found.{Found}

-- what is found of n, which may be a reference
abbrev pub if_found : Bool → ℕ → List Found
if_found true n = record { object = n; is_cleared = false } ∷ []
if_found false n = []

-- the worker with that
abbrev pub noted : Finder → Bool → ℕ → Finder
noted w is_reference n = record w { found = w.found ++ if_found is_reference n }

-- whether it may have one left
abbrev pub has_more_left : Finder → Bool
has_more_left w = nat_lt w.at (length w.found)

-- whether it has one left that the mark's end cleared
abbrev pub has_cleared_left : Finder → Bool
has_cleared_left w = list_any (λ (f : Found). f.is_cleared) (drop w.at w.found)

-- whether one of these, from this place on, may have one left, but worker k
abbrev pub others_from : ℕ → ℕ → List Finder → Bool
others_from k at [] = false
others_from k at (w ∷ ws) = (not (at == k) && has_more_left w) || others_from k (at + 1) ws

-- Where it goes on once it has looked at n, if it may look at that next, and whether the mark's end cleared that. These
-- are left, from this place on.
abbrev pub found_from : ℕ → ℕ → List Found → Option (ℕ × Bool)
found_from n at [] = None
found_from n at (f ∷ fs) =
    if f.object == n then Some (at + 1, f.is_cleared) else (if f.is_cleared then None else found_from n (at + 1) fs)

-- what is pending, if it is
abbrev pub if_pending : Option Pending → List Pending
if_pending None = []
if_pending (Some p) = p ∷ []

-- what a look at n answers, by whether the mark's end cleared it, and its referent
abbrev pub looked_so : Bool → Option ℕ → ℕ → Reply
looked_so true referent n = replies.Cleared n
looked_so false (Some m) n = replies.Kept n
looked_so false None n = replies.Skipped n

-- and what is pending then, by the queue that it is registered with
abbrev pub pending_so : Bool → Option ℕ → ℕ → ℕ → Option Pending
pending_so true (Some q) n cycle = Some (record { object = n; queue = q; cycle = cycle })
pending_so is_cleared queue n cycle = None

-- the answer names the reference that was looked at
abbrev pub IsLookAt : Reply → ℕ → Type 0
IsLookAt reply n = (reply ≡ replies.Cleared n) ⊎ ((reply ≡ replies.Kept n) ⊎ (reply ≡ replies.Skipped n))
