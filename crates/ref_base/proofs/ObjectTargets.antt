-- What a load or a get finds is what the object refers to.
use Rattle.ref_base.proofs.Common.{arith, ◌≡◌, ℕ, zero, suc, true, Option, Some, None, false≢true, has, Object, Allowed}
use Rattle.ref_base.proofs.Common.{any_referent, present, allowed_referent, targets_of, reference_in, nulls, field_of}
use Rattle.ref_base.proofs.Common.{referent_got}
use Rattle.ref_base.proofs.HasLaws.{has-left, has-right}
use Rattle.ref_base.proofs.Lookups.{has-present_at}

-- whatever paths may go through
pub field_target : (allow : Allowed) (o : Option Object) (i n : ℕ) → field_of o i ≡ Some n
    → has (targets_of allow o) n ≡ true
field_target allow None i n is = absurd cc
field_target allow (Some o) i n is =
    has-left (present o.fields) (allowed_referent allow o.reference) n (has-present_at o.fields i n is)

pub got_target : (o : Option Object) (n : ℕ) → referent_got (reference_in o) ≡ Some n
    → has (targets_of any_referent o) n ≡ true
got_target None n is = absurd cc
got_target (Some o) n is = grind (arith, has-right)

-- null fields hold nothing
pub no_nulls : (count n : ℕ) → has (present (nulls count)) n ≡ true → ⊥
no_nulls zero n h = false≢true h
no_nulls (suc count) n h = no_nulls count n h
