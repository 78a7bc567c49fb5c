-- What the table of a cleaner is, as plain data, and what its calls answer and leave (Java SE 17
-- `java.lang.ref.Cleaner` for an action that runs at most once; that a table closes is this project's profile).
use Rattle.std.specs.Prelude.{◌≡◌, ℕ, ◌+◌, Bool, true, false, nat_eq, if◌then◌else◌, is_some, List, [], length, Option}
use Rattle.std.specs.Prelude.{Some, None, Result, Ok, Err, refl}
use Rattle.std.specs.Coded.{Coded, code_by, coded×, coded_ℕ, coded_bool, coded_list}
use Rattle.std.specs.Map.{lookup}
use Rattle.ref_base.specs.declared.fault.Fault.{Fault}
use Rattle.ref_base.specs.declared.fault.Fault.TheVariants.{TableClosed, RegisteredTwice, NoMemory}

-- a table: what goes with each object's job and the job, by the object's number, in no order; and whether it is closed
pub record Registry (K J : Type 0) : Type 0 where
  pub jobs : List (ℕ × (K × J))
  pub closed : Bool

-- how a table is stored: as the pair of its fields
abbrev pub registry_code : {K J : Type 0} → Coded K → Coded J → Coded (Registry K J)
registry_code {K} {J} key job =
    code_by
    (List (ℕ × (K × J)) × Bool)
    (coded× (coded_list (coded× coded_ℕ (coded× key job))) coded_bool)
    (λ t. (t.jobs, t.closed))
    (λ p. record { jobs = p.0; closed = p.1 })
    (λ _. refl)

-- a call is refused with just this fault, if there is one, or where memory isn't there
abbrev pub IsRegisterFault : Option Fault → Fault → Type 0
IsRegisterFault None fault = fault ≡ NoMemory
IsRegisterFault (Some first) fault = fault ≡ first

module _ {K J : Type 0} where
  -- the open table where nothing is registered
  abbrev pub new_registry : Registry K J
  new_registry = record { jobs = []; closed = false }

  -- the job of this object, with what goes with it
  abbrev pub job_of : Registry K J → ℕ → Option (K × J)
  job_of t n = lookup (nat_eq n) t.jobs

  -- why nothing may be registered for this object, the first that applies first
  abbrev pub register_refusal : Registry K J → ℕ → Option Fault
  register_refusal t n =
      if t.closed then Some TableClosed else if is_some (job_of t n) then Some RegisteredTwice else None

  -- the object has this job now, or none; each other has the job that it had, and the table closes no more than it was
  abbrev pub Changes : Registry K J → ℕ → Option (K × J) → Registry K J → Type 0
  Changes t n job u =
      ((m : ℕ) → job_of u m ≡ (if nat_eq n m then job else job_of t m)) × (u.closed ≡ t.closed)

  -- when a register of a job answers so, and leaves u: it stands there where nothing refuses it, and else comes back
  abbrev pub Registers : Registry K J → ℕ → K → J → Result (Unit {0}) (Fault × K × J) → Registry K J → Type 0
  Registers t n key job (Ok _) u = (register_refusal t n ≡ None) × Changes t n (Some (key, job)) u
  Registers t n key job (Err (fault, key_back, job_back)) u =
      IsRegisterFault (register_refusal t n) fault × (key_back ≡ key) × (job_back ≡ job) × (u ≡ t)

  -- when a take answers so, and leaves u: the object's job is given out, and is there no more
  abbrev pub Takes : Registry K J → ℕ → Option (K × J) → Registry K J → Type 0
  Takes t n result u = (result ≡ job_of t n) × Changes t n None u

  -- when a take of any job answers so, and leaves u: it is given out with its object, and one job fewer is there
  abbrev pub TakesAny : Registry K J → Option (ℕ × K × J) → Registry K J → Type 0
  TakesAny t (Some (n, key, job)) u = Takes t n (Some (key, job)) u × (length t.jobs ≡ 1 + length u.jobs)
  TakesAny t None u = (t.jobs ≡ []) × (u ≡ t)

  -- when a look for any object with a job answers so
  abbrev pub FindsFirst : Registry K J → Option ℕ → Type 0
  FindsFirst t (Some n) = is_some (job_of t n) ≡ true
  FindsFirst t None = t.jobs ≡ []
