-- What is read of a job; and the jobs that `refrun run` has (this project's profile).
use Rattle.std.specs.Prelude.{ℕ, ◌+◌, List, map}
use Rattle.std.specs.List.{range_with_len}
use Rattle.ref_queue.specs.declared.job.Job.{Job}
use Rattle.refrun.specs.declared.script_job.PlainJob.{PlainJob}
use denote.Param.Members.{Mut}

module _ {X : Type 0} {F : X → Type 0} {g : Mut ((x : X) × F x) (ℕ × Unit {0}) ℕ} where
  abbrev pub job_number : Job X F g → ℕ
  job_number job = job.number

  abbrev pub note_of : Job X F g → ℕ
  note_of job = job.note

-- ---- of a job that is two numbers

abbrev pub plain_number : PlainJob → ℕ
plain_number job = job.number

abbrev pub plain_note : PlainJob → ℕ
plain_note job = job.note

-- job a answers a + 1000
abbrev pub answering : ℕ → PlainJob
answering a = record { number = a; note = a + 1000 }

-- from 0 to 63
abbrev pub answering_jobs : List PlainJob
answering_jobs = map answering (range_with_len 0 64)
