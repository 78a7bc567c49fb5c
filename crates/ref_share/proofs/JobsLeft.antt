-- A table that is emptied job by job, each of which is run.
use Rattle.ref_share.proofs.Common.{◌≡◌, ℕ, [], Some, None, ◌⊎◌, inl, inr, sym, ap, subst, ◌∙◌, nat_eq}
use Rattle.std.proofs.Common.{if◌then◌else◌}
use Rattle.std.proofs.lemmas.Bool.Decides.{eqb_tells}
use Rattle.std.proofs.lemmas.Option.{same_Some}
use Rattle.std.specs.Map.{lookup}
use Rattle.ref_queue.specs.CleanTables.{Registry, Takes, job_of}

module _ {K J : Type 0} (WasRun : J → Type 0) where
  -- each job of the one table was run, or is in the other still
  abbrev pub AreRunOrLeft : Registry K J → Registry K J → Type 0
  AreRunOrLeft t u =
      (n : ℕ) (key : K) (job : J) → job_of t n ≡ Some (key, job) → WasRun job ⊎ (job_of u n ≡ Some (key, job))

  -- a job was taken out, and run
  pub one_more_run : (t u x : Registry K J) (n : ℕ) (key : K) (job : J) → AreRunOrLeft t u
      → Takes u n (Some (key, job)) x → WasRun job → AreRunOrLeft t x
  one_more_run t u x n key job before takes ran m kept other at =
      elim (before m kept other at) [
        | inl run ↦ inl run
        | inr there ↦ elim (eqb_tells n m) [
          | inl same ↦
              let both : Some (key, job) ≡ Some (kept, other) =
              takes.0 ∙ ap (job_of u) same.1 ∙ there in
              let is : job ≡ other = ap (λ p. p.1) (same_Some (key, job) (kept, other) both) in
              inl (subst WasRun is ran)
          | inr another ↦
              inr (takes.1.0 m ∙ ap (λ b. if b then None else job_of u m) another.0 ∙ there)
        ]
      ]

  -- none is left, so all were run
  pub all_were_run : (t u : Registry K J) → AreRunOrLeft t u → u.jobs ≡ [] → (n : ℕ) (key : K) (job : J)
      → job_of t n ≡ Some (key, job) → WasRun job
  all_were_run t u are none n key job at =
      elim (are n key job at) [
        | inl run ↦ run
        | inr there ↦
            let nothing : None ≡ Some (key, job) = ap (lookup (nat_eq n)) (sym none) ∙ there in absurd cc
      ]
