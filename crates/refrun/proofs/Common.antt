-- The words of std and of the model that several proofs cite, passed on from one place. Declares nothing.
pub use Rattle.std.proofs.Common.{Bool, Err, IfNone, List, None, Ok, Option, Some, [], ap, append_assoc, arith, drop}
pub use Rattle.std.proofs.Common.{false, flat_map, get_or, inl, inr, length, map, nat_eq, not, refl, subst, suc, sym}
pub use Rattle.std.proofs.Common.{take, true, vec_len, zero, ℕ, ◌&&◌, ◌++◌, ◌+◌, ◌<◌, ◌==◌, ◌||◌, ◌∙◌, ◌∷◌, ◌≡◌, ◌≤◌}
pub use Rattle.std.proofs.lemmas.Bool.{le-leb, ne_eqb, true≢false}
pub use Rattle.std.proofs.lemmas.List.{append-nil, length-map, take-append-drop, take_all, take_more}
pub use Rattle.std.proofs.lemmas.Map.Keys.{IsDistinct-push}
pub use Rattle.std.proofs.lemmas.Option.{slice_get_read}
pub use Rattle.std.proofs.lemmas.Slice.Eq.{bytes_eq-Decides}
pub use Rattle.std.specs.Cmp.{nat_eq_equiv}
pub use Rattle.std.specs.List.{All, AllByRecursion, Contains, list_any}
pub use Rattle.ref_base.specs.CollectorRows.{is_subsequence}
pub use Rattle.ref_base.specs.Collectors.{State, first_state}
pub use Rattle.ref_base.specs.Graphs.{plain_object}
pub use Rattle.ref_base.specs.Members.{has}
pub use Rattle.ref_base.specs.declared.config.Config.{Config}
pub use Rattle.ref_base.specs.declared.fault.Fault.{Fault}
pub use Rattle.ref_base.specs.declared.plain_step.PlainStep.TheVariants.{New, Refer}
pub use Rattle.ref_base.specs.declared.reply.Reply.TheVariants.{Refused}
pub use Rattle.ref_base.specs.declared.strength.Strength.TheVariants.{Weak}
pub use Rattle.ref_world.specs.Cores.{Core}
pub use Rattle.ref_world.specs.Standing.{Stands}
pub use Rattle.ref_share.specs.HeapSeats.{IsHeapSeat}
pub use Rattle.ref_share.specs.QueueSeats.{IsQueueSeat}
pub use Rattle.ref_script.specs.Lines.{lines_of, most_bytes}
pub use Rattle.refrun.specs.ScriptRuns.{IsScriptRun, RegistersStageJob, StageJobs, first_jobs}
pub use Rattle.refrun.specs.ScriptStanding.{IsScriptRowOf, jobs}
pub use Rattle.ref_script.specs.Scripts.{IsScript}
pub use Rattle.refrun.specs.StressChecks.{GivesEachOnce, IsFirstFailure, TookInOrder}
pub use Rattle.refrun.specs.StressSeats.{IsSeatedAt, StaysSeated}
pub use Rattle.ref_script.specs.TextFaults.{script_fault}
pub use Rattle.refrun.specs.Traces.{TellsRun}
pub use Rattle.ref_script.specs.TraceTexts.{trace_text}
pub use Rattle.refrun.specs.declared.station.Shared.{Shared}
pub use Rattle.ref_script.specs.declared.script_step.ScriptReply.{ScriptReply}
pub use Rattle.ref_script.specs.declared.script_step.ScriptRow.{ScriptRow}
pub use Rattle.ref_script.specs.declared.script_step.ScriptStep.{ScriptStep}
pub use Rattle.refrun.specs.declared.threads.task.Task.{Task}
