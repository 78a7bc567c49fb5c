-- The words of std and of the model that several proofs cite, passed on from one place. Declares nothing.
pub use Rattle.std.proofs.Common.{Bool, Err, List, None, Ok, Option, Some, [], ap, append_assoc, arith, codes, drop}
pub use Rattle.std.proofs.Common.{false, get_or, if◌then◌else◌, inl, inr, length, map, nat_eq, not, refl, rules}
pub use Rattle.std.proofs.Common.{subst, suc, sym, take, true, vec_len, zero, ℕ, ◌&&◌, ◌++◌, ◌+◌, ◌-◌, ◌<◌, ◌==◌, ◌^◌}
pub use Rattle.std.proofs.Common.{◌||◌, ◌∙◌, ◌∷◌, ◌≡◌, ◌≤◌}
pub use Rattle.std.proofs.Math.Seq.{take-append_seam}
pub use Rattle.std.proofs.lemmas.Bool.{and_parts, cases_Bool, le-leb, le-ltb, lt-ltb, ne_eqb}
pub use Rattle.std.proofs.lemmas.List.{append-nil, take_all, take_more}
pub use Rattle.std.proofs.lemmas.Result.{err_from_is_err_and}
pub use Rattle.std.proofs.lemmas.Slice.Eq.{bytes_eq-Decides}
pub use Rattle.std.specs.Borrow.{Bor}
pub use Rattle.std.specs.List.{list_all, prefix_len}
pub use Rattle.std.specs.Str.{bytes_eq}
pub use Rattle.std.specs.Str.Parse.{digits_value}
pub use Rattle.ref_base.specs.Graphs.{Graph, plain_object}
pub use Rattle.ref_base.specs.Steps.{strength_name}
pub use Rattle.ref_base.specs.Texts.{Letters, Long, Numbered, Word, number, queue, slot}
pub use Rattle.ref_base.specs.declared.actor.Actor.TheVariants.{Worker}
pub use Rattle.ref_base.specs.declared.config.Config.{Config}
pub use Rattle.ref_base.specs.declared.plain_step.PlainStep.TheVariants.{Begin, New, Refer}
pub use Rattle.ref_base.specs.declared.reach.ObjectReach.{ObjectReach}
pub use Rattle.ref_base.specs.declared.step.Step.TheVariants.{Put}
pub use Rattle.ref_base.specs.declared.strength.Strength.{Strength}
pub use Rattle.ref_base.specs.declared.strength.Strength.TheVariants.{Phantom, Soft, Weak}
pub use Rattle.ref_base.specs.declared.urgency.Urgency.TheVariants.{Urgent}
pub use Rattle.ref_script.specs.DeclarationFaults.{are_operands, declaration_fault, number_in, words_fault}
pub use Rattle.ref_script.specs.Declarations.{Declared, NoneTwice, Plain, Reference, Root, SpellFields}
pub use Rattle.ref_script.specs.Declarations.{SpellsDeclared, SpellsObject, SpellsObjectOrNone, declared_no}
pub use Rattle.ref_script.specs.GraphTexts.{DeclaresGraph, SpellAll, SpellGraph}
pub use Rattle.ref_script.specs.LineReading.{FailsFor, Finds, LinesLeft}
pub use Rattle.ref_script.specs.Lines.{TextLine, content_of, lines_of, most_bytes, words_of}
pub use Rattle.ref_script.specs.Listings.{listing_text}
pub use Rattle.ref_script.specs.Numerals.{number_behind, number_below}
pub use Rattle.ref_script.specs.ScriptSteps.{script_step_words}
pub use Rattle.ref_script.specs.Scripts.{IsScript, SpellScript, SpellSteps, config_of}
pub use Rattle.ref_script.specs.Spelling.{AreSpelt, IsSpelt, SpellsScriptStep}
pub use Rattle.ref_script.specs.StepFaults.{all_fit, operand_fault, step_fault}
pub use Rattle.ref_script.specs.StepForms.{Clock, Number, Operand, Queue, QueueOrNone, Slot, UrgencyName}
pub use Rattle.ref_script.specs.StepForms.{forms_of_letter, operands_in, turn_forms}
pub use Rattle.ref_script.specs.TextFaults.{Declarations, Place, Steps, end_fault, fault_or, first_fault, graph_fault}
pub use Rattle.ref_script.specs.TextFaults.{place_after, place_fault, plain_fault, script_fault}
pub use Rattle.ref_script.specs.ToldLines.{is_ascii_line, is_plain_line, line_words, says_nothing, told}
pub use Rattle.ref_script.specs.TraceTexts.{trace_text}
pub use Rattle.ref_text.specs.declared.fault.LineFault.{LineFault}
pub use Rattle.ref_text.specs.declared.fault.LineFault.TheVariants.{BadWord, DoubleObject, ExtraWord, MissingWord}
pub use Rattle.ref_text.specs.declared.fault.TextFault.{TextFault}
pub use Rattle.ref_script.specs.declared.script_step.ScriptRow.{ScriptRow}
pub use Rattle.ref_script.specs.declared.script_step.ScriptStep.{ScriptStep}
