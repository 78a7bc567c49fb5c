-- The words of std and of the model that several proofs cite, passed on from one place. Declares nothing.
pub use Rattle.std.proofs.Common.{Bool, Err, List, None, Ok, Option, Some, [], ap, append_assoc, arith, drop, false}
pub use Rattle.std.proofs.Common.{get_or, inl, inr, length, not, refl, suc, sym, take, true, zero, ℕ, ◌++◌, ◌+◌, ◌-◌}
pub use Rattle.std.proofs.Common.{◌<◌, ◌==◌, ◌&&◌, ◌∙◌, ◌∷◌, ◌≡◌, ◌≤◌, ◌^◌, IfSome, subst, length-append, rules}
pub use Rattle.std.proofs.lemmas.Bool.{and_parts, cases_Bool}
pub use Rattle.std.proofs.lemmas.List.{append-nil}
pub use Rattle.std.proofs.lemmas.List.Folds.{list_all-append}
pub use Rattle.std.proofs.lemmas.Result.{err_from_is_err_and}
pub use Rattle.std.specs.Io.KnownBytes.{Consumes, IsAtEnd, Keeps, prepend_known}
pub use Rattle.ref_script.specs.Lines.{TextLine, lines_of, onto_line}
pub use Rattle.ref_log.specs.StreamAnswers.{Advances, BeginsTooLong, CountsLine, HoldsSome, HoldsTooMuch, IsReadFault}
pub use Rattle.ref_log.specs.StreamAnswers.{TakesPiece, is_reading_failed}
pub use Rattle.ref_log.specs.Streams.{Streamed, has_no_lf, line_in, most_in_line}
