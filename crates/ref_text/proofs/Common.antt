-- The words of std that several proofs cite, passed on from one place. Declares nothing.
pub use Rattle.std.proofs.Common.{List, None, Option, Some, [], ap, append_assoc, arith, drop, length, take, ℕ, ◌++◌}
pub use Rattle.std.proofs.Common.{◌-◌, ◌∙◌, ◌≡◌}
pub use Rattle.std.proofs.Math.Seq.{take-append_seam}
pub use Rattle.std.proofs.lemmas.List.{append-nil, take-append-drop}
pub use Rattle.std.proofs.lemmas.Result.{err_from_is_err_and}
pub use Rattle.std.specs.Io.KnownBytes.{Keeps}
