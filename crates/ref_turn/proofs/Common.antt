-- The words of std and of the model that several proofs cite, passed on from one place. Declares nothing.
pub use Rattle.std.proofs.Common.{Some, [], ap, arith, inr, length, length-append, refl, rules, set, subst, suc, sym}
pub use Rattle.std.proofs.Common.{zero, ⊎_elim, ◌++◌, ◌+◌, ◌<◌, ◌^◌, ◌∙◌, ◌∷◌, ◌≡◌, ◌≢◌, ◌≤◌, ◌⊎◌}
pub use Rattle.std.proofs.lemmas.List.{append-nil}
pub use Rattle.std.proofs.lemmas.Option.{same_Some}
pub use Rattle.std.specs.Prelude.{Option}
pub use Rattle.ref_turn.specs.History.{IsLegalLog, Leads, Reaches, StartsWith, calls_by}
pub use Rattle.ref_turn.specs.Rule.{IsOpen, IsOwnView, IsSpent, Knows, SeatOk, first_view}
pub use Rattle.ref_turn.specs.Seats.{EndsAs, Extends, IsHistory, Longer, entry}
pub use Rattle.ref_turn.specs.declared.history.Entry.{Entry}
pub use Rattle.ref_turn.specs.declared.history.Stage.{Stage}
pub use Rattle.ref_turn.specs.declared.history.Stage.TheVariants.{Fresh, Idle, Met, Open, Spent}
pub use Rattle.ref_turn.specs.declared.history.View.{View}
pub use Rattle.atomic_table.specs.Table.{State, opening, rest}
pub use mathlib.Core.Option.{none, some-injective, some-ne-none}
