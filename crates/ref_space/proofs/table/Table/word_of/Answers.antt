use Rattle.ref_space.proofs.Common.{refl}
use Rattle.ref_space.proofs.Common.{◌∙◌, ap, is_some}
use Rattle.ref_space.proofs.PlaceLemmas.{IsPlaceOf-lent, IsMissing-lent}
use Rattle.ref_space.proofs.CellChanges.{lies_seen, named_if_there, missing_at}
use Rattle.ref_space.proofs.table.Table.word_of.Goals as goal

pub word_to-requires : goal.word_to-requires
word_to-requires g c =
    ap is_some (lies_seen c.self.invariant
    (IsPlaceOf-lent c.args.no c.deref.ensures.value c.deref-2.ensures.value c.in-Some.ensures) c.self.view_is)

pub returns-in-Some-clause-named : goal.returns-in-Some-clause-named
returns-in-Some-clause-named g c =
    let place = IsPlaceOf-lent c.args.no c.deref.ensures.value c.deref-2.ensures.value c.in-Some.ensures in
    c.word_to.ensures.named ∙ lies_seen c.self.invariant place c.self.view_is
    ∙ named_if_there c.self.invariant place c.self.view_is

pub returns-in-None-clause-named : goal.returns-in-None-clause-named
returns-in-None-clause-named g c =
    let none = missing_at c.self.invariant
    (IsMissing-lent c.args.no c.deref.ensures.value c.deref-2.ensures.value c.in-None.ensures) c.self.view_is in
    rw (c.null.ensures, none) refl
