use Rattle.ref_base.proofs.Common.{arith, ◌≡◌, ◌++◌, ◌∷◌, [], false, length, has, ap, refl}
use Rattle.std.proofs.lemmas.List.{length-append}
use Rattle.std.specs.List.{zip}
use Rattle.ref_graph.specs.GraphViews.{held_in}
use Rattle.ref_graph.specs.declared.stored.Stored.{Stored}
use Rattle.ref_graph.proofs.StoreLaws.{rising-objects_in, with_object-same}
use Rattle.ref_graph.proofs.StoredFields.{is_there-zip, objects_in-added, within-added, zip-push}
use Rattle.ref_graph.proofs.graph.Graph.add.Goals as goal

pub returns-then-contains-clause-answer : goal.returns-then-contains-clause-answer
returns-then-contains-clause-answer g c =
    grind (arith, is_there-zip c.self.inside.fields.items c.self.inside.numbers c.self.inside.stored.items c.args.no)

pub returns-then-contains-clause-after : goal.returns-then-contains-clause-after
returns-then-contains-clause-after g c =
    grind (
      arith,
      with_object-same,
      rising-objects_in (held_in c.self.inside.fields.items (zip c.self.inside.numbers c.self.inside.stored.items)),
      is_there-zip c.self.inside.fields.items c.self.inside.numbers c.self.inside.stored.items c.args.no,
    )

pub returns-in_default-clause-answer : goal.returns-in_default-clause-answer
returns-in_default-clause-answer g c =
    grind (arith, is_there-zip c.self.inside.fields.items c.self.inside.numbers c.self.inside.stored.items c.args.no)

pub returns-then-is_err-clause-answer : goal.returns-then-is_err-clause-answer
returns-then-is_err-clause-answer g c =
    grind (arith, is_there-zip c.self.inside.fields.items c.self.inside.numbers c.self.inside.stored.items c.args.no)

pub returns-then-is_err-3-clause-answer : goal.returns-then-is_err-3-clause-answer
returns-then-is_err-3-clause-answer g c =
    grind (arith, is_there-zip c.self.inside.fields.items c.self.inside.numbers c.self.inside.stored.items c.args.no)

pub invariant_of-self-2 : goal.invariant_of-self-2
invariant_of-self-2 g c =
    let s : Stored = record { start = c.in-Ok.start; count = length c.args.fields.now; link = c.args.link } in
    let is_new : has c.self.inside.numbers c.args.no ≡ false = grind arith in
    let ns = c.self.inside.numbers in
    let ss = c.self.inside.stored.items in
    let same : length ns ≡ length ss = grind arith in
    let numbers : c.insert.new.self ≡ ns ++ c.args.no ∷ [] = grind arith in
    let stored : c.push_reserved.new.self.items ≡ ss ++ s ∷ [] = grind arith in
    rw (numbers, stored, zip-push ns ss c.args.no s same) (
      grind (arith, length-append),
      grind (
        arith,
        length-append,
        within-added (length c.self.inside.fields.items) (length c.extend_from_slice.new.self.items) (zip ns ss)
            (c.args.no, s),
      ),
    )

pub returns-clause-answer : goal.returns-clause-answer
returns-clause-answer g c =
    grind (arith, is_there-zip c.self.inside.fields.items c.self.inside.numbers c.self.inside.stored.items c.args.no)

pub returns-clause-after : goal.returns-clause-after
returns-clause-after g c =
    let s : Stored = record { start = c.in-Ok.start; count = length c.args.fields.now; link = c.args.link } in
    let is_new : has c.self.inside.numbers c.args.no ≡ false = grind arith in
    let ns = c.self.inside.numbers in
    let ss = c.self.inside.stored.items in
    let same : length ns ≡ length ss = grind arith in
    let numbers : c.insert.new.self ≡ ns ++ c.args.no ∷ [] = grind arith in
    let stored : c.push_reserved.new.self.items ≡ ss ++ s ∷ [] = grind arith in
    let fields : c.extend_from_slice.new.self.items ≡ c.self.inside.fields.items ++ c.args.fields.now = grind arith in
    rw (numbers, stored, fields, zip-push ns ss c.args.no s same, ← c.self.view_is)
    (ap (λ os. record { objects = os; roots = c.self.inside.roots })
    (objects_in-added c.self.inside.fields.items c.args.fields.now (zip ns ss) c.args.no s c.self.invariant.1
    (grind arith) refl))
