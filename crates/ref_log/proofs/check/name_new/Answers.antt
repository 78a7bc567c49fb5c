use Rattle.std.proofs.Common.{◌≡◌, ℕ, ◌<◌, ◌^◌, Bool, List, Ok, Err, OnOk, sym, ap, ◌∙◌, subst, Result}
use Rattle.ref_base.specs.Graphs.{is_there}
use Rattle.ref_log.proofs.GivenNames.{name_in_use, name_is_new, names_kept, numbers_spent, same_means}
use Rattle.ref_log.specs.Names.{Given, MeanAlike, name_given, number_named, with_name}
use Rattle.ref_script.specs.Lines.{words_of}
use Rattle.ref_log.proofs.check.name_new.Goals as goal

pub returns-in_default : goal.returns-in_default
returns-in_default g c =
    let j = c.args.judge.now in
    same_means _ _
    (names_kept (λ n. is_there j.ground.heap.objects n) j.ground.next c.args.names.now.names
    (name_given (words_of c.args.line.now)) (sym c.in_default.ensures))

pub returns-then-is_there : goal.returns-then-is_there
returns-then-is_there g c =
    let j = c.args.judge.now in
    same_means _ _
    (name_in_use (λ n. is_there j.ground.heap.objects n) j.ground.next c.args.names.now.names
    (name_given (words_of c.args.line.now)) c.in-Some.number (sym c.in-Some.ensures)
    (sym c.is_there.ensures ∙ c.if-is_there.true))

-- what was given is what the row makes of the names
turned : {E : Type 0} (result : Result (Unit {0}) E) (new given later : List Given) → OnOk result (MeanAlike new given)
    → later ≡ given → OnOk result (MeanAlike later new)
turned (Ok done) new given later alike is =
    λ name. ap (λ (names : List Given). number_named names name) is ∙ sym (alike name)
turned (Err error) new given later alike is = tt

pub returns-in-Ok : goal.returns-in-Ok
returns-in-Ok g c =
    let j = c.args.judge.now in
    let there : ℕ → Bool = λ n. is_there j.ground.heap.objects n in
    let names = c.args.names.now.names in
    let name = name_given (words_of c.args.line.now) in
    let next : c.in-Ok.next ≡ j.ground.next = c.in-Ok.ensures.1 ∙ c.next_no.ensures in
    let small : j.ground.next < 2 ^ 32 = subst (λ (n : ℕ). n < 2 ^ 32) c.next_no.ensures c.in-Ok.ensures.0 in
    turned c.give.result _ _ _ c.give.ensures.given
    (name_is_new there j.ground.next names name c.in-Some.number (sym c.in-Some.ensures)
    (sym c.is_there.ensures ∙ c.if-is_there.false) small
    ∙ ap (λ (n : ℕ). with_name name n names) (sym next))

pub returns-in-Err : goal.returns-in-Err
returns-in-Err g c =
    let j = c.args.judge.now in
    let none : ¬ (j.ground.next < 2 ^ 32) = subst (λ (n : ℕ). ¬ (n < 2 ^ 32)) c.next_no.ensures c.in-Err.ensures in
    same_means _ _
    (numbers_spent (λ n. is_there j.ground.heap.objects n) j.ground.next c.args.names.now.names
    (name_given (words_of c.args.line.now)) none)
