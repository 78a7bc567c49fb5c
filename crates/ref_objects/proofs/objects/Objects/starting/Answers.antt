use Rattle.ref_objects.proofs.Common.{rules, ◌≡◌, ◌≤◌, ◌^◌, true, None, refl, arith, is_within_limits}
use Rattle.ref_objects.specs.Grounds.{starting_refusal}
use Rattle.ref_objects.proofs.SoundLemmas.{first_seen, first_sound}
use Rattle.ref_objects.proofs.objects.Objects.starting.Goals as goal

pub invariant_of-result : goal.invariant_of-result
invariant_of-result g c =
    let within : is_within_limits c.args.config ≡ true = search rules in
    let allowed = c.is_allowed.ensures in
    let begins : 1 ≤ c.from.result = grind (arith, allowed, c.if-not-is_allowed.false, c.from.ensures) in
    let bounded : c.from.result ≤ 2 ^ 32 = omega (arith, c.from.ensures) in
    first_sound c.args.start.page within c.in_ok-table.ensures.ok refl begins bounded

pub returns : goal.returns
returns g c =
    let accepted : starting_refusal c.args.config c.args.start ≡ None = search rules in
    (accepted, first_seen c.args.start c.in_ok-table.ensures.ok refl c.from.ensures c.of_cycle.ensures)
