use Rattle.ref_log.proofs.Common.{err_from_is_err_and}
use Rattle.ref_log.proofs.head.head_of.Goals as goal

pub returns-in_err-rule-clause-head : goal.returns-in_err-rule-clause-head
returns-in_err-rule-clause-head g c lines has =
    let p = err_from_is_err_and c.from_residual.result c.from_residual.ensures.1 in
    rw (p.1, p.2) (c.in_err-rule.ensures.header c.args.given lines has)

pub returns-in_err-config-clause-head : goal.returns-in_err-config-clause-head
returns-in_err-config-clause-head g c lines has =
    let p = err_from_is_err_and c.from_residual-in_err-config.result c.from_residual-in_err-config.ensures.1 in
    let header = c.in_ok-rule.ensures.header c.args.given lines has in
    rw (p.1, p.2) (c.in_err-config.ensures.config lines header)

pub returns-in_err-profile-clause-head : goal.returns-in_err-profile-clause-head
returns-in_err-profile-clause-head g c lines has =
    let p = err_from_is_err_and c.from_residual-in_err-profile.result c.from_residual-in_err-profile.ensures.1 in
    let header = c.in_ok-rule.ensures.header c.args.given lines has in
    let config = c.in_ok-config.ensures.config lines header in
    rw (p.1, p.2) (c.in_err-profile.ensures.profile c.args.given lines _ config)

pub returns-in_err-is_named-clause-head : goal.returns-in_err-is_named-clause-head
returns-in_err-is_named-clause-head g c lines has =
    let p = err_from_is_err_and c.from_residual-in_err-is_named.result c.from_residual-in_err-is_named.ensures.1 in
    let header = c.in_ok-rule.ensures.header c.args.given lines has in
    let config = c.in_ok-config.ensures.config lines header in
    let profile = c.in_ok-profile.ensures.profile c.args.given lines _ config in
    rw (p.1, p.2) (c.in_err-is_named.ensures.naming c.args.given lines _ _ profile)

pub returns-clause-head : goal.returns-clause-head
returns-clause-head g c lines has =
    let header = c.in_ok-rule.ensures.header c.args.given lines has in
    let config = c.in_ok-config.ensures.config lines header in
    let profile = c.in_ok-profile.ensures.profile c.args.given lines _ config in
    c.in_ok-is_named.ensures.naming c.args.given lines _ _ profile
