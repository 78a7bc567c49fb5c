use Rattle.ref_c.proofs.given.reply_of.Goals as goal

pub returns-in-71 : goal.returns-in-71
returns-in-71 c = c.notices_of.ensures c.args.before

pub returns-in-78 : goal.returns-in-78
returns-in-78 c = c.took_of.ensures c.args.before

pub returns-in_default : goal.returns-in_default
returns-in_default c = c.unlisted.ensures c.args.before
