use Rattle.ref_judge.proofs.FollowLemmas.{follows_itself, follows_more, follows_fewer, follows_end}
use Rattle.ref_judge.proofs.marks.follow.Goals as goal

pub loop-entry-init : goal.loop-entry-init
loop-entry-init g c = follows_itself c.args.policy c.args.objects.now c.args.grey.now c.requires.room

pub loop-entry-smaller : goal.loop-entry-smaller
loop-entry-smaller g c =
    follows_fewer c.args.policy c.args.objects.now c.args.grey.now c.loop-entry.objects c.loop-entry.grey
    c.in-Some.entry.no c.scan.new.self c.take_first.new.self c.scan.new.grey c.loop-entry.invariant
    c.in-Some.ensures.answer c.in-Some.ensures.after c.scan.ensures.after c.scan.ensures.listed

pub loop-entry-preserved : goal.loop-entry-preserved
loop-entry-preserved g c =
    follows_more c.args.policy c.args.objects.now c.args.grey.now c.loop-entry.objects c.loop-entry.grey
    c.in-Some.entry.no c.scan.new.self c.take_first.new.self c.scan.new.grey c.loop-entry.invariant
    c.in-Some.ensures.answer c.in-Some.ensures.after c.scan.ensures.after c.scan.ensures.listed

pub returns-clause-follows : goal.returns-clause-follows
returns-clause-follows g c =
    follows_end c.args.policy c.args.objects.now c.args.grey.now c.loop-entry.objects c.loop-entry.grey
    c.take_first.new.self c.loop-entry.invariant c.in_default.ensures.answer c.in_default.ensures.after
