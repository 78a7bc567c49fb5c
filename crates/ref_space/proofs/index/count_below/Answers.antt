use Rattle.ref_space.proofs.Common.{arith, nat_lt, rules}
use Rattle.std.proofs.lemmas.List.Sorted.{IsPartitionPoint-from_clause}
use Rattle.ref_space.proofs.IndexLemmas.{partitioned, count_below-point, count_below-at}
use Rattle.ref_space.proofs.index.count_below.Goals as goal

pub returns-in_default-clause-count : goal.returns-in_default-clause-count
returns-in_default-clause-count c =
    count_below-point c.args.index.now c.args.no c.partition_point.result c.partition_point.ensures.bound
    (IsPartitionPoint-from_clause (λ e. nat_lt e.no c.args.no) c.args.index.now c.partition_point.result
    c.partition_point.ensures.partitioned (partitioned c.args.index.now c.args.no c.requires)
    (λ a r f' k. search rules))

pub returns-in-Some-clause-count : goal.returns-in-Some-clause-count
returns-in-Some-clause-count c = grind (arith, count_below-at)
