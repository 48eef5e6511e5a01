-- The last sample that is no later than the hour.
use Rattle.std.proofs.Common.{leb, take, refl, rules}
use Rattle.std.proofs.lemmas.List.Sorted.{IsPartitionPoint-from_clause, IsPartitionedBy-leb}
use Rattle.hourly_table.proofs.Standing.{none_last, some_last}
use Rattle.hourly_table.proofs.samples.page_of_hour.Goals as goal

pub returns-in_err-sample : goal.returns-in_err-sample
returns-in_err-sample c =
    let parted = IsPartitionedBy-leb (λ s. s.hour) _ c.args.hour c.requires in
    let point = IsPartitionPoint-from_clause (λ s. leb s.hour c.args.hour) _ _ c.partition_point-behind.ensures.partitioned parted (λ a r q k. search rules) in
    rw c.from_residual.ensures
    (none_last _ c.args.hour _ point (take c.partition_point-behind.result c.args.samples.now) refl c.partition_point-behind.ensures.bound c.in_err-sample.ensures.value)

pub returns : goal.returns
returns c =
    let parted = IsPartitionedBy-leb (λ s. s.hour) _ c.args.hour c.requires in
    let point = IsPartitionPoint-from_clause (λ s. leb s.hour c.args.hour) _ _ c.partition_point-behind.ensures.partitioned parted (λ a r q k. search rules) in
    rw c.then_some.ensures
    (some_last _ c.args.hour _ point (take c.partition_point-behind.result c.args.samples.now) refl c.partition_point-behind.ensures.bound c.requires c.in_ok-sample.sample.now c.in_ok-sample.ensures.value)
