use Rattle.std.proofs.Common.{rules, Ok, Err}
use Rattle.refusals.specs.declared.reasons.Refusal.TheVariants.{PageSum}
use Rattle.refusals.specs.First.{first_of}
use Rattle.identity.specs.Read.{read_identity}
use Rattle.identity.proofs.Exactly.{identity_told_lem}
use Rattle.identity.proofs.reading.read_identity.Goals as goal

pub returns-in_err-page : goal.returns-in_err-page
unfolding read_identity first_of
returns-in_err-page c = identity_told_lem c.args.page.now c.from_residual.result (search rules)

pub returns-then-byte_sum-ne0 : goal.returns-then-byte_sum-ne0
unfolding read_identity first_of
returns-then-byte_sum-ne0 c = identity_told_lem c.args.page.now (Err PageSum) (search rules)

pub returns : goal.returns
unfolding read_identity first_of
returns c = identity_told_lem c.args.page.now (Ok (record { queue = c.queue_told.result; capacity = c.capacity_told.result })) (search rules)
