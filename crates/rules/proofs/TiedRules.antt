-- Each public function's own contract: it asks nothing, and two answers which it allows are equal.
use Rattle.std.proofs.Common.{refl}
use Rattle.bits.specs.Contract.{Sole}
use Rattle.bits.proofs.Tying.{same, sole}
use Rattle.rules.proofs.command_rules
use Rattle.rules.specs.contracts.command_rules as command_rules-said
use Rattle.rules.proofs.errors
use Rattle.rules.specs.contracts.errors as errors-said
use Rattle.rules.proofs.move_refusals
use Rattle.rules.specs.contracts.move_refusals as move_refusals-said

pub tied_is_refused : Sole command_rules-said.TagNamed.is_refused.ended command_rules.TagNamed.is_refused.Reads.Asked command_rules.TagNamed.is_refused.Reads.Post
tied_is_refused = sole (λ κs a. tt) (λ κs a r r' ws ws' p q. (same p q, refl))

pub tied_queued_rule : Sole command_rules-said.queued_rule.ended command_rules.queued_rule.Reads.Asked command_rules.queued_rule.Reads.Post
tied_queued_rule = sole (λ κs a. tt) (λ κs a r r' ws ws' p q. (same p q, refl))

pub tied_other_rule : Sole command_rules-said.other_rule.ended command_rules.other_rule.Reads.Asked command_rules.other_rule.Reads.Post
tied_other_rule = sole (λ κs a. tt) (λ κs a r r' ws ws' p q. (same p q, refl))

pub tied_log_zeroes : Sole command_rules-said.log_zeroes.ended command_rules.log_zeroes.Reads.Asked command_rules.log_zeroes.Reads.Post
tied_log_zeroes = sole (λ κs a. tt) (λ κs a r r' ws ws' p q. (same p q, refl))

pub tied_byte : Sole errors-said.CommandError.byte.ended errors.CommandError.byte.Reads.Asked errors.CommandError.byte.Reads.Post
tied_byte = sole (λ κs a. tt) (λ κs a r r' ws ws' p q. (same p q, refl))

pub tied_is_too_long : Sole move_refusals-said.is_too_long.ended move_refusals.is_too_long.Reads.Asked move_refusals.is_too_long.Reads.Post
tied_is_too_long = sole (λ κs a. tt) (λ κs a r r' ws ws' p q. (same p q, refl))

pub tied_is_unready : Sole move_refusals-said.is_unready.ended move_refusals.is_unready.Reads.Asked move_refusals.is_unready.Reads.Post
tied_is_unready = sole (λ κs a. tt) (λ κs a r r' ws ws' p q. (same p q, refl))
