-- Each public function's own contract: it asks nothing, and two answers which it allows are equal.
use Rattle.std.proofs.Common.{refl}
use Rattle.bits.specs.Contract.{Sole}
use Rattle.bits.proofs.Tying.{same, sole}
use Rattle.refusals.proofs.firsts
use Rattle.refusals.specs.contracts.firsts as firsts-said
use Rattle.refusals.proofs.reasons
use Rattle.refusals.specs.contracts.reasons as reasons-said

pub tied_check : Sole firsts-said.check.ended firsts.check.Reads.Asked firsts.check.Reads.Post
tied_check = sole (λ κs a. tt) (λ κs a r r' ws ws' p q. (same p q, refl))

pub tied_number : Sole reasons-said.Refusal.number.ended reasons.Refusal.number.Reads.Asked reasons.Refusal.number.Reads.Post
tied_number = sole (λ κs a. tt) (λ κs a r r' ws ws' p q. (same p q, refl))

pub tied_number_told : Sole reasons-said.Refusal.number_told.ended reasons.Refusal.number_told.Reads.Asked reasons.Refusal.number_told.Reads.Post
tied_number_told = sole (λ κs a. tt) (λ κs a r r' ws ws' p q. (same p q, refl))
