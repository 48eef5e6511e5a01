-- Each public function's own contract: it asks nothing, it says what stands here, of arguments too that no proved caller gives, and two answers which it allows are equal.
use Rattle.std.proofs.Common.{not, ◌≡◌, refl}
use Rattle.pages.specs.Entries.{id_asked}
use Rattle.pages.specs.Others11.{OthersGiven, id_other}
use Rattle.pages.specs.Read11.{PageCounterGiven, no_number}
use Rattle.pages.specs.Top.{at_top}
use Rattle.pages.specs.WalkStep.{step_at}
use Rattle.bits.specs.Contract.{Tied}
use Rattle.bits.proofs.Tying.{same, say, by}
use Rattle.pages.proofs.identifier
use Rattle.pages.specs.contracts.identifier as identifier-said
use Rattle.pages.proofs.number
use Rattle.pages.specs.contracts.number as number-said
use Rattle.pages.proofs.others11
use Rattle.pages.specs.contracts.others11 as others11-said
use Rattle.pages.proofs.reading11
use Rattle.pages.specs.contracts.reading11 as reading11-said
use Rattle.pages.proofs.value
use Rattle.pages.specs.contracts.value as value-said
use Rattle.pages.proofs.walk
use Rattle.pages.specs.contracts.walk as walk-said

pub tied_is_counter_number : Tied number-said.is_counter_number.ended number.is_counter_number.Reads.Asked number.is_counter_number.Reads.Post (λ κs a r ws. r ≡ not (no_number a.0))
tied_is_counter_number = by (say (λ κs a. tt) (λ κs a r ws p. p)) (λ κs a r r' ws ws' p q. (same p q, refl))

pub tied_read_counter : Tied reading11-said.read_counter.ended reading11.read_counter.Reads.Asked reading11.read_counter.Reads.Post (λ κs a r ws. PageCounterGiven a.0.now a.1.0 r)
tied_read_counter = by (say (λ κs a. tt) (λ κs a r ws p. p)) (λ κs a r r' ws ws' p q. (same p.answer q.answer, refl))

pub tied_count_others : Tied others11-said.count_others.ended others11.count_others.Reads.Asked others11.count_others.Reads.Post (λ κs a r ws. OthersGiven a.0.now r)
tied_count_others = by (say (λ κs a. tt) (λ κs a r ws p. p)) (λ κs a r r' ws ws' p q. (same p.answer q.answer, refl))

pub tied_is_top : Tied value-said.CounterValue.is_top.ended value.CounterValue.is_top.Reads.Asked value.CounterValue.is_top.Reads.Post (λ κs a r ws. r ≡ at_top a.0)
tied_is_top = by (say (λ κs a. tt) (λ κs a r ws p. p)) (λ κs a r r' ws ws' p q. (same p q, refl))

pub tied_is_asked : Tied identifier-said.Identifier.is_asked.ended identifier.Identifier.is_asked.Reads.Asked identifier.Identifier.is_asked.Reads.Post (λ κs a r ws. r ≡ id_asked a.1.0 a.0.0)
tied_is_asked = by (say (λ κs a. tt) (λ κs a r ws p. p)) (λ κs a r r' ws ws' p q. (same p q, refl))

pub tied_is_other : Tied identifier-said.Identifier.is_other.ended identifier.Identifier.is_other.Reads.Asked identifier.Identifier.is_other.Reads.Post (λ κs a r ws. r ≡ id_other a.0.0)
tied_is_other = by (say (λ κs a. tt) (λ κs a r ws p. p)) (λ κs a r r' ws ws' p q. (same p q, refl))

pub tied_entry_at : Tied walk-said.entry_at.ended walk.entry_at.Reads.Asked walk.entry_at.Reads.Post (λ κs a r ws. r ≡ step_at a.0.now a.1.0)
tied_entry_at = by (say (λ κs a. tt) (λ κs a r ws p. p)) (λ κs a r r' ws ws' p q. (same p q, refl))
