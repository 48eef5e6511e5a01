-- Each public function's own contract: it asks nothing, it says what stands here, of arguments too that no proved caller gives, and two answers which it allows are equal.
use Rattle.std.proofs.Common.{◌≡◌, refl}
use Rattle.pages.specs.Layout11.{counters_page, page11}
use Rattle.pages.specs.Sum.{sealed_page, sum256}
use Rattle.counters.specs.Rows.{keeps_both}
use Rattle.frames.specs.Emit.{WriteGiven}
use Rattle.frames.proofs.EmitLaws.{emitted_once}
use Rattle.bits.specs.Contract.{Tied}
use Rattle.bits.proofs.Tying.{same, say, by}
use Rattle.pages.proofs.layout11
use Rattle.pages.specs.contracts.layout11 as layout11-said
use Rattle.pages.proofs.writing11
use Rattle.pages.specs.contracts.writing11 as writing11-said
use Rattle.pages.proofs.sums
use Rattle.pages.specs.contracts.sums as sums-said

pub tied_page11_bytes : Tied layout11-said.page11_bytes.ended layout11.page11_bytes.Reads.Asked layout11.page11_bytes.Reads.Post (λ κs a r ws. r ≡ page11 a.0 a.1.0.now)
tied_page11_bytes = by (say (λ κs a. tt) (λ κs a r ws p. p)) (λ κs a r r' ws ws' p q. (same p q, refl))

pub tied_counters_page : Tied writing11-said.counters_page.ended writing11.counters_page.Reads.Asked writing11.counters_page.Reads.Post (λ κs a r ws. r ≡ counters_page a.0 a.1.0.now)
tied_counters_page = by (say (λ κs a. tt) (λ κs a r ws p. p)) (λ κs a r r' ws ws' p q. (same p q, refl))

pub tied_write_counters : Tied writing11-said.write_counters.ended writing11.write_counters.Reads.Asked writing11.write_counters.Reads.Post (λ κs a r ws. WriteGiven (keeps_both a.1.0) (page11 a.1.0 a.1.1.0.now) a.0.now r ws.0)
tied_write_counters = by (say (λ κs a. tt) (λ κs a r ws p. p)) (λ κs a r r' ws ws' p q. let e = emitted_once _ _ _ r r' ws.0 ws'.0 p q in (e.0, λ i. (e.1 i, (tt, (tt, tt)))))

pub tied_byte_sum : Tied sums-said.byte_sum.ended sums.byte_sum.Reads.Asked sums.byte_sum.Reads.Post (λ κs a r ws. r ≡ sum256 a.0.now)
tied_byte_sum = by (say (λ κs a. tt) (λ κs a r ws p. p)) (λ κs a r r' ws ws' p q. (same p q, refl))

pub tied_seal : Tied sums-said.seal.ended sums.seal.Reads.Asked sums.seal.Reads.Post (λ κs a r ws. ws.0 ≡ sealed_page a.0.now)
tied_seal = by (say (λ κs a. tt) (λ κs a r ws p. p)) (λ κs a r r' ws ws' p q. (refl, λ i. (same p q i, tt)))
