-- Each public function's own contract: it asks nothing, it says what stands here, of arguments too that no proved caller gives, and two answers which it allows are equal.
use Rattle.std.proofs.Common.{◌≡◌, refl}
use Rattle.pages.specs.Others10.{OtherBytesGiven}
use Rattle.pages.specs.Page10.{LogGiven, fits10, log_page, page10}
use Rattle.frames.specs.Emit.{WriteGiven}
use Rattle.bits.specs.Contract.{Tied}
use Rattle.bits.proofs.Tying.{same, say, by}
use Rattle.frames.proofs.EmitLaws.{emitted_once}
use Rattle.pages.proofs.others10
use Rattle.pages.specs.contracts.others10 as others10-said
use Rattle.pages.proofs.page10
use Rattle.pages.specs.contracts.page10 as page10-said
use Rattle.pages.proofs.writing10
use Rattle.pages.specs.contracts.writing10 as writing10-said

pub tied_fits : Tied page10-said.ErrorLog.fits.ended page10.ErrorLog.fits.Reads.Asked page10.ErrorLog.fits.Reads.Post (λ κs a r ws. r ≡ fits10 a.0)
tied_fits = by (say (λ κs a. tt) (λ κs a r ws p. p)) (λ κs a r r' ws ws' p q. (same p q, refl))

pub tied_page10_bytes : Tied page10-said.page10_bytes.ended page10.page10_bytes.Reads.Asked page10.page10_bytes.Reads.Post (λ κs a r ws. r ≡ page10 a.0)
tied_page10_bytes = by (say (λ κs a. tt) (λ κs a r ws p. p)) (λ κs a r r' ws ws' p q. (same p q, refl))

pub tied_page : Tied page10-said.ErrorLog.page.ended page10.ErrorLog.page.Reads.Asked page10.ErrorLog.page.Reads.Post (λ κs a r ws. r ≡ log_page a.0)
tied_page = by (say (λ κs a. tt) (λ κs a r ws p. p)) (λ κs a r r' ws ws' p q. (same p q, refl))

pub tied_read_log : Tied page10-said.read_log.ended page10.read_log.Reads.Asked page10.read_log.Reads.Post (λ κs a r ws. LogGiven a.0.now r)
tied_read_log = by (say (λ κs a. tt) (λ κs a r ws p. p)) (λ κs a r r' ws ws' p q. (same p.answer q.answer, refl))

pub tied_write_log : Tied writing10-said.write_log.ended writing10.write_log.Reads.Asked writing10.write_log.Reads.Post (λ κs a r ws. WriteGiven (fits10 a.1.0) (page10 a.1.0) a.0.now r ws.0)
tied_write_log = by (say (λ κs a. tt) (λ κs a r ws p. p)) (λ κs a r r' ws ws' p q. let e = emitted_once _ _ _ r r' ws.0 ws'.0 p q in (e.0, λ i. (e.1 i, (tt, tt))))

pub tied_count_other_bytes : Tied others10-said.count_other_bytes.ended others10.count_other_bytes.Reads.Asked others10.count_other_bytes.Reads.Post (λ κs a r ws. OtherBytesGiven a.0.now r)
tied_count_other_bytes = by (say (λ κs a. tt) (λ κs a r ws p. p)) (λ κs a r r' ws ws' p q. (same p.answer q.answer, refl))
