-- Each public function's own contract: it asks nothing, and two answers which it allows are equal; and where nothing that is proved goes by it, what it says.
use Rattle.std.proofs.Common.{refl}
use Rattle.identity.specs.Words.{fits_identity}
use Rattle.identity.specs.Page.{identity_page}
use Rattle.identity.specs.Read.{IdentityGiven}
use Rattle.frames.specs.Emit.{WriteGiven}
use Rattle.bits.specs.Contract.{Sole, Tied}
use Rattle.bits.proofs.Tying.{same, say, sole, by}
use Rattle.frames.proofs.EmitLaws.{emitted_once}
use Rattle.identity.proofs.features
use Rattle.identity.specs.contracts.features as features-said
use Rattle.identity.proofs.page
use Rattle.identity.specs.contracts.page as page-said
use Rattle.identity.proofs.reading
use Rattle.identity.specs.contracts.reading as reading-said
use Rattle.identity.proofs.words
use Rattle.identity.specs.contracts.words as words-said
use Rattle.identity.proofs.writing
use Rattle.identity.specs.contracts.writing as writing-said

pub tied_word : Sole features-said.Features.word.ended features.Features.word.Reads.Asked features.Features.word.Reads.Post
tied_word = sole (λ κs a. tt) (λ κs a r r' ws ws' p q. (same p q, refl))

pub tied_fits : Sole words-said.Identity.fits.ended words.Identity.fits.Reads.Asked words.Identity.fits.Reads.Post
tied_fits = sole (λ κs a. tt) (λ κs a r r' ws ws' p q. (same p q, refl))

pub tied_word_bytes : Sole words-said.Identity.word_bytes.ended words.Identity.word_bytes.Reads.Asked words.Identity.word_bytes.Reads.Post
tied_word_bytes = sole (λ κs a. tt) (λ κs a r r' ws ws' p q. (same p q, refl))

pub tied_page_bytes : Sole page-said.page_bytes.ended page.page_bytes.Reads.Asked page.page_bytes.Reads.Post
tied_page_bytes = sole (λ κs a. tt) (λ κs a r r' ws ws' p q. (same p q, refl))

pub tied_page : Sole words-said.Identity.page.ended words.Identity.page.Reads.Asked words.Identity.page.Reads.Post
tied_page = sole (λ κs a. tt) (λ κs a r r' ws ws' p q. (same p q, refl))

pub tied_write_identity : Tied writing-said.write_identity.ended writing.write_identity.Reads.Asked writing.write_identity.Reads.Post (λ κs a r ws. WriteGiven (fits_identity a.1.0) (identity_page a.1.0) a.0.now r ws.0)
tied_write_identity = by (say (λ κs a. tt) (λ κs a r ws p. p)) (λ κs a r r' ws ws' p q. let e = emitted_once _ _ _ r r' ws.0 ws'.0 p q in (e.0, λ i. (e.1 i, (tt, tt))))

pub tied_read_identity : Tied reading-said.read_identity.ended reading.read_identity.Reads.Asked reading.read_identity.Reads.Post (λ κs a r ws. IdentityGiven a.0.now r)
tied_read_identity = by (say (λ κs a. tt) (λ κs a r ws p. p)) (λ κs a r r' ws ws' p q. (same p.answer q.answer, refl))
