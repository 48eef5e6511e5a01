-- Each public function's own contract: it asks nothing, it says what stands here, of arguments too that no proved caller gives, and two answers which it allows are equal.
use Rattle.std.proofs.Common.{◌≡◌, refl}
use Rattle.counters.specs.Counts.{single, tallied}
use Rattle.counters.specs.Rows.{keeps_both, kept, row_of}
use Rattle.counters.specs.Shown.{on_row}
use Rattle.bits.specs.Contract.{Tied}
use Rattle.bits.proofs.Tying.{same, say, by}
use Rattle.counters.proofs.rows
use Rattle.counters.specs.contracts.rows as rows-said
use Rattle.counters.proofs.shown
use Rattle.counters.specs.contracts.shown as shown-said
use Rattle.counters.proofs.counts
use Rattle.counters.specs.contracts.counts as counts-said

pub tied_row_of : Tied rows-said.row_of.ended rows.row_of.Reads.Asked rows.row_of.Reads.Post (λ κs a r ws. r ≡ row_of a.0)
tied_row_of = by (say (λ κs a. tt) (λ κs a r ws p. p)) (λ κs a r r' ws ws' p q. (same p q, refl))

pub tied_is_kept : Tied rows-said.is_kept.ended rows.is_kept.Reads.Asked rows.is_kept.Reads.Post (λ κs a r ws. r ≡ kept a.0 a.1.0)
tied_is_kept = by (say (λ κs a. tt) (λ κs a r ws p. p)) (λ κs a r r' ws ws' p q. (same p q, refl))

pub tied_keeps_both : Tied rows-said.keeps_both.ended rows.keeps_both.Reads.Asked rows.keeps_both.Reads.Post (λ κs a r ws. r ≡ keeps_both a.0)
tied_keeps_both = by (say (λ κs a. tt) (λ κs a r ws p. p)) (λ κs a r r' ws ws' p q. (same p q, refl))

pub tied_shown_at : Tied shown-said.shown_at.ended shown.shown_at.Reads.Asked shown.shown_at.Reads.Post (λ κs a r ws. r ≡ on_row a.0 a.1.0.now a.1.1.0)
tied_shown_at = by (say (λ κs a. tt) (λ κs a r ws p. p)) (λ κs a r r' ws ws' p q. (same p q, refl))

pub tied_tally : Tied counts-said.tally.ended counts.tally.Reads.Asked counts.tally.Reads.Post (λ κs a r ws. ws.0 ≡ tallied a.0.now a.1.0.now)
tied_tally = by (say (λ κs a. tt) (λ κs a r ws p. p)) (λ κs a r r' ws ws' p q. (refl, λ i. (same p q i, (tt, tt))))

pub tied_single : Tied counts-said.single.ended counts.single.Reads.Asked counts.single.Reads.Post (λ κs a r ws. r ≡ single a.0)
tied_single = by (say (λ κs a. tt) (λ κs a r ws p. p)) (λ κs a r r' ws ws' p q. (same p q, refl))
