-- Each public function's own contract: it asks nothing, and two answers which it allows are equal.
use Rattle.std.proofs.Common.{refl}
use Rattle.bits.specs.Contract.{Sole}
use Rattle.bits.proofs.Tying.{same, sole}
use Rattle.hourly_table.proofs.reasons
use Rattle.hourly_table.specs.contracts.reasons as reasons-said
use Rattle.hourly_table.proofs.tables
use Rattle.hourly_table.specs.contracts.tables as tables-said
use Rattle.hourly_table.proofs.places
use Rattle.hourly_table.specs.contracts.places as places-said
use Rattle.hourly_table.proofs.TableOnce.{given_once}

pub tied_number : Sole reasons-said.TableRefusal.number.ended reasons.TableRefusal.number.Reads.Asked reasons.TableRefusal.number.Reads.Post
tied_number = sole (λ κs a. tt) (λ κs a r r' ws ws' p q. (same p q, refl))

pub tied_table_size : Sole tables-said.table_size.ended tables.table_size.Reads.Asked tables.table_size.Reads.Post
tied_table_size = sole (λ κs a. tt) (λ κs a r r' ws ws' p q. (same p q, refl))

pub tied_write_table : Sole tables-said.write_table.ended tables.write_table.Reads.Asked tables.write_table.Reads.Post
tied_write_table = sole (λ κs a. tt) (λ κs a r r' ws ws' p q. let e = given_once _ _ _ r r' ws.0 ws'.0 p q in (e.0, λ i. (e.1 i, (tt, (tt, tt)))))

pub tied_place_of : Sole places-said.place_of.ended places.place_of.Reads.Asked places.place_of.Reads.Post
tied_place_of = sole (λ κs a. tt) (λ κs a r r' ws ws' p q. (same p.0 q.0, refl))
