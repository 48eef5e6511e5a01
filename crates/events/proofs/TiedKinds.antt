-- What the contracts of the kinds of events say: by these a caller reads a stream of events by himself.
use Rattle.std.proofs.Common.{refl, ◌≡◌}
use Rattle.bits.specs.Contract.{Sole, Tied}
use Rattle.bits.proofs.Tying.{same, sole, say, by}
use Rattle.events.specs.Kinds.{kind_named, body_of}
use Rattle.events.proofs.kinds
use Rattle.events.specs.contracts.kinds as kinds-said

-- the kind that is answered is the one that the byte names, if it names one
pub kind_told : Tied kinds-said.Kind.from_byte.ended kinds.Kind.from_byte.Reads.Asked kinds.Kind.from_byte.Reads.Post (λ κs a r ws. r ≡ kind_named a.0)
kind_told = by (say (λ κs a. tt) (λ κs a r ws p. p)) (λ κs a r r' ws ws' p q. (same p q, refl))

pub tied_from_byte : Sole kinds-said.Kind.from_byte.ended kinds.Kind.from_byte.Reads.Asked kinds.Kind.from_byte.Reads.Post
tied_from_byte = sole kind_told.promise.free kind_told.single

-- the length that is answered is that of the kind's body
pub length_told : Tied kinds-said.Kind.body_length.ended kinds.Kind.body_length.Reads.Asked kinds.Kind.body_length.Reads.Post (λ κs a r ws. r ≡ body_of a.0)
length_told = by (say (λ κs a. tt) (λ κs a r ws p. p)) (λ κs a r r' ws ws' p q. (same p q, refl))

pub tied_body_length : Sole kinds-said.Kind.body_length.ended kinds.Kind.body_length.Reads.Asked kinds.Kind.body_length.Reads.Post
tied_body_length = sole length_told.promise.free length_told.single
