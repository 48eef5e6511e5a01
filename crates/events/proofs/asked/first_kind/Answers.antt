use Rattle.std.proofs.Common.{◌≡◌, ◌+◌, ◌<◌, sym, arith, length}
use Rattle.events.specs.Kinds.{body_of}
use Rattle.events.proofs.Spelling.{front_is}
use Rattle.events.proofs.Nexts.{short_body, none_there, none_named, none_whole}
use Rattle.events.proofs.asked.first_kind.Goals as goal

pub overflow_add-size : goal.overflow_add-size
overflow_add-size c = omega (arith, c.body_length-size.ensures, short_body c.in_ok-kind.kind)

pub returns-in_err-first : goal.returns-in_err-first
returns-in_err-first c = rw c.from_residual.ensures (none_there c.args.bytes.now c.in_err-first.ensures.value)

pub returns-in_err-kind : goal.returns-in_err-kind
returns-in_err-kind c = rw c.from_residual-in_err-kind.ensures (none_named c.args.bytes.now (rw (c.in_ok-first.ensures.item.3.1 0) at (sym c.in_err-kind.ensures)))

pub returns-then-bytes-size : goal.returns-then-bytes-size
returns-then-bytes-size c =
    let first = c.in_ok-first.ensures.item.3.1 0 in
    let short : length c.args.bytes.now < body_of c.in_ok-kind.kind + 1 = omega (arith, c.body_length-size.ensures, c.if-bytes-size.true) in
    none_whole c.args.bytes.now c.in_ok-kind.kind (sym (rw first at c.in_ok-kind.ensures)) short

pub returns : goal.returns
returns c =
    let first = c.in_ok-first.ensures.item.3.1 0 in
    let size : c.body_length-size.result + 1 ≡ body_of c.in_ok-kind.kind + 1 = omega (arith, c.body_length-size.ensures) in
    record { size = size; begins = front_is c.args.bytes.now (λ i. omega (arith, c.type_inv.bytes i)) c.in_ok-kind.kind _ (sym (rw first at c.in_ok-kind.ensures)) size c.if-bytes-size.false }
