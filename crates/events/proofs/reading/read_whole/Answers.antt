use lib.Seq.{take-append_seam}
use Rattle.std.proofs.Common.{length-take-le, take, arith, List, ◌++◌, ◌≡◌, ◌+◌, ◌∙◌, ℕ, [], ◌∷◌, sym, ap, refl, subst}
use Rattle.std.specs.Io.KnownBytes.{Consumes}
use Rattle.events.specs.declared.kinds.InputEnd.TheVariants as ends
use Rattle.events.specs.Kinds.{kind_named, body_of}
use Rattle.events.specs.Grammar.{NoEventBegins}
use Rattle.events.specs.Reading.{IsEnd}
use Rattle.events.proofs.Fronts.{on_err}
use Rattle.events.proofs.Nexts.{short_body, begun, ended, ends_clean, stops, none_there, none_named, short_behind, stops_short, room_for}
use Rattle.events.proofs.Parts.{body_stuck, body_short, body_whole}
use Rattle.events.proofs.Spelling.{spelt}
use Rattle.events.proofs.reading.read_whole.Goals as goal

pub returns-in_err-byte-clause-err : goal.returns-in_err-byte-clause-err
returns-in_err-byte-clause-err g c = on_err c.from_residual.result _ ([], c.in_err-byte.ensures.err, none_there [] refl)

pub returns-in_default-clause-ok : goal.returns-in_default-clause-ok
returns-in_default-clause-ok g c = let read = rw c.in_default.is at c.in_ok-byte.ensures.ok in ended (IsEnd ends.Clean) _ _ [] read.0 read.1 ends_clean

pub returns-in_default-from_byte-clause-ok : goal.returns-in_default-from_byte-clause-ok
returns-in_default-from_byte-clause-ok g c =
    let read = rw c.in-Some.is at c.in_ok-byte.ensures.ok in
    begun (IsEnd ends.NoEvent) _ _ _ read (λ more. stops c.in-Some.byte more (none_named (c.in-Some.byte ∷ more) (sym c.in_default-from_byte.ensures)))

pub returns-in_err-read_body-clause-err : goal.returns-in_err-read_body-clause-err
returns-in_err-read_body-clause-err g c =
    let read = rw c.in-Some.is at c.in_ok-byte.ensures.ok in
    let all = room_for c.in-Some.byte c.in-Some-from_byte.kind _ (sym c.in-Some-from_byte.ensures) c.body_length-body.ensures _ c.read_body.new.event refl c.read_body.ensures.same in
    on_err c.from_residual-in_err-read_body.result _
    (body_stuck NoEventBegins c.in-Some.byte c.body_length-body.result (short_behind c.in-Some.byte c.in-Some-from_byte.kind _ (sym c.in-Some-from_byte.ensures) c.body_length-body.ensures) _ _ _ read c.read_body.new.event all c.read_body.ensures.first c.in_err-read_body.ensures.err)

pub returns-then-branch-body-clause-ok : goal.returns-then-branch-body-clause-ok
returns-then-branch-body-clause-ok g c =
    let read = rw c.in-Some.is at c.in_ok-byte.ensures.ok in
    let all = room_for c.in-Some.byte c.in-Some-from_byte.kind _ (sym c.in-Some-from_byte.ensures) c.body_length-body.ensures _ c.read_body.new.event refl c.read_body.ensures.same in
    body_short (IsEnd ends.NoEvent) c.in-Some.byte c.body_length-body.result (stops_short c.in-Some.byte c.in-Some-from_byte.kind _ (sym c.in-Some-from_byte.ensures) c.body_length-body.ensures) _ _ _ read c.read_body.new.event all c.read_body.ensures.first _ c.in_ok-read_body.ensures.ok c.if-branch-body.true

pub returns-clause-ok : goal.returns-clause-ok
returns-clause-ok g c =
    let read = rw c.in-Some.is at c.in_ok-byte.ensures.ok in
    let event = c.read_body.new.event in
    let kind = c.in-Some-from_byte.kind in
    let all = room_for c.in-Some.byte kind _ (sym c.in-Some-from_byte.ensures) c.body_length-body.ensures _ event refl c.read_body.ensures.same in
    let whole = body_whole NoEventBegins c.in-Some.byte c.body_length-body.result (short_behind c.in-Some.byte kind _ (sym c.in-Some-from_byte.ensures) c.body_length-body.ensures) _ _ _ read event all c.read_body.ensures.first _ c.in_ok-read_body.ensures.ok c.if-branch-body.false in
    let size = all ∙ ap (λ (n : ℕ). n + 1) c.body_length-body.ensures in
    let b = spelt event c.read_body.ensures.bytes kind (ap kind_named c.read_body.ensures.first ∙ sym c.in-Some-from_byte.ensures) size in
    -- the room behind them is not looked at
    let front : (rest : List ℕ) → take (body_of kind + 1) (event ++ rest) ≡ event = λ rest. subst (λ (m : ℕ). take m (event ++ rest) ≡ event) size (take-append_seam event rest) in
    rw (c.new.ensures, front _) (b.0, subst (Consumes _ _) b.1 whole)

pub slice_bounds-read_body-end : goal.slice_bounds-read_body-end
slice_bounds-read_body-end g c = sym (length-take-le _ _ (omega (arith, c.body_length-body.ensures, short_body c.in-Some-from_byte.kind)))
