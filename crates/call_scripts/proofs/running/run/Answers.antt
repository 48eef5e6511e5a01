use Rattle.std.proofs.KnownBytes.{Consumes-nil}
use Rattle.events.specs.declared.errors.RunError.TheVariants.{Input, TooMany}
use Rattle.call_scripts.proofs.Came.{none_yet, byte_more, byte_lost, finished, over}
use Rattle.call_scripts.proofs.running.run.Goals as goal

pub loop-init : goal.loop-init
loop-init g c = none_yet _ _ _ _ c.new-line.ensures.items

-- one byte more
pub loop-preserved : goal.loop-preserved
loop-preserved g c =
    let some = c.in-Ok-Some in
    let taken = c.in_ok-take_byte-in-Ok-Some.ensures in
    byte_more c.loop.invariant some.byte (rw some.field-0-is at some.ensures.ok) taken.bench taken.line taken.text

-- what it prints is lost
pub returns-in_err-take_byte-in-Ok-Some : goal.returns-in_err-take_byte-in-Ok-Some
returns-in_err-take_byte-in-Ok-Some g c =
    let some = c.in-Ok-Some in
    let handed = c.from_residual.ensures in
    byte_lost c.loop.invariant _ _ _ c.from_residual.result _ some.byte (rw some.field-0-is at some.ensures.ok) handed.0 handed.1 c.in_err-take_byte-in-Ok-Some.ensures.err

-- the input ends
pub returns-in-Ok-None : goal.returns-in-Ok-None
returns-in-Ok-None g c =
    let none = c.in-Ok-None in
    finished c.loop.invariant _ _ c.finish.result (rw none.field-0-is at none.ensures.ok) c.finish.ensures

-- a read fails
pub returns-in-Err : goal.returns-in-Err
returns-in-Err g c = over c.loop.invariant _ _ (Input c.in-Err.failed) c.stop.result tt c.in-Err.ensures.err c.stop.ensures

-- the last number
pub returns : goal.returns
returns g c = over c.loop.invariant _ _ TooMany c.stop-2.result tt (Consumes-nil _) c.stop-2.ensures
