use Rattle.std.proofs.Common.{◌≡◌, ◌∙◌, ◌||◌, true, sym, ap, refl, arith, Ok, Err}
use Rattle.events.specs.declared.errors.RunError.TheVariants.{Input, TooMany}
use Rattle.streams.proofs.OnErrs.{orf}
use Rattle.events.proofs.Played.{Reads, then_played, none_yet, passed_on, kept_there, lost, ended, at_end, at_failure, at_last}
use Rattle.events.proofs.running.play_on.Goals as goal
use Rattle.events.proofs.running.play_on.Goals.{in-Some, in-None+else-has_failed-2+in-Ok-Ok}
use Rattle.std.specs.Io.Buffered.{reader_remaining}
use Rattle.streams.specs.Gathered.{held_back, gathering}

pub loop-number-init : goal.loop-number-init
loop-number-init g c = (none_yet _ _ _ _, refl)

-- one event more, from the buffer or behind it
pub loop-number-preserved : goal.loop-number-preserved
loop-number-preserved g c =
    let p = c.loop-number.invariant in
    let more = passed_on p.0 c.pass_much_on.ensures.pushed in
    let m = c.match-read_ahead in
    let new = gathering (g.W.Write.contents m.out.inner) (held_back m.lines) m.out.failed in
    let old = gathering (g.W.Write.contents c.args.out.now.inner) (held_back c.args.lines.now) c.args.out.now.failed in
    let ready : Reads c.args.traced c.args.bench.now old (reader_remaining g.R.Read.remaining c.args.reader.now.inner) (reader_remaining g.R.Read.remaining m.reader.inner) new c.loop-number.bench c.loop-number.number m.event × (m.reader.failed ≡ c.args.reader.now.failed) =
    elim m.branch [
      | in-Some w ↦ rw (w.reader-is, w.out-is, w.lines-is, w.event-is) (record { now = _; played = more; next = w.in-Some.ensures.read }, w.in-Some.ensures.same ∙ p.1)
      | in-None+else-has_failed-2+in-Ok-Ok w ↦ rw (w.reader-is, w.out-is, w.lines-is, w.event-is) (
        record {
          now = _;
          played = passed_on (kept_there more w.in-None.ensures.read) w.pass_on.ensures.pushed;
          next = rw w.in-Ok-Ok.field-0-is at w.in-Ok-Ok.ensures.ok;
        },
        w.in-Ok-Ok.ensures.noted ∙ orf _ ∙ w.in-None.ensures.same ∙ p.1,
      )
    ] in
    (then_played ready.0 c.play_and_tell.ensures.kept c.play_and_tell.ensures.line, ready.1)

-- a write failed
pub returns-then-has_failed : goal.returns-then-has_failed
returns-then-has_failed g c = λ calm s base before taken from line i read.
    let p = c.loop-number.invariant in
    let q = passed_on p.0 c.pass_much_on.ensures.pushed in
    lost q s base before taken from line i read _ _ (p.1 ∙ calm) (sym c.has_failed.ensures ∙ c.if-has_failed.true) tt

pub returns-then-has_failed-2 : goal.returns-then-has_failed-2
returns-then-has_failed-2 g c = λ calm s base before taken from line i read.
    let p = c.loop-number.invariant in
    let q = passed_on (kept_there (passed_on p.0 c.pass_much_on.ensures.pushed) c.in-None.ensures.read) c.pass_on.ensures.pushed in
    lost q s base before taken from line i read _ _ (c.in-None.ensures.same ∙ p.1 ∙ calm) (sym c.has_failed-in-None.ensures ∙ c.if-has_failed-2.true) tt

-- the input ends, cleanly or not
pub returns-in-Ok-Err : goal.returns-in-Ok-Err
returns-in-Ok-Err g c = λ calm s base before taken from line i read.
    let p = c.loop-number.invariant in
    let q = passed_on (kept_there (passed_on p.0 c.pass_much_on.ensures.pushed) c.in-None.ensures.read) c.pass_on.ensures.pushed in
    ended q s base before taken from line i read _ _ _ _ (Ok c.in-Ok-Err.end) _ (c.in-Ok-Err.ensures.noted ∙ orf _ ∙ c.in-None.ensures.same ∙ p.1 ∙ calm) (at_end s q.es taken _ c.in-Ok-Err.end (rw c.in-Ok-Err.field-0-is at c.in-Ok-Err.ensures.ok)) c.finish.ensures

-- a read failed
pub returns-in-Err : goal.returns-in-Err
returns-in-Err g c = λ calm s base before taken from line i read.
    let p = c.loop-number.invariant in
    let q = passed_on (kept_there (passed_on p.0 c.pass_much_on.ensures.pushed) c.in-None.ensures.read) c.pass_on.ensures.pushed in
    ended q s base before taken from line i read _ _ _ _ (Err (Input c.in-Err.failed)) _ (c.in-Err.ensures.noted ∙ ap (λ b. b || true) (c.in-None.ensures.same ∙ p.1 ∙ calm)) (at_failure s q.es taken _ _ c.in-Err.ensures.err) c.finish-in-Err.ensures

-- the last number
pub returns : goal.returns
returns g c = λ calm s base before taken from line i read.
    let p = c.loop-number.invariant in
    ended p.0 s base before taken from line i read _ _ _ _ (Err TooMany) _ (p.1 ∙ calm) (at_last s p.0.es taken _ _ p.0.number (omega (arith, p.0.number, c.loop-number-test.false, c.loop-number.auto.number-end))) c.finish-2.ensures
