use Rattle.std.proofs.Common.{◌∙◌, ◌||◌, true, refl, ap, Ok, Err, []}
use Rattle.std.proofs.KnownBytes.{Consumes-nil}
use Rattle.std.specs.Io.Buffered.{reader_remaining}
use Rattle.events.specs.declared.errors.RunError.TheVariants.{Input}
use Rattle.events.specs.declared.kinds.InputEnd.TheVariants as ends
use Rattle.events.specs.Settings.{NoSettingsBegin}
use Rattle.events.specs.Running.{nothing, ReadsOn, Plays, NoneFollows, end_behind, run_lines}
use Rattle.streams.proofs.OnErrs.{orf}
use Rattle.events.proofs.Nexts.{known}
use Rattle.events.proofs.Starting.{none_gathered}
use Rattle.events.proofs.Runs.{finished}
use Rattle.events.proofs.running.run.Goals as goal

-- no settings were read: the run ends so
pub returns-in-Ok-None : goal.returns-in-Ok-None
unfolding Plays run_lines NoneFollows end_behind
returns-in-Ok-None g c = λ calm calm_out.
    let read = rw c.in-Ok-None.field-0-is at c.in-Ok-None.ensures.ok in
    finished c.args.traced _ _ _ _ _ nothing tt (Consumes-nil (reader_remaining g.R.Read.remaining c.args.reader.now.inner)) _ _ (Ok ends.NoEvent) _ (c.in-Ok-None.ensures.noted ∙ orf _ ∙ calm) (known NoSettingsBegin _ _ (λ rest n. (n, refl)) read) (c.finish.ensures.goes _ [] (none_gathered _ calm_out c.new-lines.ensures))

pub returns-in-Err : goal.returns-in-Err
unfolding Plays ReadsOn run_lines NoneFollows
returns-in-Err g c = λ calm calm_out.
    finished c.args.traced _ _ _ _ _ nothing tt (Consumes-nil (reader_remaining g.R.Read.remaining c.args.reader.now.inner)) _ _ (Err (Input c.in-Err.failed)) _ (c.in-Err.ensures.noted ∙ ap (λ b. b || true) calm) (tt, c.in-Err.ensures.err) (c.finish-in-Err.ensures.goes _ [] (none_gathered _ calm_out c.new-lines.ensures))
