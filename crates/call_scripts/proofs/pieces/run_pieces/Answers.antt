use Rattle.std.proofs.Common.{rules, ◌≡◌, ℕ, List, None, ap, ◌∙◌}
use Rattle.std.specs.Io.Buffered.{reader_remaining}
use Rattle.device.specs.Device.{zero_device}
use Rattle.call_scripts.specs.Bench.{kept}
use Rattle.call_scripts.specs.Scripts.{fresh}
use Rattle.call_scripts.proofs.pieces.run_pieces.Goals as goal

-- what is read in pieces is what is left of the reader
pub returns : goal.returns
unfolding fresh
returns g c =
    let left : reader_remaining g.R.Read.remaining c.in-Ok-with_capacity.pieces ≡ g.R.Read.remaining c.args.reader = search rules in
    let bench : c.new.result ≡ fresh c.args.size = c.new.ensures ∙ ap (λ (m : List ℕ). kept zero_device m None) (c.deref_mut.ensures.value ∙ c.in-Ok.ensures) in
    (reader_remaining g.R.Read.remaining c.run.new.reader, rw (left, bench) at c.run.ensures)
