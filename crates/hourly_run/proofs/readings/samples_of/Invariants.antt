use Rattle.std.proofs.Common.{◌≡◌, map, take}
use Rattle.hourly_table.specs.Samples.{sampled}
use Rattle.hourly_run.specs.Kept.{reading}
use Rattle.hourly_run.proofs.readings.samples_of.Given as goal

abbrev pub invariant-loop-reading : goal.invariant-loop-reading
invariant-loop-reading l = map sampled l.samples.items ≡ map reading (take l.reading-index l.readings)
