-- The record of a fault.
use Rattle.std.specs.Prelude.{true, is_none, unwrap_or}
use Rattle.device_state.specs.declared.shapes.ErrorRecord.{ErrorRecord}
use Rattle.rules.specs.declared.acts.Fault.{Fault}

-- set: with the tag of a queued command, or NQ and tag 0; its error and its bytes [record-set]
abbrev pub record_of : Fault → ErrorRecord
record_of f = record { set = true; nq = is_none f.tag; tag = unwrap_or f.tag 0; error = f.error; echo = f.echo }
