use Rattle.std.proofs.Common.{◌≡◌, ◌++◌, ◌≤◌}
use Rattle.std.specs.Char.Escape.{escape_ascii}
use Rattle.std.specs.Char.Iter.{escape_byte_rest, escape_byte_end}
use Rattle.hourly_run.proofs.saying.push_escaped.Given as goal

abbrev pub invariant-loop-c : goal.invariant-loop-c
invariant-loop-c l = record {
  bound : escape_byte_end l.c-iterator ≤ 4;
  pushed : l.text.items ++ escape_byte_rest l.c-iterator ≡ l.fn.text.items ++ escape_ascii l.fn.byte;
}
