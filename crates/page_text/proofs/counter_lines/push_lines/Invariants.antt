use Rattle.std.proofs.Common.{◌≡◌, ◌+◌, ◌*◌, ◌≤◌, ◌++◌, length, take}
use Rattle.page_text.specs.Counters.{lines_text}
use Rattle.page_text.proofs.counter_lines.push_lines.Given as goal

abbrev pub invariant-loop-number : goal.invariant-loop-number
invariant-loop-number l = record {
  bytes : l.text.items ≡ l.fn.text.items ++ lines_text (take l.number-index l.counters);
  room : length l.text.items ≤ length l.fn.text.items + 43 * l.number-index;
}
