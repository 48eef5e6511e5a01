use Rattle.std.proofs.Common.{◌≡◌, ◌≤◌, length, take}
use Rattle.page_text.specs.HexText.{digits_in}
use Rattle.page_text.proofs.parsing.digits.Given as goal

abbrev pub invariant-loop-c : goal.invariant-loop-c
invariant-loop-c l = record {
  sized : length l.digits ≡ 1024;
  fits : l.count ≤ 1024;
  front : take l.count l.digits ≡ digits_in (take l.c-index l.text);
}
