use Rattle.std.proofs.Common.{◌≡◌, ℕ, ◌<◌, ◌^◌, true, get_or}
use Rattle.std.specs.Char.{is_ascii_digit}
use Rattle.hourly_run.proofs.Numerals.{SoFar}
use Rattle.hourly_run.proofs.hours.hour_of.Given as goal

abbrev pub invariant-loop-digit : goal.invariant-loop-digit
invariant-loop-digit l = record {
  small : l.hour < 2 ^ 64;
  told : SoFar l.digits l.digit-index l.hour;
  digits : (k : ℕ) → k < l.digit-index → is_ascii_digit (get_or l.digits k 0) ≡ true;
}
