-- The errors of bad commands, by their bytes.
use Rattle.std.specs.Prelude.{ℕ}
use Rattle.rules.specs.declared.errors.CommandError.{CommandError}
use Rattle.rules.specs.declared.errors.CommandError.TheVariants.{Aborted, IdNotFound}

-- the byte of the error register: 04h (ABRT) for a command that was aborted, 10h (IDNF) for one of a sector that is not there
abbrev pub error_byte : CommandError → ℕ
error_byte Aborted = 0x04
error_byte IdNotFound = 0x10
