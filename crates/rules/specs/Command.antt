-- The commands that the device tells apart, by their bytes.
use Rattle.std.specs.Prelude.{ℕ, eqb, Option, Some, None}
use Rattle.bits.specs.Pick.{pick}
use Rattle.rules.specs.declared.command.Command.{Command}
use Rattle.rules.specs.declared.command.Command.TheVariants.{ReadLogExt, IdentifyDevice, ReadFpdmaQueued, WriteFpdmaQueued}

-- the command that a byte names: 2Fh, ECh, 60h and 61h alone
abbrev pub command_named : ℕ → Option Command
command_named byte = pick (eqb byte 0x2F) (Some ReadLogExt) (pick (eqb byte 0xEC) (Some IdentifyDevice) (pick (eqb byte 0x60) (Some ReadFpdmaQueued) (pick (eqb byte 0x61) (Some WriteFpdmaQueued) None)))
