-- What a command asks of the logs: which page, and whether the counters are zeroed.
use Rattle.std.specs.Prelude.{Bool, ◌&&◌, ℕ, ◌%◌, eqb}
use Rattle.bits.specs.Bit.{bit_in}
use Rattle.frames.specs.declared.shapes.HostReg.{HostReg}

-- READ LOG EXT (2Fh) of a page, which byte 4 names
abbrev pub reads_log : ℕ → HostReg → Bool
reads_log page h = h.command_bit && (eqb h.command 0x2F && eqb (h.task.lba % 256) page)

-- page 11h with features bit 0, which zeroes the counters once it is answered with the page
abbrev pub zeroes_log : HostReg → Bool
zeroes_log h = reads_log 0x11 h && bit_in 8 h.features 0
