-- Registers by default are all zeros.
use Rattle.std.proofs.Common.{rules, ◌≡◌}
use Rattle.frames.specs.contracts.shared.RegistersDefault.TheImpl
use Rattle.frames.specs.declared.shared.Registers.{Registers}

abbrev pub zero_registers : Registers
zero_registers = record {
  kind = 0;
  flags = 0;
  second = 0;
  third = 0;
  task = record { lba = 0; device = 0; count = 0 };
  eleven = 0;
  fifteen = 0;
  bytes = 0;
}

pub default_zeros : (r : Registers) → TheImpl.ghosts.is_default r → r ≡ zero_registers
default_zeros r made = search rules
