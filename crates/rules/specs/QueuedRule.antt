-- Which rule holds for a queued command.
use Rattle.std.specs.Prelude.{Bool, ◌||◌, ℕ, leb, Result, Ok, Err}
use Rattle.bits.specs.Pick.{pick}
use Rattle.rules.specs.declared.errors.CommandError.TheVariants.{Aborted, IdNotFound}
use Rattle.rules.specs.declared.command_rules.Bad.{Bad}
use Rattle.rules.specs.declared.command_rules.Bad.TheVariants.{Only, Halts}

-- queued command, 2: tag at or above the depth, or already outstanding [queued-tag]
abbrev pub tag_refused : ℕ → ℕ → Bool → Bool
tag_refused depth tag busy = leb depth tag || busy

-- queued command, first rule that holds: 1 halted: bad 04h; 2 tag: bad 04h, halt; 3 first sector + count above capacity: bad 10h, halt; 4 otherwise good [queued-halted] [queued-tag] [queued-range] [queued-good]
abbrev pub queued_rule : Bool → Bool → Bool → Result Unit Bad
queued_rule halted tag far = pick halted (Err (Only Aborted)) (pick tag (Err (Halts Aborted)) (pick far (Err (Halts IdNotFound)) (Ok tt)))
