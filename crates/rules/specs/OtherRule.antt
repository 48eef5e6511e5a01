-- Which rule holds for a command that is not queued.
use Rattle.std.specs.Prelude.{Bool, true, false, not, ◌&&◌, ℕ, Option, Some, Result, Err}
use Rattle.std.specs.Option.{ok_or}
use Rattle.bits.specs.Pick.{pick}
use Rattle.bits.specs.Bit.{bit_in}
use Rattle.frames.specs.declared.log_pages.LogPage.TheVariants.{Errors, Counters}
use Rattle.rules.specs.declared.errors.CommandError.TheVariants.{Aborted}
use Rattle.rules.specs.declared.command_rules.PageAsked.{PageAsked}
use Rattle.rules.specs.declared.command_rules.PageAsked.TheVariants.{Log, Identity}
use Rattle.rules.specs.declared.command_rules.Bad.{Bad}
use Rattle.rules.specs.declared.command_rules.Bad.TheVariants.{Only, Halts}

-- page 10h is asked for
abbrev pub asks_errors : Option PageAsked → Bool
asks_errors (Some (Log Errors)) = true
asks_errors _ = false

-- page 11h is asked for
abbrev pub asks_counters : Option PageAsked → Bool
asks_counters (Some (Log Counters)) = true
asks_counters _ = false

-- IDENTIFY DEVICE is asked for
abbrev pub asks_identity : Option PageAsked → Bool
asks_identity (Some Identity) = true
asks_identity _ = false

-- any other command: halted and not a well-formed READ LOG EXT of page 10h: bad; something outstanding: bad, halt; the page that it asks for, 10h, 11h or that of IDENTIFY DEVICE; otherwise bad, no halt [other-halted] [other-between] [other-bad]
abbrev pub other_rule : Bool → Option PageAsked → Bool → Result PageAsked Bad
other_rule halted page busy = pick (halted && not (asks_errors page)) (Err (Only Aborted)) (pick busy (Err (Halts Aborted)) (ok_or page (Only Aborted)))

-- page 11h with features bit 0 zeroes the counters [log-zeroes]
abbrev pub log_zeroes : ℕ → Bool
log_zeroes features = bit_in 8 features 0
