-- What a host frame makes the device do where it is not turned down: the first rule that holds.
use Rattle.std.specs.Prelude.{Bool, not, ◌&&◌, ◌||◌, ℕ, eqb, Option, Some, None, Result, Ok, Err}
use Rattle.bits.specs.Pick.{pick}
use Rattle.bits.specs.Bit.{bit_in}
use Rattle.frames.specs.Shared.{tag_of, sectors_of, srst_of}
use Rattle.frames.specs.Pages.{page_named}
use Rattle.frames.specs.declared.log_pages.LogPage.{LogPage}
use Rattle.frames.specs.declared.log_pages.LogPage.TheVariants.{Errors, Counters}
use Rattle.frames.specs.declared.shapes.HostReg.{HostReg}
use Rattle.frames.specs.declared.shapes.Frame.{Frame}
use Rattle.frames.specs.declared.shapes.Frame.TheVariants.{Host, Data, Bist}
use Rattle.refusals.specs.declared.reasons.Refusal.{Refusal}
use Rattle.device_state.specs.Range.{too_far}
use Rattle.rules.specs.Errors.{error_byte}
use Rattle.rules.specs.QueuedRule.{tag_refused, queued_rule}
use Rattle.rules.specs.OtherRule.{other_rule, log_zeroes}
use Rattle.std.specs.Option.{option_map}
use Rattle.rules.specs.declared.command_rules.PageAsked.{PageAsked}
use Rattle.rules.specs.declared.command_rules.PageAsked.TheVariants.{Log, Identity}
use Rattle.rules.specs.declared.command_rules.Bad as verdict
use Rattle.rules.specs.declared.command_rules.Bad.TheVariants.{Only, Halts}
use Rattle.device_state.specs.State.{echo_of}
use Rattle.rules.specs.Positions.{move_of}
use Rattle.device_state.specs.declared.shapes.Echo.{Echo}
use Rattle.device_state.specs.declared.shapes.Entry.{Entry}
use Rattle.rules.specs.declared.facts.Facts.{Facts}
use Rattle.rules.specs.declared.acts.Act.{Act}
use Rattle.rules.specs.declared.acts.Act.TheVariants.{Nothing, Bad, BadAndHalt, Accept, Log10, Log11, Identify, Reset, Release, ZeroCounters, Store}

-- bad: status 41h, I 1, error as named; no halt
abbrev pub bad : HostReg → ℕ → Act
bad h e = Bad (record { error = e; task = h.task })

-- bad, and a halt whose record holds this command's bytes
abbrev pub fault : HostReg → Option ℕ → ℕ → Act
fault h t e = BadAndHalt (record { tag = t; error = e; echo = echo_of h.task })

-- a bad command: bad alone, or with a halt, for a tag if it was queued
abbrev pub bad_does : HostReg → Option ℕ → verdict.Bad → Act
bad_does h t (Only e) = bad h (error_byte e)
bad_does h t (Halts e) = fault h t (error_byte e)

-- the tag that a queued command names
abbrev pub tag_asked : HostReg → ℕ
tag_asked h = tag_of h.task.count

-- the sector count that it names (0 = 65,536) [sector-count]
abbrev pub count_asked : HostReg → ℕ
count_asked h = sectors_of h.features h.features_high

-- the entry of an accepted command: nothing has moved [queued]
abbrev pub entry_for : HostReg → Entry
entry_for h = record {
  write = eqb h.command 0x61;
  first = h.task.lba;
  count = count_asked h;
  moved = 0;
  features = h.features;
  features_high = h.features_high;
  echo = echo_of h.task;
}

-- what a rule of a queued command makes the device do; a halt is for its tag
abbrev pub queued_does : HostReg → Result Unit verdict.Bad → Act
queued_does h (Ok _) = Accept (record { tag = tag_asked h; entry = entry_for h })
queued_does h (Err b) = bad_does h (Some (tag_asked h)) b

-- queued command: what the first rule that holds says [queued-halted] [queued-tag] [queued-range] [queued-good]
unfoldable pub queued_act : Facts → HostReg → Act
queued_act v h =
    queued_does h
    (queued_rule v.status.halted (tag_refused v.settings.depth (tag_asked h) (bit_in 32 v.status.outstanding (tag_asked h)))
    (too_far v.settings.capacity h.task.lba (count_asked h)))

-- READ LOG EXT (2Fh) is well-formed if byte 4 is 10h or 11h, bytes 5 and 9 are 0, byte 12 is 1 and 13 is 0: the page that it asks for, if it does [log-form]
unfoldable pub log_page : ℕ → Echo → Option LogPage
log_page command e = pick (eqb command 0x2F && (eqb e.b5 0 && eqb e.b9 0) && (eqb e.b12 1 && eqb e.b13 0)) (page_named e.b4) None

-- IDENTIFY DEVICE (ECh), whatever its other bytes [identify]
abbrev pub identifies : HostReg → Bool
identifies h = eqb h.command 0xEC

-- the page that a command asks for, if it asks for one
abbrev pub page_asked : HostReg → Option PageAsked
page_asked h = pick (identifies h) (Some Identity) (option_map (λ page. Log page) (log_page h.command (echo_of h.task)))

-- what a rule of any other command makes the device do; a halt is for no tag [other-halted] [other-between]
abbrev pub other_does : HostReg → Result PageAsked verdict.Bad → Act
other_does h (Ok (Log Errors)) = Log10 h.task
other_does h (Ok (Log Counters)) = Log11 (record { zero = log_zeroes h.features; task = h.task })
other_does h (Ok Identity) = Identify h.task
other_does h (Err b) = bad_does h None b

-- any other command: what the first rule that holds says [other-halted] [other-between]
unfoldable pub other_act : Facts → HostReg → Act
other_act v h = other_does h (other_rule v.status.halted (page_asked h) (not (eqb v.status.outstanding 0)))

-- control frame with SRST: reset; with SRST 0: if held, release; otherwise nothing [srst] [release]
unfoldable pub control_act : Facts → HostReg → Act
control_act v h = pick (srst_of h.control) Reset (pick v.status.held Release Nothing)

-- 60h and 61h are queued [queued]
abbrev pub is_queued : HostReg → Bool
is_queued h = eqb h.command 0x60 || eqb h.command 0x61

-- C 0 is a control frame; C 1 a command, queued or any other [command-or-control]
unfoldable pub register_act : Facts → HostReg → Act
register_act v h = pick (not h.command_bit) (control_act v h) (pick (is_queued h) (queued_act v h) (other_act v h))

-- by its kind: host data goes to the medium; BIST Activate zeroes the counters; a frame of any other kind is always turned down [bist] [host-data]
unfoldable pub frame_act : Facts → Result Frame Refusal → Act
frame_act v (Ok (Host h)) = register_act v h
frame_act v (Ok (Data n)) = Store (move_of v.status v.entry n)
frame_act v (Ok Bist) = ZeroCounters
frame_act v _ = Nothing
