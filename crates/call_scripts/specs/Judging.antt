-- What a queued command comes to.
use Rattle.std.specs.Prelude.{false, ◌&&◌, ℕ, List, ◌++◌, codes, Option, Some, None, Result, Ok, Err}
use Rattle.bits.specs.Pick.{pick}
use Rattle.refusals.specs.declared.reasons.Refusal.{Refusal}
use Rattle.frames.specs.Read.{read_frame}
use Rattle.frames.specs.declared.shapes.Frame.{Frame}
use Rattle.frames.specs.declared.shapes.Frame.TheVariants.{Host}
use Rattle.frames.specs.declared.shapes.HostReg.{HostReg}
use Rattle.rules.specs.Act.{heard_act}
use Rattle.rules.specs.Decide.{is_queued}
use Rattle.rules.specs.declared.acts.Act.{Act}
use Rattle.rules.specs.declared.acts.Act.TheVariants.{Accept, Bad, BadAndHalt}
use Rattle.rules.specs.declared.facts.Facts.{Facts}
use Rattle.device.specs.FactsOf.{facts_with}
use Rattle.device.specs.declared.state.Device.{Device}
use Rattle.call_scripts.specs.Answers.{refused_text, what_text}
use Rattle.call_scripts.specs.Rows.{hex_text}

-- a register frame of the host is a queued command: 60h or 61h, with C
abbrev pub queued_in : Result Frame Refusal → Option HostReg
queued_in (Ok (Host h)) = pick (h.command_bit && is_queued h) (Some h) None
queued_in _ = None

-- the queued command that bytes are, if they are one
abbrev pub queued_command : List ℕ → Option HostReg
queued_command bytes = queued_in (read_frame bytes)

-- what is looked at where all is lent that a call may want
unfoldable pub facts_all_lent : Device → Facts
facts_all_lent d = facts_with d None false false 8196

-- what the command makes the device do then [script-judge]
abbrev pub judged : Device → HostReg → Result Act Refusal
judged d h = heard_act (facts_all_lent d) (Ok (Host h))

-- good, or bad with the error byte, and whether the device halts for it, or the refusal; it comes to nothing else [script-judge]
abbrev pub verdict_text : Result Act Refusal → List ℕ
verdict_text (Ok (Accept queued)) = codes "good\n"
verdict_text (Ok (Bad reply)) = codes "bad " ++ hex_text reply.error ++ codes "\n"
verdict_text (Ok (BadAndHalt fault)) = codes "halt " ++ hex_text fault.error ++ codes "\n"
verdict_text (Ok _) = what_text
verdict_text (Err refusal) = refused_text refusal
