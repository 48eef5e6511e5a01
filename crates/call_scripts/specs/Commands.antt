-- What a line of a script asks for.
use Rattle.std.specs.Prelude.{ℕ, List, length, drop, slice_get, Option, Some, None}
use Rattle.bits.specs.Pick.{pick}
use Rattle.device_state.specs.declared.shapes.Settings.{Settings}
use Rattle.rules.specs.declared.event.DeviceEvent.{DeviceEvent}
use Rattle.rules.specs.declared.event.DeviceEvent.TheVariants.{OpenPhase, SendData, FinishTags, MediaError, LinkEvent, LinkTally, Comreset}
use Rattle.call_scripts.specs.Steps.{◌>>=◌}
use Rattle.call_scripts.specs.Words.{asked_text, words_of, number_at, long_at, short_at, byte_at, fits}
use Rattle.call_scripts.specs.Bytes.{bytes_of}
use Rattle.call_scripts.specs.Changes.{change_of}
use Rattle.call_scripts.specs.Judging.{queued_command}
use Rattle.call_scripts.specs.Readings.{reading_of}
use Rattle.call_scripts.specs.Writings.{values_at, writing_of}
use Rattle.call_scripts.specs.Verbs.{verb_of, words_in}
use Rattle.call_scripts.specs.declared.verbs.Verb.{Verb}
use Rattle.call_scripts.specs.declared.verbs.Verb as verb
use Rattle.call_scripts.specs.declared.commands.Command.{Command}
use Rattle.call_scripts.specs.declared.commands.Command as command

-- "power DEPTH CAPACITY MASK"
abbrev pub settings_at : List (List ℕ) → Option Settings
settings_at words = do
  depth ← long_at words 1
  capacity ← long_at words 2
  mask ← short_at words 3
  Some (record { depth = depth; capacity = capacity; mask = mask })

-- "media TAG ERROR SECTOR"
abbrev pub media_at : List (List ℕ) → Option DeviceEvent
media_at words = do
  tag ← byte_at words 1
  error ← byte_at words 2
  sector ← long_at words 3
  Some (MediaError tag error sector)

-- what a verb's words ask for, but where they tell bytes
abbrev pub command_at : List (List ℕ) → Verb → Option Command
command_at words verb.TheVariants.Power = settings_at words >>= (λ s. Some (command.TheVariants.Power s))
command_at words verb.TheVariants.Frame = None
command_at words verb.TheVariants.Judge = None
command_at words verb.TheVariants.Read = None
command_at words verb.TheVariants.Write = do
  room ← number_at words 2 16384
  writing ← writing_of words
  Some (command.TheVariants.Write room writing)
command_at words verb.TheVariants.Data = do
  size ← number_at words 1 8196
  byte ← byte_at words 2
  Some (command.TheVariants.Data size byte)
command_at words verb.TheVariants.Open = byte_at words 1 >>= (λ tag. Some (command.TheVariants.Event (OpenPhase tag)))
command_at words verb.TheVariants.Send = Some (command.TheVariants.Event SendData)
command_at words verb.TheVariants.Finish = long_at words 1 >>= (λ set. Some (command.TheVariants.Event (FinishTags set)))
command_at words verb.TheVariants.Media = media_at words >>= (λ event. Some (command.TheVariants.Event event))
command_at words verb.TheVariants.Link = byte_at words 1 >>= (λ row. Some (command.TheVariants.Event (LinkEvent row)))
command_at words verb.TheVariants.Tally = values_at words 1 16 >>= (λ ns. Some (command.TheVariants.Event (LinkTally ns)))
command_at words verb.TheVariants.Comreset = Some (command.TheVariants.Event Comreset)
command_at words verb.TheVariants.Counter = short_at words 1 >>= (λ number. Some (command.TheVariants.Counter number))
command_at words verb.TheVariants.Count = Some command.TheVariants.Count
command_at words verb.TheVariants.Lend = do
  medium ← number_at words 1 33554432
  reply ← number_at words 2 16384
  Some (command.TheVariants.Lend medium reply)
command_at words verb.TheVariants.Fill = byte_at words 1 >>= (λ byte. Some (command.TheVariants.Fill byte))
command_at words verb.TheVariants.Set = change_of words >>= (λ change. Some (command.TheVariants.Set change))
command_at words verb.TheVariants.Show = Some command.TheVariants.Show
command_at words verb.TheVariants.Medium = do
  at ← long_at words 1
  size ← long_at words 2
  Some (command.TheVariants.Medium at size)

-- what a verb's words ask for
abbrev pub asked_at : List (List ℕ) → Verb → Option Command
asked_at words verb.TheVariants.Frame = bytes_of (drop 1 words) >>= (λ bytes. Some (command.TheVariants.Frame bytes))
asked_at words verb.TheVariants.Judge = do
  bytes ← bytes_of (drop 1 words)
  host ← queued_command bytes
  Some (command.TheVariants.Judge host)
asked_at words verb.TheVariants.Read = reading_of words >>= (λ reading. Some (command.TheVariants.Read reading))
asked_at words v = command_at words v

-- what words ask for, by the first of them: none, for nothing
abbrev pub asked_by : List (List ℕ) → Option (List ℕ) → Option Command
asked_by words None = Some command.TheVariants.Nothing
asked_by words (Some word) = do
  verb ← verb_of word
  pick (fits (words_in verb) (length words)) (asked_at words verb) None

-- what words ask for
abbrev pub command_in : List (List ℕ) → Option Command
command_in words = asked_by words (slice_get words 0)

-- what a line asks for [script-line]
abbrev pub command_of : List ℕ → Option Command
command_of line = command_in (words_of (asked_text line))
