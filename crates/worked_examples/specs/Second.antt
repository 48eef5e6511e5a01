-- Two more runs of the device from power-on. One, of twelve calls, has a held reset and its release, and three errors that each wait and are read:
-- at a command that is not queued, at a queued one past the capacity, and at one of a tag in use. The other, of nine, moves a read and a write of 17 sectors, each in two data frames.
use Rattle.std.specs.Prelude.{◌≡◌, Bool, true, false, List, [], ◌∷◌, ◌++◌, map, reverse, ℕ, ◌-◌, ◌*◌, length, get_or, drop, replicate, Some, None, Ok}
use Rattle.frames.specs.declared.shared.Task.{Task}
use Rattle.device_state.specs.declared.shapes.Settings.{Settings}
use Rattle.frames.specs.Cut.{joined_bytes}
use Rattle.frames.specs.Write.{encode}
use Rattle.pages.specs.Page10.{page10, read_log}
use Rattle.pages.specs.declared.page10.ErrorLog.{ErrorLog}
use Rattle.refusals.specs.declared.reasons.Refusal.TheVariants.{Contradiction}
use Rattle.device.specs.Device.{power_on}
use Rattle.rules.specs.Call.{Call, host_frame, happens}
use Rattle.rules.specs.declared.event.DeviceEvent.TheVariants.{OpenPhase, SendData, FinishTags, Comreset}
use Rattle.history.specs.Event.{Event, replied}
use Rattle.history.specs.Replied.{page, sent}
use Rattle.history.specs.Asked.{brought}
use Rattle.history.specs.Seen.{Seen, seen, Transfer, no_transfer, under_way}
use Rattle.history.specs.Fates.{Command, commands, own_tag}
use Rattle.history.specs.Waits.{given_up_there, bad_since}
use Rattle.history.specs.Carried.{transfer, span, carried}
use Rattle.history.specs.ByHistory.{holding}
use Rattle.history.specs.Answered.{answered_bad, signature_reply, sweep_reply, page_replies}
use Rattle.device.specs.Lent.{Lent}
use Rattle.history.specs.Run.{AllTyped, history}
use Rattle.worked_examples.specs.Story.{settings, sector, lent_room, queued, read_log_call, tags_so, Line, reply, line, lines_of, stays, ended, lost, fell}

-- a queued command of some sectors from sector 0 on: their number, its code and its tag
abbrev pub queued_of : ℕ → ℕ → ℕ → Call
queued_of sectors code tag =
    host_frame (0x27 ∷ 0x80 ∷ code ∷ sectors ∷ 0 ∷ 0 ∷ 0 ∷ 0x40 ∷ 0 ∷ 0 ∷ 0 ∷ 0 ∷ 8 * tag ∷ 0 ∷ 0 ∷ 0 ∷ 0 ∷ 0 ∷ 0 ∷ 0 ∷ [])

-- a control frame: C 0, and its byte 15, of which 04h is SRST
abbrev pub control : ℕ → Call
control byte = host_frame (0x27 ∷ 0 ∷ 0 ∷ 0 ∷ 0 ∷ 0 ∷ 0 ∷ 0 ∷ 0 ∷ 0 ∷ 0 ∷ 0 ∷ 0 ∷ 0 ∷ 0 ∷ byte ∷ 0 ∷ 0 ∷ 0 ∷ 0 ∷ [])

-- host data: n bytes, all the same
abbrev pub host_data_of : ℕ → ℕ → Call
host_data_of n byte = host_frame (0x46 ∷ 0 ∷ 0 ∷ 0 ∷ replicate n byte)

-- ---- of any run

-- its history after the first n calls
abbrev pub up_to : ℕ → List Event → List Event
up_to n h = drop (length h - n) h

-- the same, as a history is read
abbrev pub seen_to : ℕ → List Event → List Seen
seen_to n h = map seen (up_to n h)

-- its n-th call, from 1 on; of any other number one that nothing was seen of
abbrev pub call_of : ℕ → List Event → Event
call_of n h = get_or (up_to n h) 0 (record { call = (happens Comreset); medium = []; buffer = []; refusal = Some Contradiction; len = 0; filled = []; left = [] })

-- its commands, the oldest first
abbrev pub commands_of : List Event → List Command
commands_of h = reverse (commands (map seen h))

-- ---- the run of resets and errors

-- all calls, the oldest first: a read that SRST drops, and the release; a write given up at a READ LOG EXT, and the page;
-- a read given up at a read of two sectors, and the page; a read given up at a write of its own tag, and the page. The medium holds 5 throughout, and the settings are those of Story
abbrev pub second_calls : List Lent
second_calls =
    map (lent_room (sector 5))
    (queued 0x60 0 ∷ control 0x04 ∷ control 0
    ∷ queued 0x61 1 ∷ read_log_call 0x10 ∷ read_log_call 0x10
    ∷ queued 0x60 2 ∷ queued_of 2 0x60 3 ∷ read_log_call 0x10
    ∷ queued 0x60 4 ∷ queued 0x61 4 ∷ read_log_call 0x10 ∷ [])

-- what the outside saw of it, the newest event first
unfoldable pub second : List Event
second = history settings second_calls

-- the run as a table, a line for each call: refusal, replies, SActive, whether an error waits, fates
abbrev pub second_table : List Line
second_table =
    line 0 (reply 0x34 20 ∷ []) (0 ∷ []) false (stays ∷ [])
    ∷ line 0 [] [] false (fell ∷ [])
    ∷ line 0 (reply 0x34 20 ∷ []) [] false (fell ∷ [])
    ∷ line 0 (reply 0x34 20 ∷ []) (1 ∷ []) false (fell ∷ stays ∷ [])
    ∷ line 0 (reply 0x34 20 ∷ []) (1 ∷ []) true (fell ∷ lost ∷ [])
    ∷ line 0 (reply 0xA1 8 ∷ reply 0x5F 20 ∷ reply 0x46 516 ∷ []) [] false (fell ∷ lost ∷ [])
    ∷ line 0 (reply 0x34 20 ∷ []) (2 ∷ []) false (fell ∷ lost ∷ stays ∷ [])
    ∷ line 0 (reply 0x34 20 ∷ []) (2 ∷ 3 ∷ []) true (fell ∷ lost ∷ lost ∷ [])
    ∷ line 0 (reply 0xA1 8 ∷ reply 0x5F 20 ∷ reply 0x46 516 ∷ []) [] false (fell ∷ lost ∷ lost ∷ [])
    ∷ line 0 (reply 0x34 20 ∷ []) (4 ∷ []) false (fell ∷ lost ∷ lost ∷ stays ∷ [])
    ∷ line 0 (reply 0x34 20 ∷ []) (4 ∷ []) true (fell ∷ lost ∷ lost ∷ lost ∷ [])
    ∷ line 0 (reply 0xA1 8 ∷ reply 0x5F 20 ∷ reply 0x46 516 ∷ []) [] false (fell ∷ lost ∷ lost ∷ lost ∷ []) ∷ []

-- the bytes of a command: its LBA, its device byte, its count field
abbrev pub asked : ℕ → ℕ → ℕ → Task
asked l d c = record { lba = l; device = d; count = c }

-- of READ LOG EXT of page 10h
abbrev pub log_asked : Task
log_asked = asked 0x10 0 1

-- and of a queued command of tag t at sector 0
abbrev pub queued_asked : ℕ → Task
queued_asked t = asked 0 0x40 (8 * t)

-- an error as page 10h tells it: NQ, the tag, the error byte, and the bytes of the command that was answered with it
abbrev pub error_of : Bool → ℕ → ℕ → Task → ErrorLog
error_of n t e k = record { nq = n; tag = t; status = 0x41; error = e; task = k }

-- of an error that waits after the first n calls: the tags given up at it
abbrev pub given_up_after : ℕ → List ℕ
given_up_after n = tags_so (λ t. given_up_there t (seen_to n second))

-- and those of queued commands answered with an error since, the one that raised it included
abbrev pub bad_after : ℕ → List ℕ
bad_after n = tags_so (λ t. bad_since t (seen_to n second))

-- what the run of resets and errors shows [examples-of-runs]
pub record SecondShows : Type 0 where
  -- the theorems' premise holds; that power-on is taken with these settings stands in Story
  pub typed : AllTyped second_calls
  -- every call: refusal, replies, SActive, whether an error waits, fates
  pub lines : lines_of second ≡ second_table
  pub tags : map own_tag (commands_of second) ≡ 0 ∷ 1 ∷ 2 ∷ 4 ∷ []
  -- reset is held from SRST on, which is not answered, until its release, which is answered with the signature
  pub held : map (λ n. holding (up_to n second)) (1 ∷ 2 ∷ 3 ∷ []) ≡ false ∷ true ∷ false ∷ []
  pub released : replied (call_of 3 second) ≡ encode signature_reply
  -- READ LOG EXT of page 10h while a write is outstanding: answered with ERR and 04h; once more: the sweep and the page, which has NQ
  pub log_bad : replied (call_of 5 second) ≡ encode (answered_bad 0x04 log_asked)
  pub log_good : replied (call_of 6 second) ≡ joined_bytes (map encode (sweep_reply ∷ page_replies log_asked (page10 (error_of true 0 0x04 log_asked))))
  pub log_page : read_log (page (call_of 6 second)) ≡ Ok (error_of true 0 0x04 log_asked)
  -- two sectors of one, tag 3, while tag 2 is outstanding: ERR and 10h, and so says the page
  pub far_bad : replied (call_of 8 second) ≡ encode (answered_bad 0x10 (queued_asked 3))
  pub far_page : read_log (page (call_of 9 second)) ≡ Ok (error_of false 3 0x10 (queued_asked 3))
  -- a write of tag 4 while a read of tag 4 is outstanding: ERR and 04h, and so says the page
  pub same_bad : replied (call_of 11 second) ≡ encode (answered_bad 0x04 (queued_asked 4))
  pub same_page : read_log (page (call_of 12 second)) ≡ Ok (error_of false 4 0x04 (queued_asked 4))
  -- while each of the three waits: the tags given up at it, and those of queued commands answered with an error, the raiser's own
  pub blamed : map given_up_after (5 ∷ 8 ∷ 11 ∷ []) ≡ (1 ∷ []) ∷ (2 ∷ []) ∷ (4 ∷ []) ∷ []
  pub bad : map bad_after (5 ∷ 8 ∷ 11 ∷ []) ≡ [] ∷ (3 ∷ []) ∷ (4 ∷ []) ∷ []

-- ---- the run of long commands

-- 17 sectors
abbrev pub long_settings : Settings
long_settings = record { depth = 32; capacity = 17; mask = 0x0201 }

-- 17 sectors, of which the first 16 hold one byte and the last another
abbrev pub sectors : ℕ → ℕ → List ℕ
sectors a b = replicate 8192 a ++ replicate 512 b

-- all calls, the oldest first: a read and a write of the whole medium, finished as one set; the medium is lent as the write has left it
abbrev pub long_calls : List Lent
long_calls =
    map (lent_room (sectors 5 6)) (queued_of 17 0x60 0 ∷ happens (OpenPhase 0) ∷ (happens SendData) ∷ (happens SendData) ∷ queued_of 17 0x61 1 ∷ happens (OpenPhase 1) ∷ host_data_of 8192 7 ∷ [])
    ++ (lent_room (sectors 7 6) (host_data_of 512 8) ∷ lent_room (sectors 7 8) (happens (FinishTags 3)) ∷ [])

-- what the outside saw of it, the newest event first
unfoldable pub long : List Event
long = history long_settings long_calls

-- the run as a table
abbrev pub long_table : List Line
long_table =
    line 0 (reply 0x34 20 ∷ []) (0 ∷ []) false (stays ∷ [])
    ∷ line 0 (reply 0x41 28 ∷ []) (0 ∷ []) false (stays ∷ [])
    ∷ line 0 (reply 0x46 8196 ∷ []) (0 ∷ []) false (stays ∷ [])
    ∷ line 0 (reply 0x46 516 ∷ []) (0 ∷ []) false (stays ∷ [])
    ∷ line 0 (reply 0x34 20 ∷ []) (0 ∷ 1 ∷ []) false (stays ∷ stays ∷ [])
    ∷ line 0 (reply 0x41 28 ∷ reply 0x39 4 ∷ []) (0 ∷ 1 ∷ []) false (stays ∷ stays ∷ [])
    ∷ line 0 (reply 0x39 4 ∷ []) (0 ∷ 1 ∷ []) false (stays ∷ stays ∷ [])
    ∷ line 0 [] (0 ∷ 1 ∷ []) false (stays ∷ stays ∷ [])
    ∷ line 0 (reply 0xA1 8 ∷ []) [] false (ended ∷ ended ∷ []) ∷ []

-- the data due after the first n calls
abbrev pub due_after : ℕ → Transfer
due_after n = transfer (seen_to n long)

-- what the run of long commands shows [examples-of-runs]
pub record LongShows : Type 0 where
  -- power-on is taken, and the theorems' premise holds
  pub powered : (power_on long_settings).refusal ≡ None
  pub typed : AllTyped long_calls
  -- every call: refusal, replies, SActive, whether an error waits, fates; an Activate behind the Setup of the write and behind its first data frame, none behind its last
  pub lines : lines_of long ≡ long_table
  pub tags : map own_tag (commands_of long) ≡ 0 ∷ 1 ∷ []
  -- both carried each byte of their range once, in rising order
  pub ranges : map carried (commands_of long) ≡ span 0 8704 ∷ span 0 8704 ∷ []
  -- data due after each open, after the first data frame and after the last
  pub reading : map due_after (2 ∷ 3 ∷ 4 ∷ []) ≡ under_way true 0 0 8704 ∷ under_way true 0 8192 8704 ∷ no_transfer ∷ []
  pub writing : map due_after (6 ∷ 7 ∷ 8 ∷ []) ≡ under_way false 1 0 8704 ∷ under_way false 1 8192 8704 ∷ no_transfer ∷ []
  -- what was sent is what the medium held there
  pub read : sent (call_of 3 long) ++ sent (call_of 4 long) ≡ sectors 5 6
  -- what was brought stands in the medium that the call left
  pub written : brought (call_of 7 long) ++ brought (call_of 8 long) ≡ sectors 7 8
  pub begun : (call_of 7 long).left ≡ sectors 7 6
  pub stored : (call_of 8 long).left ≡ sectors 7 8
