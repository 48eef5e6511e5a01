-- One run of the device from power-on, of seventeen calls, in which each fate comes up, an error waits and is read, a tag is reused and a page shows counters.
use Rattle.std.specs.Prelude.{◌≡◌, Bool, true, false, List, [], ◌∷◌, ◌++◌, map, reverse, ℕ, zero, suc, ◌-◌, ◌*◌, length, get_or, drop, replicate, Some, None, Ok}
use Rattle.bits.specs.Pick.{pick}
use Rattle.device_state.specs.declared.shapes.Settings.{Settings}
use Rattle.pages.specs.Read11.{read_counter, row_value}
use Rattle.refusals.specs.Number.{number_told}
use Rattle.refusals.specs.declared.reasons.Refusal.TheVariants.{Contradiction}
use Rattle.device.specs.Device.{power_on}
use Rattle.rules.specs.Call.{Call, host_frame, happens}
use Rattle.rules.specs.declared.event.DeviceEvent.TheVariants.{OpenPhase, SendData, FinishTags, MediaError, Comreset}
use Rattle.history.specs.Event.{Event}
use Rattle.history.specs.Replied.{replies_in, page, sent}
use Rattle.history.specs.Asked.{brought}
use Rattle.history.specs.Seen.{Seen, seen, under_way}
use Rattle.history.specs.Fates.{Command, commands, own_tag, outstanding, finished, given_up, dropped, total}
use Rattle.history.specs.Waits.{sactive, waits, given_up_there, bad_since}
use Rattle.history.specs.Carried.{transfer, span, carried}
use Rattle.history.specs.Counted.{told_for}
use Rattle.history.specs.Lasting.{HandedOn, last_written}
use Rattle.device.specs.Lent.{Lent, lent}
use Rattle.history.specs.Run.{AllTyped, history}

-- depth 32, one sector, rows 0 and 9 kept
abbrev pub settings : Settings
settings = record { depth = 32; capacity = 1; mask = 0x0201 }

-- a sector whose bytes are all the same
abbrev pub sector : ℕ → List ℕ
sector byte = replicate 512 byte

-- one whose halves are
abbrev pub halves : ℕ → ℕ → List ℕ
halves a b = replicate 256 a ++ replicate 256 b

-- a call, lent a medium and the smallest reply buffer that will do
abbrev pub lent_room : List ℕ → Call → Lent
lent_room medium call = lent call medium (replicate 8196 0)

-- a queued command of one sector, sector 0: its code and its tag
abbrev pub queued : ℕ → ℕ → Call
queued code tag =
    host_frame (0x27 ∷ 0x80 ∷ code ∷ 1 ∷ 0 ∷ 0 ∷ 0 ∷ 0x40 ∷ 0 ∷ 0 ∷ 0 ∷ 0 ∷ 8 * tag ∷ 0 ∷ 0 ∷ 0 ∷ 0 ∷ 0 ∷ 0 ∷ 0 ∷ [])

-- READ LOG EXT of a page
abbrev pub read_log_call : ℕ → Call
read_log_call number = host_frame (0x27 ∷ 0x80 ∷ 0x2F ∷ 0 ∷ number ∷ 0 ∷ 0 ∷ 0 ∷ 0 ∷ 0 ∷ 0 ∷ 0 ∷ 1 ∷ 0 ∷ 0 ∷ 0 ∷ 0 ∷ 0 ∷ 0 ∷ 0 ∷ [])

-- host data of half a sector
abbrev pub host_data_call : ℕ → Call
host_data_call byte = host_frame (0x46 ∷ 0 ∷ 0 ∷ 0 ∷ replicate 256 byte)

-- the first nine calls: a read with tag 0 that is finished, and is not before it has moved; a write with tag 0 again, half of which is brought, and a read with tag 3
abbrev pub first_calls : List Call
first_calls =
    queued 0x60 0 ∷ happens (FinishTags 1) ∷ happens (OpenPhase 0) ∷ (happens SendData) ∷ happens (FinishTags 1)
    ∷ queued 0x61 0 ∷ queued 0x60 3 ∷ happens (OpenPhase 0) ∷ host_data_call 7 ∷ []

-- the last seven, behind the other half of the write: a media error, a read answered bad, the error is read; a write with tag 0 once more that COMRESET drops, page 11h, a read that stays outstanding
abbrev pub last_calls : List Call
last_calls = happens (MediaError 3 0x84 0) ∷ queued 0x60 4 ∷ read_log_call 0x10 ∷ queued 0x61 0 ∷ (happens Comreset) ∷ read_log_call 0x11 ∷ queued 0x60 5 ∷ []

-- all calls, the oldest first: the medium holds 5 until the write has brought 7, and then its other half until it has brought 8
abbrev pub calls : List Lent
calls = map (lent_room (sector 5)) first_calls ++ (lent_room (halves 7 5) (host_data_call 8) ∷ map (lent_room (halves 7 8)) last_calls)

-- what the outside saw of the run, the newest event first
unfoldable pub story : List Event
story = history settings calls

-- the history after the first n calls
abbrev pub after : ℕ → List Event
after n = drop (17 - n) story

-- the same, as a history is read
abbrev pub seen_after : ℕ → List Seen
seen_after n = map seen (after n)

-- the n-th call, from 1 on; of any other number one that nothing was seen of
abbrev pub nth : ℕ → Event
nth n = get_or (after n) 0 (record { call = (happens Comreset); medium = []; buffer = []; refusal = Some Contradiction; len = 0; filled = []; left = [] })

-- every command of the run, the oldest first
abbrev pub accepted : List Command
accepted = reverse (commands (seen_after 17))

-- the tags from a on, n of them, that are so
unfoldable pub tags_from : ℕ → ℕ → (ℕ → Bool) → List ℕ
tags_from a zero p = []
tags_from a (suc n) p = pick (p a) (a ∷ tags_from (suc a) n p) (tags_from (suc a) n p)

-- all tags that are so
abbrev pub tags_so : (ℕ → Bool) → List ℕ
tags_so p = tags_from 0 32 p

-- a reply: its kind and its length
pub record Reply : Type 0 where
  pub kind : ℕ
  pub long : ℕ

-- the four fates of a command, each by its own definition
pub record Four : Type 0 where
  pub is_outstanding : Bool
  pub is_finished : Bool
  pub is_given_up : Bool
  pub is_dropped : Bool

-- what stands after a call: its refusal's number (0 = taken) and its replies, the tags that SActive names, whether an error waits, and the fates of all commands so far, the oldest first
pub record Line : Type 0 where
  pub refusal : ℕ
  pub replies : List Reply
  pub active : List ℕ
  pub waiting : Bool
  pub fates : List Four

-- a reply of a kind and a length
abbrev pub reply : ℕ → ℕ → Reply
reply k n = record { kind = k; long = n }

-- one piece of a reply
abbrev pub reply_of : List ℕ → Reply
reply_of p = reply (get_or p 0 0) (length p)

-- the fates of one command
abbrev pub four : Command → Four
four c = record { is_outstanding = outstanding c; is_finished = finished c; is_given_up = given_up c; is_dropped = dropped c }

-- the line of an event, with the history that it ends
abbrev pub line_after : Event → List Seen → Line
line_after e h = record {
  refusal = number_told e.refusal;
  replies = map reply_of (replies_in e);
  active = tags_so (λ t. sactive t h);
  waiting = waits h;
  fates = reverse (map four (commands h));
}

-- the lines of all events, the oldest first
unfoldable pub lines_of : List Event → List Line
lines_of [] = []
lines_of (e ∷ h) = lines_of h ++ (line_after e (map seen (e ∷ h)) ∷ [])

-- a line of what stands in it
abbrev pub line : ℕ → List Reply → List ℕ → Bool → List Four → Line
line n rs ts w fs = record { refusal = n; replies = rs; active = ts; waiting = w; fates = fs }

-- outstanding, and nothing else
abbrev pub stays : Four
stays = record { is_outstanding = true; is_finished = false; is_given_up = false; is_dropped = false }

-- finished, and nothing else
abbrev pub ended : Four
ended = record { is_outstanding = false; is_finished = true; is_given_up = false; is_dropped = false }

-- given up at an error, and nothing else
abbrev pub lost : Four
lost = record { is_outstanding = false; is_finished = false; is_given_up = true; is_dropped = false }

-- dropped by a reset, and nothing else
abbrev pub fell : Four
fell = record { is_outstanding = false; is_finished = false; is_given_up = false; is_dropped = true }

-- the run as a table, a line for each call: refusal, replies, SActive, whether an error waits, fates
abbrev pub table : List Line
table =
    line 0 (reply 0x34 20 ∷ []) (0 ∷ []) false (stays ∷ [])
    ∷ line 11 [] (0 ∷ []) false (stays ∷ [])
    ∷ line 0 (reply 0x41 28 ∷ []) (0 ∷ []) false (stays ∷ [])
    ∷ line 0 (reply 0x46 516 ∷ []) (0 ∷ []) false (stays ∷ [])
    ∷ line 0 (reply 0xA1 8 ∷ []) [] false (ended ∷ [])
    ∷ line 0 (reply 0x34 20 ∷ []) (0 ∷ []) false (ended ∷ stays ∷ [])
    ∷ line 0 (reply 0x34 20 ∷ []) (0 ∷ 3 ∷ []) false (ended ∷ stays ∷ stays ∷ [])
    ∷ line 0 (reply 0x41 28 ∷ reply 0x39 4 ∷ []) (0 ∷ 3 ∷ []) false (ended ∷ stays ∷ stays ∷ [])
    ∷ line 0 (reply 0x39 4 ∷ []) (0 ∷ 3 ∷ []) false (ended ∷ stays ∷ stays ∷ [])
    ∷ line 0 [] (0 ∷ 3 ∷ []) false (ended ∷ stays ∷ stays ∷ [])
    ∷ line 0 (reply 0xA1 8 ∷ []) (0 ∷ 3 ∷ []) true (ended ∷ lost ∷ lost ∷ [])
    ∷ line 0 (reply 0x34 20 ∷ []) (0 ∷ 3 ∷ 4 ∷ []) true (ended ∷ lost ∷ lost ∷ [])
    ∷ line 0 (reply 0xA1 8 ∷ reply 0x5F 20 ∷ reply 0x46 516 ∷ []) [] false (ended ∷ lost ∷ lost ∷ [])
    ∷ line 0 (reply 0x34 20 ∷ []) (0 ∷ []) false (ended ∷ lost ∷ lost ∷ stays ∷ [])
    ∷ line 0 (reply 0x34 20 ∷ []) [] false (ended ∷ lost ∷ lost ∷ fell ∷ [])
    ∷ line 0 (reply 0x5F 20 ∷ reply 0x46 516 ∷ []) [] false (ended ∷ lost ∷ lost ∷ fell ∷ [])
    ∷ line 0 (reply 0x34 20 ∷ []) (5 ∷ []) false (ended ∷ lost ∷ lost ∷ fell ∷ stays ∷ []) ∷ []

-- counters 001h, 00Ah and 002h, as each is answered
abbrev pub three_of : {A : Type 0} → (ℕ → A) → List A
three_of f = f 0x001 ∷ f 0x00A ∷ f 0x002 ∷ []

-- what the run shows: the theorems over every run say something of this one [examples-of-runs]
pub record ExampleShows : Type 0 where
  -- power-on is taken, and the arguments of every call are of their types: the theorems' premise holds
  pub powered : (power_on settings).refusal ≡ None
  pub typed : AllTyped calls
  -- every call: refusal, replies, SActive, whether an error waits, fates
  pub lines : lines_of story ≡ table
  -- tag 0 is used by three commands
  pub tags : map own_tag accepted ≡ 0 ∷ 0 ∷ 3 ∷ 0 ∷ 5 ∷ []
  -- two are outstanding at once
  pub both : total (seen_after 7) ≡ 2
  -- the finished read carried each byte of its range once, in rising order; so did the write before it was given up; the others carried none
  pub ranges : map carried accepted ≡ span 0 512 ∷ span 0 512 ∷ [] ∷ [] ∷ [] ∷ []
  -- data were due before the send and before the host data: to the host and from it, for tag 0
  pub reading : transfer (seen_after 3) ≡ under_way true 0 0 512
  pub writing : transfer (seen_after 8) ≡ under_way false 0 0 512
  -- and the other half after one of two short frames
  pub half : transfer (seen_after 9) ≡ under_way false 0 256 512
  -- what was sent is what the medium held, and what was brought stands in the medium that the call left
  pub read : sent (nth 4) ≡ sector 5
  pub written : brought (nth 9) ≡ replicate 256 7
  pub stored : (nth 9).left ≡ halves 7 5
  pub rest : (nth 10).left ≡ halves 7 8
  -- each call is lent the medium as the last one left it: of the written halves 7 and 8 stand by the history, and before the second frame still 5 in its half
  pub handed : HandedOn (sector 5) story
  pub stands : map (λ p. last_written (sector 5) p story) (0 ∷ 255 ∷ 256 ∷ 511 ∷ 512 ∷ []) ≡ Some 7 ∷ Some 7 ∷ Some 8 ∷ Some 8 ∷ None ∷ []
  pub stood : map (λ p. last_written (sector 5) p (after 9)) (0 ∷ 255 ∷ 256 ∷ 511 ∷ []) ≡ Some 7 ∷ Some 7 ∷ Some 5 ∷ Some 5 ∷ []
  -- while the error waits, tags 0 and 3 were given up at it and tag 4 was answered with an error since
  pub blamed : tags_so (λ t. given_up_there t (seen_after 12)) ≡ 0 ∷ 3 ∷ []
  pub bad : tags_so (λ t. bad_since t (seen_after 12)) ≡ 4 ∷ []
  -- page 11h was delivered; it shows one event of 001h and of 00Ah, and 002h is absent; so says the history before it
  pub paged : (seen (nth 16)).delivers 0x11 ≡ true
  pub shows : three_of (read_counter (page (nth 16))) ≡ Ok (Some (row_value 1)) ∷ Ok (Some (row_value 1)) ∷ Ok None ∷ []
  pub tells : three_of (told_for settings.mask (after 15)) ≡ Some 1 ∷ Some 1 ∷ None ∷ []
