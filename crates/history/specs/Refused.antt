-- What every event is turned down for, by the history before it: the table of refusals, from settings, calls, lengths, and the refusals and frames of the calls before it.
use Rattle.std.specs.Prelude.{◌≡◌, Bool, true, false, not, ◌&&◌, ◌||◌, List, [], ◌∷◌, ℕ, zero, suc, ◌*◌, ◌%◌, eqb, leb, ltb, length, get_or, Ok}
use Rattle.bits.specs.Pick.{pick}
use Rattle.bits.specs.Bit.{bit_in}
use Rattle.refusals.specs.First.{Rung, rung, first_of}
use Rattle.refusals.specs.declared.reasons.Refusal.TheVariants.{Contradiction, MediumLength, ReplyShort, NoHostFrame, WrongTime, TooLong, TagIdle, PhaseOpen, AllMoved, NoReadPhase, SetUnready, OutsideCommand, NoRow}
use Rattle.frames.specs.Read.{read_frame}
use Rattle.frames.specs.declared.shapes.Frame.TheVariants.{Host, Data, Bist}
use Rattle.rules.specs.Call.{Call, host_frame, happens}
use Rattle.rules.specs.declared.event.DeviceEvent.TheVariants.{OpenPhase, SendData, FinishTags, MediaError, LinkEvent, LinkTally, Comreset}
use Rattle.history.specs.Event.{Event}
use Rattle.history.specs.Replied.{FrameRead}
use Rattle.history.specs.Seen.{Transfer, no_transfer, under_way}
use Rattle.history.specs.ByHistory.{outstanding_with, is_out, whole, covers, under_way_after, is_open, left_in_transfer, holding}

-- 1: settings out of bounds: depth 1 to 32, capacity 1 to 65,536 sectors, rows 0 and 9 always kept [powered-exactly]
abbrev pub out_of_bounds : ℕ → ℕ → ℕ → Bool
out_of_bounds deep capacity mask = not (leb 1 deep && leb deep 32) || (not (leb 1 capacity && leb capacity 65536) || not (bit_in 16 mask 0 && bit_in 16 mask 9))

-- 2: medium length wrong
abbrev pub wrong_medium : ℕ → Event → Bool
wrong_medium capacity e = not (eqb (length e.medium) (512 * capacity))

-- 3: reply buffer under 8,196
abbrev pub short_buffer : Event → Bool
short_buffer e = ltb (length e.buffer) 8196

-- a frame that a host sends has its kind's length: 27h 20 bytes, 58h 12, and 46h 8 to 8,196 in steps of 4 [refused-exactly]
abbrev pub host_length : ℕ → ℕ → Bool
host_length kind n = pick (eqb kind 0x27) (eqb 20 n) (pick (eqb kind 0x58) (eqb 12 n) (eqb kind 0x46 && (leb 8 n && leb n 8196 && eqb (n % 4) 0)))

-- 4: frame type not 27h, 46h, 58h; wrong length
abbrev pub not_heard : List ℕ → Bool
not_heard f = not (host_length (get_or f 0 0) (length f))

-- a write phase is open
abbrev pub write_open : Transfer → Bool
write_open no_transfer = false
write_open (under_way d t a z) = not d

-- 5: command while reset is held or a phase is open; BIST while a phase is open; data with no write phase
abbrev pub untimely : FrameRead → List Event → Bool
untimely (Ok (Host f)) h = f.command_bit && (holding h || is_open (under_way_after h))
untimely (Ok (Data n)) h = not (write_open (under_way_after h))
untimely (Ok Bist) h = is_open (under_way_after h)
untimely _ h = false

-- 6: the payload is longer than what is left
abbrev pub too_long : FrameRead → List Event → Bool
too_long (Ok (Data n)) h = ltb (left_in_transfer false (under_way_after h)) n
too_long _ h = false

-- some tag, or row, below n is so
unfoldable pub some_tag : ℕ → (ℕ → Bool) → Bool
some_tag zero is = false
some_tag (suc n) is = is n || some_tag n is

-- 11: empty set, or a tag not outstanding or not wholly moved
abbrev pub unfit : ℕ → List Event → Bool
unfit s h = eqb s 0 || some_tag 32 (λ t. bit_in 32 s t && not (outstanding_with t whole h))

-- 12: byte 0, or a sector outside the command
abbrev pub wrong_error : ℕ → ℕ → ℕ → List Event → Bool
wrong_error t error sector h = eqb error 0 || not (outstanding_with t (covers sector) h)

-- 13: row 0, row 9, above 15, or not kept
abbrev pub no_row : ℕ → ℕ → Bool
no_row mask r = eqb r 0 || (eqb r 9 || (ltb 15 r || not (bit_in 16 mask r)))

-- 13: of some row of sixteen amounts that has another than 0
abbrev pub no_rows : ℕ → List ℕ → Bool
no_rows mask ns = some_tag 16 (λ r. not (eqb (get_or ns r 0) 0) && no_row mask r)

-- 2 to 13 of each call, in the order of their numbers, after a history h
unfoldable pub own_tests : ℕ → ℕ → Event → List Event → Call → List Rung
own_tests capacity mask e h (host_frame f) =
    rung MediumLength (wrong_medium capacity e) ∷ rung ReplyShort (short_buffer e) ∷ rung NoHostFrame (not_heard f) ∷ rung WrongTime (untimely (read_frame f) h) ∷ rung TooLong (too_long (read_frame f) h) ∷ []
own_tests capacity mask e h (happens (OpenPhase t)) =
    rung ReplyShort (short_buffer e) ∷ rung TagIdle (not (is_out t h)) ∷ rung PhaseOpen (is_open (under_way_after h)) ∷ rung AllMoved (outstanding_with t whole h) ∷ []
own_tests capacity mask e h (happens SendData) = rung MediumLength (wrong_medium capacity e) ∷ rung ReplyShort (short_buffer e) ∷ rung NoReadPhase (eqb (left_in_transfer true (under_way_after h)) 0) ∷ []
own_tests capacity mask e h (happens (FinishTags s)) = rung ReplyShort (short_buffer e) ∷ rung PhaseOpen (is_open (under_way_after h)) ∷ rung SetUnready (unfit s h) ∷ []
own_tests capacity mask e h (happens (MediaError t error sector)) = rung ReplyShort (short_buffer e) ∷ rung TagIdle (not (is_out t h)) ∷ rung OutsideCommand (wrong_error t error sector h) ∷ []
own_tests capacity mask e h (happens (LinkEvent r)) = rung NoRow (no_row mask r) ∷ []
own_tests capacity mask e h (happens (LinkTally ns)) = rung NoRow (no_rows mask ns) ∷ []
own_tests capacity mask e h (happens Comreset) = rung ReplyShort (short_buffer e) ∷ []

-- every event is refused with the first that holds, and taken where none does: so no event that should be heard is turned down [refused-exactly]
unfoldable pub Refusals : ℕ → ℕ → ℕ → List Event → Type 0
Refusals deep capacity mask [] = Unit
Refusals deep capacity mask (e ∷ h) = (e.refusal ≡ first_of (rung Contradiction (out_of_bounds deep capacity mask) ∷ own_tests capacity mask e h e.call)) × Refusals deep capacity mask h
