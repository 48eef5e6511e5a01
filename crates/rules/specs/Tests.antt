-- What a call is turned down for: its row of the refusal table, in the order in which it is tried.
use Rattle.std.specs.Prelude.{Bool, true, false, not, ◌&&◌, ◌||◌, List, [], ◌∷◌, ℕ, eqb, is_none, Result, Ok}
use Rattle.refusals.specs.First.{Rung, rung}
use Rattle.refusals.specs.declared.reasons.Refusal.{Refusal}
use Rattle.refusals.specs.declared.reasons.Refusal.TheVariants.{NoHostFrame, WrongTime, TooLong}
use Rattle.bits.specs.Bit.{bit_in}
use Rattle.frames.specs.Read.{read_frame}
use Rattle.frames.specs.declared.shapes.Frame.{Frame}
use Rattle.frames.specs.declared.shapes.Frame.TheVariants.{Host, Data, Bist}
use Rattle.refusals.specs.Ladders.{host_ladder, open_ladder, send_ladder, finish_ladder, media_ladder, link_ladder, comreset_ladder}
use Rattle.device_state.specs.Range.{outside_of}
use Rattle.device_state.specs.Progress.{wholly}
use Rattle.rules.specs.MoveRefusals.{longer, not_ready}
use Rattle.device_state.specs.State.{whole_of}
use Rattle.device_state.specs.Table.{some_below, entry_of}
use Rattle.device_state.specs.UnderWay.{link_busy}
use Rattle.device_state.specs.Contradictory.{row_refused, tally_refused}
use Rattle.device_state.specs.declared.shapes.Entry.{Entry}
use Rattle.rules.specs.Call.{Call, host_frame, happens}
use Rattle.rules.specs.declared.event.DeviceEvent.TheVariants.{OpenPhase, SendData, FinishTags, MediaError, LinkEvent, LinkTally, Comreset}
use Rattle.rules.specs.Positions.{left_of}
use Rattle.rules.specs.declared.facts.Facts.{Facts}

-- 4: frame type not 27h, 46h, 58h; wrong length, for which the reader refuses the frame [refused-4]
unfoldable pub wrong_kind : Result Frame Refusal → Bool
wrong_kind (Ok (Host h)) = false
wrong_kind (Ok (Data n)) = false
wrong_kind (Ok Bist) = false
wrong_kind _ = true

-- 5: command while reset is held or a phase is open; data with no write phase; BIST while a phase is open [command-or-control] [refused-5]
unfoldable pub wrong_time : Facts → Result Frame Refusal → Bool
wrong_time v (Ok (Host h)) = h.command_bit && (v.status.held || link_busy v.status)
wrong_time v (Ok (Data n)) = is_none v.status.phase || not v.entry.write
wrong_time v (Ok Bist) = link_busy v.status
wrong_time v _ = false

-- 6: the payload is longer than what is left of the command [refused-6]
unfoldable pub wrong_size : Facts → Result Frame Refusal → Bool
wrong_size v (Ok (Data n)) = longer (left_of v.entry) n
wrong_size v _ = false

-- 4, 5 and 6: what of a host frame's row its kind decides
abbrev pub kind_tests : Facts → Result Frame Refusal → List Rung
kind_tests v f = rung NoHostFrame (wrong_kind f) ∷ rung WrongTime (wrong_time v f) ∷ rung TooLong (wrong_size v f) ∷ []

-- the whole row of a host frame, as it was read [refused-4] [refused-5]
abbrev pub frame_tests : Facts → Result Frame Refusal → List Rung
frame_tests v f = host_ladder v.contradicts v.medium_wrong v.reply_short (wrong_kind f) (wrong_time v f) (wrong_size v f)

-- 7: a tag that is not outstanding; a tag of 32 or more never is [refused-7]
abbrev pub idle_tag : Facts → ℕ → Bool
idle_tag v tag = not (bit_in 32 v.status.outstanding tag)

-- 9: wholly moved [refused-9]
abbrev pub all_moved : Entry → Bool
all_moved e = wholly e.moved (whole_of e.count)

-- 10: no read phase [refused-10]
abbrev pub no_read_phase : Facts → Bool
no_read_phase v = is_none v.status.phase || v.entry.write

-- 11: a tag of the set that is not outstanding or not wholly moved [refused-11]
abbrev pub unready : Entry → Bool → Bool → Bool
unready e asked busy = not_ready asked busy e.moved (whole_of e.count)

-- of tag t, in the table
abbrev pub unready_at : List Entry → ℕ → ℕ → ℕ → Bool
unready_at es outstanding set t = unready (entry_of es t) (bit_in 32 set t) (bit_in 32 outstanding t)

-- of some tag: one refuses the whole set [refused-11]
unfoldable pub some_unready : List Entry → ℕ → ℕ → Bool
some_unready es outstanding set = some_below 32 (unready_at es outstanding set)

-- 12: a sector outside the command [refused-12]
abbrev pub outside : Entry → ℕ → Bool
outside e sector = outside_of e.first e.count sector

-- the refusal table: a call's tests, the lowest number first [exactly] [refused-2]
unfoldable pub tests : Facts → Call → List Rung
tests v (host_frame f) = frame_tests v (read_frame f)
tests v (happens (OpenPhase t)) = open_ladder v.contradicts v.reply_short (idle_tag v t) (link_busy v.status) (all_moved v.entry)
tests v (happens SendData) = send_ladder v.contradicts v.medium_wrong v.reply_short (no_read_phase v)
tests v (happens (FinishTags s)) = finish_ladder v.contradicts v.reply_short (link_busy v.status) (eqb s 0 || v.some_unready)
tests v (happens (MediaError t e s)) = media_ladder v.contradicts v.reply_short (idle_tag v t) (eqb e 0 || outside v.entry s)
tests v (happens (LinkEvent r)) = link_ladder v.contradicts (row_refused v.settings.mask r)
tests v (happens (LinkTally ns)) = link_ladder v.contradicts (tally_refused v.settings.mask ns)
tests v (happens Comreset) = comreset_ladder v.contradicts v.reply_short
