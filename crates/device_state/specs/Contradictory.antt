-- A state contradicts itself if one of these clauses holds, each in the words of the rules.
use Rattle.std.specs.Prelude.{Bool, false, not, ◌&&◌, ◌||◌, List, ℕ, ◌+◌, ◌%◌, ltb, leb, eqb, get_or, Option, Some, None}
use Rattle.bits.specs.Pick.{pick}
use Rattle.bits.specs.Bit.{bit_in}
use Rattle.frames.specs.Shared.{sectors_of}
use Rattle.counters.specs.Rows.{kept, keeps_both}
use Rattle.device_state.specs.State.{task_in, tag_in, whole_of, zero_entry}
use Rattle.device_state.specs.Table.{some_below}
use Rattle.device_state.specs.UnderWay.{open_for}
use Rattle.device_state.specs.declared.shapes.Settings.{Settings}
use Rattle.device_state.specs.declared.shapes.Echo.{Echo}
use Rattle.device_state.specs.declared.shapes.Entry.{Entry}
use Rattle.device_state.specs.declared.shapes.Status.{Status}
use Rattle.device_state.specs.declared.shapes.ErrorRecord.{ErrorRecord}

-- settings are out of bounds: depth 1 to 32, capacity 1 to 65,536, rows 0 and 9 kept [settings] [settings-out]
unfoldable pub settings_out : Settings → Bool
settings_out s = ((ltb s.depth 1 || ltb 32 s.depth) || (ltb s.capacity 1 || ltb 65536 s.capacity)) || not (keeps_both s.mask)

-- a tag outstanding is at or above the depth [tag-above-depth]
abbrev pub above_depth : Settings → ℕ → Bool
above_depth s t = leb s.depth t

-- a range passes capacity [range-past-capacity]
abbrev pub past_capacity : Settings → Entry → Bool
past_capacity s e = ltb s.capacity (e.first + e.count)

-- a count is 0 [count-zero]
abbrev pub count_zero : Entry → Bool
count_zero e = eqb e.count 0

-- a stored command's bytes name another tag [bytes-of-another]
abbrev pub other_tag : Entry → ℕ → Bool
other_tag e t = not (eqb (tag_in e.echo) t)

-- or another range [bytes-of-another]
abbrev pub other_range : Entry → Bool
other_range e = not (eqb (task_in e.echo).lba e.first) || not (eqb (sectors_of e.features e.features_high) e.count)

-- moved exceeds count, which in bytes is `whole_of` [moved-above]
abbrev pub moved_above : Entry → Bool
moved_above e = ltb (whole_of e.count) e.moved

-- moved is no multiple of 4 [moved-fours]
abbrev pub moved_odd : Entry → Bool
moved_odd e = not (eqb (e.moved % 4) 0)

-- moved is neither 0 nor count for a tag whose phase isn't open [moved-idle]
abbrev pub moved_between : Entry → Bool → Bool
moved_between e phase = not phase && (not (eqb e.moved 0) && not (eqb e.moved (whole_of e.count)))

-- the open phase's tag has all moved [phase-done]
abbrev pub phase_done : Entry → Bool → Bool
phase_done e phase = phase && eqb e.moved (whole_of e.count)

-- what has moved contradicts the rest of its entry
unfoldable pub moved_bad : Entry → Bool → Bool
moved_bad e phase = (moved_above e || moved_odd e) || (moved_between e phase || phase_done e phase)

-- an outstanding tag's entry contradicts itself
unfoldable pub busy_bad : Settings → Entry → ℕ → Bool → Bool
busy_bad s e t phase =
    ((above_depth s t || past_capacity s e) || (count_zero e || (other_tag e t || other_range e)))
    || moved_bad e phase

-- some of a command's bytes 4-10 and 12-13 is not 0
abbrev pub echo_set : Echo → Bool
echo_set e =
    not (eqb e.b4 0 && eqb e.b5 0 && eqb e.b6 0 && eqb e.b7 0 && eqb e.b8 0 && eqb e.b9 0 && eqb e.b10 0
    && eqb e.b12 0 && eqb e.b13 0)

-- an idle tag's entry isn't zero [idle-entry]
unfoldable pub idle_bad : Entry → Bool
idle_bad e =
    not (not e.write && eqb e.first 0 && eqb e.count 0 && eqb e.moved 0 && eqb e.features 0 && eqb e.features_high 0)
    || echo_set e.echo

-- an entry contradicts itself: by whether its tag is outstanding
unfoldable pub entry_bad : Settings → Entry → ℕ → Bool → Bool → Bool
entry_bad s e t busy phase = pick busy (busy_bad s e t phase) (idle_bad e)

-- of tag t, in the table
abbrev pub tag_bad : Settings → List Entry → ℕ → Option ℕ → ℕ → Bool
tag_bad s es outstanding phase t = entry_bad s (get_or es t zero_entry) t (bit_in 32 outstanding t) (open_for phase t)

-- of some tag
unfoldable pub table_bad : Settings → List Entry → ℕ → Option ℕ → Bool
table_bad s es outstanding phase = some_below 32 (tag_bad s es outstanding phase)

-- the tag of a phase isn't among those outstanding
abbrev pub open_idle : ℕ → Option ℕ → Bool
open_idle outstanding None = false
open_idle outstanding (Some tag) = not (bit_in 32 outstanding tag)

-- the open phase's tag isn't outstanding [phase-idle]
abbrev pub phase_idle : Status → Bool
phase_idle f = open_idle f.outstanding f.phase

-- halted or held with something outstanding [stopped-busy]
abbrev pub stopped_busy : Status → Bool
stopped_busy f = (f.halted || f.held) && not (eqb f.outstanding 0)

-- halted and held [halted-held]
abbrev pub halted_held : Status → Bool
halted_held f = f.halted && f.held

-- held with a record not blank [held-record]
abbrev pub held_record : Status → Bool → Bool
held_record f set = f.held && set

-- outstanding, phase, halted and held contradict themselves
unfoldable pub status_bad : Status → Bool → Bool
status_bad f set = (stopped_busy f || halted_held f) || (held_record f set || phase_idle f)

-- a record with a tag above 31 [record-tag]
abbrev pub tag_too_large : ErrorRecord → Bool
tag_too_large r = ltb 31 r.tag

-- or under NQ [record-nq]
abbrev pub tag_under_nq : ErrorRecord → Bool
tag_under_nq r = r.nq && not (eqb r.tag 0)

-- or blank with other bytes not 0 [blank-bytes]
abbrev pub blank_not_zero : ErrorRecord → Bool
blank_not_zero r = not r.set && ((r.nq || not (eqb r.tag 0)) || (not (eqb r.error 0) || echo_set r.echo))

-- the record contradicts itself
unfoldable pub record_bad : ErrorRecord → Bool
record_bad r = (tag_too_large r || tag_under_nq r) || blank_not_zero r

-- an unkept row isn't zero [unkept-row]
abbrev pub row_bad : ℕ → ℕ → ℕ → Bool
row_bad mask row value = not (kept mask row) && not (eqb value 0)

-- of one row
abbrev pub row_bad_at : ℕ → List ℕ → ℕ → Bool
row_bad_at mask values row = row_bad mask row (get_or values row 0)

-- of some row
unfoldable pub rows_bad : ℕ → List ℕ → Bool
rows_bad mask values = some_below 16 (row_bad_at mask values)

-- refusal 1: settings out of bounds, or the state handed in contradicts itself [refused-1]
unfoldable pub contradictory : Settings → Status → List Entry → ErrorRecord → List ℕ → Bool
contradictory s f es r values =
    ((settings_out s || table_bad s es f.outstanding f.phase) || (status_bad f r.set || record_bad r)) || rows_bad s.mask values

-- 13: row 0, row 9, above 15, or not kept [refused-13]
abbrev pub row_refused : ℕ → ℕ → Bool
row_refused mask row = (eqb row 0 || eqb row 9) || (ltb 15 row || not (kept mask row))

-- so many events of a row; none of no row is refused
abbrev pub amount_refused : ℕ → ℕ → ℕ → Bool
amount_refused mask row amount = not (eqb amount 0) && row_refused mask row

-- of one row
abbrev pub amount_refused_at : ℕ → List ℕ → ℕ → Bool
amount_refused_at mask amounts row = amount_refused mask row (get_or amounts row 0)

-- 13: of some row [refused-13] [link-tally]
unfoldable pub tally_refused : ℕ → List ℕ → Bool
tally_refused mask amounts = some_below 16 (amount_refused_at mask amounts)
