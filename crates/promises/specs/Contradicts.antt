-- When a state contradicts itself, written anew in the words of the rules: a clause for each, over the plain fields of the state. No test that the device goes by stands here.
use Rattle.std.specs.Prelude.{◌≡◌, true, false, ℕ, ◌+◌, ◌*◌, ◌/◌, ◌%◌, ◌^◌, ◌<◌, ◌≤◌, ◌⊎◌, eqb, get_or, Some, if◌then◌else◌}
use Rattle.device_state.specs.declared.shapes.Settings.{Settings}
use Rattle.device_state.specs.declared.shapes.Echo.{Echo}
use Rattle.device_state.specs.declared.shapes.Entry.{Entry}
use Rattle.device_state.specs.declared.shapes.ErrorRecord.{ErrorRecord}
use Rattle.device.specs.declared.state.Device.{Device}

-- bit k of a mask is on
abbrev pub IsOn : ℕ → ℕ → Type 0
IsOn mask k = mask / 2 ^ k % 2 ≡ 1

-- depth 1 to 32, capacity 1 to 65,536, and rows 0 and 9 are kept [settings]
pub record InBounds (s : Settings) : Type 0 where
  pub some_tag : 1 ≤ s.depth
  pub most_tags : s.depth ≤ 32
  pub some_sector : 1 ≤ s.capacity
  pub most_sectors : s.capacity ≤ 65536
  pub row_0 : IsOn s.mask 0
  pub row_9 : IsOn s.mask 9

-- the bytes of no command: all 0 [state]
abbrev pub no_bytes : Echo
no_bytes = record { b4 = 0; b5 = 0; b6 = 0; b7 = 0; b8 = 0; b9 = 0; b10 = 0; b12 = 0; b13 = 0 }

-- the entry of no command [state]
abbrev pub no_command : Entry
no_command = record { first = 0; count = 0; moved = 0; features = 0; features_high = 0; echo = no_bytes; write = false }

-- a record in which nothing is [state]
abbrev pub no_error : ErrorRecord
no_error = record { set = false; nq = false; tag = 0; error = 0; echo = no_bytes }

-- the tag that a command's bytes name is bits 3 to 7 of byte 12 [tag-bits]
abbrev pub named_tag : Echo → ℕ
named_tag b = b.b12 / 8 % 32

-- their first sector is bytes 4 to 6 and 8 to 10, the lowest first [numbers]
abbrev pub named_first : Echo → ℕ
named_first b = b.b4 + 2 ^ 8 * b.b5 + 2 ^ 16 * b.b6 + 2 ^ 24 * b.b8 + 2 ^ 32 * b.b9 + 2 ^ 40 * b.b10

-- their count is features and features high, and 0 means 65,536 [sector-count]
abbrev pub named_count : ℕ → ℕ → ℕ
named_count low high = if eqb (low + 256 * high) 0 then 65536 else low + 256 * high

-- they name the tag, the first sector and the count that the entry has
pub record NamesOwn (t : ℕ) (e : Entry) : Type 0 where
  pub tag : named_tag e.echo ≡ t
  pub first : named_first e.echo ≡ e.first
  pub count : named_count e.features e.features_high ≡ e.count

-- tag t is outstanding: it is one of 32, and its bit is on
abbrev pub IsOutstanding : Device → ℕ → Type 0
IsOutstanding d t = (t < 32) × IsOn d.status.outstanding t

-- the entry of tag t
abbrev pub entry : Device → ℕ → Entry
entry d t = get_or d.entries t no_command

-- the bytes that its command has
abbrev pub whole : Device → ℕ → ℕ
whole d t = 512 * (entry d t).count

-- a state contradicts itself in these ways; those of a tag are asked of each that is outstanding
pub data Contradicts (d : Device) : Type 0 where
  -- the settings are out of bounds [settings-out]
  settings_out : (InBounds d.settings → ⊥) → Contradicts d
  -- the tag is not below the depth [tag-above-depth]
  tag_above_depth : (t : ℕ) → IsOutstanding d t → d.settings.depth ≤ t → Contradicts d
  -- first sector + count is above the capacity [range-past-capacity]
  range_past_capacity : (t : ℕ) → IsOutstanding d t → d.settings.capacity < (entry d t).first + (entry d t).count → Contradicts d
  -- the entry's count is 0 [count-zero]
  count_zero : (t : ℕ) → IsOutstanding d t → (entry d t).count ≡ 0 → Contradicts d
  -- the bytes of the command name a tag, a first sector or a count that is not the entry's [bytes-of-another]
  bytes_of_another : (t : ℕ) → IsOutstanding d t → (NamesOwn t (entry d t) → ⊥) → Contradicts d
  -- more bytes have moved than the command has [moved-above]
  moved_above : (t : ℕ) → IsOutstanding d t → whole d t < (entry d t).moved → Contradicts d
  -- the bytes moved are no multiple of 4 [moved-fours]
  moved_fours : (t : ℕ) → IsOutstanding d t → ((entry d t).moved % 4 ≡ 0 → ⊥) → Contradicts d
  -- some bytes have moved and not all, and the phase is not this tag's [moved-idle]
  moved_idle : (t : ℕ) → IsOutstanding d t → 0 < (entry d t).moved → (entry d t).moved < whole d t → (d.status.phase ≡ Some t → ⊥) → Contradicts d
  -- the tag of the phase is idle [phase-idle]
  phase_idle : (t : ℕ) → d.status.phase ≡ Some t → (IsOutstanding d t → ⊥) → Contradicts d
  -- nothing is left of the phase's command [phase-done]
  phase_done : (t : ℕ) → d.status.phase ≡ Some t → whole d t ≤ (entry d t).moved → Contradicts d
  -- something is outstanding, and the device is halted or held [stopped-busy]
  stopped_busy : (d.status.outstanding ≡ 0 → ⊥) → (d.status.halted ≡ true) ⊎ (d.status.held ≡ true) → Contradicts d
  -- it is both [halted-held]
  halted_held : d.status.halted ≡ true → d.status.held ≡ true → Contradicts d
  -- it is held, and the record is not blank [held-record]
  held_record : d.status.held ≡ true → d.errors.set ≡ true → Contradicts d
  -- the record's tag is 32 or more [record-tag]
  record_tag : 32 ≤ d.errors.tag → Contradicts d
  -- the record has NQ on and another tag than 0 [record-nq]
  record_nq : d.errors.nq ≡ true → (d.errors.tag ≡ 0 → ⊥) → Contradicts d
  -- the record is blank and has something else than 0 in it [blank-bytes]
  blank_bytes : d.errors.set ≡ false → (d.errors ≡ no_error → ⊥) → Contradicts d
  -- the entry of an idle tag has something else than 0 in it [idle-entry]
  idle_entry : (t : ℕ) → t < 32 → (IsOutstanding d t → ⊥) → (entry d t ≡ no_command → ⊥) → Contradicts d
  -- a counter is not 0 whose row is not kept [unkept-row]
  unkept_row : (row : ℕ) → row < 16 → (IsOn d.settings.mask row → ⊥) → (get_or d.values row 0 ≡ 0 → ⊥) → Contradicts d
