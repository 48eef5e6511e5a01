-- The settings record.
use Rattle.std.specs.Prelude.{◌≡◌, ◌<◌, ◌^◌, Bool, List, ◌∷◌, ◌++◌, ℕ, leb, get_or, take, Option, Some, None}
use Rattle.bits.specs.Little.{le_at, le_bytes}
use Rattle.device_state.specs.declared.shapes.Settings.{Settings}

-- 00h settings, in the direction in which they are written: depth 1, capacity 4, mask 2, behind the kind [event-settings]
abbrev pub settings_bytes : Settings → List ℕ
settings_bytes s = 0x00 ∷ s.depth ∷ le_bytes 4 s.capacity ++ le_bytes 2 s.mask

-- each in its width
abbrev pub SettingsFit : Settings → Type 0
SettingsFit s = (s.depth < 256) × (s.capacity < 2 ^ 32) × (s.mask < 2 ^ 16)

-- no settings record begins these bytes [event-stop]
abbrev pub NoSettingsBegin : List ℕ → Type 0
NoSettingsBegin l = (s : Settings) (rest : List ℕ) → SettingsFit s → l ≡ settings_bytes s ++ rest → ⊥

-- the settings record that bytes begin with, which has 8; or none begins them
abbrev pub FirstSettings : List ℕ → Option Settings → Type 0
FirstSettings l (Some s) = SettingsFit s × (take 8 l ≡ settings_bytes s)
FirstSettings l None = NoSettingsBegin l

-- how they are taken from a record's bytes
unfoldable pub settings_of : List ℕ → Settings
settings_of e = record { depth = get_or e 1 0; capacity = le_at e 2 4; mask = le_at e 6 2 }

-- a capacity is at most 64 here; one below 1 power-on refuses [event-settings]
abbrev pub in_limit : Settings → Bool
in_limit s = leb s.capacity 64
