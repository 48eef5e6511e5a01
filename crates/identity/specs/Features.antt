-- The features that a host can turn on and off, as a word of IDENTIFY DEVICE tells them.
use Rattle.std.specs.Prelude.{false, ℕ, ◌+◌}
use Rattle.bits.specs.Bit.{bit_byte}
use Rattle.identity.specs.declared.features.Features.{Features}

-- bit 1 buffer offsets, bit 2 auto-activate, bit 6 preservation of settings: of word 78 which there are, of word 79 which are on [identity-features]
abbrev pub features_word : Features → ℕ
features_word f = bit_byte f.offsets 1 + bit_byte f.auto_activate 2 + bit_byte f.preservation 6

-- none: the device takes no SET FEATURES [identity-features]
abbrev pub no_features : Features
no_features = record { offsets = false; auto_activate = false; preservation = false }
