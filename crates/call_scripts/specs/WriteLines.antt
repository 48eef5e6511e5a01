-- What is printed of what is written.
use Rattle.std.specs.Prelude.{ℕ, Bool, List, [], ◌∷◌, ◌++◌, length, take, drop, decimal, codes, is_none, Result, Ok, Err}
use Rattle.bits.specs.Laid.{overlay}
use Rattle.bits.specs.Pick.{pick}
use Rattle.refusals.specs.First.{unless}
use Rattle.refusals.specs.Number.{number}
use Rattle.refusals.specs.declared.reasons.Refusal.{Refusal}
use Rattle.frames.specs.Emit.{write_refusal}
use Rattle.frames.specs.Write.{FrameValue, fits, encode}
use Rattle.frames.specs.Write.FrameValue.{host, device, set_bits, setup, activate, payload, bist, pio}
use Rattle.counters.specs.Rows.{keeps_both}
use Rattle.hex.specs.Hex.{encode_lower}
use Rattle.pages.specs.Layout11.{page11}
use Rattle.pages.specs.Page10.{fits10, page10}
use Rattle.call_scripts.specs.Answers.{room_of, tail_of}
use Rattle.call_scripts.specs.Counting.{counted}
use Rattle.call_scripts.specs.declared.writings.FrameFields.{FrameFields}
use Rattle.call_scripts.specs.declared.writings.FrameFields.TheVariants as fields
use Rattle.call_scripts.specs.declared.writings.Writing.{Writing}
use Rattle.call_scripts.specs.declared.writings.Writing.TheVariants as writing

-- the frame of these fields; a payload counts up
abbrev pub frame_value : FrameFields → FrameValue
frame_value (fields.Host f) = host f
frame_value (fields.Device f) = device f
frame_value (fields.Bits f) = set_bits f
frame_value (fields.Setup f) = setup f
frame_value fields.Activate = activate
frame_value (fields.Data size byte) = payload (counted 256 byte size)
frame_value fields.Bist = bist
frame_value (fields.Pio f) = pio f

-- no value is too large for its place
unfoldable pub writing_fits : Writing → Bool
writing_fits (writing.Frame f) = fits (frame_value f)
writing_fits (writing.ErrorPage log) = fits10 log
writing_fits (writing.Counters mask values) = keeps_both mask

-- what is written
unfoldable pub writing_bytes : Writing → List ℕ
writing_bytes (writing.Frame f) = encode (frame_value f)
writing_bytes (writing.ErrorPage log) = page10 log
writing_bytes (writing.Counters mask values) = page11 mask values

-- 0, the length and the bytes of what was written, and whether a byte behind them has changed [script-write]
abbrev pub taken_text : ℕ → List ℕ → List ℕ
taken_text len buffer = codes "0 " ++ decimal len ++ 32 ∷ encode_lower (take len buffer) ++ tail_of (drop len buffer) ++ 10 ∷ []

-- or the refusal, and whether a byte has changed [script-write]
abbrev pub written_text : Result ℕ Refusal → List ℕ → List ℕ
written_text (Ok len) buffer = taken_text len buffer
written_text (Err refusal) buffer = decimal (number refusal) ++ codes " 0" ++ tail_of buffer ++ 10 ∷ []

-- the line of bytes that are written to a buffer d [script-write]
unfoldable pub emit_text : Bool → List ℕ → List ℕ → List ℕ
emit_text fit s d = written_text (unless (write_refusal fit (length s) (length d)) (length s)) (pick (is_none (write_refusal fit (length s) (length d))) (overlay s d) d)

-- the line of a `write` [script-write]
abbrev pub writing_text : ℕ → Writing → List ℕ
writing_text room w = emit_text (writing_fits w) (writing_bytes w) (room_of room)
