-- A reply as a frame value.
use Rattle.frames.specs.Write.{FrameValue, device, set_bits, setup, activate, payload, pio}
use Rattle.replies.specs.declared.reply.Reply.{Reply}
use Rattle.replies.specs.declared.reply.Reply.TheVariants.{Register, Bits, Setup, Activate, Pio, Data}

-- a reply as a frame value
abbrev pub framed : Reply → FrameValue
framed (Register f) = device f
framed (Bits f) = set_bits f
framed (Setup f) = setup f
framed Activate = activate
framed (Pio f) = pio f
framed (Data p) = payload p.now
