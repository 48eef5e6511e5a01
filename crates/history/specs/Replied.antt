-- What the replies of a call say: its reply bytes cut into frames, each read by the frame reader's own definition.
use Rattle.std.specs.Prelude.{Bool, true, false, ◌||◌, List, [], ◌∷◌, ◌++◌, map, ℕ, drop, Result, Ok}
use Rattle.bits.specs.Pick.{pick}
use Rattle.bits.specs.Bit.{bit_in}
use Rattle.frames.specs.Cut.{cut}
use Rattle.frames.specs.Read.{read_frame}
use Rattle.frames.specs.declared.shapes.DevReg.{DevReg}
use Rattle.frames.specs.declared.shapes.SetBits.{SetBits}
use Rattle.frames.specs.declared.shapes.DmaSetup.{DmaSetup}
use Rattle.frames.specs.declared.shapes.PioSetup.{PioSetup}
use Rattle.frames.specs.declared.shapes.Frame.{Frame}
use Rattle.frames.specs.declared.shapes.Frame.TheVariants.{Device, Bits, Setup, Data, Pio}
use Rattle.refusals.specs.declared.reasons.Refusal.{Refusal}
use Rattle.history.specs.Event.{Event, replied}

-- a frame as its reader answers it: what it reads, or a refusal
abbrev pub FrameRead : Type 0
FrameRead = Result Frame Refusal

-- the replies, each as its bytes
abbrev pub replies_in : Event → List (List ℕ)
replies_in e = cut (replied e)

-- the replies as the reader sees them
abbrev pub frames : Event → List FrameRead
frames e = map read_frame (replies_in e)

-- some element of a list is so
unfoldable pub some : {A : Type 0} → (A → Bool) → List A → Bool
some p [] = false
some p (x ∷ xs) = p x || some p xs

-- ERR is bit 0 of status
abbrev pub err_in : ℕ → Bool
err_in status = bit_in 8 status 0

-- a 34h
abbrev pub register_in : FrameRead → List DevReg
register_in (Ok (Device f)) = f ∷ []
register_in _ = []

-- an A1h
abbrev pub set_bits_in : FrameRead → List SetBits
set_bits_in (Ok (Bits f)) = f ∷ []
set_bits_in _ = []

-- a 41h
abbrev pub setup_in : FrameRead → List DmaSetup
setup_in (Ok (Setup f)) = f ∷ []
setup_in _ = []

-- a 5Fh
abbrev pub pio_setup_in : FrameRead → List PioSetup
pio_setup_in (Ok (Pio f)) = f ∷ []
pio_setup_in _ = []

-- whether a frame is one
abbrev pub is_pio : FrameRead → Bool
is_pio f = some (λ s. true) (pio_setup_in f)

-- all of a kind that stand in a reply
unfoldable pub collect : {A : Type 0} → (FrameRead → List A) → List FrameRead → List A
collect f [] = []
collect f (x ∷ xs) = f x ++ collect f xs

-- some 5Fh has ERR, in its status or in its ending status [no-err]
abbrev pub faulty_in : List FrameRead → Bool
faulty_in fs = some (λ p. err_in p.status || err_in p.ending) (collect pio_setup_in fs)

-- the payload of a reply that is a data frame; of any other none
abbrev pub data_in : List ℕ → FrameRead → List ℕ
data_in p (Ok (Data n)) = drop 4 p
data_in p _ = []

-- the payloads of replies, one behind the other
unfoldable pub payloads : List (List ℕ) → List ℕ
payloads [] = []
payloads (p ∷ ps) = data_in p (read_frame p) ++ payloads ps

-- a page was sent: the replies hold a 5Fh
abbrev pub paged : Event → Bool
paged e = some is_pio (frames e)

-- a 46h behind a 5Fh in one reply is a page; what a 46h takes is all that is left, so that nothing stands behind it
abbrev pub page : Event → List ℕ
page e = pick (paged e) (payloads (replies_in e)) []

-- and belongs to no command; what is sent without a 5Fh is a command's data [data-owned]
abbrev pub sent : Event → List ℕ
sent e = pick (paged e) [] (payloads (replies_in e))
