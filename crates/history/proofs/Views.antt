-- What the host sees of replies that were sent: the reader's view of the frames, and what is read of them.
use Rattle.std.proofs.Common.{Ok, ◌≡◌, refl, ap, ap₂, ◌∙◌, Bool, true, false, ◌||◌, List, [], ◌∷◌, ◌++◌, map, append-nil, ℕ, ◌+◌, length, arith}
use Rattle.bits.specs.Pick.{pick}
use Rattle.bits.specs.Bit.{bit_in}
use Rattle.frames.specs.Read.{read_frame}
use Rattle.frames.specs.Write.{FrameValue, device, set_bits, setup, payload, pio, encode}
use Rattle.frames.specs.RoundTrip as trip
use Rattle.frames.specs.declared.shapes.DevReg.{DevReg}
use Rattle.frames.specs.declared.shapes.SetBits.{SetBits}
use Rattle.frames.specs.declared.shapes.DmaSetup.{DmaSetup}
use Rattle.frames.specs.declared.shapes.PioSetup.{PioSetup}
use Rattle.frames.proofs.RoundTrip.{read_encoded}
use Rattle.replies.proofs.Fit.{Fitting}
use Rattle.replies.specs.Replies.{activate_if}
use Rattle.history.specs.FrameAsks.{Asked, quiet, data_asks, reset_asks}
use Rattle.history.specs.Replied.{FrameRead, some, err_in, collect, is_pio, data_in, payloads}
use Rattle.history.specs.Seen.{Seen, seen_in, names, begun, Transfer, under_way}
use Rattle.history.proofs.Class.{none, Is, Unbegun}

-- what the reader sees of a frame that is sent
abbrev pub read_as : FrameValue → FrameRead
read_as f = Ok (trip.read_back f)

-- and of frames
abbrev pub read_in : List FrameValue → List FrameRead
read_in fs = map read_as fs

-- the payload of a frame that is sent
abbrev pub payload_of : FrameValue → List ℕ
payload_of (payload p) = p
payload_of _ = []

-- the payloads of frames, one behind the other
abbrev pub payloads_of : List FrameValue → List ℕ
payloads_of [] = []
payloads_of (f ∷ fs) = payload_of f ++ payloads_of fs

-- what is sent that is no page
abbrev pub sent_in : List FrameValue → List ℕ
sent_in fs = pick (some is_pio (read_in fs)) [] (payloads_of fs)

-- the page that is sent
abbrev pub page_in : List FrameValue → List ℕ
page_in fs = pick (some is_pio (read_in fs)) (payloads_of fs) []

-- what is read of frames that were sent
unfoldable pub view : Asked → List FrameValue → Seen
view a fs = seen_in a (read_in fs) (length (sent_in fs))

-- frames that can be written are read as they were sent
pub all_read : (fs : List FrameValue) → Fitting fs → map read_frame (map encode fs) ≡ read_in fs
unfolding Fitting
all_read [] h = refl
all_read (f ∷ fs) h = ap₂ (λ (x : FrameRead) (l : List FrameRead). x ∷ l) (read_encoded f h.0) (all_read fs h.1)

data_of : (f : FrameValue) → data_in (encode f) (read_as f) ≡ payload_of f
unfolding encode
data_of (payload p) = refl
data_of _ = refl

-- and their payloads are those that were sent
pub all_payloads : (fs : List FrameValue) → Fitting fs → payloads (map encode fs) ≡ payloads_of fs
unfolding Fitting payloads
all_payloads [] h = refl
all_payloads (f ∷ fs) h =
    ap₂ (λ (x y : List ℕ). x ++ y) (ap (data_in (encode f)) (read_encoded f h.0) ∙ data_of f) (all_payloads fs h.1)

-- ---- what is seen, reply by reply

module _ (k : Asked) where
  -- no reply
  pub is_silent : k.queued ≡ false → Is (view k []) false false false false k.resets false false none none 0 k.brings
  unfolding view some collect
  is_silent q = grind arith

  -- a bad answer
  pub is_bad : (f : DevReg) → err_in f.status ≡ true → k.command ≡ true → k.resets ≡ false → k.brings ≡ 0 → Is (view k (device f ∷ [])) k.queued false true false false false false none none 0 0
  unfolding view some collect
  is_bad f e c r b = grind arith

  -- a good answer
  pub is_good : (f : DevReg) → err_in f.status ≡ false → k.resets ≡ false → k.brings ≡ 0 → Is (view k (device f ∷ [])) k.queued k.queued false false false false false none none 0 0
  unfolding view some collect
  is_good f e r b = grind arith

  -- a page
  pub is_page : (f : PioSetup) (p : List ℕ) → k.queued ≡ false → k.resets ≡ false → k.brings ≡ 0
      → Is (view k (pio f ∷ payload p ∷ [])) false false false false false false (k.reads 0x10) none none 0 0
  unfolding view some collect
  is_page f p q r b = grind arith

  -- the sweep, and a page
  pub is_swept : (s : SetBits) (f : PioSetup) (p : List ℕ) → err_in s.status ≡ false → k.command ≡ true → k.reads 0x10 ≡ true → k.queued ≡ false → k.resets ≡ false → k.brings ≡ 0
      → Is (view k (set_bits s ∷ pio f ∷ payload p ∷ [])) false false false false false true true none (λ t. names t s || false) 0 0
  unfolding view some collect
  is_swept s f p e c n q r b = grind arith

-- an A1h without ERR that answers no command
pub is_finish : (s : SetBits) → err_in s.status ≡ false → Is (view quiet (set_bits s ∷ [])) false false false false false false false (bit_in 32 s.active) (bit_in 32 s.active) 0 0
unfolding view some collect
is_finish s e = grind arith

-- an A1h with ERR and an empty field
pub is_failed : (s : SetBits) → err_in s.status ≡ true → s.active ≡ 0 → Is (view quiet (set_bits s ∷ [])) false false false true false false false none none 0 0
unfolding view some collect
is_failed s e z = grind arith

-- COMRESET and its signature
pub is_reset : (f : DevReg) → err_in f.status ≡ false → Is (view reset_asks (device f ∷ [])) false false false false true false false none none 0 0
unfolding view some collect
is_reset f e = grind arith

-- a DMA Setup, for a write with an Activate
pub is_setup : (f : DmaSetup) (w : Bool) → Is (view quiet (setup f ∷ activate_if w)) false false false false false false false none none 0 0
unfolding view some collect
is_setup f w = grind arith

-- and what it begins
pub setup_begins : (f : DmaSetup) (w : Bool) (x : Transfer) → (view quiet (setup f ∷ activate_if w)).begins x ≡ under_way f.to_host f.tag f.offset (f.offset + f.count)
unfolding view collect begun
setup_begins f w x = grind arith

-- host data, with an Activate if more is left
pub is_brought : (n : ℕ) (on : Bool) → Is (view (data_asks n) (activate_if on)) false false false false false false false none none 0 n
unfolding view some collect
is_brought n on = grind arith

-- device data
pub is_sent : (p : List ℕ) → Is (view quiet (payload p ∷ [])) false false false false false false false none none (length p) 0
unfolding view some collect
is_sent p = grind (arith, append-nil {A = ℕ})

-- ---- what begins nothing

module _ (k : Asked) where
  -- no reply
  pub silent_unbegun : Unbegun (view k [])
  unfolding view collect begun
  silent_unbegun x = refl

  -- an answer
  pub answer_unbegun : (f : DevReg) → Unbegun (view k (device f ∷ []))
  unfolding view collect begun
  answer_unbegun f x = refl

  -- a page
  pub page_unbegun : (f : PioSetup) (p : List ℕ) → Unbegun (view k (pio f ∷ payload p ∷ []))
  unfolding view collect begun
  page_unbegun f p x = refl

  -- the sweep and a page
  pub swept_unbegun : (s : SetBits) (f : PioSetup) (p : List ℕ) → Unbegun (view k (set_bits s ∷ pio f ∷ payload p ∷ []))
  unfolding view collect begun
  swept_unbegun s f p x = refl

  -- an Activate
  pub active_unbegun : (on : Bool) → Unbegun (view k (activate_if on))
  unfolding view collect begun
  active_unbegun on x = grind arith

  -- an A1h
  pub bits_unbegun : (s : SetBits) → Unbegun (view k (set_bits s ∷ []))
  unfolding view collect begun
  bits_unbegun s x = refl

  -- device data
  pub sent_unbegun : (p : List ℕ) → Unbegun (view k (payload p ∷ []))
  unfolding view collect begun
  sent_unbegun p x = refl
