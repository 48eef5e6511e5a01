-- From reply bytes to frames: what is read of an event's bytes is what the step sent.
use Rattle.std.proofs.Common.{◌≡◌, refl, ap, ap₂, ◌∙◌, List, [], map, ℕ, length}
use Rattle.bits.specs.Pick.{pick}
use Rattle.frames.specs.Cut.{cut}
use Rattle.frames.specs.Read.{read_frame}
use Rattle.frames.specs.Write.{FrameValue, encode}
use Rattle.replies.proofs.Fit.{Fitting}
use Rattle.device.proofs.Sized.{SizedRecord}
use Rattle.device.specs.Lent.{Lent, Typed}
use Rattle.device.specs.Step.{step}
use Rattle.device.specs.declared.state.Device.{Device}
use Rattle.device.proofs.Sending.{whole}
use Rattle.history.specs.Event.{Event, replied}
use Rattle.history.specs.FrameAsks.{Asked}
use Rattle.history.specs.Asked.{asks}
use Rattle.history.specs.Replied.{FrameRead, frames, replies_in, some, is_pio, payloads, page, sent}
use Rattle.history.specs.Seen.{seen_in, seen}
use Rattle.history.specs.Run.{result, done, event}
use Rattle.history.proofs.Views.{read_in, view, all_read, all_payloads, payloads_of, page_in, sent_in}

-- the reply bytes of an event are those of the frames fs, each of which can be written
pub record Read (x : Event) (fs : List FrameValue) : Type 0 where
  pub cuts : cut (replied x) ≡ map encode fs
  pub fitting : Fitting fs

module _ (x : Event) (fs : List FrameValue) (r : Read x fs) where
  -- the reader sees them
  pub read_frames : frames x ≡ read_in fs
  read_frames = ap (map read_frame) r.cuts ∙ all_read fs r.fitting

  -- and their payloads
  pub read_payloads : payloads (replies_in x) ≡ payloads_of fs
  read_payloads = ap payloads r.cuts ∙ all_payloads fs r.fitting

  -- what is sent that is no page
  pub read_sent : sent x ≡ sent_in fs
  read_sent = ap₂ (λ (l : List FrameRead) (p : List ℕ). pick (some is_pio l) [] p) read_frames read_payloads

  -- and what is sent that is one
  pub read_page : page x ≡ page_in fs
  read_page = ap₂ (λ (l : List FrameRead) (p : List ℕ). pick (some is_pio l) p []) read_frames read_payloads

  -- all that is read in a history
  pub read_seen : (a : Asked) → asks x ≡ a → seen x ≡ view a fs
  unfolding seen view
  read_seen a e =
      ap (λ (k : Asked). seen_in k (frames x) (length (sent x))) e
      ∙ ap₂ (λ (l : List FrameRead) (p : List ℕ). seen_in a l (length p)) read_frames read_sent

-- every call: its frames stand whole in the reply buffer
pub read_step : (d : Device) (l : Lent) → Typed l.call → SizedRecord d → Read (event (done l (result d l))) (step d l).frames
read_step d l t s = let w = whole d l t s in record { cuts = w.cut_replies l.buffer _ _ (record { len = refl; bytes = refl }); fitting = w.fitting }
