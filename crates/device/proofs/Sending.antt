-- What a call replies stands in the buffer whole, frame by frame.
use Rattle.std.proofs.Common.{Ok, Err, ◌≡◌, subst, List, map, ℕ, length, take}
use Rattle.frames.specs.Cut.{cut, joined_bytes}
use Rattle.frames.proofs.ReadLaws.{read_data}
use Rattle.frames.specs.Write.{encode}
use Rattle.frames.specs.DataLast.{DataLast}
use Rattle.rules.specs.Call.{Call, host_frame}
use Rattle.rules.specs.Medium.{part_of}
use Rattle.rules.specs.declared.acts.Act.{Act}
use Rattle.rules.proofs.Ruled as by
use Rattle.replies.specs.Replies.{sent_all, RepliesGiven}
use Rattle.replies.proofs.Fit.{Fitting, Fit}
use Rattle.replies.proofs.Fits.{replies_fit, replies_data_last, cut_replies, all_sent}
use Rattle.device.specs.Lent.{Lent, lent, Typed}
use Rattle.device.specs.FactsOf.{medium_wrong, unready_in, facts_of}
use Rattle.device.specs.Step.{Step, state_shown, step_by, step}
use Rattle.device.specs.declared.state.Device.{Device}
use Rattle.device.proofs.Sized.{SizedRecord}
use Rattle.device.proofs.Turns.{by_turn, act_ruled}
use Rattle.device.proofs.Fitting.{read_fits}
use Rattle.device.proofs.Rulings.{heard_keeps, own_keeps}

-- every reply of a step can be written; the reply bytes are those of its frames, one behind the other, and cut by kind and length they are its frames again
pub record Whole (s : Step) : Type 0 where
  pub fitting : Fitting s.frames
  pub all : sent_all s.frames ≡ joined_bytes (map encode s.frames)
  pub cut_replies : (b : List ℕ) (n : ℕ) (b' : List ℕ) → RepliesGiven s.frames b n b' → cut (take n b') ≡ map encode s.frames

-- frames that can be written, a data frame last
frames_whole : (s : Step) → Fitting s.frames → DataLast s.frames → Whole s
frames_whole s f k = record { fitting = f; all = all_sent s.frames f; cut_replies = λ b n b' w. cut_replies s.frames b n b' f k w }

-- a taken call
ruled_fits : (d : Device) (m b : List ℕ) {c : Call} {a : Act} → Typed c → SizedRecord d → by.Ruled (facts_of d (lent c m b)) c (Ok a) → Fit (state_shown d) (part_of a m) a
ruled_fits d m b t z (by.host f a g w r h) =
    let keeps = heard_keeps d (medium_wrong d.settings.capacity (length m)) (unready_in d (host_frame f)) (length b) g _ f (read_data f) h in
    subst (λ (p : List ℕ). Fit (state_shown d) p a) (by.heard_unsent (facts_of d (lent (host_frame f) m b)) m h) (keeps.fits (read_fits f t.0) z)
ruled_fits d m b t z (by.own o) = (own_keeps d m b o).keeps.fits t z

-- every call whose arguments are of their types, of a device whose record is
pub whole : (d : Device) (l : Lent) → Typed l.call → SizedRecord d → Whole (step d l)
unfolding Fitting DataLast
whole d l t z =
    by_turn d l Whole (λ r _. frames_whole (step_by d l (Err r)) tt tt)
    (λ a q.
    let part = part_of a l.medium in
    frames_whole (step_by d l (Ok a)) (replies_fit (state_shown d) part a (ruled_fits d l.medium l.buffer t z (act_ruled d l a q))) (replies_data_last (state_shown d) part a))
