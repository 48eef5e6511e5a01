-- Every reply that fits is sent, whole and in its place: none is left out.
use Rattle.std.proofs.Common.{◌≡◌, refl, sym, ap, ap₂, ◌∙◌, Bool, true, false, not, true≢false, List, [], ◌∷◌, ◌++◌, map, ℕ, ◌^◌, ◌<◌, arith, length, take, drop, take_at, lt-ltb}
use Rattle.bits.specs.Little.{Bytes}
use Rattle.bits.proofs.Picks.{pick_yes}
use Rattle.frames.specs.Cut.{cut, joined_bytes}
use Rattle.frames.specs.Shared.{task_fits}
use Rattle.frames.specs.declared.shared.Task.{Task}
use Rattle.frames.proofs.FitLaws.{low_fits, high_fits}
use Rattle.frames.proofs.TaskLaws.{task_fits_lem}
use Rattle.frames.specs.Write.{FrameValue, payload, encode, fits}
use Rattle.frames.specs.DataLast.{DataLast}
use Rattle.frames.proofs.Cuts.{cut_sent}
use Rattle.pages.specs.Page10.{page10, fits10}
use Rattle.counters.specs.Rows.{keeps_both}
use Rattle.pages.specs.Layout11.{page11}
use Rattle.pages.proofs.Trip10.{length_10}
use Rattle.pages.proofs.Bytes11.{page_length}
use Rattle.identity.specs.Words.{fits_identity}
use Rattle.identity.specs.Page.{identity_page}
use Rattle.identity.specs.declared.words.Identity.{Identity}
use Rattle.identity.proofs.Standing as standing
use Rattle.device_state.specs.State.{placed_bytes, task_in, whole_of}
use Rattle.device_state.specs.declared.shapes.Echo.{Echo}
use Rattle.device_state.specs.declared.shapes.ErrorRecord.{ErrorRecord}
use Rattle.replies.specs.StateShown.{StateShown}
use Rattle.rules.specs.declared.acts.Act.{Act}
use Rattle.rules.specs.declared.acts.Act.TheVariants.{Nothing, Bad, BadAndHalt, Accept, Log10, Log11, Identify, Reset, Release, ZeroCounters, Store, Open, Send, Finish, Media, Count, Renew}
use Rattle.replies.specs.Replies.{register, activate_if, pio_reply, log_of, page10_of, page11_of, identity_of, log_replies, replies_of, sent_bytes, sent_all, RepliesGiven}
use Rattle.replies.proofs.Fit.{Fitting, Fit}

-- frames that fit are all sent
pub all_sent : (fs : List FrameValue) → Fitting fs → sent_all fs ≡ joined_bytes (map encode fs)
unfolding Fitting sent_all sent_bytes joined_bytes
all_sent [] h = refl
all_sent (f ∷ fs) h = ap₂ (λ (a b : List ℕ). a ++ b) (pick_yes (fits f) (encode f) [] h.0) (all_sent fs h.1)

register_fits : (i : Bool) (status error : ℕ) (task : Task) → status < 256 → error < 256 → task_fits task ≡ true → fits (register i status error task) ≡ true
unfolding fits
register_fits i status error task s e t = grind (arith, low_fits, high_fits)

pio_fits : (task : Task) → task_fits task ≡ true → fits (pio_reply task) ≡ true
unfolding fits
pio_fits task t = grind (arith, low_fits, high_fits)

-- what stands in the bytes of a command
echo_fits : (e : Echo) → Bytes (placed_bytes e) → task_fits (task_in e) ≡ true
unfolding task_in
echo_fits e b = task_fits_lem (placed_bytes e) b

page_fits : (page : List ℕ) → length page ≡ 512 → fits (payload page) ≡ true
unfolding fits
page_fits page e = rw e

log_fits : (on : Bool) (task : Task) (page : List ℕ) → task_fits task ≡ true → length page ≡ 512 → Fitting (log_replies on task page)
unfolding Fitting fits
log_fits true task page t e = (refl, (pio_fits task t, (page_fits page e, tt)))
log_fits false task page t e = (pio_fits task t, (page_fits page e, tt))

-- a page has 512 bytes
pub page10_long : (r : ErrorRecord) → fits10 (log_of r) ≡ true → length (page10_of r) ≡ 512
page10_long r h = ap length (pick_yes (fits10 (log_of r)) (page10 (log_of r)) [] h) ∙ length_10 (log_of r)

pub page11_long : (mask : ℕ) (values : List ℕ) → keeps_both mask ≡ true → length (page11_of mask values) ≡ 512
page11_long mask values h = ap length (pick_yes (keeps_both mask) (page11 mask values) [] h) ∙ page_length mask values

pub identity_long : (f : Identity) → fits_identity f ≡ true → length (identity_of f) ≡ 512
identity_long f h = ap length (pick_yes (fits_identity f) (identity_page f) [] h) ∙ standing.page_length f

activate_fits : (on : Bool) → Fitting (activate_if on)
unfolding Fitting fits
activate_fits true = (refl, tt)
activate_fits false = tt

-- a data frame comes last
off : {A : Type 0} → false ≡ true → A
off e = absurd (true≢false (sym e))

log_data_last : (on : Bool) (task : Task) (page : List ℕ) → DataLast (log_replies on task page)
unfolding DataLast
log_data_last true task page = (off, (off, (λ _. refl, tt)))
log_data_last false task page = (off, (λ _. refl, tt))

activate_data_last : (on : Bool) → DataLast (activate_if on)
unfolding DataLast
activate_data_last true = (off, tt)
activate_data_last false = tt

module _ (s : StateShown) (part : List ℕ) where
  -- by the act
  pub replies_fit : (a : Act) → Fit s part a → Fitting (replies_of s part a)
  unfolding Fit Fitting replies_of fits
  replies_fit (Bad b) h = (register_fits true 0x41 b.error b.task (omega arith) h.0 h.1, tt)
  replies_fit (BadAndHalt f) h = (register_fits true 0x41 f.error (task_in f.echo) (omega arith) h.0 (echo_fits f.echo h.1), tt)
  replies_fit (Accept q) h = (register_fits false 0x40 0 (task_in q.entry.echo) (omega arith) (omega arith) (echo_fits q.entry.echo h), tt)
  replies_fit (Log10 task) h = log_fits s.halted task (page10_of s.errors) h.0 (page10_long s.errors h.1)
  replies_fit (Log11 l) h = log_fits false l.task (page11_of s.mask s.values) h.0 (page11_long s.mask s.values h.1)
  replies_fit (Identify task) h = log_fits false task (identity_of s.identity) h.0 (identity_long s.identity h.1)
  replies_fit Release h = (refl, tt)
  replies_fit (Store m) h = activate_fits (not m.last)
  replies_fit (Open q) h =
      let most : whole_of q.entry.count < 2 ^ 32 = omega arith in
      (grind arith, activate_fits q.entry.write)
  replies_fit (Send m) h = (h, tt)
  replies_fit (Finish set) h = (rw (lt-ltb set (2 ^ 32) h), tt)
  replies_fit (Media f) h = (rw (lt-ltb f.error 256 h), tt)
  replies_fit Renew h = (refl, tt)
  replies_fit _ h = tt

  -- a data frame comes last
  pub replies_data_last : (a : Act) → DataLast (replies_of s part a)
  unfolding DataLast replies_of
  replies_data_last Nothing = tt
  replies_data_last Reset = tt
  replies_data_last ZeroCounters = tt
  replies_data_last (Count r) = tt
  replies_data_last (Log10 task) = log_data_last s.halted task (page10_of s.errors)
  replies_data_last (Log11 l) = log_data_last false l.task (page11_of s.mask s.values)
  replies_data_last (Identify task) = log_data_last false task (identity_of s.identity)
  replies_data_last (Store m) = activate_data_last (not m.last)
  replies_data_last (Open q) = (off, activate_data_last q.entry.write)
  replies_data_last (Send m) = (λ _. refl, tt)
  replies_data_last _ = (off, tt)

-- cut by kind and length, the replies in the buffer are the frames that were sent
pub cut_replies : (fs : List FrameValue) (d : List ℕ) (n : ℕ) (d' : List ℕ) → Fitting fs → DataLast fs → RepliesGiven fs d n d' → cut (take n d') ≡ map encode fs
cut_replies fs d n d' h k s =
    let e : take n d' ≡ sent_all fs = ap₂ (λ (i : ℕ) (l : List ℕ). take i l) s.len s.bytes ∙ take_at (sent_all fs) (drop (length (sent_all fs)) d) (length (sent_all fs)) refl in
    ap cut (e ∙ all_sent fs h) ∙ cut_sent fs k
