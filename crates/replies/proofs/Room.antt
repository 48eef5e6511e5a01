-- The room that every call asks for is enough for the replies of any act.
use Rattle.std.proofs.Common.{◌≡◌, refl, Bool, true, false, not, List, [], ◌∷◌, ⊎_elim, ℕ, ◌+◌, ◌≤◌, ◌<◌, arith, length}
use Rattle.bits.specs.Pick.{pick}
use Rattle.bits.proofs.Picks.{by_test}
use Rattle.std.proofs.lemmas.Bool.{cases_lt}
use Rattle.frames.specs.Cut.{joined_bytes}
use Rattle.frames.specs.Shared.{register_bytes}
use Rattle.frames.specs.declared.shared.Task.{Task}
use Rattle.frames.specs.Write.{FrameValue, host, device, set_bits, setup, activate, payload, bist, pio, encode, fits}
use Rattle.frames.proofs.WriteLaws.{length_payload}
use Rattle.pages.specs.Page10.{page10, fits10}
use Rattle.counters.specs.Rows.{keeps_both}
use Rattle.pages.specs.Layout11.{page11}
use Rattle.pages.proofs.Trip10.{length_10}
use Rattle.pages.proofs.Bytes11.{page_length}
use Rattle.identity.specs.Words.{fits_identity}
use Rattle.identity.specs.Page.{identity_page}
use Rattle.identity.specs.declared.words.Identity.{Identity}
use Rattle.identity.proofs.Standing as standing
use Rattle.device_state.specs.declared.shapes.ErrorRecord.{ErrorRecord}
use Rattle.rules.specs.declared.acts.Queued.{Queued}
use Rattle.rules.specs.declared.acts.Act.{Act}
use Rattle.rules.specs.declared.acts.Act.TheVariants.{Nothing, Log10, Log11, Identify, Reset, ZeroCounters, Store, Open, Count}
use Rattle.replies.specs.StateShown.{StateShown}
use Rattle.replies.specs.Replies.{sweep, sweep_if, activate_if, pio_reply, setup_reply, log_of, page10_of, page11_of, identity_of, log_replies, open_replies, replies_of, sent_bytes, sent_all}
use Rattle.replies.proofs.Sending.{sent_one, length_sent}

-- what is sent of a list is no longer than the list
picked_short : (b : Bool) (s : List ℕ) → length (pick b s []) ≤ length s
picked_short b s = by_test (λ (t : List ℕ). length t ≤ length s) b s [] (λ _. omega arith) (λ _. omega arith)

-- a payload that is too long is not sent
long_unsent : (p : List ℕ) → 8192 < length p → sent_bytes (payload p) ≡ []
unfolding sent_bytes fits
long_unsent p h = grind arith

-- what is sent of a frame is no longer than it
within : (f : FrameValue) (n : ℕ) → length (encode f) ≡ n → length (sent_all (f ∷ [])) ≤ n
unfolding sent_bytes
within f n e = rw (sent_one f) (omega (arith, e, picked_short (fits f) (encode f)))

-- no frame that is sent is longer than a whole data frame
one_room : (f : FrameValue) → length (sent_all (f ∷ [])) ≤ 8196
unfolding encode register_bytes
one_room (host f) = omega (arith, within (host f) 20 refl)
one_room (device f) = omega (arith, within (device f) 20 refl)
one_room (set_bits f) = omega (arith, within (set_bits f) 8 refl)
one_room (setup f) = omega (arith, within (setup f) 28 refl)
one_room activate = omega (arith, within activate 4 refl)
one_room (payload p) =
    ⊎_elim (λ (h : 8192 < length p). rw (sent_one (payload p), long_unsent p h) (omega arith))
    (λ (h : length p ≤ 8192). omega (arith, h, within (payload p) (4 + length p) (length_payload p))) (cases_lt 8192 (length p))
one_room bist = omega (arith, within bist 12 refl)
one_room (pio f) = omega (arith, within (pio f) 20 refl)

-- a frame that is sent on a condition
if_room : (on : Bool) (f : FrameValue) (n : ℕ) → length (encode f) ≡ n → length (sent_all (pick on (f ∷ []) [])) ≤ n
unfolding sent_all joined_bytes
if_room true f n e = within f n e
if_room false f n e = omega arith

activate_room : (on : Bool) → length (sent_all (activate_if on)) ≤ 4
unfolding encode
activate_room on = if_room on activate 4 refl

open_room : (q : Queued) → length (sent_all (open_replies q)) ≤ 8196
unfolding encode
open_room q =
    let a = within (setup_reply q) 28 refl in
    omega (arith, a, activate_room q.entry.write, length_sent (setup_reply q ∷ []) (activate_if q.entry.write))

log_room : (on : Bool) (task : Task) (page : List ℕ) → length page ≤ 512 → length (sent_all (log_replies on task page)) ≤ 8196
unfolding encode register_bytes
log_room on task page h =
    let a = if_room on sweep 8 refl in
    let b = within (pio_reply task) 20 refl in
    let c = within (payload page) (4 + length page) (length_payload page) in
    omega (arith, h, a, b, c, length_sent (sweep_if on) (pio_reply task ∷ payload page ∷ []), length_sent (pio_reply task ∷ []) (payload page ∷ []))

page10_short : (r : ErrorRecord) → length (page10_of r) ≤ 512
page10_short r = omega (arith, picked_short (fits10 (log_of r)) (page10 (log_of r)), length_10 (log_of r))

page11_short : (mask : ℕ) (values : List ℕ) → length (page11_of mask values) ≤ 512
page11_short mask values = omega (arith, picked_short (keeps_both mask) (page11 mask values), page_length mask values)

identity_short : (f : Identity) → length (identity_of f) ≤ 512
identity_short f = omega (arith, picked_short (fits_identity f) (identity_page f), standing.page_length f)

none_room : length (sent_all []) ≤ 8196
unfolding sent_all joined_bytes
none_room = omega arith

-- by the act
pub replies_room : (s : StateShown) (part : List ℕ) (a : Act) → length (sent_all (replies_of s part a)) ≤ 8196
unfolding replies_of
replies_room s part Nothing = none_room
replies_room s part Reset = none_room
replies_room s part ZeroCounters = none_room
replies_room s part (Count r) = none_room
replies_room s part (Log10 task) = log_room s.halted task (page10_of s.errors) (page10_short s.errors)
replies_room s part (Log11 l) = log_room false l.task (page11_of s.mask s.values) (page11_short s.mask s.values)
replies_room s part (Identify task) = log_room false task (identity_of s.identity) (identity_short s.identity)
replies_room s part (Store m) = omega (arith, activate_room (not m.last))
replies_room s part (Open q) = open_room q
replies_room s part _ = one_room _
