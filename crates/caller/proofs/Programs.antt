-- What the event program plays is a faithful history.
use Rattle.std.proofs.Common.{◌≡◌, refl, sym, ap, subst, ◌∙◌, Bool, true, false, List, [], ◌∷◌, ◌++◌, append-nil, append_assoc, map, ℕ, ◌+◌, length, drop, Err}
use lib.Seq.{take-append_seam}
use Rattle.bits.specs.Pick.{pick}
use Rattle.refusals.specs.declared.reasons.Refusal.TheVariants.{Contradiction}
use Rattle.device_state.specs.declared.shapes.Settings.{Settings}
use Rattle.device.specs.Device.{fresh_device, power_on}
use Rattle.device.specs.Lent.{lent}
use Rattle.device.specs.Sealing.{powered_of}
use Rattle.device.specs.Step.{bytes_of}
use Rattle.device.specs.declared.state.Device.{Device}
use Rattle.device.specs.declared.state.Outcome.{Outcome}
use Rattle.events.specs.Settings.{in_limit}
use Rattle.events.specs.Start.{start_of}
use Rattle.events.specs.Calls.{call_of, event_step}
use Rattle.events.specs.declared.asked.Event.{Event}
use Rattle.events.specs.Lines.{line_of}
use Rattle.events.specs.Running.{Kept, after, told, started, refused, kept_after, AllFit, Read, nothing, begun, Plays}
use Rattle.history.specs.Run.{result, Done, event, run_from}
use Rattle.history.specs.Follows.{newest_first, lents, history_of}
use Rattle.history.specs.Lasting.{medium_by, HandedOn, Lasting}
use Rattle.history.proofs.Contracts.{began_run}
use Rattle.caller.specs.Continued.{Reached, Holds, Continues}
use Rattle.caller.specs.Program.{call_in, calls_in, Shows, EachShown, StartShown, IsHistory, ByLimit, OfHistory}
use Rattle.caller.proofs.Continuing.{holds, begins, continues_given}
use Rattle.caller.proofs.Plays.{typed_event}

-- an event is shown as it is told
shows : (traced : Bool) (number : ℕ) (k : Kept) (e : Event) → Shows traced number k e (call_in k e)
unfolding after told
shows traced number k e =
    let s = event_step k.device e k.medium k.reply in
    record { kept = refl; line = ap (line_of traced number s.refusal s.state.status.outstanding) (sym (take-append_seam (bytes_of s) (drop (length (bytes_of s)) k.reply))) }

shown_run : (traced : Bool) (n : ℕ) (k : Kept) (es : List Event) → EachShown traced n k es
unfolding EachShown
shown_run traced n k [] = tt
shown_run traced n k (e ∷ es) = (shows traced n k e, shown_run traced (n + 1) (after k e) es)

-- each continues every history that led to what is kept, as the contract promises it
calls_hold : (k : Kept) (es : List Event) → AllFit es → (s : Settings) (r : Outcome) (xs : List Done) → Reached s r xs k.device → Holds s r (xs ++ calls_in k es) (kept_after k es).device
unfolding AllFit calls_in kept_after after
calls_hold k [] f s r xs q = subst (λ (ys : List Done). Holds s r ys k.device) (sym (append-nil xs)) (holds s r xs k.device q)
calls_hold k (e ∷ es) f s r xs q =
    let a = lent (call_of k.device e) k.medium k.reply in
    let more : Continues k.device a (result k.device a) = continues_given k.device a (result k.device a) (typed_event k.device e f.0) (record { state = refl; refusal = refl; len = refl; reply = refl; medium = refl }) in
    subst (λ (ys : List Done). Holds s r ys (kept_after (after k e) es).device) (append_assoc xs (call_in k e ∷ []) (calls_in (after k e) es)) (calls_hold (after k e) es f.1 s r (xs ++ call_in k e ∷ []) (more s r xs q).reached)

-- ---- from power-on
powered : (traced : Bool) (s : Settings) → start_of s ≡ power_on s → StartShown traced s
unfolding started
powered traced s b = record { state = ap (λ (o : Outcome). o.state) b; line = ap (λ (o : Outcome). line_of traced 0 o.refusal o.state.status.outstanding []) b }

held : (s : Settings) (es : List Event) → start_of s ≡ power_on s → AllFit es → Holds s (power_on s) (calls_in (started s) es) (kept_after (started s) es).device
unfolding started
held s es b f = calls_hold (started s) es f s (power_on s) [] (subst (λ (o : Outcome). Reached s (power_on s) [] o.state) (sym b) (begins s (power_on s) refl).reached)

-- ---- one medium

-- calls that are handed a medium on, the oldest first
unfoldable Handed : List ℕ → List Done → Type 0
Handed m [] = Unit
Handed m (x ∷ xs) = (x.lent.medium ≡ m) × Handed x.gave.medium xs

-- and with the newest first
handed_newest : (m : List ℕ) (h xs : List Done) → HandedOn m (map event h) → Handed (medium_by m (map event h)) xs → HandedOn m (map event (newest_first h xs))
unfolding Handed HandedOn newest_first
handed_newest m h [] k l = k
handed_newest m h (x ∷ xs) k l = handed_newest m (x ∷ h) xs (l.0, k) l.1

-- so are those of a run
handed_calls : (k : Kept) (es : List Event) → Handed k.medium (calls_in k es)
unfolding Handed calls_in after
handed_calls k [] = tt
handed_calls k (e ∷ es) = (refl, handed_calls (after k e) es)

-- of which the history tells every byte
media : (s : Settings) (es : List Event) → Holds s (power_on s) (calls_in (started s) es) (kept_after (started s) es).device → Lasting (started s).medium (history_of (calls_in (started s) es))
unfolding HandedOn
media s es h = h.promised.lasting (started s).medium (handed_newest (started s).medium [] (calls_in (started s) es) tt (handed_calls (started s) es))

-- by whether the settings are in a run's limit
by_limit : (traced : Bool) (s : Settings) (es : List Event) (b : Bool) → start_of s ≡ pick b (power_on s) (powered_of (Err Contradiction)) → AllFit es → (refused s ≡ true → es ≡ []) → ByLimit b traced s es
unfolding started powered_of fresh_device
by_limit traced s es true a q f = let h = held s es a q in record { begins = powered traced s a; shown = shown_run traced 1 (started s) es; holds = h; media = media s es h }
by_limit traced s es false a q f = record { state = rw a refl; line = rw a refl; none = f (rw a refl) }

-- all that a run plays, whatever it is
pub program_history : (traced : Bool) (all : Read) → Plays all → OfHistory traced all
unfolding Plays OfHistory start_of
program_history traced nothing q = tt
program_history traced (begun s es) q = by_limit traced s es (in_limit s) refl q.1 q.2

-- and the calls of a history are a run of the definitions
pub program_run : (traced : Bool) (s : Settings) (es : List Event) → IsHistory traced s es → run_from s (lents (calls_in (started s) es)) ≡ record { state = (kept_after (started s) es).device; calls = newest_first [] (calls_in (started s) es) }
program_run traced s es h =
    let xs = calls_in (started s) es in
    let reached = h.holds.reached in
    began_run s (power_on s) xs reached.began ∙ ap (λ (d : Device). record { state = d; calls = newest_first [] xs }) reached.last
