-- Runs of the event program that differ in contents alone.
use Rattle.std.proofs.Common.{◌≡◌, refl, sym, ap, ap₂, ◌∙◌, true, false, List, [], ◌∷◌, ◌++◌, map, ℕ, ◌+◌, arith, length, get_or, replicate, unwrap_or}
use Rattle.std.proofs.lemmas.List.{length-replicate}
use Rattle.bits.proofs.Picks.{pick_no}
use Rattle.bits.specs.Laid.{overlay}
use Rattle.frames.specs.Cut.{cut}
use Rattle.rules.specs.Call.{Call, host_frame}
use Rattle.device_state.specs.declared.shapes.Settings.{Settings}
use Rattle.device.specs.DataDue.{data_due}
use Rattle.device.specs.Lent.{Lent, lent}
use Rattle.device.specs.Step.{step, bytes_of}
use Rattle.device.specs.declared.state.Device.{Device}
use Rattle.events.specs.declared.asked.Event.{Event}
use Rattle.events.specs.declared.asked.Event.TheVariants.{OfDevice, HostData, HostRegister, Bist}
use Rattle.events.specs.Calls.{call_of}
use Rattle.events.specs.HostData.{data_frame}
use Rattle.events.specs.Lines.{typed, fields_of, head_of, line_of}
use Rattle.events.specs.Running.{Kept, kept, step_of, after, told, lines_from, nothing, begun, count_read, started, start_line, run_lines}
use Rattle.contents.specs.Veil.{headed, blanked, veiled_call, veil}
use Rattle.contents.specs.Told.{is_send, Told}
use Rattle.contents.proofs.Blanked.{headed_long, cut_by, payload_blanked}
use Rattle.contents.proofs.Telling.{told_by, defined_alike, blanked_same}
use Rattle.unseen.specs.Lines.{veiled_event, shown_from, shown_trace, SameLines, LinesAlike, OthersWhole}
use Rattle.unseen.proofs.Lengths.{medium_long, over_long}

-- ---- one event

-- the call of an event, veiled, does not see its contents
call_veiled : (d : Device) (e : Event) → veiled_call (call_of d e) ≡ veiled_call (call_of d (veiled_event e))
unfolding call_of data_frame
call_veiled d (HostData byte) =
    let n = unwrap_or (data_due d) 4 in
    let head : List ℕ = 0x46 ∷ 0 ∷ 0 ∷ 0 ∷ [] in
    let filled : (b : ℕ) → length (replicate n b) ≡ n = λ b. length-replicate {A = ℕ} n b in
    ap host_frame
    (payload_blanked head (replicate n byte) refl refl ∙ ap (λ (i : ℕ). head ++ replicate i 0) (filled byte ∙ sym (filled 0))
    ∙ sym (payload_blanked head (replicate n 0) refl refl))
call_veiled d (OfDevice event) = refl
call_veiled d (HostRegister frame) = refl
call_veiled d (Bist frame) = refl

same_lent : {c c' : Call} {m m' b b' : List ℕ} → c ≡ c' → m ≡ m' → b ≡ b' → lent c m b ≡ lent c' m' b'
same_lent p q r = cc

-- two events that differ in contents alone, each lent as much as the other
events_veiled : (d : Device) (e e' : Event) (m m' b b' : List ℕ) → veiled_event e ≡ veiled_event e' → length m ≡ length m' → length b ≡ length b'
    → veil (lent (call_of d e) m b) ≡ veil (lent (call_of d e') m' b')
events_veiled d e e' m m' b b' v p q =
    same_lent (call_veiled d e ∙ ap (λ (x : Event). veiled_call (call_of d x)) v ∙ sym (call_veiled d e'))
    (ap (λ (n : ℕ). replicate n 0) p) (ap (λ (n : ℕ). replicate n 0) q)

-- of a data frame a line tells its kind and its length
field_headed : (l : List ℕ) → get_or l 0 0 ≡ 0x46 → get_or (headed l) 0 0 ≡ 0x46 → fields_of false (headed l ∷ []) ≡ fields_of false (l ∷ [])
field_headed l e h = ap₂ (λ (k n : ℕ). (typed k n ++ []) ++ []) (h ∙ sym e) (headed_long l)

-- so the fields of replies do not see a payload
fields_alike : (x y : List ℕ) → blanked x ≡ blanked y → fields_of false (cut x) ≡ fields_of false (cut y)
fields_alike x y e =
    let f : List (List ℕ) → List ℕ = fields_of false in
    sym (cut_by f field_headed x) ∙ ap (λ (l : List ℕ). f (cut l)) e ∙ cut_by f field_headed y

-- ---- events one after the other

-- from two states of a run on, the same lines
record SameFrom (n : ℕ) (k k' : Kept) (es es' : List Event) : Type 0 where
  lines : lines_from false n k es ≡ lines_from false n k' es'
  trace : shown_from n k es ≡ shown_from n k' es'

first_event : (a b : Event) (as' bs : List Event) → a ∷ as' ≡ b ∷ bs → a ≡ b
first_event a b as' bs e = cc

rest_event : (a b : Event) (as' bs : List Event) → a ∷ as' ≡ b ∷ bs → as' ≡ bs
rest_event a b as' bs e = cc

from_alike : (es es' : List Event) (n : ℕ) (d : Device) (m m' b b' : List ℕ) → map veiled_event es ≡ map veiled_event es' → length m ≡ length m' → length b ≡ length b'
    → SameFrom n (kept d m b) (kept d m' b') es es'
unfolding lines_from shown_from told after
from_alike [] [] n d m m' b b' v p q = record { lines = refl; trace = refl }
from_alike [] (e' ∷ es') n d m m' b b' v p q = absurd (let z : 0 ≡ length (map veiled_event (e' ∷ es')) = ap length v in omega arith)
from_alike (e ∷ es) [] n d m m' b b' v p q = absurd (let z : length (map veiled_event (e ∷ es)) ≡ 0 = ap length v in omega arith)
from_alike (e ∷ es) (e' ∷ es') n d m m' b b' v p q =
    let x : Lent = lent (call_of d e) m b in
    let y : Lent = lent (call_of d e') m' b' in
    let first : veiled_event e ≡ veiled_event e' = first_event (veiled_event e) (veiled_event e') (map veiled_event es) (map veiled_event es') v in
    let same : veil x ≡ veil y = events_veiled d e e' m m' b b' first p q in
    let t : told_by d x ≡ told_by d y = defined_alike d x y same in
    let s : (step d y).state ≡ (step d x).state = sym (ap (λ (z : Told). z.outcome.state) t) in
    let fields : fields_of false (cut (bytes_of (step d x))) ≡ fields_of false (cut (bytes_of (step d y))) =
    fields_alike (bytes_of (step d x)) (bytes_of (step d y)) (blanked_same d x y same) in
    let long : length (step d x).medium ≡ length (step d y).medium = medium_long d x ∙ p ∙ sym (medium_long d y) in
    let over : length (overlay (bytes_of (step d x)) b) ≡ length (overlay (bytes_of (step d y)) b') = over_long (bytes_of (step d x)) (bytes_of (step d y)) b b' (ap (λ (z : Told). z.outcome.len) t) q in
    let rest = rest_event (veiled_event e) (veiled_event e') (map veiled_event es) (map veiled_event es') v in
    let more = from_alike es es' (n + 1) (step d x).state (step d x).medium (step d y).medium (overlay (bytes_of (step d x)) b) (overlay (bytes_of (step d y)) b') rest long over in
    let on : Device → Kept = λ z. kept z (step d y).medium (overlay (bytes_of (step d y)) b') in
    record {
      lines = ap₂ (λ (l r : List ℕ). l ++ r)
          (ap₂ (λ (z : Told) (f : List ℕ). head_of n z.outcome.refusal z.outcome.state.status.outstanding ++ f ++ 10 ∷ []) t fields)
          (more.lines ∙ sym (ap (λ (z : Device). lines_from false (n + 1) (on z) es') s));
      trace = ap₂ (λ (l r : List ℕ). l ++ r)
          (ap (λ (z : Told). line_of true n z.outcome.refusal z.outcome.state.status.outstanding z.bytes) t)
          (more.trace ∙ sym (ap (λ (z : Device). shown_from (n + 1) (on z) es') s));
    }

-- ---- whole runs

same_settings : (s s' : Settings) (es es' : List Event) → begun s es ≡ begun s' es' → s ≡ s'
same_settings s s' es es' e = cc

same_events : (s s' : Settings) (es es' : List Event) → begun s es ≡ begun s' es' → es ≡ es'
same_events s s' es es' e = cc

begun_alike : (s : Settings) (es es' : List Event) → map veiled_event es ≡ map veiled_event es' → SameLines (begun s es) (begun s es')
unfolding run_lines shown_trace started
begun_alike s es es' v =
    let f = from_alike es es' 1 (started s).device (started s).medium (started s).medium (started s).reply (started s).reply v refl refl in
    record { lines = ap (λ (l : List ℕ). start_line false s ++ l) f.lines; trace = ap (λ (l : List ℕ). start_line true s ++ l) f.trace }

pub lines_alike : LinesAlike
lines_alike nothing nothing v = record { lines = refl; trace = refl }
lines_alike nothing (begun s es) v = absurd (let z : 0 ≡ count_read (begun s (map veiled_event es)) = ap count_read v in omega arith)
lines_alike (begun s es) nothing v = absurd (let z : count_read (begun s (map veiled_event es)) ≡ 0 = ap count_read v in omega arith)
lines_alike (begun s es) (begun s' es') v =
    let f = begun_alike s' es es' (same_events s s' (map veiled_event es) (map veiled_event es') v) in
    let q : s ≡ s' = same_settings s s' (map veiled_event es) (map veiled_event es') v in
    record {
      lines = ap (λ (x : Settings). run_lines false (begun x es)) q ∙ f.lines;
      trace = ap (λ (x : Settings). shown_trace (begun x es)) q ∙ f.trace;
    }

pub others_whole : OthersWhole
unfolding told
others_whole n k e o =
    let b : List ℕ = bytes_of (step_of k e) in
    ap (line_of true n (step_of k e).refusal (step_of k e).state.status.outstanding) (pick_no (is_send (call_of k.device e)) (blanked b) b o)
