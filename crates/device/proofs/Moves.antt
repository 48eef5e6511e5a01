-- What moves, in plain numbers: of a command 512 × count bytes less what has moved are left, and the next one stands at 512 × first and what has moved.
use Rattle.std.proofs.Common.{Option, Some, None, Result, Ok, is_none, unwrap_or, ◌≡◌, refl, sym, ap, ◌∙◌, Bool, true, false, List, [], ◌∷◌, ◌++◌, ℕ, ◌+◌, ◌-◌, ◌*◌, ◌%◌, ◌≤◌, min, arith, ltb, length, get_or, take, drop, length-drop, le-leb, le-ltb, eq-eqb}
use Rattle.bits.specs.Pick.{pick}
use Rattle.bits.proofs.Picks.{not_leb}
use Rattle.frames.specs.Size.{payload_size}
use Rattle.frames.specs.Write.{activate, payload}
use Rattle.refusals.specs.declared.reasons.Refusal.{Refusal}
use Rattle.refusals.specs.declared.reasons.Refusal.TheVariants.{TooLong}
use Rattle.device_state.specs.declared.shapes.Entry.{Entry}
use Rattle.rules.specs.Positions.{left_of, move_of}
use Rattle.rules.specs.Call.{host_frame, happens}
use Rattle.rules.specs.declared.event.DeviceEvent.TheVariants.{SendData}
use Rattle.rules.specs.Medium.{touch_of, part_of}
use Rattle.rules.specs.declared.acts.Act.{Act}
use Rattle.rules.proofs.Ruled as by
use Rattle.replies.specs.Replies.{replies_of}
use Rattle.device.specs.Device.{contradictory_device}
use Rattle.device.specs.Lent.{lent}
use Rattle.device.specs.FactsOf.{facts_of}
use Rattle.device.specs.DataDue.{phase_entry}
use Rattle.device.specs.Step.{state_shown, step_by, step}
use Rattle.device.specs.declared.state.Device.{Device}
use Rattle.device.proofs.Parts.{status_good}
use Rattle.device.proofs.StatusLaws.{phase_busy}
use Rattle.device.proofs.Busy.{whole_is}
use Rattle.device.proofs.Turns.{by_turn, none_some, act_ruled}
use Rattle.device.proofs.Storing.{taken_46, data_kept_whole, six_by_left}
use Rattle.device.proofs.Phases.{open_entry_lem}

-- the entry of the open phase
abbrev pub opened : Device → Entry
opened d = phase_entry d

-- what is left of its command, in bytes
abbrev pub left : Device → ℕ
left d = 512 * (opened d).count - (opened d).moved

-- where its next byte stands in the medium
abbrev pub place : Device → ℕ
place d = 512 * (opened d).first + (opened d).moved

-- in a state that does not contradict itself that is what the rules go by
pub left_is : (d : Device) → contradictory_device d ≡ false → is_none d.status.phase ≡ false → left_of (opened d) ≡ left d
left_is d h p =
    let whole = whole_is d (unwrap_or d.status.phase 0) h (phase_busy d.status d.errors.set (status_good d h) p) in
    rw (open_entry_lem d.entries d.status.phase p) (omega arith)

-- a taken host data frame f: its payload, of any whole Dwords, is no longer than what is left; it stands whole at its place, and every other byte of the medium is as it was; an Activate follows exactly if more is left
pub record Stored (d : Device) (f m b : List ℕ) : Type 0 where
  pub most : length (drop 4 f) ≤ left d
  pub bytes : (step d (lent (host_frame f) m b)).medium ≡ take (place d) m ++ (drop 4 f ++ drop (place d + length (drop 4 f)) m)
  pub frames : (step d (lent (host_frame f) m b)).frames ≡ pick (ltb (length (drop 4 f)) (left d)) (activate ∷ []) []

pub data_stored : (d : Device) (f m b : List ℕ) → get_or f 0 0 ≡ 0x46 → (step d (lent (host_frame f) m b)).refusal ≡ None → Stored d f m b
unfolding replies_of move_of
data_stored d f m b kind z =
    let t = taken_46 d f m b kind z in
    let kept = data_kept_whole d f m b t in
    let all = left_is d t.good t.phase in
    let most = kept.0 in
    record {
      most = omega (arith, all, most);
      bytes = kept.1;
      frames =
          ap (λ (x : Result Act Refusal). (step_by d (lent (host_frame f) m b) x).frames) t.act
          ∙ ap (λ x. pick x (activate ∷ []) []) (not_leb (left_of (opened d)) (length f - 4) ∙ ap (λ (n : ℕ). ltb (length f - 4) n) all ∙ ap (λ (n : ℕ). ltb n (left d)) (sym (length-drop 4 f)));
    }

payload_of_lem : (k : ℕ) → 1 ≤ k → k ≤ 2048 → payload_size (4 * k) ≡ true
payload_of_lem k a b = rw (le-leb 4 (4 * k) (omega arith), le-leb (4 * k) 8192 (omega arith), eq-eqb (4 * k % 4) 0 (omega arith)) refl

-- 6: in a write phase, where nothing before it is wrong, a payload of k whole Dwords, 1 to 2,048, is turned down exactly when it is longer than what is left
pub six_exactly : (d : Device) (f m b : List ℕ) (k : ℕ) → get_or f 0 0 ≡ 0x46 → length f ≡ 4 + 4 * k → 1 ≤ k → k ≤ 2048
    → contradictory_device d ≡ false → length m ≡ 512 * d.settings.capacity → 8196 ≤ length b → is_none d.status.phase ≡ false → (opened d).write ≡ true
    → (step d (lent (host_frame f) m b)).refusal ≡ pick (ltb (left d) (4 * k)) (Some TooLong) None
six_exactly d f m b k kind long some most c w s o u =
    let size : length f - 4 ≡ 4 * k = omega arith in
    let told : Bool → Option Refusal = λ t. pick t (Some TooLong) None in
    six_by_left d f m b kind (rw size (payload_of_lem k some most)) c (rw (eq-eqb (length m) (512 * d.settings.capacity) w) refl) (le-ltb (length b) 8196 s) o u
    ∙ ap (λ (x : ℕ). told (ltb x (length f - 4))) (left_is d c o) ∙ ap (λ (x : ℕ). told (ltb (left d) x)) size

-- a taken send
ruled_carries : (d : Device) (m b : List ℕ) {a : Act} → by.Ruled (facts_of d (lent (happens SendData) m b)) (happens SendData) (Ok a) → replies_of (state_shown d) (part_of a m) a ≡ payload (take (min 8192 (left d)) (drop (place d) m)) ∷ []
unfolding touch_of replies_of move_of
ruled_carries d m b (by.own (by.sent g w s p r)) = ap (λ (x : ℕ). payload (take (min 8192 x) (drop (place d) m)) ∷ []) (left_is d g p)

-- a taken send: one data frame of min(8,192, what is left) bytes of the medium, from the command's place on
pub send_carries : (d : Device) (m b : List ℕ) → (step d (lent (happens SendData) m b)).refusal ≡ None → (step d (lent (happens SendData) m b)).frames ≡ payload (take (min 8192 (left d)) (drop (place d) m)) ∷ []
send_carries d m b =
    let l = lent (happens SendData) m b in
    by_turn d l (λ s. s.refusal ≡ None → s.frames ≡ payload (take (min 8192 (left d)) (drop (place d) m)) ∷ []) (λ r _ z. absurd (none_some r z)) (λ a q _. ruled_carries d m b (act_ruled d l a q))
