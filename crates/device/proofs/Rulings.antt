-- What each rule and each device event keeps: its replies can be written, what it puts into the state is of bytes, and the state does not contradict itself.
use Rattle.std.proofs.Common.{Option, Some, None, Result, is_none, unwrap_or, ◌≡◌, refl, subst, sym, Bool, ◌&&◌, false, true, true≢false, List, [], ◌%◌, ◌*◌, ◌+◌, ◌<◌, ◌^◌, ◌≤◌, min, ℕ, arith, eqb, leb, ltb, lit<, length, take, drop, length-drop, length-take, eq-eqb, eqb-true, le-leb, le-ltb}
use Rattle.bits.specs.Bit.{bit_in}
use Rattle.bits.proofs.Picks.{and_right}
use Rattle.frames.specs.Size.{payload_size}
use Rattle.frames.specs.declared.shapes.HostReg.{HostReg}
use Rattle.frames.specs.declared.shapes.Frame.{Frame}
use Rattle.frames.proofs.ReadLaws.{DataRead}
use Rattle.refusals.specs.declared.reasons.Refusal.{Refusal}
use Rattle.counters.specs.Counts.{single}
use Rattle.device_state.specs.State.{echo_of, zero_echo}
use Rattle.device_state.specs.declared.shapes.Entry.{Entry}
use Rattle.device_state.specs.Table.{entry_of}
use Rattle.rules.specs.Call.{Call}
use Rattle.rules.specs.Handed.{handed}
use Rattle.rules.specs.Positions.{advanced_by, left_of, move_of}
use Rattle.rules.specs.Decide.{entry_for, fault, tag_asked}
use Rattle.rules.specs.Medium.{part_of, touch_of}
use Rattle.rules.specs.declared.facts.Facts.{Facts}
use Rattle.rules.specs.declared.acts.Act.{Act}
use Rattle.rules.proofs.Ruled as by
use Rattle.replies.specs.Replies.{replies_of}
use Rattle.replies.proofs.Fit.{Fit}
use Rattle.device.specs.Device.{contradictory_device}
use Rattle.device.specs.Lent.{Typed, lent}
use Rattle.device.specs.DataDue.{phase_entry}
use Rattle.device.specs.FactsOf.{facts_of, facts_with, medium_wrong}
use Rattle.device.specs.After.{after_of, moved_by}
use Rattle.device.specs.Step.{state_shown}
use Rattle.device.specs.declared.state.Device.{Device}
use Rattle.device.proofs.Effects.{traits, Puts}
use Rattle.device.proofs.Keeping.{both_kept, identity_fits, counted_good, settings_good, single_spares, tally_spares}
use Rattle.device.proofs.Acts.{failed_good, halt_good, released_good, renewed_good, reset_held_good, unhalted_good, zeroed_good}
use Rattle.device.proofs.Changes.{accepted_good, finished_good, moved_good, opened_good}
use Rattle.device.proofs.Entering.{entry_good, tag_small}
use Rattle.device.proofs.Busy.{moves_on, part_fours}
use Rattle.device.proofs.Tags.{busy_below}
use Rattle.device.proofs.Fitting.{ReadFits, echo_bytes, record_fits}
use Rattle.device.proofs.Widths.{Small, SmallAll, failing_small, zero_small}
use Rattle.device.proofs.Sized.{SizedRecord}
use Rattle.device.proofs.Rooms.{move_within}
use Rattle.device.proofs.Phases.{open_entry_lem}

-- ---- what must be kept

-- an act that puts nothing
pub none_puts : (0 < 256) × Small zero_echo
none_puts = (lit< tt, zero_small)

-- the state after an act does not contradict itself
abbrev pub Good : Device → Act → Type 0
Good d act = contradictory_device (after_of d act) ≡ false

-- a fault with no tag, or one that a queued command can have
fault_good : (d : Device) (r : HostReg) (tag : Option ℕ) (e : ℕ) → contradictory_device d ≡ false → ltb 31 (unwrap_or tag 0) ≡ false → Good d (fault r tag e)
unfolding after_of
fault_good d r tag e h t = halt_good d (record { tag = tag; error = e; echo = echo_of r.task }) h t

-- the tag asked for is one that a record can hold
asked_small : (r : HostReg) → ltb 31 (tag_asked r) ≡ false
asked_small r = let l = tag_small r.task.count in le-ltb 31 (tag_asked r) (omega arith)

-- bytes of the open phase move, whole Dwords
moving_good : (d : Device) (k : ℕ) → contradictory_device d ≡ false → is_none d.status.phase ≡ false → k % 4 ≡ 0
    → contradictory_device (moved_by d (move_of d.status (phase_entry d) k)) ≡ false
moving_good d k h n four =
    subst (λ (e : Entry). contradictory_device (moved_by d (move_of d.status e k)) ≡ false)
    (sym (open_entry_lem d.entries d.status.phase n)) (moved_good d k h n (part_fours d k h n four))

-- where arguments and record are of their types, the replies of an act can be written and what it puts is of bytes; and the state after it does not contradict itself
pub record RuleKeeps (d : Device) (part : List ℕ) (typed narrow : Type 0) (a : Act) : Type 0 where
  pub fits : typed → SizedRecord d → Fit (state_shown d) part a
  pub puts : typed → SmallAll d.entries → Puts a
  pub good : narrow → Good d a

-- what moves next keeps its command's bytes
move_small : (d : Device) (n : ℕ) → is_none d.status.phase ≡ false → SmallAll d.entries → Small (move_of d.status (phase_entry d) n).entry.echo
unfolding move_of advanced_by
move_small d n p h = subst (λ (e : Entry). Small (move_of d.status e n).entry.echo) (sym (open_entry_lem d.entries d.status.phase p)) (h (unwrap_or d.status.phase 0))

-- ---- a host frame that is not turned down

module _ (d : Device) (wrong some : Bool) (room : ℕ) (g : contradictory_device d ≡ false) where
  pub heard_keeps : {f : Result Frame Refusal} {a : Act} → (k : ℕ) (l : List ℕ) → DataRead k l f → by.Heard (facts_with d d.status.phase wrong some room) f a → RuleKeeps d [] (ReadFits f) Unit a
  unfolding after_of Fit traits ReadFits
  heard_keeps k l r (by.srst h c s) = record { fits = λ _ _. tt; puts = λ _ _. none_puts; good = λ _. reset_held_good d g }
  heard_keeps k l r (by.release h c s x) = record { fits = λ _ _. tt; puts = λ _ _. none_puts; good = λ _. released_good d g }
  heard_keeps k l r (by.nothing h c s x) = record { fits = λ _ _. tt; puts = λ _ _. none_puts; good = λ _. g }
  heard_keeps k l r (by.rule2 h c x u) = record { fits = λ t _. (omega arith, echo_bytes h.task t); puts = λ t _. (omega arith, echo_bytes h.task t); good = λ _. fault_good d h (Some (tag_asked h)) 0x04 g (asked_small h) }
  heard_keeps k l r (by.rule3 h c x u y) = record { fits = λ t _. (omega arith, echo_bytes h.task t); puts = λ t _. (omega arith, echo_bytes h.task t); good = λ _. fault_good d h (Some (tag_asked h)) 0x10 g (asked_small h) }
  heard_keeps k l r (by.rule4 h c x u y) = record {
    fits = λ t _. echo_bytes h.task t;
    puts = λ t _. (lit< tt, echo_bytes h.task t);
    good = λ _. accepted_good d (record { tag = tag_asked h; entry = entry_for h }) g x c.free c.calm (tag_small h.task.count) (entry_good d.settings h (settings_good d g) (grind arith) y);
  }
  heard_keeps k l r (by.other h c (by.busy x)) = record { fits = λ t _. (omega arith, echo_bytes h.task t); puts = λ t _. (omega arith, echo_bytes h.task t); good = λ _. fault_good d h None 0x04 g refl }
  heard_keeps k l r (by.other h c (by.page10 e p)) = record { fits = λ t z. (t, record_fits d z g); puts = λ _ _. none_puts; good = λ _. unhalted_good d g }
  heard_keeps k l r (by.other h c (by.page11 x e p)) = record { fits = λ t _. (t, both_kept d g); puts = λ _ _. none_puts; good = λ _. zeroed_good d (bit_in 8 h.features 0) g }
  heard_keeps k l r (by.other h c (by.identity x e p)) = record { fits = λ t _. (t, identity_fits d g); puts = λ _ _. none_puts; good = λ _. g }
  heard_keeps k l r (by.due n p w s) = record { fits = λ _ _. tt; puts = λ _ es. (lit< tt, move_small d n p es); good = λ _. moving_good d n g p (eqb-true (n % 4) 0 (and_right (leb 4 n && leb n 8192) (eqb (n % 4) 0) r.1.1)) }
  heard_keeps k l r (by.bist b) = record { fits = λ _ _. tt; puts = λ _ _. none_puts; good = λ _. zeroed_good d true g }
  heard_keeps k l r _ = record { fits = λ t _. (omega arith, t); puts = λ _ _. none_puts; good = λ _. g }

-- ---- a device event that is taken

-- a data frame's payload: up to 8,192 bytes in whole Dwords
sized : (k : ℕ) → 1 ≤ k → k ≤ 8192 → k % 4 ≡ 0 → payload_size k ≡ true
sized k a b z = rw (le-leb 4 k (omega arith), le-leb k 8192 b, eq-eqb (k % 4) 0 z)

-- what is sent of the medium is a data frame's payload
pub part_sized : (d : Device) (m : List ℕ) → contradictory_device d ≡ false → medium_wrong d.settings.capacity (length m) ≡ false → is_none d.status.phase ≡ false
    → let k = move_of d.status (phase_entry d) 8192 in payload_size (length (take k.size (drop k.at m))) ≡ true
unfolding move_of
part_sized d m good w phase =
    let e = phase_entry d in
    let within = move_within d good phase 8192 (length m) w in
    let more = moves_on d good phase in
    let due = min 8192 (left_of e) in
    let four : due % 4 ≡ 0 = subst (λ (x : Entry). min 8192 (left_of x) % 4 ≡ 0) (sym (open_entry_lem d.entries d.status.phase phase)) (part_fours d 8192 good phase refl) in
    let long : length (take due (drop (512 * e.first + e.moved) m)) ≡ due = simp (length-take, length-drop) (omega arith) in
    rw long (sized due (omega arith) (omega arith) four)

-- and a call that is lent no reply buffer replies nothing
pub record OwnKeeps (d : Device) (part : List ℕ) (c : Call) (a : Act) : Type 0 where
  pub keeps : RuleKeeps d part (Typed c) ((handed c).set < 2 ^ 32) a
  pub silent : (handed c).buffer ≡ false → (sent : List ℕ) → replies_of (state_shown d) sent a ≡ []

-- by the event
own_rule : (d : Device) (m b : List ℕ) {c : Call} {a : Act} → by.Own (facts_of d (lent c m b)) c a → RuleKeeps d (part_of a m) (Typed c) ((handed c).set < 2 ^ 32) a
unfolding after_of Fit traits touch_of
own_rule d m b (by.opened u g s o p e) = record { fits = λ _ _. let small = busy_below d.status.outstanding u o in omega arith; puts = λ _ _. none_puts; good = λ _. opened_good d u g p o e }
own_rule d m b (by.sent g w s p r) = record { fits = λ _ _. part_sized d m g w p; puts = λ _ es. (lit< tt, move_small d 8192 p es); good = λ _. moving_good d 8192 g p refl }
own_rule d m b (by.finished u g s p e r) = record { fits = λ t _. t.1; puts = λ _ _. none_puts; good = λ small. finished_good d u g small p }
own_rule d m b (by.failed u e x g s o y w) = record {
  fits = λ t _. t.2;
  puts = λ t es. (t.2, failing_small (entry_of d.entries u).echo x (es u));
  good = λ _. let small : u < 32 = busy_below d.status.outstanding u o in failed_good d _ g (le-ltb 31 u (omega arith));
}
own_rule d m b (by.linked r g x) = record { fits = λ _ _. tt; puts = λ _ _. none_puts; good = λ _. counted_good d (single r) g (single_spares d.settings.mask r (grind arith)) }
own_rule d m b (by.tallied ns g x) = record { fits = λ _ _. tt; puts = λ _ _. none_puts; good = λ _. counted_good d ns g (tally_spares d.settings.mask ns x) }
own_rule d m b (by.renewed g s) = record { fits = λ _ _. tt; puts = λ _ _. none_puts; good = λ _. renewed_good d g }

-- by the event: nothing is said of one that is lent a buffer, and the rest replies nothing
own_silent : (d : Device) {v : Facts} {c : Call} {a : Act} → by.Own v c a → (handed c).buffer ≡ false → (sent : List ℕ) → replies_of (state_shown d) sent a ≡ []
unfolding replies_of
own_silent d (by.opened u g s o p e) h sent = absurd (true≢false h)
own_silent d _ h sent = grind arith

pub own_keeps : (d : Device) (m b : List ℕ) {c : Call} {a : Act} → by.Own (facts_of d (lent c m b)) c a → OwnKeeps d (part_of a m) c a
own_keeps d m b y = record { keeps = own_rule d m b y; silent = own_silent d y }
