-- Every taken device event comes to one of the eleven kinds.
use Rattle.std.proofs.Common.{None, is_none, unwrap_or, ◌≡◌, refl, sym, ap, subst, ◌∙◌, true, false, not, true≢false, List, ℕ, ◌+◌, ◌*◌, ◌^◌, ◌≤◌, ◌<◌, min, arith, zero-add, eqb, lit<, length, take, drop, length-take, length-drop}
use Rattle.std.proofs.lemmas.Bool.{false_from_ne_true}
use borrow.Author.Tests.{eqb-false}
use Rattle.bits.specs.Bit.{bit_in}
use Rattle.bits.proofs.Picks.{by_test}
use Rattle.frames.specs.declared.shapes.DmaSetup.{DmaSetup}
use Rattle.counters.specs.Counts.{single}
use Rattle.device_state.specs.State.{whole_of}
use Rattle.device_state.specs.Table.{entry_of}
use Rattle.device_state.specs.declared.shapes.Entry.{Entry}
use Rattle.device_state.proofs.TableLaws.{some_absent}
use Rattle.rules.specs.Positions.{left_of, move_of}
use Rattle.rules.specs.Tests.{some_unready, unready_at, all_moved}
use Rattle.rules.specs.Medium.{touch_of, part_of}
use Rattle.rules.specs.declared.acts.Fault.{Fault}
use Rattle.rules.specs.declared.acts.Act.{Act}
use Rattle.rules.specs.declared.acts.Act.TheVariants.{Open, Send, Finish, Media, Count, Renew}
use Rattle.replies.specs.Replies.{replies_of}
use Rattle.device.specs.Device.{contradictory_device}
use Rattle.device.specs.After.{counted_by, renewed_device, after_of, halt_with, failed_by, opened_for, finished_by, reset_held, released_device}
use Rattle.device.specs.DataDue.{phase_entry}
use Rattle.device.specs.FactsOf.{medium_wrong}
use Rattle.device.specs.Step.{state_shown}
use Rattle.device.specs.declared.state.Device.{Device}
use Rattle.device.proofs.Rooms.{move_within}
use Rattle.device.proofs.Busy.{whole_is}
use Rattle.history.specs.FrameAsks.{quiet, reset_asks}
use Rattle.history.specs.Seen.{under_way}
use Rattle.history.proofs.Class.{Class, Same, plain, halts, resets, opens, carries, ends}
use Rattle.history.proofs.Sets.{no_busy, no_bits}
use Rattle.history.proofs.Views.{view, is_silent, is_finish, is_failed, is_reset, is_setup, setup_begins, is_sent, silent_unbegun, answer_unbegun, bits_unbegun, sent_unbegun}
use Rattle.history.proofs.Changes.{halted_empty, carried_by, unmoved, cleared_other}
use Rattle.device.proofs.Phases.{open_entry_lem}

-- an act's part of the medium, and what is seen of it
abbrev pub Happens : Device → List ℕ → Act → Type 0
Happens d part a = Class d (view quiet (replies_of (state_shown d) part a)) (after_of d a)

pub opened_comes : (d : Device) (part : List ℕ) (tag : ℕ) → contradictory_device d ≡ false → bit_in 32 d.status.outstanding tag ≡ true → d.status.phase ≡ None
    → all_moved (entry_of d.entries tag) ≡ false → Happens d part (Open (record { tag = tag; entry = entry_of d.entries tag }))
unfolding replies_of after_of opened_for
opened_comes d part tag g busy shut left =
    let e : Entry = entry_of d.entries tag in
    let f : DmaSetup = record { auto = false; interrupt = false; to_host = not e.write; tag = tag; offset = 0; count = whole_of e.count } in
    let none = unmoved d g tag busy shut left in
    opens tag (is_setup f e.write) (record {
      shut = shut;
      busy = busy;
      moved = none;
      some = omega (arith, none, eqb-false e.moved (whole_of e.count) left);
      begins = λ x. setup_begins f e.write x ∙ ap (under_way (not e.write) tag 0) (zero-add (whole_of e.count) ∙ whole_is d tag g busy);
      settings = refl;
      outstanding = refl;
      phase = refl;
      halted = refl;
      entries = refl;
    })

-- what is due is sent, in a read phase
sent_comes : (d : Device) (part : List ℕ) → contradictory_device d ≡ false → (p : is_none d.status.phase ≡ false)
    → let e : Entry = entry_of d.entries (unwrap_or d.status.phase 0) in
    e.write ≡ false → length part ≡ min 8192 (left_of e) → Happens d part (Send (move_of d.status e 8192))
unfolding replies_of after_of
sent_comes d part g p w l =
    let t : ℕ = unwrap_or d.status.phase 0 in
    let e : Entry = entry_of d.entries t in
    carries t (min 8192 (left_of e)) (rw (w, ← l) (is_sent part)) (sent_unbegun quiet part) (carried_by d g p 8192 (lit< tt))

-- the part of the medium that is sent is as long as it should be
pub part_long : (m : List ℕ) (at size : ℕ) → at + size ≤ length m → length (take size (drop at m)) ≡ size
part_long m at size h = simp (length-take, length-drop) (omega arith)

-- the entry of the open phase is that of its tag
at_tag : (d : Device) (m : List ℕ) → contradictory_device d ≡ false → (p : is_none d.status.phase ≡ false)
    → let x : Entry → Act = λ e. Send (move_of d.status e 8192) in
    let e : Entry = phase_entry d in
    e.write ≡ false → length (part_of (x e) m) ≡ (move_of d.status e 8192).size → Happens d (part_of (x e) m) (x e)
unfolding move_of touch_of
at_tag d m g p =
    let own : Entry = entry_of d.entries (unwrap_or d.status.phase 0) in
    subst
    (λ (e : Entry). e.write ≡ false → length (part_of (Send (move_of d.status e 8192)) m) ≡ (move_of d.status e 8192).size → Happens d (part_of (Send (move_of d.status e 8192)) m) (Send (move_of d.status e 8192)))
    (sym (open_entry_lem d.entries d.status.phase p))
    (λ w l. sent_comes d (part_of (Send (move_of d.status own 8192)) m) g p w l)

-- send
pub send_comes : (d : Device) (m : List ℕ) → contradictory_device d ≡ false → medium_wrong d.settings.capacity (length m) ≡ false → is_none d.status.phase ≡ false
    → let e : Entry = phase_entry d in e.write ≡ false → Happens d (part_of (Send (move_of d.status e 8192)) m) (Send (move_of d.status e 8192))
unfolding touch_of
send_comes d m g w p r =
    let e : Entry = phase_entry d in
    at_tag d m g p r (part_long m (move_of d.status e 8192).at (move_of d.status e 8192).size (move_within d g p 8192 (length m) w))

-- a set that is not empty, all of it outstanding: the device is not halted
some_busy : (d : Device) → contradictory_device d ≡ false → (set : ℕ) → set < 2 ^ 32 → eqb set 0 ≡ false → ((t : ℕ) → t < 32 → bit_in 32 set t ≡ true → bit_in 32 d.status.outstanding t ≡ true)
    → d.status.halted ≡ false
some_busy d g set l n all =
    false_from_ne_true d.status.halted
    (λ e. eqb-false set 0 n (no_bits set l (λ t u. false_from_ne_true (bit_in 32 set t) (λ b. no_busy d.status.outstanding t (halted_empty d g e) (all t u b)))))

-- a set of tags, each outstanding and wholly moved
pub finished_comes : (d : Device) (part : List ℕ) (set : ℕ) → contradictory_device d ≡ false → set < 2 ^ 32 → d.status.phase ≡ None → eqb set 0 ≡ false
    → some_unready d.entries d.status.outstanding set ≡ false → Happens d part (Finish set)
unfolding replies_of after_of finished_by some_unready
finished_comes d part set g l shut some ready =
    let at : (t : ℕ) → t < 32 → bit_in 32 set t ≡ true → (bit_in 32 d.status.outstanding t ≡ true) × ((entry_of d.entries t).moved ≡ 512 * (entry_of d.entries t).count) =
    λ t u b.
    let r = some_absent (unready_at d.entries d.status.outstanding set) 32 t ready u in
    let o : bit_in 32 d.status.outstanding t ≡ true = grind arith in
    let w : (entry_of d.entries t).moved ≡ whole_of (entry_of d.entries t).count = grind arith in
    (o, w ∙ whole_is d t g o) in
    ends set (is_finish _ refl) (bits_unbegun quiet _) (record {
      calm = some_busy d g set l some (λ t u b. (at t u b).0);
      shut = shut;
      width = l;
      ready = at;
      settings = refl;
      outstanding = refl;
      phase = refl;
      halted = refl;
      others = λ t u b. cleared_other d.entries set t u b;
    })

-- counting changes nothing else
value_same : (d : Device) (ns : List ℕ) → Same d (counted_by d ns)
unfolding counted_by
value_same d ns = record { settings = refl; outstanding = refl; phase = refl; halted = refl; entries = refl }

-- a media error
pub failed_comes : (d : Device) (part : List ℕ) (f : Fault) → d.status.halted ≡ false → Happens d part (Media f)
unfolding replies_of after_of failed_by halt_with
failed_comes d part f x =
    halts false false true (is_failed _ refl refl) (bits_unbegun quiet _) (λ q. absurd (true≢false (sym q))) x refl (record { settings = by_test (λ (y : Device). y.settings ≡ d.settings) (bit_in 8 f.error 7) (counted_by d (single 0)) d (λ _. (value_same d (single 0)).settings) (λ _. refl); outstanding = refl; phase = refl; halted = refl })

-- COMRESET
pub renewed_comes : (d : Device) (part : List ℕ) → Class d (view reset_asks (replies_of (state_shown d) part Renew)) (after_of d Renew)
unfolding replies_of after_of renewed_device reset_held released_device counted_by
renewed_comes d part = resets (is_reset _ refl) (answer_unbegun reset_asks _) (record { settings = refl; outstanding = refl; phase = refl; halted = refl })

-- link events
pub counted_comes : (d : Device) (part ns : List ℕ) → Happens d part (Count ns)
unfolding replies_of after_of
counted_comes d part ns = plain (is_silent quiet refl) (silent_unbegun quiet) (value_same d ns)
