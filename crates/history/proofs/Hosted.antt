-- All that is proved of a host frame that is not turned down: one row a rule.
use Rattle.std.proofs.Common.{Option, Some, None, Ok, ◌≡◌, refl, sym, subst, Bool, true, false, not, List, [], inl, inr, ℕ, leb, get_or, eqb-true}
use mathlib.Core.Bool.{false≢true}
use Rattle.bits.specs.Bit.{bit_in}
use Rattle.bits.proofs.Picks.{or_right}
use Rattle.frames.specs.Read.{read_frame}
use Rattle.frames.proofs.ReadLaws.{DataRead, read_data}
use Rattle.frames.specs.declared.shapes.HostReg.{HostReg}
use Rattle.frames.specs.declared.shapes.Frame.TheVariants as fs
use Rattle.rules.specs.Call.{host_frame}
use Rattle.rules.specs.Decide.{bad, fault, tag_asked}
use Rattle.rules.specs.Positions.{move_of}
use Rattle.rules.specs.Medium.{leaves, touch_of, part_of}
use Rattle.rules.specs.declared.acts.Act.{Act}
use Rattle.rules.proofs.Ruled as by
use Rattle.replies.specs.Replies.{replies_of, page10_of}
use Rattle.device.specs.Device.{contradictory_device}
use Rattle.device.specs.Lent.{lent}
use Rattle.device.specs.FactsOf.{facts_of}
use Rattle.device.specs.DataDue.{phase_entry}
use Rattle.device.specs.After.{after_of, halt_with, reset_held, released_device, accepted_by, unhalted_device, zeroed_if, moved_by}
use Rattle.device.specs.Step.{state_shown}
use Rattle.device.specs.declared.state.Device.{Device}
use Rattle.history.specs.FrameAsks.{register_asks}
use Rattle.history.specs.FrameReading.{frame_asks, frame_replies}
use Rattle.history.specs.Replied.{FrameRead, some, collect, data_in}
use Rattle.history.proofs.Views.{sent_in}
use Rattle.history.proofs.Marked.{Marked}
use Rattle.history.proofs.Placed.{log_none, active_none}
use Rattle.history.proofs.Hosts.{Comes}
use Rattle.history.proofs.Hosts as hosts
use Rattle.history.proofs.Hearing.{pio_in, Hears, none_heard, data_heard, ten_heard, eleven_heard, identity_heard, bist_heard, reads_errors, reads_counters, identifies_lem}
use Rattle.history.proofs.Said.{some_bits, FrameSays, Telling, mild, ten_said, eleven_said, identity_said, kept_said}
use Rattle.history.proofs.Shaped.{Shaped, unblamed, to_queued, to_other, to_log, to_data}
use Rattle.device.proofs.Phases.{none_open}

-- the act leaves the medium and the frame brings nothing, or the frame is host data
pub data OnMedium : FrameRead → Act → Type 0 where
  untouched : (f : FrameRead) (a : Act) → touch_of a ≡ leaves → ((p : List ℕ) → data_in p f ≡ []) → OnMedium f a
  host_data_frame : (n : ℕ) (a : Act) → OnMedium (Ok (fs.Data n)) a

-- a frame with its act, which is given a part of the medium: what it does to the medium; its replies, of a shape that they may have, that say no more than they may and send nothing of the medium; what it counts; a halt keeps its record; the kind to which it comes
pub record HostGoes (d : Device) (part : List ℕ) (f : FrameRead) (a : Act) : Type 0 where
  pub medium : OnMedium f a
  pub shaped : Shaped (frame_replies f) (frame_asks f) (replies_of (state_shown d) part a)
  pub said : (d.status.halted ≡ true → Telling (state_shown d)) → FrameSays f (replies_of (state_shown d) part a)
  pub unsent : sent_in (replies_of (state_shown d) part a) ≡ []
  pub heard : Hears d f (pio_in (replies_of (state_shown d) part a)) a
  pub marked : Marked d → Marked (after_of d a)
  pub comes : Comes d part (frame_asks f) a

module _ (d : Device) (g : contradictory_device d ≡ false) where
  module _ (h : HostReg) where
    -- a register frame whose act leaves the medium and the counters, and whose replies hold no A1h, no page and no data
    mildly : (a : Act) → touch_of a ≡ leaves → (after_of d a).values ≡ d.values → some_bits (replies_of (state_shown d) [] a) ≡ false → pio_in (replies_of (state_shown d) [] a) ≡ false → sent_in (replies_of (state_shown d) [] a) ≡ []
        → (Marked d → Marked (after_of d a)) → Shaped (frame_replies (Ok (fs.Host h))) (register_asks h) (replies_of (state_shown d) [] a) → Comes d [] (register_asks h) a → HostGoes d [] (Ok (fs.Host h)) a
    mildly a t v b p u k s c = record {
      medium = untouched _ a t (λ _. refl);
      shaped = s;
      said = λ _. mild (Ok (fs.Host h)) (replies_of (state_shown d) [] a) b p;
      unsent = u;
      heard = subst (λ (x : Bool). Hears d (Ok (fs.Host h)) x a) (sym p) (none_heard d (Ok (fs.Host h)) a refl v);
      marked = k;
      comes = c;
    }

    -- a command answered bad
    badly : (e : ℕ) → h.command_bit ≡ true → Comes d [] (register_asks h) (bad h e) → HostGoes d [] (Ok (fs.Host h)) (bad h e)
    unfolding replies_of after_of some collect touch_of
    badly e c = mildly (bad h e) refl refl refl refl refl (λ k. k) (to_other h c _ (inl refl) refl refl)

    -- a command answered bad that halts the device
    faultily : (t : Option ℕ) (e : ℕ) → h.command_bit ≡ true → Comes d [] (register_asks h) (fault h t e) → HostGoes d [] (Ok (fs.Host h)) (fault h t e)
    unfolding replies_of after_of halt_with some collect touch_of
    faultily t e c = mildly (fault h t e) refl refl refl refl refl (λ _ _. refl) (to_other h c _ (inl refl) refl refl)

  -- by the rule that holds
  heard_goes : (x m b : List ℕ) {f : FrameRead} {a : Act} → DataRead (get_or x 0 0) x f → by.Heard (facts_of d (lent (host_frame x) m b)) f a → HostGoes d [] f a
  unfolding replies_of after_of reset_held released_device accepted_by unhalted_device zeroed_if moved_by some collect touch_of
  heard_goes x m b r (by.srst h c s) = mildly h _ refl refl refl refl refl (λ _ e. absurd (false≢true e)) (unblamed [] c (rw (c, s) (inl refl)) refl refl) (hosts.reset d g h c s)
  heard_goes x m b r (by.release h c s y) = mildly h _ refl refl refl refl refl (λ k. k) (unblamed _ c (rw (c, s) (inr (inl refl))) refl refl) (hosts.freed d g h c s)
  heard_goes x m b r (by.nothing h c s y) = mildly h _ refl refl refl refl refl (λ k. k) (unblamed [] c (rw (c, s) (inl refl)) refl refl) (hosts.idle d g h c s)
  heard_goes x m b r (by.rule1 h c y) = badly h 0x04 c.command (hosts.answered_again d g h 0x04 c.command y)
  heard_goes x m b r (by.rule2 h c y u) = faultily h (Some (tag_asked h)) 0x04 c.command (hosts.queued_faulted d g h (tag_asked h) 0x04 c.command c.kind y)
  heard_goes x m b r (by.rule3 h c y u z) = faultily h (Some (tag_asked h)) 0x10 c.command (hosts.queued_faulted d g h (tag_asked h) 0x10 c.command c.kind y)
  heard_goes x m b r (by.rule4 h c y u z) =
      mildly h _ refl refl refl refl refl (λ k. k) (to_queued h c.command c.kind _ refl refl)
      (hosts.accepted d g h c.command c.kind y (none_open d.status.phase c.calm) (or_right (leb d.settings.depth (tag_asked h)) (bit_in 32 d.status.outstanding (tag_asked h)) u))
  heard_goes x m b r (by.other h c (by.halted y)) = badly h 0x04 c.command (hosts.answered_again d g h 0x04 c.command y)
  heard_goes x m b r (by.other h c (by.busy y)) = faultily h None 0x04 c.command (hosts.busy_faulted d g h c.command c.kind y)
  heard_goes x m b r (by.other h c (by.page10 e p)) = record {
    medium = untouched _ _ refl (λ _. refl);
    shaped = to_log h c.command d.status.halted h.task (page10_of d.errors);
    said = ten_said h h.task (page10_of d.errors) (reads_errors h c.command p) d.status.halted;
    unsent = log_none d.status.halted h.task (page10_of d.errors);
    heard = ten_heard d h p;
    marked = λ _ e. absurd (false≢true e);
    comes = hosts.ten_comes d g h c.command (reads_errors h c.command p) (hosts.other d g h c.command c.kind) c.calm;
  }
  heard_goes x m b r (by.other h c (by.page11 y e p)) = record {
    medium = untouched _ _ refl (λ _. refl);
    shaped = to_log h c.command false h.task _;
    said = λ _. eleven_said h h.task _ (reads_counters h c.command p);
    unsent = refl;
    heard = eleven_heard d h c.command p;
    marked = λ k. k;
    comes = hosts.paged_eleven d g h c.command (hosts.other d g h c.command c.kind) y (bit_in 8 h.features 0);
  }
  heard_goes x m b r (by.other h c (by.identity y e p)) = record {
    medium = untouched _ _ refl (λ _. refl);
    shaped = to_log h c.command false h.task _;
    said = λ _. identity_said h h.task _ (identifies_lem h c.command p);
    unsent = refl;
    heard = identity_heard d h p;
    marked = λ k. k;
    comes = hosts.identity_comes d g h c.command (hosts.other d g h c.command c.kind) y;
  }
  heard_goes x m b r (by.other h c (by.neither y e)) = badly h 0x04 c.command (hosts.answered_free d g h 0x04 c.command (hosts.other d g h c.command c.kind) y (eqb-true d.status.outstanding 0 e))
  heard_goes x m b r (by.due n p w y) =
      let last = (move_of d.status (phase_entry d) n).last in
      record { medium = host_data_frame n _; shaped = to_data n (not last); said = λ _. kept_said (Ok (fs.Data n)) (not last); unsent = active_none (not last); heard = data_heard d n _; marked = λ k. k; comes = hosts.data_comes d g n r.1.1 p w y }
  heard_goes x m b r (by.bist y) = record {
    medium = untouched _ _ refl (λ _. refl);
    shaped = unblamed [] refl (inl refl) refl refl;
    said = λ _. mild (Ok fs.Bist) [] refl refl;
    unsent = refl;
    heard = bist_heard d;
    marked = λ k. k;
    comes = hosts.bist_comes d g _ refl refl refl;
  }

-- of a frame as its bytes; it is given no part of the medium
pub host_goes : (d : Device) (f m b : List ℕ) {a : Act} → contradictory_device d ≡ false → by.Heard (facts_of d (lent (host_frame f) m b)) (read_frame f) a → HostGoes d (part_of a m) (read_frame f) a
host_goes d f m b {a} g h =
    subst (λ (p : List ℕ). HostGoes d p (read_frame f) a) (by.heard_unsent (facts_of d (lent (host_frame f) m b)) m h) (heard_goes d g f m b (read_data f) h)
