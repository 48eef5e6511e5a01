-- The commands of a history against the device's table: what each carried is what its entry says has moved.
use Rattle.std.proofs.Common.{None, ◌≡◌, sym, ap, ap₂, ◌∙◌, ⊎_elim, Bool, true, false, List, [], ◌∷◌, ◌++◌, ℕ, ◌*◌, ◌≤◌, arith}
use mathlib.Core.Bool.{false≢true}
use Rattle.std.proofs.lemmas.Bool.{or_left}
use Rattle.bits.proofs.Picks.{tested}
use Rattle.device.specs.declared.state.Device.{Device}
use Rattle.history.specs.Seen.{Seen, Transfer}
use Rattle.history.specs.Fates.{Command, later, commands, own_tag, ends, outstanding_at, finished_at, outstanding, finished, All}
use Rattle.history.specs.Carried.{transfer, span, base, size, positions, carried_at, carried}
use Rattle.history.specs.Faithful.{Beginning, Ranges}
use Rattle.history.proofs.Class.{Class}
use Rattle.history.proofs.Alls.{fresh_command, all_imp, all_start, all_step}
use Rattle.history.proofs.Spans.{span_none, carried_after, carried_while, carried_none, finished_over}
use Rattle.history.proofs.Transfers.{transfer_of, Phased, phased_shut, phased_step, whole_transfer_step, whole_transfer_start}
use Rattle.history.proofs.Moving.{device_entry, busy_at, New, Moving, moving}

-- an outstanding command against its tag's entry: outstanding there too, asking for the same, and with as much moved as was carried
pub record Standing (d : Device) (c : Command) : Type 0 where
  pub busy : busy_at d (own_tag c) ≡ true
  pub write : (device_entry d (own_tag c)).write ≡ c.accepted.asks.write
  pub first : (device_entry d (own_tag c)).first ≡ c.accepted.asks.first
  pub count : (device_entry d (own_tag c)).count ≡ c.accepted.asks.count
  pub moved : (device_entry d (own_tag c)).moved ≤ 512 * (device_entry d (own_tag c)).count
  pub bytes : carried c ≡ span (base c) (device_entry d (own_tag c)).moved

-- a command against the state: what is under way since it was accepted, its entry while it is outstanding, and the positions that it carried
pub record Following (d : Device) (c : Command) : Type 0 where
  pub under : transfer c.after ≡ transfer_of d
  pub stands : outstanding c ≡ true → Standing d c
  pub whole : finished c ≡ true → carried c ≡ span (base c) (size c)
  pub begins : Beginning (base c) (size c) (carried c)

-- what an outstanding command carried is a beginning of its range
stands_begins : (d : Device) (c : Command) → Standing d c → Beginning (base c) (size c) (carried c)
stands_begins d c s = record { long = (device_entry d (own_tag c)).moved; within = omega arith; is = s.bytes }

-- an accepted command
follows_new : (d' : Device) (e : Seen) → New e d' → Following d' (fresh_command e)
unfolding outstanding_at finished_at carried_at
follows_new d' e k =
    let s : Standing d' (fresh_command e) = record {
      busy = k.busy;
      write = k.write;
      first = k.first;
      count = k.count;
      moved = rw k.moved (omega arith);
      bytes = sym (ap (λ (m : ℕ). span (512 * e.asks.first) m) k.moved ∙ span_none (512 * e.asks.first));
    } in
    record {
      under = whole_transfer_start d' k.shut;
      stands = λ _. s;
      whole = λ f. absurd (false≢true f);
      begins = stands_begins d' (fresh_command e) s;
    }

-- an outstanding command that stays so
stands_later : (d d' : Device) (e : Seen) (c : Command) → Moving d e d' → transfer c.after ≡ transfer_of d → outstanding c ≡ true → Standing d c → ends (own_tag c) e ≡ false → Standing d' (later e c)
stands_later d d' e c m f o s x =
    let t = own_tag c in
    let k = m.stay t s.busy x in
    record {
      busy = k.busy;
      write = k.write ∙ s.write;
      first = k.first ∙ s.first;
      count = k.count ∙ s.count;
      moved = rw k.count (k.moved s.moved);
      bytes = carried_while (base c) c.accepted.asks.write t e c.after o
          ∙ ap₂ ◌++◌ s.bytes (ap₂ (λ (w : Bool) (y : Transfer). positions (base c) w t e y) (sym s.write) f)
          ∙ k.carried (base c);
    }

module _ (d d' : Device) (e : Seen) (c : Command) (m : Moving d e d') (k : Following d c) (u : transfer (e ∷ c.after) ≡ transfer_of d') where
  -- a command that had already ended
  old : outstanding c ≡ false → Following d' (later e c)
  unfolding outstanding_at finished_at
  old o =
      let same = carried_after (base c) c.accepted.asks.write (own_tag c) e c.after o in
      record {
        under = u;
        stands = λ x. absurd (grind arith);
        whole = λ f. same ∙ k.whole (grind arith);
        begins = record { long = k.begins.long; within = k.begins.within; is = same ∙ k.begins.is };
      }

  -- finished at this event
  now : outstanding c ≡ true → Standing d c → finished (later e c) ≡ true → carried (later e c) ≡ span (base c) (size c)
  unfolding finished_at
  now o s f =
      let t = own_tag c in
      let g : e.finishes t ≡ true = grind (arith, finished_over t c.after) in
      carried_none (base c) c.accepted.asks.write t e c.after (m.over t (or_left (e.finishes t) _ g))
      ∙ s.bytes ∙ ap (span (base c)) (m.done t s.busy g ∙ ap (λ (n : ℕ). 512 * n) s.count)

  -- ended by this event
  ended : outstanding c ≡ true → Standing d c → ends (own_tag c) e ≡ true → Following d' (later e c)
  unfolding outstanding_at
  ended o s x = record {
    under = u;
    stands = λ y. absurd (grind arith);
    whole = now o s;
    begins = record { long = k.begins.long; within = k.begins.within; is = carried_none (base c) c.accepted.asks.write (own_tag c) e c.after (m.over (own_tag c) x) ∙ k.begins.is };
  }

  -- outstanding still
  stays : outstanding c ≡ true → Standing d c → ends (own_tag c) e ≡ false → Following d' (later e c)
  stays o s x =
      let r = stands_later d d' e c m k.under o s x in
      record { under = u; stands = λ _. r; whole = now o s; begins = stands_begins d' (later e c) r }

  -- a command, one event later
  follows_later : Following d' (later e c)
  follows_later =
      ⊎_elim
      (λ (o : outstanding c ≡ true). ⊎_elim (ended o (k.stands o)) (stays o (k.stands o)) (tested (ends (own_tag c) e)))
      old
      (tested (outstanding c))

-- each kind of effect keeps every command with the table
pub following_step : (d d' : Device) (e : Seen) (h : List Seen) → Phased d → All (Following d) (commands h) → Class d e d' → All (Following d') (commands (e ∷ h))
following_step d d' e h i a k =
    let m = moving d d' e k in
    all_step (Following d') (Following d) e h
    (λ x. follows_new d' e (m.new x))
    (λ c f. follows_later d d' e c m f (whole_transfer_step d d' e c.after i f.under k))
    a

-- a finished command's data frames carried each byte of its range once, in rising order, none outside; those of any command a beginning of its range
pub ranges : (d : Device) (h : List Seen) → All (Following d) (commands h) → Ranges h
ranges d h a = all_imp (Following d) _ (λ c f. (f.whole, f.begins)) (commands h) a

-- a whole history against the state: the open phase's tag is outstanding, what is under way is what the phase stands for, and each command follows
pub record Tracked (d : Device) (h : List Seen) : Type 0 where
  pub phased : Phased d
  pub under : transfer h ≡ transfer_of d
  pub commands : All (Following d) (commands h)

-- before any call, with no phase open
pub tracked_start : (d : Device) → d.status.phase ≡ None → Tracked d []
tracked_start d p = record { phased = phased_shut d p; under = whole_transfer_start d p; commands = all_start (Following d) }

-- each kind of effect keeps it
pub tracked_step : (d d' : Device) (e : Seen) (h : List Seen) → Tracked d h → Class d e d' → Tracked d' (e ∷ h)
tracked_step d d' e h i k = record {
  phased = phased_step d d' e i.phased k;
  under = whole_transfer_step d d' e h i.phased i.under k;
  commands = following_step d d' e h i.phased i.commands k;
}
