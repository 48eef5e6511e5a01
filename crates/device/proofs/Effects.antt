-- What each change of the state does, said of its parts; and of every act: settings, record, bytes.
use Rattle.std.proofs.Common.{None, ◌≡◌, refl, sym, subst, Bool, true, false, true≢false, List, ℕ, ◌<◌, lit<, replicate, arith}
use Rattle.bits.specs.Pick.{pick}
use Rattle.bits.specs.Bit.{bit_in}
use Rattle.counters.specs.Counts.{single}
use Rattle.device_state.specs.State.{blank_record, zero_echo}
use Rattle.device_state.specs.declared.shapes.Echo.{Echo}
use Rattle.device_state.specs.declared.shapes.Entry.{Entry}
use Rattle.device_state.specs.declared.shapes.ErrorRecord.{ErrorRecord}
use Rattle.rules.specs.declared.acts.Fault.{Fault}
use Rattle.rules.specs.declared.acts.Act.{Act}
use Rattle.rules.specs.declared.acts.Act.TheVariants.{BadAndHalt, Accept, Reset, Store, Send, Finish, Media, Renew}
use Rattle.device.specs.After.{counted_by, halt_with, unhalted_device, zeroed_if, reset_held, released_device, accepted_by, moved_by, opened_for, finished_by, failed_by, renewed_device, after_of}
use Rattle.device.specs.declared.state.Device.{Device}
use Rattle.device.proofs.Widths.{Small, SmallAll, Wide, zero_small, placed_small, cleared_small, idle_small}

-- halt: every outstanding command is given up, an open phase closes, the error record is set
pub halt_effect : (d : Device) (f : Fault) → ((halt_with d f).status ≡ record { outstanding = 0; phase = None; halted = true; held = false }) × ((halt_with d f).errors.set ≡ true) × ((halt_with d f).values ≡ d.values)
unfolding halt_with
halt_effect d f = (refl, refl, refl)

-- the halt ends, and nothing else changes of the record and the counters
pub unhalted_effect : (d : Device) → ((unhalted_device d).status.halted ≡ false) × ((unhalted_device d).errors ≡ d.errors) × ((unhalted_device d).values ≡ d.values)
unfolding unhalted_device
unhalted_effect d = (refl, refl, refl)

-- all sixteen counters are zeroed
pub zeroed_effect : (d : Device) → ((zeroed_if d true).values ≡ replicate 16 0) × (zeroed_if d false ≡ d)
unfolding zeroed_if
zeroed_effect d = (refl, refl)

-- SRST: everything outstanding is dropped, an open phase closes, halt and record cleared, reset held; counters kept
pub reset_effect : (d : Device) → ((reset_held d).status ≡ record { outstanding = 0; phase = None; halted = false; held = true }) × ((reset_held d).errors ≡ blank_record) × ((reset_held d).values ≡ d.values)
unfolding reset_held
reset_effect d = (refl, refl, refl)

-- release
pub released_effect : (d : Device) → ((released_device d).status.held ≡ false) × ((released_device d).entries ≡ d.entries)
unfolding released_device
released_effect d = (refl, refl)

-- ---- every act

-- what an act has to do with record and table: it sets or clears the record; the error byte and the command's bytes that it puts there, zeros for none
pub record Traits : Type 0 where
  pub anew : Bool
  pub error : ℕ
  pub echo : Echo

-- nothing
abbrev none : Traits
none = record { anew = false; error = 0; echo = zero_echo }

-- a halt sets the record
abbrev halting : Fault → Traits
halting f = record { anew = true; error = f.error; echo = f.echo }

-- a reset clears it
abbrev clearing : Traits
clearing = record { anew = true; error = 0; echo = zero_echo }

-- an entry goes into the table
abbrev entering : Entry → Traits
entering e = record { anew = false; error = 0; echo = e.echo }

-- an act's
unfoldable pub traits : Act → Traits
traits (BadAndHalt f) = halting f
traits (Accept q) = entering q.entry
traits Reset = clearing
traits (Store m) = entering m.entry
traits (Send m) = entering m.entry
traits (Media f) = halting f
traits Renew = clearing
traits _ = none

-- what an act puts into the record or the table is of bytes
abbrev pub Puts : Act → Type 0
Puts a = ((traits a).error < 256) × Small (traits a).echo

-- no act changes a setting; the record stays until the next halt or reset; record and table stay bytes
pub record ActLaws (d : Device) (a : Act) : Type 0 where
  pub settings : (after_of d a).settings ≡ d.settings
  pub stays : (traits a).anew ≡ false → (after_of d a).errors ≡ d.errors
  pub wide : Wide d → Puts a → Wide (after_of d a)

-- nor does a media error
failed_settings : (d : Device) (f : Fault) → (b : Bool) → (halt_with (pick b (counted_by d (single 0)) d) f).settings ≡ d.settings
unfolding halt_with counted_by
failed_settings d f b = grind arith

-- counting leaves record and table
counted_wide : (d : Device) (ns : List ℕ) → Wide d → Wide (counted_by d ns)
unfolding counted_by
counted_wide d ns w = record { sized = record { error = w.sized.error; echo = w.sized.echo }; entries = w.entries }

-- another state with this record, and a table of bytes
same_record : {d e : Device} → e.errors ≡ d.errors → Wide d → SmallAll e.entries → Wide e
same_record q w s = record { sized = record { error = subst (λ (r : ErrorRecord). r.error < 256) (sym q) w.sized.error; echo = subst (λ (r : ErrorRecord). Small r.echo) (sym q) w.sized.echo }; entries = s }

pub act_laws : (d : Device) (a : Act) → ActLaws d a
unfolding traits after_of halt_with accepted_by unhalted_device zeroed_if reset_held released_device moved_by opened_for finished_by failed_by renewed_device counted_by
act_laws d (BadAndHalt f) = record {
  settings = refl;
  stays = λ h. absurd (true≢false h);
  wide = λ _ p. record { sized = record { error = p.0; echo = p.1 }; entries = idle_small };
}
act_laws d (Accept q) = record { settings = refl; stays = λ _. refl; wide = λ w p. same_record refl w (placed_small d.entries q.tag q.entry w.entries p.1) }
act_laws d Reset = record {
  settings = refl;
  stays = λ h. absurd (true≢false h);
  wide = λ _ _. record { sized = record { error = lit< tt; echo = zero_small }; entries = idle_small };
}
act_laws d (Store m) = record { settings = refl; stays = λ _. refl; wide = λ w p. same_record refl w (placed_small d.entries m.tag m.entry w.entries p.1) }
act_laws d (Send m) = record { settings = refl; stays = λ _. refl; wide = λ w p. same_record refl w (placed_small d.entries m.tag m.entry w.entries p.1) }
act_laws d (Finish set) = record { settings = refl; stays = λ _. refl; wide = λ w _. same_record refl w (cleared_small d.entries set w.entries) }
act_laws d (Media f) = record {
  settings = failed_settings d f (bit_in 8 f.error 7);
  stays = λ h. absurd (true≢false h);
  wide = λ _ p. record { sized = record { error = p.0; echo = p.1 }; entries = idle_small };
}
act_laws d Renew = record {
  settings = refl;
  stays = λ h. absurd (true≢false h);
  wide = λ _ _. counted_wide (released_device (reset_held d)) (single 9) (record { sized = record { error = lit< tt; echo = zero_small }; entries = idle_small });
}
act_laws d _ = record { settings = refl; stays = λ _. refl; wide = λ w _. same_record refl w w.entries }

-- each by its name
pub act_settings : (d : Device) (a : Act) → (after_of d a).settings ≡ d.settings
act_settings d a = (act_laws d a).settings

pub record_stays : (d : Device) (a : Act) → (traits a).anew ≡ false → (after_of d a).errors ≡ d.errors
record_stays d a = (act_laws d a).stays

pub act_wide : (d : Device) (a : Act) → Wide d → Puts a → Wide (after_of d a)
act_wide d a = (act_laws d a).wide
