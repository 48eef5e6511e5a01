-- While the device is halted its record is set, and so page 10h tells an error.
use Rattle.std.proofs.Common.{Ok, ◌≡◌, true, false, List, [], ℕ, length, eq-eqb, arith}
use mathlib.Core.Path.{subst⁻¹}
use Rattle.bits.proofs.Picks.{pick_yes}
use Rattle.refusals.specs.First.{first_of}
use Rattle.frames.specs.Shared.{register_bytes}
use Rattle.pages.specs.Sum.{sum256, sealed_page}
use Rattle.pages.specs.Page10.{page10, fits10, fields10, read_log}
use Rattle.pages.specs.declared.page10.ErrorLog.{ErrorLog}
use Rattle.pages.proofs.Trip10.{length_10, sums_to_zero}
use Rattle.device_state.specs.declared.shapes.Settings.{Settings}
use Rattle.replies.specs.Replies.{log_of, page10_of}
use Rattle.device.proofs.Sized.{SizedRecord}
use Rattle.device.specs.Device.{contradictory_device, fresh_device, power_on}
use Rattle.device.specs.After.{counted_by}
use Rattle.device.specs.declared.state.Device.{Device}
use Rattle.device.proofs.Fitting.{record_fits}
use Rattle.history.specs.Replied.{err_in}
use Rattle.history.specs.ReplyRules.{TellsError}

-- while halted the record is set
abbrev pub Marked : Device → Type 0
Marked d = d.status.halted ≡ true → d.errors.set ≡ true

-- counting changes neither
pub counted_marked : (d : Device) (ns : List ℕ) → Marked d → Marked (counted_by d ns)
unfolding counted_by
counted_marked d ns k = k

-- power-on, refused or not
pub marked_start : (s : Settings) → Marked (power_on s).state
unfolding power_on fresh_device
marked_start s h = grind arith

-- ---- the page

-- page 10h is read as its fields
fields_read : (f : ErrorLog) → read_log (page10 f) ≡ Ok (fields10 (page10 f))
unfolding read_log first_of
fields_read f = rw (eq-eqb (length (page10 f)) 512 (length_10 f), eq-eqb (sum256 (page10 f)) 0 (sums_to_zero f))

-- a page whose status, its byte 2, has ERR
page_tells : (f : ErrorLog) → err_in f.status ≡ true → TellsError (read_log (page10 f))
unfolding page10 sealed_page register_bytes
page_tells f e = subst⁻¹ TellsError (fields_read f) e

-- the page of a halted device tells an error
pub halted_tells : (d : Device) → SizedRecord d → contradictory_device d ≡ false → Marked d → d.status.halted ≡ true → TellsError (read_log (page10_of d.errors))
halted_tells d s g k h =
    subst⁻¹ (λ (l : List ℕ). TellsError (read_log l)) (pick_yes (fits10 (log_of d.errors)) (page10 (log_of d.errors)) [] (record_fits d s g))
    (page_tells (log_of d.errors) (rw (k h)))
