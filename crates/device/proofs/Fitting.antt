-- Every reply of a taken call can be written: nothing is left out.
use Rattle.std.proofs.Common.{Some, Result, Ok, ◌≡◌, refl, Bool, true, false, not, ◌&&◌, ◌||◌, List, [], ◌∷◌, ℕ, zero, suc, ◌<◌, arith, eqb, length, get_or, lt-ltb, ltb-true, ltb-false}
use Rattle.bits.specs.Little.{byte_of, Bytes}
use Rattle.bits.proofs.Picks.{by_test, and_left, or_left, or_right}
use Rattle.frames.specs.Shared.{task_fits, is_below}
use Rattle.frames.specs.Size.{kind_named, allows}
use Rattle.frames.specs.declared.kinds.FrameKind.{FrameKind}
use Rattle.frames.specs.declared.kinds.FrameKind.TheVariants as kinds
use Rattle.frames.specs.declared.shared.Task.{Task}
use Rattle.frames.proofs.TaskLaws.{task_fits_lem}
use Rattle.frames.specs.Read.{frame_of, read_frame}
use Rattle.frames.specs.declared.shapes.Frame.{Frame}
use Rattle.frames.specs.declared.shapes.Frame.TheVariants as fs
use Rattle.frames.proofs.ReadLaws.{by_kind}
use Rattle.refusals.specs.declared.reasons.Refusal.{Refusal}
use Rattle.pages.specs.Page10.{fits10}
use Rattle.pages.specs.declared.page10.ErrorLog.{ErrorLog}
use Rattle.device_state.specs.State.{placed_bytes, task_in, echo_of}
use Rattle.device_state.specs.Contradictory.{tag_too_large, tag_under_nq, blank_not_zero, record_bad}
use Rattle.replies.specs.Replies.{log_of}
use Rattle.device.specs.Device.{contradictory_device}
use Rattle.device.proofs.Sized.{SizedRecord}
use Rattle.device.specs.declared.state.Device.{Device}
use Rattle.device.proofs.Parts.{record_good}

-- ---- bytes

-- each of a list is a byte
abbrev pub AllSmall : List ℕ → Type 0
AllSmall [] = Unit
AllSmall (x ∷ l) = (x < 256) × AllSmall l

-- so it is a list of bytes
pub small_bytes : (l : List ℕ) → AllSmall l → Bytes l
small_bytes [] h i = omega arith
small_bytes (x ∷ l) h zero = h.0
small_bytes (x ∷ l) h (suc k) = small_bytes l h.1 k

-- one byte of a number is a byte
pub byte_small : (x k : ℕ) → byte_of x k < 256
byte_small x k = omega arith

-- a command's bytes are bytes
pub echo_bytes : (t : Task) → task_fits t ≡ true → Bytes (placed_bytes (echo_of t))
unfolding echo_of
echo_bytes t h =
    let z : 0 < 256 = omega arith in
    let d : t.device < 256 = ltb-true t.device 256 (and_left (is_below 8 t.device) (is_below 16 t.count) (and_left (is_below 8 t.device && is_below 16 t.count) (is_below 48 t.lba) h)) in
    let lba = byte_small t.lba in
    let count = byte_small t.count in
    small_bytes (placed_bytes (echo_of t)) (z, (z, (z, (z, (lba 0, (lba 1, (lba 2, (d, (lba 3, (lba 4, (lba 5, (z, (count 0, (count 1, tt))))))))))))))

-- ---- the pages

-- what a record shows, if it does not contradict itself
shows : (nq : Bool) (tag : ℕ) → nq && not (eqb tag 0) ≡ false → not nq || eqb tag 0 ≡ true
shows nq tag h = grind arith

pub record_fits : (d : Device) → SizedRecord d → contradictory_device d ≡ false → fits10 (log_of d.errors) ≡ true
unfolding fits10 record_bad task_in
record_fits d s h =
    let r = d.errors in
    let good = or_left (tag_too_large r || tag_under_nq r) (blank_not_zero r) (record_good d h) in
    let small : r.tag < 32 = let l = ltb-false 31 r.tag (or_left (tag_too_large r) (tag_under_nq r) good) in omega arith in
    let shown : ErrorLog = record { nq = r.nq; tag = r.tag; status = 0x41; error = r.error; task = task_in r.echo } in
    let blank : ErrorLog = record { nq = true; tag = 0; status = 0; error = 0; task = record { lba = 0; device = 0; count = 0 } } in
    by_test (λ (f : ErrorLog). fits10 f ≡ true) r.set shown blank
    (λ _. rw (lt-ltb r.error 256 s.error, task_fits_lem (placed_bytes r.echo) s.echo, lt-ltb r.tag 32 small) (shows r.nq r.tag (or_right (tag_too_large r) (tag_under_nq r) good)))
    (λ _. refl)

-- ---- a host frame

-- what was read of a command's bytes fits
unfoldable pub ReadFits : Result Frame Refusal → Type 0
ReadFits (Ok (fs.Host h)) = task_fits h.task ≡ true
ReadFits _ = Unit

pub read_fits : (l : List ℕ) → Bytes l → ReadFits (read_frame l)
unfolding ReadFits
read_fits l b = by_kind ReadFits l tt of_kind
  where
    of_kind : (kind : FrameKind) → kind_named (get_or l 0 0) ≡ Some kind → allows kind (length l) ≡ true → ReadFits (Ok (frame_of kind l))
    of_kind kinds.HostRegister e a = task_fits_lem l b
    of_kind _ e a = tt
