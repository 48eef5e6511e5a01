-- Page 10h, there and back, and its refusals exactly.
use Rattle.std.proofs.Common.{Ok, ◌≡◌, refl, ap, ◌∙◌, Bool, true, not, ◌&&◌, ◌||◌, List, ℕ, ◌%◌, ◌<◌, arith, bit_and, eqb, length, take, drop, length-set, take_at, eq-eqb}
use Rattle.bits.specs.Pick.{pick}
use Rattle.bits.specs.Bit.{bit_in}
use Rattle.refusals.specs.First.{first_of}
use Rattle.frames.specs.Shared.{register_bytes, is_below, task_fits}
use Rattle.frames.specs.Emit.{WriteGiven}
use Rattle.frames.specs.declared.shared.Task.{Task}
use Rattle.bits.proofs.Picks.{and_right}
use Rattle.frames.proofs.EmitLaws.{wrote_all}
use Rattle.frames.proofs.Defaults.{zero_registers}
use Rattle.frames.proofs.TaskLaws.{task_all}
use Rattle.pages.specs.Sum.{sum256, sealed_page}
use Rattle.pages.specs.Page10.{first_byte, page10, fits10, fields10, read_log}
use Rattle.pages.specs.declared.page10.ErrorLog.{ErrorLog}
use Rattle.pages.proofs.Sealed.{sum_sealed}
use Rattle.pages.proofs.Laws10.{tag_named}

-- ---- byte 0

pub nq_back : (b : Bool) (t : ℕ) → bit_in 8 (first_byte b t) 7 ≡ b
nq_back b t = grind arith

pub tag_back : (b : Bool) (t : ℕ) → t < 32 → not b || eqb t 0 ≡ true → bit_and (first_byte b t) (pick (bit_in 8 (first_byte b t) 7) 0x80 0x9F) % 32 ≡ t
tag_back b t h e = tag_named (first_byte b t) (grind arith) ∙ rw (nq_back b t) (grind arith)

same_log : {n n' : Bool} {t t' s s' e e' : ℕ} {k k' : Task} → n ≡ n' → t ≡ t' → s ≡ s' → e ≡ e' → k ≡ k'
    → ◌≡◌ {A = ErrorLog} (record { nq = n; tag = t; status = s; error = e; task = k }) (record { nq = n'; tag = t'; status = s'; error = e'; task = k' })
same_log p q r s t = cc

module _ (f : ErrorLog) where
  pub length_10 : length (page10 f) ≡ 512
  unfolding page10 sealed_page
  length_10 = simp length-set

  -- all bytes of page 10h sum to 0
  pub sums_to_zero : sum256 (page10 f) ≡ 0
  unfolding page10
  sums_to_zero = sum_sealed _ refl refl

  module _ (h : fits10 f ≡ true) where
    task_ok : task_fits f.task ≡ true
    unfolding fits10
    task_ok = grind arith

    pub tag_ok : f.tag < 32
    unfolding fits10
    tag_ok = grind arith

    pub nq_ok : not f.nq || eqb f.tag 0 ≡ true
    unfolding fits10
    nq_ok = and_right (is_below 8 f.status && is_below 8 f.error && task_fits f.task && is_below 5 f.tag) (not f.nq || eqb f.tag 0) h

    fields_back : fields10 (page10 f) ≡ f
    unfolding page10 sealed_page register_bytes
    fields_back =
        same_log (nq_back f.nq f.tag) (tag_back f.nq f.tag tag_ok nq_ok) refl refl (task_all (record zero_registers { task = f.task }) task_ok)

    pub read_page : read_log (page10 f) ≡ Ok f
    unfolding read_log first_of
    read_page = rw (eq-eqb (length (page10 f)) 512 length_10, eq-eqb (sum256 (page10 f)) 0 sums_to_zero) (ap (λ (x : ErrorLog). Ok x) fields_back)

-- reading the page that was written gives its fields back
pub read_write : (f : ErrorLog) (d d' : List ℕ) (n : ℕ) → WriteGiven (fits10 f) (page10 f) d (Ok n) d' → read_log (take n d') ≡ Ok f
read_write f d d' n w =
    let a = wrote_all (fits10 f) (page10 f) d n d' w in
    rw (a.2, a.3, take_at (page10 f) (drop (length (page10 f)) d) (length (page10 f)) refl) (read_page f a.0)
