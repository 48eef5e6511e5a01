-- A page 10h as a writer wrote it has no bit set but those of its fields and of its sum.
use Rattle.std.proofs.Common.{◌≡◌, not, refl, sym, ap, ap₂, ◌∙◌, ℕ, ◌%◌, ◌<◌, true, false, List, length, take, drop, Ok, arith, mod-eq_of_lt, bit_and, eq-eqb, take_at}
use lib.Bits.{and_mask}
use Rattle.bits.specs.Pick.{pick}
use Rattle.bits.specs.Bit.{bit_in}
use Rattle.refusals.specs.First.{first_of}
use Rattle.refusals.proofs.FirstLaws.{unless_ok}
use Rattle.frames.specs.Emit.{WriteGiven}
use Rattle.frames.proofs.EmitLaws.{wrote_all}
use Rattle.pages.specs.Sum.{sealed_page}
use Rattle.pages.specs.Page10.{first_byte, page10, fits10, fields10, ladder10, read_log}
use Rattle.pages.specs.Others10.{has_other, others_in, count_other_bytes}
use Rattle.pages.specs.declared.page10.ErrorLog.{ErrorLog}
use Rattle.pages.proofs.Trip10.{nq_back, tag_back, tag_ok, nq_ok, read_page}
use Rattle.pages.proofs.Laws10.{first_again}

-- a byte has none beside bits that keep all of it
kept : (v m : ℕ) → bit_and v m ≡ v → has_other (v, m) ≡ false
kept v m e = ap not (eq-eqb (bit_and v m) v e)

whole : (v : ℕ) → v < 256 → has_other (v, 0xFF) ≡ false
whole v h = kept v 0xFF (and_mask v 8 ∙ mod-eq_of_lt h)

whole_mod : (x : ℕ) → has_other (x % 256, 0xFF) ≡ false
whole_mod x = whole (x % 256) (omega arith)

module _ (f : ErrorLog) (h : fits10 f ≡ true) where
  bytes_fit : (f.status < 256) × ((f.error < 256) × (f.task.device < 256))
  unfolding fits10
  bytes_fit = grind arith

  -- byte 0 has no bit but NQ, or the tag's
  first_named : bit_and (first_byte f.nq f.tag) (pick (bit_in 8 (first_byte f.nq f.tag) 7) 0x80 0x9F) ≡ first_byte f.nq f.tag
  first_named = sym (first_again (first_byte f.nq f.tag) (grind arith)) ∙ ap₂ first_byte (nq_back f.nq f.tag) (tag_back f.nq f.tag (tag_ok f h) (nq_ok f h))

  none_made : others_in (page10 f) ≡ 0
  unfolding page10 sealed_page
  none_made = simp (kept _ _ first_named, whole f.status bytes_fit.0, whole f.error bytes_fit.1.0, whole f.task.device bytes_fit.1.1, whole_mod)

  made : count_other_bytes (page10 f) ≡ Ok 0
  unfolding count_other_bytes read_log
  made = let u = unless_ok (first_of (ladder10 (page10 f))) (fields10 (page10 f)) f (sym (read_page f h)) in rw (u.0, none_made) refl

-- of the page that was written none is counted
pub none_written : (f : ErrorLog) (d d' : List ℕ) (n : ℕ) → WriteGiven (fits10 f) (page10 f) d (Ok n) d' → count_other_bytes (take n d') ≡ Ok 0
none_written f d d' n w =
    let a = wrote_all (fits10 f) (page10 f) d n d' w in
    rw (a.2, a.3, take_at (page10 f) (drop (length (page10 f)) d) (length (page10 f)) refl) (made f a.0)
