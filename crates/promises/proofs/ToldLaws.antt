-- What the readers' answers tell, as numbers and values.
use Rattle.std.proofs.Common.{◌≡◌, true, false, List, [], ◌∷◌, ℕ, ◌^◌, ◌<◌, get_or}
use Rattle.bits.specs.Answer.{bit_number}
use Rattle.refusals.specs.Told.{answer_with}
use Rattle.frames.specs.Read.{read_frame, frame_answer, frame_values}
use Rattle.frames.specs.Write.{FrameValue, encode, fits}
use Rattle.frames.specs.RoundTrip.{read_back}
use Rattle.frames.proofs.RoundTrip.{read_encoded}
use Rattle.pages.specs.Page10.{page10, fits10, read_log, log_answer}
use Rattle.pages.specs.declared.page10.ErrorLog.{ErrorLog}
use Rattle.pages.proofs.Trip10.{read_page}
use Rattle.counters.specs.Rows.{id_of, kept}
use Rattle.pages.specs.Layout11.{page11}
use Rattle.pages.specs.Read11.{read_counter, counter_answer}
use Rattle.pages.proofs.Trip11.{kept_reads, unkept_absent}
use Rattle.identity.specs.Words.{fits_identity}
use Rattle.identity.specs.Page.{identity_page}
use Rattle.identity.specs.Read.{read_identity, identity_answer}
use Rattle.identity.specs.declared.words.Identity.{Identity}
use Rattle.identity.proofs.Trip.{read_identified}

pub frame_back : (f : FrameValue) → fits f ≡ true → frame_answer (read_frame (encode f)) ≡ answer_with (frame_values (read_back f))
unfolding frame_answer
frame_back f h = rw (read_encoded f h)

pub log_back : (f : ErrorLog) → fits10 f ≡ true
    → log_answer (read_log (page10 f)) ≡ answer_with (bit_number f.nq ∷ f.tag ∷ f.status ∷ f.error ∷ f.task.lba ∷ f.task.device ∷ f.task.count ∷ [])
unfolding log_answer
log_back f h = rw (read_page f h)

module _ (mask : ℕ) (values : List ℕ) (small : (k : ℕ) → get_or values k 0 < 2 ^ 32) where
  pub kept_back : (k : ℕ) → k < 16 → kept mask k ≡ true → counter_answer (read_counter (page11 mask values) (id_of k)) ≡ answer_with (get_or values k 0 ∷ 4 ∷ [])
  unfolding counter_answer
  kept_back k h e = rw (kept_reads mask values small k h e)

  pub absent_back : (number : ℕ) → 0 < number → number < 4096 → ((k : ℕ) → k < 16 → id_of k ≡ number → kept mask k ≡ false) → counter_answer (read_counter (page11 mask values) number) ≡ answer_with []
  unfolding counter_answer
  absent_back number p q d = rw (unkept_absent mask values small number p q d)

pub identity_back : (f : Identity) → fits_identity f ≡ true → identity_answer (read_identity (identity_page f)) ≡ answer_with (1 ∷ f.depth ∷ 1 ∷ f.capacity ∷ [])
unfolding identity_answer
identity_back f h = rw (read_identified f h)
