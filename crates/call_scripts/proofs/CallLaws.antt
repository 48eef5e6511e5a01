-- What is told of a call that was lent what there is.
use Rattle.std.proofs.Common.{◌≡◌, ℕ, min, List, length, take, Option}
use Rattle.std.proofs.lemmas.List.{take_min}
use Rattle.rules.specs.Call.{Call}
use Rattle.device.specs.Lent.{lent, gave}
use Rattle.device.specs.Step.{Given}
use Rattle.device.specs.declared.state.Device.{Device}
use Rattle.device.specs.declared.state.Outcome.{Outcome}
use Rattle.call_scripts.specs.declared.loans.Loan.{Loan}
use Rattle.call_scripts.specs.Bench.{Kept, kept, loan_of, called, Told}

of_kept : (d : Device) (m : List ℕ) (l : Option Loan) (c : Call) (b b' : List ℕ) (r : Outcome) (m' : List ℕ) → Given d (lent c (take (min (loan_of (kept d m l)).medium (length m)) m) b) (gave r m' b') → Told (called (kept d m l) c b) b b' r
of_kept d m l c b b' r m' g =
    let h = rw (take_min (loan_of (kept d m l)).medium m) at g in
    record { refusal = h.refusal; len = h.len; reply = h.reply }

pub told_of : (k : Kept) (d : Device) (m : List ℕ) (l : Option Loan) (c : Call) (b b' : List ℕ) (r : Outcome) (m' : List ℕ) (loan : Loan) (n : ℕ) → k ≡ kept d m l → loan ≡ loan_of k → n ≡ min loan.medium (length m)
    → Given d (lent c (take n m) b) (gave r m' b') → Told (called k c b) b b' r
told_of k d m l c b b' r m' loan n ek el en g = rw ek (of_kept d m l c b b' r m' (rw (en, el, ek) at g))
