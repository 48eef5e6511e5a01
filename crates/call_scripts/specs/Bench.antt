-- What a bench keeps between two calls, and what a call makes of it.
use Rattle.std.specs.Prelude.{◌≡◌, ℕ, List, ◌++◌, length, take, drop, Option, Some, None}
use Rattle.bits.specs.Laid.{overlay}
use Rattle.device_state.specs.State.{medium_size}
use Rattle.rules.specs.Call.{Call}
use Rattle.device.specs.Lent.{lent}
use Rattle.device.specs.Step.{Step, step, bytes_of}
use Rattle.device.specs.declared.state.Device.{Device}
use Rattle.device.specs.declared.state.Outcome.{Outcome}
use Rattle.call_scripts.specs.declared.loans.Loan.{Loan}

-- the state that is handed in next, the medium, and what was said of what is lent
pub record Kept : Type 0 where
  pub device : Device
  pub medium : List ℕ
  pub loan : Option Loan

-- these three
abbrev pub kept : Device → List ℕ → Option Loan → Kept
kept d m l = record { device = d; medium = m; loan = l }

-- what is lent of medium and reply buffer: as was said, or else 512 bytes for each sector and 2004h; of the medium no more than there is
abbrev pub loan_by : ℕ → Option Loan → Loan
loan_by capacity (Some loan) = loan
loan_by capacity None = record { medium = medium_size capacity; reply = 8196 }

-- what is lent by what is kept
abbrev pub loan_of : Kept → Loan
loan_of k = loan_by k.device.settings.capacity k.loan

-- a call's step, which is lent a front of the medium and a reply buffer b [script-call]
abbrev pub called : Kept → Call → List ℕ → Step
called k c b = step k.device (lent c (take (loan_of k).medium k.medium) b)

-- what it leaves behind [script-call]
abbrev pub after_call : Kept → Call → List ℕ → Kept
after_call k c b = record k { device = (called k c b).state; medium = (called k c b).medium ++ drop (loan_of k).medium k.medium }

-- what is told of a step: its refusal and the length of its replies, which stand in front of the reply buffer, and behind them that is as it was
pub record Told (s : Step) (b b' : List ℕ) (r : Outcome) : Type 0 where
  pub refusal : r.refusal ≡ s.refusal
  pub len : r.len ≡ length (bytes_of s)
  pub reply : b' ≡ overlay (bytes_of s) b
