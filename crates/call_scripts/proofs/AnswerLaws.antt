-- A buffer before it is written to, and the line of a call.
use Rattle.std.proofs.Common.{◌≡◌, ℕ, min, List, take, replicate, ◌∙◌, ap, sym}
use Rattle.std.proofs.lemmas.List.{take_min}
use Rattle.std.proofs.Math.ListN.{length-replicate}
use Rattle.rules.specs.Call.{Call}
use Rattle.device.specs.declared.state.Outcome.{Outcome}
use Rattle.call_scripts.specs.declared.loans.Loan.{Loan}
use Rattle.call_scripts.specs.Bench.{Kept, loan_of, called, Told}
use Rattle.call_scripts.specs.Answers.{room_of, outcome_text}
use Rattle.call_scripts.specs.Answering.{buffer_of, call_text}

take_some : (r n x : ℕ) → take (min r n) (replicate n x) ≡ take r (replicate n x)
take_some r n x = ap (λ (k : ℕ). take (min r k) (replicate n x)) (sym (length-replicate n x)) ∙ take_min r (replicate n x)

pub room_is : (room n : ℕ) → n ≡ min room 16384 → take n (replicate 16384 0xEE) ≡ room_of room
room_is room n e = ap (λ (i : ℕ). take i (replicate 16384 0xEE)) e ∙ take_some room 16384 0xEE

pub buffer_is : (k : Kept) (loan : Loan) (n : ℕ) → loan ≡ loan_of k → n ≡ min loan.reply 16384 → take n (replicate 16384 0xEE) ≡ buffer_of k
buffer_is k loan n el en = room_is loan.reply n en ∙ ap (λ (l : Loan). room_of l.reply) el

pub line_is : (k : Kept) (c : Call) (b b' : List ℕ) (r : Outcome) → b ≡ buffer_of k → Told (called k c b) b b' r → outcome_text r.refusal r.len b' ≡ call_text k c
line_is k c b b' r e t =
    let h = rw e at t in
    rw (h.refusal, h.len, h.reply)
