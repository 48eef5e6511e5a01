-- No stray data: whatever is sent or brought is of the Setup under way, in its direction, and within what is left of it.
use Rattle.std.proofs.Common.{◌≡◌, refl, sym, ap, ◌∙◌, Bool, true, false, not, List, ℕ, ◌+◌, ◌*◌, ◌≤◌, arith}
use mathlib.Core.Path.{subst⁻¹}
use Rattle.bits.specs.Pick.{pick}
use Rattle.device_state.specs.declared.shapes.Entry.{Entry}
use Rattle.device.specs.declared.state.Device.{Device}
use Rattle.history.specs.Seen.{Seen, Transfer}
use Rattle.history.specs.Fates.{commands, All}
use Rattle.history.specs.Carried.{transfer, NoStray}
use Rattle.history.proofs.Class as K
use Rattle.history.proofs.Class.{Class}
use Rattle.history.proofs.Alls.{all_imp}
use Rattle.history.proofs.Spans.{Empty}
use Rattle.history.proofs.Transfers.{transfer_for, transfer_of, transfer_open, empty_of}
use Rattle.history.proofs.Moving.{device_entry}
use Rattle.history.proofs.Table.{Following, Tracked}

-- an event that carries nothing
due_none : (e : Seen) (x : Transfer) → Empty e → NoStray e x
due_none e x y = record { sends = λ l. absurd (omega arith); brings = λ l. absurd (omega arith) }

-- data of a phase, within what is left of its command
due_entry : (w : Bool) (e : Seen) (x : Entry) (t n : ℕ) → w ≡ x.write → e.sends ≡ pick w 0 n → e.asks.brings ≡ pick w n 0
    → x.moved + n ≤ 512 * x.count → NoStray e (transfer_for x t)
due_entry true e x t n w s b l = record { sends = λ y. absurd (omega arith); brings = λ _. (sym (ap not w), omega arith) }
due_entry false e x t n w s b l = record { sends = λ _. (sym (ap not w), omega arith); brings = λ y. absurd (omega arith) }

-- of each kind of effect, after a history that the state follows
pub due : (d d' : Device) (e : Seen) (h : List Seen) → transfer h ≡ transfer_of d → Class d e d' → NoStray e (transfer h)
due d d' e h f (K.plain s u k) = due_none e (transfer h) (empty_of s)
due d d' e h f (K.pages de s u x k) = due_none e (transfer h) (empty_of s)
due d d' e h f (K.again q s u ha o k) = due_none e (transfer h) (empty_of s)
due d d' e h f (K.freely s u ha o k) = due_none e (transfer h) (empty_of s)
due d d' e h f (K.halts q ba fa s u a ha w k) = due_none e (transfer h) (empty_of s)
due d d' e h f (K.resets s u k) = due_none e (transfer h) (empty_of s)
due d d' e h f (K.sweeps cl a s u ha o p k) = due_none e (transfer h) (empty_of s)
due d d' e h f (K.takes s u k) = due_none e (transfer h) (empty_of s)
due d d' e h f (K.opens tag s k) = due_none e (transfer h) (empty_of s)
due d d' e h f (K.carries tag n s u k) =
    subst⁻¹ (NoStray e) (f ∙ transfer_open d tag k.phased) (due_entry (device_entry d tag).write e (device_entry d tag) tag n refl s.sends s.brings k.within)
due d d' e h f (K.ends set s u k) = due_none e (transfer h) (empty_of s)

-- what is under way since a command was accepted is what is under way after the whole history: no Setup from before reaches into it
pub transfer_since : (d : Device) (h : List Seen) → Tracked d h → All (λ c. transfer c.after ≡ transfer h) (commands h)
transfer_since d h i = all_imp (Following d) _ (λ c f. f.under ∙ sym i.under) (commands h) i.commands
