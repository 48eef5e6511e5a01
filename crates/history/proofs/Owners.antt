-- Whose data are under way: those of the one outstanding command of the open phase's tag.
use Rattle.std.proofs.Common.{Option, Some, None, ◌≡◌, refl, ap, ap₂, ◌∙◌, Bool, not, ◌&&◌, List, [], ◌∷◌, ℕ, ◌+◌, ◌<◌, eqb, arith}
use mathlib.Core.Path.{subst⁻¹}
use Rattle.bits.specs.Bit.{bit_in}
use Rattle.device.specs.declared.state.Device.{Device}
use Rattle.device.proofs.Tags.{busy_below}
use Rattle.history.specs.Seen.{Seen, Transfer}
use Rattle.history.specs.Fates.{Command, commands, own_tag, outstanding, one, how_many, All, total_with}
use Rattle.history.specs.Carried.{transfer, belongs}
use Rattle.history.specs.Faithful.{Owned}
use Rattle.history.proofs.Alls.{all_imp}
use Rattle.history.proofs.Transfers.{transfer_for, transfer_shut, transfer_open}
use Rattle.history.proofs.Moving.{device_entry}
use Rattle.history.proofs.Table.{Following, Tracked}

-- tests that agree of every command hold of as many
pub many_same : (p q : Command → Bool) (cs : List Command) → All (λ c. p c ≡ q c) cs → how_many p cs ≡ how_many q cs
unfolding All how_many
many_same p q [] a = refl
many_same p q (c ∷ cs) a = ap₂ (λ (b : Bool) (n : ℕ). one b + n) a.0 (many_same p q cs a.1)

module _ (d : Device) (h : List Seen) (i : Tracked d h) (counts : (t : ℕ) → t < 32 → total_with t h ≡ one (bit_in 32 d.status.outstanding t)) where
  -- an open phase: one command
  owned_open : (t : ℕ) → d.status.phase ≡ Some t → Owned (transfer_for (device_entry d t) t) (commands h)
  unfolding total_with
  owned_open t p =
      let busy = i.phased.busy t p in
      many_same (λ c. outstanding c && belongs c.accepted.asks.write (own_tag c) (not (device_entry d t).write) t) (λ c. eqb (own_tag c) t && outstanding c) (commands h)
      (all_imp (Following d) _ (λ c f. grind arith) (commands h) i.commands)
      ∙ counts t (busy_below d.status.outstanding t busy) ∙ ap one busy

  -- what is under way is the data of exactly one command, which is outstanding
  pub owned : Owned (transfer h) (commands h)
  owned = go d.status.phase refl
    where
      go : (p : Option ℕ) → d.status.phase ≡ p → Owned (transfer h) (commands h)
      go None e = subst⁻¹ (λ (x : Transfer). Owned x (commands h)) (i.under ∙ transfer_shut d e) tt
      go (Some t) e = subst⁻¹ (λ (x : Transfer). Owned x (commands h)) (i.under ∙ transfer_open d t e) (owned_open t e)
