-- What is under way, by the history and by the state: each kind of effect keeps them equal.
use Rattle.std.proofs.Common.{Option, Some, None, is_some, true≢false, ◌≡◌, refl, sym, ap, ap₂, ◌∙◌, Bool, true, false, not, ◌&&◌, ◌||◌, List, [], ◌∷◌, ℕ, ◌+◌, ◌*◌, eqb, ltb, leb, arith}
use Rattle.bits.specs.Pick.{pick}
use Rattle.bits.specs.Bit.{bit_in}
use Rattle.bits.proofs.Picks.{pick_yes, pick_no}
use Rattle.device_state.specs.Table.{entry_of}
use Rattle.device_state.specs.declared.shapes.Entry.{Entry}
use Rattle.device.specs.declared.state.Device.{Device}
use Rattle.history.specs.Seen.{Seen, Transfer, no_transfer, under_way, errs}
use Rattle.history.specs.Carried.{load, onward, advanced, transfer}
use Rattle.history.proofs.Class.{Is, Unbegun, Same, Carried, Class, plain, pages, again, freely, halts, resets, sweeps, takes, opens, carries, ends}
use Rattle.history.proofs.Spans.{Empty, advanced_none, onward_some}
use Rattle.history.proofs.Sets.{no_busy}

-- what an entry's open phase stands for: a read's data go to the host; the next byte is behind those moved
abbrev pub transfer_for : Entry → ℕ → Transfer
transfer_for x t = under_way (not x.write) t x.moved (512 * x.count)

-- of a table and a phase: none is open, or that of a tag
abbrev pub transfer_at : List Entry → Option ℕ → Transfer
transfer_at es None = no_transfer
transfer_at es (Some t) = transfer_for (entry_of es t) t

-- what the state's phase stands for
abbrev pub transfer_of : Device → Transfer
transfer_of d = transfer_at d.entries d.status.phase

-- the tag of an open phase is outstanding
pub record Phased (d : Device) : Type 0 where
  pub busy : (t : ℕ) → d.status.phase ≡ Some t → bit_in 32 d.status.outstanding t ≡ true

-- a closed phase stands for nothing
pub transfer_shut : (d : Device) → d.status.phase ≡ None → transfer_of d ≡ no_transfer
transfer_shut d p = ap (transfer_at d.entries) p

-- an open one for its entry's data
pub transfer_open : (d : Device) (t : ℕ) → d.status.phase ≡ Some t → transfer_of d ≡ transfer_for (entry_of d.entries t) t
transfer_open d t p = ap (transfer_at d.entries) p

-- the same phase and table stand for the same
pub transfer_same : (d d' : Device) → Same d d' → transfer_of d' ≡ transfer_of d
transfer_same d d' s = ap₂ transfer_at s.entries s.phase

-- nothing outstanding: no phase is open
pub phase_none : (d : Device) → Phased d → d.status.outstanding ≡ 0 → d.status.phase ≡ None
phase_none d i o = go d.status.phase refl
  where
    go : (p : Option ℕ) → d.status.phase ≡ p → d.status.phase ≡ None
    go None e = e
    go (Some t) e = absurd (no_busy d.status.outstanding t o (i.busy t e))

-- a state without a phase
pub phased_shut : (d : Device) → d.status.phase ≡ None → Phased d
phased_shut d p = record { busy = λ t e. absurd (true≢false (ap is_some (sym e ∙ p))) }

-- a state with the same phase and commands
pub phased_same : (d d' : Device) → Phased d → d'.status.phase ≡ d.status.phase → d'.status.outstanding ≡ d.status.outstanding → Phased d'
phased_same d d' i p o = record { busy = λ t e. ap (λ (m : ℕ). bit_in 32 m t) o ∙ i.busy t (sym p ∙ e) }

-- each kind of effect keeps it so
pub phased_step : (d d' : Device) (e : Seen) → Phased d → Class d e d' → Phased d'
phased_step d d' e i (plain s u k) = phased_same d d' i k.phase k.outstanding
phased_step d d' e i (pages de s u x k) = phased_same d d' i k.phase k.outstanding
phased_step d d' e i (again q s u ha o k) = phased_same d d' i k.phase k.outstanding
phased_step d d' e i (freely s u ha o k) = phased_same d d' i k.phase k.outstanding
phased_step d d' e i (halts q ba fa s u a ha w k) = phased_shut d' k.phase
phased_step d d' e i (resets s u k) = phased_shut d' k.phase
phased_step d d' e i (sweeps cl a s u ha o p k) = phased_shut d' k.phase
phased_step d d' e i (takes s u k) = phased_shut d' (k.phase ∙ k.shut)
phased_step d d' e i (opens tag s k) = record { busy = λ t x. ap₂ (bit_in 32) k.outstanding (let y : t ≡ tag = cc in y) ∙ k.busy }
phased_step d d' e i (carries tag n s u k) = grind arith
phased_step d d' e i (ends set s u k) = phased_shut d' (k.phase ∙ k.shut)

-- ---- what is under way after one event more

-- an error or a reset closes it
pub transfer_closed : (e : Seen) (n : List Seen) → errs e || e.asks.resets ≡ true → transfer (e ∷ n) ≡ no_transfer
unfolding transfer
transfer_closed e n x = pick_yes (errs e || e.asks.resets) no_transfer (e.begins (advanced e (transfer n))) x

-- otherwise the event's data, and then its Setups
pub transfer_on : (e : Seen) (n : List Seen) → errs e || e.asks.resets ≡ false → transfer (e ∷ n) ≡ e.begins (advanced e (transfer n))
unfolding transfer
transfer_on e n x = pick_no (errs e || e.asks.resets) no_transfer (e.begins (advanced e (transfer n))) x

-- an event that is no error and no reset, carries nothing and begins nothing
pub transfer_stays : (e : Seen) (n : List Seen) → errs e || e.asks.resets ≡ false → Unbegun e → Empty e → transfer (e ∷ n) ≡ transfer n
transfer_stays e n x u y = transfer_on e n x ∙ u (advanced e (transfer n)) ∙ advanced_none e (transfer n) y

-- nothing is sent and nothing brought
pub empty_of : {e : Seen} {qu ac ba fa re sw de : Bool} {fi cl : ℕ → Bool} → Is e qu ac ba fa re sw de fi cl 0 0 → Empty e
empty_of s = record { sends = s.sends; brings = s.brings }

-- whether an event is an error or a reset
pub closing : {e : Seen} {qu ac ba fa re sw de : Bool} {fi cl : ℕ → Bool} {se br : ℕ} → Is e qu ac ba fa re sw de fi cl se br → errs e || e.asks.resets ≡ (ba || fa) || re
closing s = rw (s.bad, s.fails, s.resets)

-- a halt is an error
pub b_halt : (q o bad fails : Bool) → (bad && (q || o)) || fails ≡ true → (bad || fails) || false ≡ true
b_halt q o bad fails x = grind arith

-- the bytes of an event in the direction of a command, which writes or reads
pub load_own : (w : Bool) (e : Seen) (k : ℕ) → e.sends ≡ pick w 0 k → e.asks.brings ≡ pick w k 0 → load (not w) e ≡ k
load_own w e k s b = grind arith

-- a phase at its end: used up, or further on
on_transfer : (b : Bool) (d' : Device) (x : Entry) (tag : ℕ) (p : Option ℕ) (n : ℕ) → b ≡ leb (512 * x.count) (x.moved + n) → p ≡ Some tag → d'.status.phase ≡ pick b None p
    → (entry_of d'.entries tag).write ≡ x.write → (entry_of d'.entries tag).count ≡ x.count → (entry_of d'.entries tag).moved ≡ x.moved + n
    → transfer_of d' ≡ pick (ltb (x.moved + n) (512 * x.count)) (under_way (not x.write) tag (x.moved + n) (512 * x.count)) no_transfer
on_transfer b d' x tag p n e y z w c m = grind arith

-- data moved: the history's and the state's go on alike
pub transfer_carries : (d d' : Device) (e : Seen) (n : List Seen) (tag k : ℕ) → transfer n ≡ transfer_of d → errs e || e.asks.resets ≡ false → Unbegun e
    → load (not (entry_of d.entries tag).write) e ≡ k → Carried tag k d d' → transfer (e ∷ n) ≡ transfer_of d'
transfer_carries d d' e n tag k f x u l c =
    let r = entry_of d.entries tag in
    transfer_on e n x ∙ u (advanced e (transfer n)) ∙ ap (advanced e) (f ∙ transfer_open d tag c.phased)
    ∙ ap (λ (y : ℕ). onward y (transfer_for r tag)) l
    ∙ onward_some k (not r.write) tag r.moved (512 * r.count) c.some
    ∙ sym (on_transfer (leb (512 * r.count) (r.moved + k)) d' r tag d.status.phase k refl c.phased c.phase c.write c.count c.moved)

-- a command of which nothing has moved
transfer_whole : (x : Entry) (t : ℕ) → x.moved ≡ 0 → transfer_for x t ≡ under_way (not x.write) t 0 (512 * x.count)
transfer_whole x t z = rw z

-- each kind of effect: what is under way by a history is what the state's phase stands for
pub whole_transfer_step : (d d' : Device) (e : Seen) (n : List Seen) → Phased d → transfer n ≡ transfer_of d → Class d e d' → transfer (e ∷ n) ≡ transfer_of d'
whole_transfer_step d d' e n i f (plain s u k) = transfer_stays e n (closing s) u (empty_of s) ∙ f ∙ sym (transfer_same d d' k)
whole_transfer_step d d' e n i f (pages de s u x k) = transfer_stays e n (closing s) u (empty_of s) ∙ f ∙ sym (transfer_same d d' k)
whole_transfer_step d d' e n i f (again q s u ha o k) = transfer_closed e n (closing s) ∙ sym (transfer_shut d' (k.phase ∙ phase_none d i o))
whole_transfer_step d d' e n i f (freely s u ha o k) = transfer_closed e n (closing s) ∙ sym (transfer_shut d' (k.phase ∙ phase_none d i o))
whole_transfer_step d d' e n i f (halts q ba fa s u a ha w k) =
    transfer_closed e n (closing s ∙ b_halt q (not (eqb d.status.outstanding 0)) ba fa w) ∙ sym (transfer_shut d' k.phase)
whole_transfer_step d d' e n i f (resets s u k) = transfer_closed e n (closing s) ∙ sym (transfer_shut d' k.phase)
whole_transfer_step d d' e n i f (sweeps cl a s u ha o p k) = transfer_stays e n (closing s) u (empty_of s) ∙ f ∙ transfer_shut d p ∙ sym (transfer_shut d' k.phase)
whole_transfer_step d d' e n i f (takes s u k) = transfer_stays e n (closing s) u (empty_of s) ∙ f ∙ transfer_shut d k.shut ∙ sym (transfer_shut d' (k.phase ∙ k.shut))
whole_transfer_step d d' e n i f (opens tag s k) =
    transfer_on e n (closing s) ∙ k.begins (advanced e (transfer n)) ∙ sym (transfer_whole (entry_of d.entries tag) tag k.moved)
    ∙ sym (transfer_open d' tag k.phase ∙ ap (λ (es : List Entry). transfer_for (entry_of es tag) tag) k.entries)
whole_transfer_step d d' e n i f (carries tag k s u c) =
    transfer_carries d d' e n tag k f (closing s) u (load_own (entry_of d.entries tag).write e k s.sends s.brings) c
whole_transfer_step d d' e n i f (ends set s u k) = transfer_stays e n (closing s) u (empty_of s) ∙ f ∙ transfer_shut d k.shut ∙ sym (transfer_shut d' (k.phase ∙ k.shut))

-- before any call, with no phase open
pub whole_transfer_start : (d : Device) → d.status.phase ≡ None → transfer [] ≡ transfer_of d
unfolding transfer
whole_transfer_start d p = sym (transfer_shut d p)
