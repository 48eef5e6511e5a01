-- A page is sent only while nothing is outstanding, and in a halt page 10h alone.
use Rattle.std.proofs.Common.{Ok, ◌≡◌, refl, sym, ◌∙◌, Bool, true, false, List, ℕ, eqb-true}
use mathlib.Core.Bool.{false≢true}
use Rattle.frames.specs.Write.{FrameValue}
use Rattle.rules.specs.Call.{Call}
use Rattle.rules.specs.Medium.{part_of}
use Rattle.rules.specs.declared.acts.Act.{Act}
use Rattle.rules.proofs.Ruled as by
use Rattle.replies.specs.Replies.{replies_of, activate_if}
use Rattle.device.specs.Lent.{Lent, lent}
use Rattle.device.specs.FactsOf.{facts_of}
use Rattle.device.specs.Step.{state_shown}
use Rattle.device.specs.declared.state.Device.{Device}
use Rattle.history.specs.FrameAsks.{Asked}
use Rattle.history.specs.FrameReading.{frame_asks}
use Rattle.history.specs.Reading.{call_asks}
use Rattle.history.specs.Replied.{FrameRead, some, collect}
use Rattle.history.proofs.Hearing.{pio_in, reads_errors}
use Rattle.history.proofs.Own.{own_goes}

-- of the replies rs of a device d to a call that asks for k: with a page nothing is outstanding, and in a halt page 10h was asked for
pub record Timely (d : Device) (k : Asked) (rs : List FrameValue) : Type 0 where
  pub idle : pio_in rs ≡ true → d.status.outstanding ≡ 0
  pub alone : pio_in rs ≡ true → d.status.halted ≡ true → k.reads 0x10 ≡ true

module _ (d : Device) where
  -- no page
  pageless : (k : Asked) (rs : List FrameValue) → pio_in rs ≡ false → Timely d k rs
  pageless k rs e = record { idle = λ y. absurd (false≢true (sym e ∙ y)); alone = λ y. absurd (false≢true (sym e ∙ y)) }

  -- a page, of a device that is not halted
  awake : (k : Asked) (rs : List FrameValue) → d.status.halted ≡ false → d.status.outstanding ≡ 0 → Timely d k rs
  awake k rs y e = record { idle = λ _. e; alone = λ _ x. absurd (false≢true (sym y ∙ x)) }

  -- an Activate or none
  activate_pageless : (on : Bool) → pio_in (activate_if on) ≡ false
  unfolding some collect
  activate_pageless true = refl
  activate_pageless false = refl

  -- a host frame, by the rule that holds
  heard_timely : (l : Lent) (part : List ℕ) {f : FrameRead} {a : Act} → by.Heard (facts_of d l) f a → Timely d (frame_asks f) (replies_of (state_shown d) part a)
  unfolding replies_of some collect
  heard_timely l part (by.srst h c s) = pageless _ _ refl
  heard_timely l part (by.release h c s y) = pageless _ _ refl
  heard_timely l part (by.nothing h c s y) = pageless _ _ refl
  heard_timely l part (by.rule1 h c y) = pageless _ _ refl
  heard_timely l part (by.rule2 h c y u) = pageless _ _ refl
  heard_timely l part (by.rule3 h c y u z) = pageless _ _ refl
  heard_timely l part (by.rule4 h c y u z) = pageless _ _ refl
  heard_timely l part (by.other h c (by.halted y)) = pageless _ _ refl
  heard_timely l part (by.other h c (by.busy y)) = pageless _ _ refl
  heard_timely l part (by.other h c (by.page10 e p)) = record { idle = λ _. eqb-true d.status.outstanding 0 e; alone = λ _ _. reads_errors h c.command p }
  heard_timely l part (by.other h c (by.page11 y e p)) = awake _ _ y (eqb-true d.status.outstanding 0 e)
  heard_timely l part (by.other h c (by.identity y e p)) = awake _ _ y (eqb-true d.status.outstanding 0 e)
  heard_timely l part (by.other h c (by.neither y e)) = pageless _ _ refl
  heard_timely l part (by.due n p w y) = pageless _ _ (activate_pageless _)
  heard_timely l part (by.bist y) = pageless _ _ refl

  -- a taken call
  pub ruled_timely : (m b : List ℕ) {c : Call} {a : Act} → by.Ruled (facts_of d (lent c m b)) c (Ok a) → Timely d (call_asks c) (replies_of (state_shown d) (part_of a m) a)
  ruled_timely m b {c} (by.host f a g w s h) = heard_timely (lent c m b) (part_of a m) h
  ruled_timely m b {c} {a} (by.own o) = pageless (call_asks c) (replies_of (state_shown d) (part_of a m) a) (own_goes d m b o).replies.pageless
