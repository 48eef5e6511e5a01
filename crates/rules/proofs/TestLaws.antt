-- What holds of every call's row of the refusal table.
use Rattle.std.proofs.Common.{Some, ◌≡◌, refl, Bool, true, false, ◌&&◌, true≢false, List, [], ◌∷◌, T, ltb, arith}
use Rattle.refusals.specs.First.{Rung, first_of, fresh, apart}
use Rattle.refusals.specs.Number.{number}
use Rattle.refusals.specs.declared.reasons.Refusal.TheVariants.{Contradiction, NoFrame}
use Rattle.bits.proofs.Picks.{pick_yes}
use Rattle.rules.specs.Call.{Call, host_frame, happens}
use Rattle.rules.specs.declared.event.DeviceEvent.TheVariants.{SendData}
use Rattle.rules.specs.Handed.{handed}
use Rattle.rules.specs.Tests.{tests}
use Rattle.rules.specs.Act.{does, act}
use Rattle.rules.specs.declared.facts.Facts.{Facts}

-- each number of a list is below the next
abbrev pub rises : List Rung → Bool
rises [] = true
rises (r ∷ []) = true
rises (r ∷ x ∷ rs) = ltb (number r.1) (number x.1) && rises (x ∷ rs)

-- a list whose first test holds gives that test's refusal
first_holds : (r : Rung) (rs : List Rung) → r.0 ≡ true → first_of (r ∷ rs) ≡ Some r.1
unfolding first_of
first_holds r rs h = pick_yes r.0 (Some r.1) (first_of rs) h

-- the same facts with another answer to whether the medium is wrong, and the reply buffer short
abbrev pub otherwise : Facts → Bool → Bool → Facts
otherwise v wrong short = record v { medium_wrong = wrong; reply_short = short }

-- its numbers stand once, and rise; it begins with 1, and 24, which is the event reader's, is not among them; a call that is lent no medium does not ask how long it is, and one that is lent no reply buffer neither
pub record TestLaws (v : Facts) (c : Call) : Type 0 where
  pub once : T (apart (tests v c))
  pub rising : rises (tests v c) ≡ true
  pub one : v.contradicts ≡ true → first_of (tests v c) ≡ Some Contradiction
  pub no_24 : fresh NoFrame (tests v c) ≡ true
  pub unlent : (handed c).medium ≡ false → (w : Bool) → act (otherwise v w v.reply_short) c ≡ act v c
  pub unbuffered : (handed c).buffer ≡ false → (s : Bool) → act (otherwise v v.medium_wrong s) c ≡ act v c

pub test_laws : (v : Facts) (c : Call) → TestLaws v c
unfolding tests does act
test_laws v (host_frame f) = record { once = tt; rising = refl; one = first_holds _ _; no_24 = refl; unlent = λ h. absurd (true≢false h); unbuffered = λ h. absurd (true≢false h) }
test_laws v (happens SendData) = record { once = tt; rising = refl; one = first_holds _ _; no_24 = refl; unlent = λ h. absurd (true≢false h); unbuffered = λ h. absurd (true≢false h) }
test_laws v _ = record { once = tt; rising = refl; one = first_holds _ _; no_24 = refl; unlent = λ h w. refl; unbuffered = λ h s. grind arith }
