-- What the contracts of `events` allow, event by event: every sequence of such results is a history.
use Rattle.std.proofs.Common.{Bool, false, List, [], ◌∷◌, ℕ, Result, ◌≡◌, refl, sym, ap, subst, ◌∙◌, Err}
use contract.Lifetimes.{Lfts}
use Rattle.std.specs.Borrow.{MutBor}
use Rattle.bits.specs.Contract.{Allows}
use Rattle.bits.specs.Pick.{pick}
use Rattle.refusals.specs.declared.reasons.Refusal.{Refusal}
use Rattle.refusals.specs.declared.reasons.Refusal.TheVariants.{Contradiction}
use Rattle.device_state.specs.declared.shapes.Settings.{Settings}
use Rattle.device.specs.Device.{zero_device, power_on}
use Rattle.device.specs.Lent.{gave, answered}
use Rattle.device.specs.Sealing.{powered_of}
use Rattle.device.specs.declared.sealed.Sealed.{Sealed}
use Rattle.device.specs.declared.state.Device.{Device}
use Rattle.device.specs.declared.state.Outcome.{Outcome}
use Rattle.device.proofs.Kept.{never_zeros}
use Rattle.events.specs.Settings.{in_limit}
use Rattle.events.specs.Start.{start_of}
use Rattle.events.specs.declared.asked.Event.{Event}
use Rattle.events.proofs.play as playing
use Rattle.events.proofs.start as starting
use Rattle.events.specs.contracts.play as play-said
use Rattle.events.specs.contracts.start as start-said
use Rattle.caller.specs.Playing.{Play, play, PlayGiven, PlayContinues, EachPlay, HeldBy}
use Rattle.caller.proofs.Plays.{plays_history}
use Rattle.caller.proofs.Values.{IsValue, typed_value}

-- what the contract of `events::play` allows of a device: its event is a value of its type
pub data PlayCode : Device → Play → Type 0 where
  play_code : (κs : Lfts 3) (k : MutBor Sealed) (e : Event) (m b : MutBor (List ℕ)) (r : Result ℕ Refusal) (k' : Sealed) (m' b' : List ℕ) → IsValue e
      → Allows play-said.ended playing.Reads.Post κs (k, (e, (m, (b, tt)))) r (k', (tt, (m', (b', tt)))) → PlayCode k.now.device (play e m.now b.now (gave (answered k'.device r) m' b'))

-- what the contract of `events::start` allows
pub data StartCode : Settings → Outcome → Type 0 where
  start_code : (κs : Lfts 0) (s : Settings) (r : Result Sealed Refusal) → Allows start-said.ended starting.Reads.Post κs (s, tt) r (tt, tt) → StartCode s (powered_of r)

play_given : (d : Device) (p : Play) → PlayCode d p → PlayGiven d p
play_given d p (play_code κs k e m b r k' m' b' w h) = (typed_value k.now.device e w, h)

start_given : (s : Settings) (r : Outcome) → StartCode s r → r ≡ start_of s
start_given s r (start_code κs e x h) = h

each_given : (d : Device) (ps : List Play) → EachPlay PlayCode d ps → EachPlay PlayGiven d ps
unfolding EachPlay
each_given d [] h = tt
each_given d (p ∷ ps) h = (play_given d p h.0, each_given p.gave.outcome.state ps h.1)

-- every sequence of results that the contracts of `events::start` and `events::play` allow, whatever its events, media and reply buffers
pub plays_history_code : (s : Settings) (r : Outcome) (ps : List Play) → StartCode s r → EachPlay PlayCode r.state ps → EachPlay PlayContinues r.state ps × HeldBy (in_limit s) s r ps
plays_history_code s r ps b h =
    subst (λ (o : Outcome). EachPlay PlayCode o.state ps → EachPlay PlayContinues o.state ps × HeldBy (in_limit s) s o ps) (sym (start_given s r b)) (λ q. plays_history s ps (each_given (start_of s).state ps q)) h

-- the zeros are no device: nothing is played with them
never_played : (d : Device) (p : Play) → PlayCode d p → d ≡ zero_device → ⊥
never_played d p (play_code κs k e m b r k' m' b' w h) z = never_zeros k.now z

-- nor behind settings that are out of the limit
pub none_played : (s : Settings) (r : Outcome) (ps : List Play) → in_limit s ≡ false → StartCode s r → EachPlay PlayCode r.state ps → ps ≡ []
unfolding EachPlay start_of powered_of
none_played s r [] a b h = refl
none_played s r (p ∷ ps) a b h = absurd (never_played r.state p h.0 (ap (λ (o : Outcome). o.state) (start_given s r b ∙ ap (λ (i : Bool). pick i (power_on s) (powered_of (Err Contradiction))) a)))
