-- The data of one call: read, they are what the medium held at the command's place; written, the medium holds them there, whole, and is otherwise as it was.
use Rattle.std.proofs.Common.{Option, Some, None, ◌≡◌, refl, ap, ◌∙◌, true, not, List, ℕ, ◌+◌, ◌*◌, ◌<◌, arith, eqb, eqb-true}
use mathlib.Core.Path.{subst⁻¹}
use Rattle.bits.specs.Pick.{pick}
use Rattle.bits.specs.Bit.{bit_in}
use Rattle.bits.proofs.Picks.{and_left}
use Rattle.rules.specs.Positions.{place_of}
use Rattle.device.proofs.Sized.{SizedRecord}
use Rattle.device.specs.Step.{step}
use Rattle.device.specs.DataDue.{phase_entry}
use Rattle.device.specs.declared.state.Device.{Device}
use Rattle.history.specs.Event.{Event}
use Rattle.history.specs.Asked.{brought}
use Rattle.history.specs.Seen.{Seen, seen}
use Rattle.history.specs.Fates.{Command, commands, own_tag, outstanding, one, total_with}
use Rattle.history.specs.Carried.{transfer, base}
use Rattle.history.specs.Faithful.{Moved, MovedOf, Reaches, Moves}
use Rattle.device.specs.Lent.{Lent, Typed}
use Rattle.history.specs.Run.{done, event, result}
use Rattle.history.proofs.Frames.{read_step, read_sent}
use Rattle.history.proofs.Steps.{comes}
use Rattle.history.proofs.Alls.{all_imp}
use Rattle.history.proofs.Transfers.{transfer_for, transfer_of, transfer_shut, transfer_open}
use Rattle.history.proofs.Moving.{device_entry}
use Rattle.history.proofs.Table.{Standing, Following, Tracked}
use Rattle.history.proofs.Strays.{due, transfer_since}
use Rattle.history.proofs.Owners.{owned}
use Rattle.history.proofs.Placed.{SentFrom, Placed, left_same}
use Rattle.history.proofs.Kept.{call_lies, call_sent}

-- every call's data stand at the next byte of the open phase's command
pub placed : (d : Device) (l : Lent) → Typed l.call → SizedRecord d → Placed (event (done l (result d l))) (place_of (phase_entry d))
placed d l t s =
    let x : Event = event (done l (result d l)) in
    let k = call_lies d l in
    record { sends = subst⁻¹ (SentFrom (place_of (phase_entry d)) l.medium) (read_sent x (step d l).frames (read_step d l t s)) (call_sent d l); keeps = k.left_at; within = k.ends_in }

-- data at the place of the open phase are those of the command to which they belong, at its next byte
command_moved : (d : Device) (x : Event) (t : ℕ) (c : Command) → Placed x (place_of (device_entry d t)) → Standing d c → MovedOf x c (transfer_for (device_entry d t) t)
command_moved d x t c p s b =
    let e : t ≡ own_tag c = eqb-true t (own_tag c) (and_left (eqb t (own_tag c)) (pick c.accepted.asks.write (not (not (device_entry d t).write)) (not (device_entry d t).write)) b) in
    let first : (device_entry d t).first ≡ c.accepted.asks.first = ap (λ (u : ℕ). (device_entry d u).first) e ∙ s.first in
    let at : base c + (device_entry d t).moved ≡ place_of (device_entry d t) = omega arith in
    subst⁻¹ (Moved x (not (device_entry d t).write)) at (record { read = λ _. p.sends; written = λ _. p.keeps; within = λ _. p.within })

-- the data of an event, for each outstanding command
each_moved : (d : Device) (x : Event) (c : Command) → Placed x (place_of (phase_entry d)) → Following d c → outstanding c ≡ true → MovedOf x c (transfer c.after)
each_moved d x c p f o = subst⁻¹ (MovedOf x c) f.under (go d.status.phase refl)
  where
    go : (k : Option ℕ) → d.status.phase ≡ k → MovedOf x c (transfer_of d)
    go None e = subst⁻¹ (MovedOf x c) (transfer_shut d e) tt
    go (Some t) e = subst⁻¹ (MovedOf x c) (transfer_open d t e) (command_moved d x t c (rw e at p) (f.stands o))

-- the Setup of the open phase reaches to the end of its command's range
command_reaches : (d : Device) (t : ℕ) (c : Command) → Standing d c → Reaches c (transfer_for (device_entry d t) t)
command_reaches d t c s b =
    let e : t ≡ own_tag c = eqb-true t (own_tag c) (and_left (eqb t (own_tag c)) (pick c.accepted.asks.write (not (not (device_entry d t).write)) (not (device_entry d t).write)) b) in
    ap (λ (n : ℕ). 512 * n) (ap (λ (u : ℕ). (device_entry d u).count) e ∙ s.count)

each_reaches : (d : Device) (c : Command) → Following d c → outstanding c ≡ true → Reaches c (transfer c.after)
each_reaches d c f o = subst⁻¹ (Reaches c) f.under (go d.status.phase refl)
  where
    go : (k : Option ℕ) → d.status.phase ≡ k → Reaches c (transfer_of d)
    go None e = subst⁻¹ (Reaches c) (transfer_shut d e) tt
    go (Some t) e = subst⁻¹ (Reaches c) (transfer_open d t e) (command_reaches d t c (f.stands o))

-- one call after a history that the state follows
pub moves : (d : Device) (l : Lent) (h : List Seen) → Typed l.call → SizedRecord d → Tracked d h
    → ((t : ℕ) → t < 32 → total_with t h ≡ one (bit_in 32 d.status.outstanding t)) → Moves (event (done l (result d l))) h
moves d l h t s i counts =
    let x : Event = event (done l (result d l)) in
    let p = placed d l t s in
    record {
      due = due d (step d l).state (seen x) h i.under (comes d l t s);
      owned = owned d h i counts;
      since = transfer_since d h i;
      reaches = all_imp (Following d) _ (λ y f. each_reaches d y f) (commands h) i.commands;
      each = all_imp (Following d) _ (λ y f. each_moved d x y p f) (commands h) i.commands;
      untouched = left_same (place_of (phase_entry d)) l.medium x.left (brought x) p.keeps;
    }
