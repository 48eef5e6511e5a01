-- Every command accepted has exactly one of four fates, and leaves "outstanding" once and for all.
use Rattle.std.proofs.Common.{◌≡◌, refl, false, ◌&&◌, ◌||◌, List, [], ◌∷◌, ℕ, arith}
use Rattle.device.specs.declared.state.Device.{Device}
use Rattle.history.specs.Seen.{Seen, errs}
use Rattle.history.specs.Fates.{Command, later, commands, own_tag, outstanding_at, finished_at, given_up_at, dropped_at, outstanding, All}
use Rattle.history.specs.Faithful.{OneFate, Settled, Fates}
use Rattle.history.proofs.Class.{Class}
use Rattle.history.proofs.Alls.{all_step}

-- ---- finishing, giving up, dropping

-- an event never does two of these: finish a tag, answer an error, take a reset
abbrev pub Lone : Seen → Type 0
Lone e = (t : ℕ) → (e.finishes t && (errs e || e.asks.resets)) || (errs e && e.asks.resets) ≡ false

-- no event of a history ever does
unfoldable pub AllLone : List Seen → Type 0
AllLone [] = Unit
AllLone (e ∷ h) = Lone e × AllLone h

-- each kind of effect does at most one of the three
pub lone : {d d' : Device} {e : Seen} → Class d e d' → Lone e
lone k = grind arith

-- ---- exactly one of four

-- an event later a command still has exactly one fate
later_fate : (e : Seen) (c : Command) → Lone e → OneFate c → OneFate (later e c)
unfolding outstanding_at finished_at given_up_at dropped_at
later_fate e c l o = let k = l (own_tag c) in grind arith

-- ---- once and for all

-- a command that is not outstanding stays as it is, whatever follows
pub settled : (c : Command) (x : List Seen) → outstanding c ≡ false → Settled c x
unfolding outstanding_at finished_at given_up_at dropped_at
settled c [] o = record { outstanding = o; finished = refl; given_up = refl; dropped = refl }
settled c (e ∷ x) o =
    let s : Settled c x = settled c x o in
    grind arith

-- ---- of a history

-- every command accepted in a history without such an event has exactly one fate, for good once it is not outstanding
pub fates : (h : List Seen) → AllLone h → Fates h
unfolding AllLone commands All outstanding_at finished_at given_up_at dropped_at
fates [] l = tt
fates (e ∷ h) l =
    all_step (λ c. OneFate c × ((x : List Seen) → outstanding c ≡ false → Settled c x)) (λ c. OneFate c × ((x : List Seen) → outstanding c ≡ false → Settled c x)) e h
    (λ _. (refl, settled (record { accepted = e; after = [] })))
    (λ c o. (later_fate e c l.0 o.0, settled (later e c)))
    (fates h l.1)
