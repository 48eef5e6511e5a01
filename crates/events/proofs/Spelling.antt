-- What is read and what is written of an event are one: its bytes are taken as it, and what is taken are its bytes.
use Rattle.std.proofs.Common.{◌≡◌, ℕ, zero, suc, ◌+◌, ◌<◌, ◌≤◌, List, [], ◌∷◌, ◌++◌, length, take, drop, drop-cons, take_all, length-take, length-take-le, get_or, Some, refl, sym, ap, ap₂, ◌∙◌, subst, arith, ⊎_elim}
use Rattle.std.proofs.lemmas.Bool.{cases_lt}
use Rattle.std.proofs.lemmas.Bool.Decides.{nat_tests}
use Rattle.std.proofs.lemmas.List.{append_cancel_left, get_or-take, get_or_past}
use lib.Seq.{take-append_seam}
use Rattle.bits.specs.Little.{Bytes, bytes_from, le_at, le_bytes}
use Rattle.bits.proofs.Littles.{le_le_bytes, le_lt, byte_le}
use Rattle.rules.specs.declared.event.DeviceEvent.TheVariants.{OpenPhase, SendData, FinishTags, MediaError, LinkEvent, LinkTally, Comreset}
use Rattle.events.specs.Kinds.{kind_named, body_of, event_by_kind}
use Rattle.events.specs.declared.kinds.Kind.{Kind}
use Rattle.events.specs.declared.kinds.Kind.TheVariants as kinds
use Rattle.events.specs.declared.asked.Event.{Event}
use Rattle.events.specs.declared.asked.Event.TheVariants.{OfDevice, HostData, HostRegister, Bist}
use Rattle.events.specs.Grammar.{event_bytes, IsShaped, Fits, IsSpelt, BeginsWith}

-- ---- bytes one by one
abbrev pub listed : List ℕ → ℕ → ℕ → List ℕ
listed e i zero = []
listed e i (suc n) = get_or e i 0 ∷ listed e (suc i) n

from : (e : List ℕ) (i n : ℕ) → i + n ≤ length e → take n (drop i e) ≡ listed e i n
from e i zero h = refl
from e i (suc n) h = ap (λ (l : List ℕ). take (suc n) l) (drop-cons e i 0 (omega (arith, h))) ∙ ap (λ (l : List ℕ). get_or e i 0 ∷ l) (from e (suc i) n (omega (arith, h)))

pub front : (e : List ℕ) (n : ℕ) → n ≤ length e → take n e ≡ listed e 0 n
front e n h = from e 0 n (omega (arith, h))

all : (e : List ℕ) (n : ℕ) → length e ≡ n → e ≡ listed e 0 n
all e n h = sym (take_all n e (omega (arith, h))) ∙ front e n (omega (arith, h))

-- those of a number
numbered : (e : List ℕ) → Bytes e → (at m k n : ℕ) → k + n ≤ m → bytes_from k n (le_at e at m) ≡ listed e (at + k) n
numbered e w at m k zero h = refl
numbered e w at m k (suc n) h =
    let next : at + suc k ≡ suc (at + k) = omega arith in
    ap₂ (λ (b : ℕ) (l : List ℕ). b ∷ l) (byte_le e w at m k (omega (arith, h))) (numbered e w at m (suc k) n (omega (arith, h)) ∙ ap (λ (i : ℕ). listed e i n) next)

pub number_bytes : (e : List ℕ) → Bytes e → (at n : ℕ) → le_bytes n (le_at e at n) ≡ listed e at n
number_bytes e w at n = numbered e w at n 0 n (omega arith) ∙ ap (λ (i : ℕ). listed e i n) (omega arith)

pub front_bytes : (n : ℕ) (l : List ℕ) → Bytes l → Bytes (take n l)
front_bytes n l w i =
    ⊎_elim (λ (h : i < n). subst (λ (x : ℕ). x < 256) (sym (get_or-take n l i 0 h)) (w i)) (λ (h : n ≤ i). rw (get_or_past (take n l) i 0 (omega (arith, h, length-take n l))) (omega arith)) (cases_lt i n)

-- ---- the byte that names a kind
abbrev kind_byte : Kind → ℕ
kind_byte kinds.OpenPhase = 0x01
kind_byte kinds.SendData = 0x02
kind_byte kinds.FinishTags = 0x03
kind_byte kinds.MediaError = 0x04
kind_byte kinds.LinkEvent = 0x05
kind_byte kinds.Comreset = 0x06
kind_byte kinds.HostData = 0x07
kind_byte kinds.HostRegister = 0x27
kind_byte kinds.Bist = 0x58

byte_named : (k : ℕ) (kind : Kind) → kind_named k ≡ Some kind → k ≡ kind_byte kind
unfolding kind_named
byte_named k kind h = grind (arith, nat_tests)

-- ---- what is taken are the event's bytes
module _ (e : List ℕ) (w : Bytes e) where
  being : (kind : Kind) → IsShaped (event_by_kind e kind) → e ≡ event_bytes (event_by_kind e kind) → IsSpelt (event_by_kind e kind) e
  being kind f s = ((f, subst Bytes s w), s)

  by_kind : (kind : Kind) → get_or e 0 0 ≡ kind_byte kind → length e ≡ body_of kind + 1 → IsSpelt (event_by_kind e kind) e
  unfolding event_by_kind body_of event_bytes IsShaped
  by_kind kinds.OpenPhase k n = being kinds.OpenPhase tt (all e 2 n ∙ ap (λ (b : ℕ). b ∷ get_or e 1 0 ∷ []) k)
  by_kind kinds.SendData k n = being kinds.SendData tt (all e 1 n ∙ ap (λ (b : ℕ). b ∷ []) k)
  by_kind kinds.FinishTags k n = being kinds.FinishTags (le_lt e w 1 4) (all e 5 n ∙ ap₂ (λ (b : ℕ) (l : List ℕ). b ∷ l) k (sym (number_bytes e w 1 4)))
  by_kind kinds.MediaError k n = being kinds.MediaError (le_lt e w 3 4) (all e 7 n ∙ ap₂ (λ (b : ℕ) (l : List ℕ). b ∷ get_or e 1 0 ∷ get_or e 2 0 ∷ l) k (sym (number_bytes e w 3 4)))
  by_kind kinds.LinkEvent k n = being kinds.LinkEvent tt (all e 2 n ∙ ap (λ (b : ℕ). b ∷ get_or e 1 0 ∷ []) k)
  by_kind kinds.Comreset k n = being kinds.Comreset tt (all e 1 n ∙ ap (λ (b : ℕ). b ∷ []) k)
  by_kind kinds.HostData k n = being kinds.HostData tt (all e 2 n ∙ ap (λ (b : ℕ). b ∷ get_or e 1 0 ∷ []) k)
  by_kind kinds.HostRegister k n = being kinds.HostRegister (n, k) refl
  by_kind kinds.Bist k n = being kinds.Bist (n, k) refl

-- an event that is taken by its kind
pub spelt : (e : List ℕ) → Bytes e → (kind : Kind) → kind_named (get_or e 0 0) ≡ Some kind → length e ≡ body_of kind + 1 → IsSpelt (event_by_kind e kind) e
spelt e w kind k n = by_kind e w kind (byte_named (get_or e 0 0) kind k) n

-- and that bytes begin with
pub front_is : (l : List ℕ) → Bytes l → (kind : Kind) (n : ℕ) → kind_named (get_or l 0 0) ≡ Some kind → n ≡ body_of kind + 1 → n ≤ length l → BeginsWith l (event_by_kind (take n l) kind) n
front_is l w kind n named size there =
    let same : get_or (take n l) 0 0 ≡ get_or l 0 0 = get_or-take n l 0 0 (omega (arith, size)) in
    record { within = there; spelt = spelt (take n l) (front_bytes n l w) kind (ap kind_named same ∙ named) (length-take-le n l there ∙ size) }

-- ---- and its bytes are taken as it
pub record IsOfKind (x : Event) (kind : Kind) : Type 0 where
  pub named : kind_named (get_or (event_bytes x) 0 0) ≡ Some kind
  pub size : length (event_bytes x) ≡ body_of kind + 1
  pub taken : event_by_kind (event_bytes x) kind ≡ x

pub read_back : (x : Event) → IsShaped x → (kind : Kind) × IsOfKind x kind
unfolding event_bytes IsShaped kind_named body_of event_by_kind
read_back (OfDevice (OpenPhase tag)) f = (kinds.OpenPhase, record { named = refl; size = refl; taken = refl })
read_back (OfDevice SendData) f = (kinds.SendData, record { named = refl; size = refl; taken = refl })
read_back (OfDevice (FinishTags tags)) f = (kinds.FinishTags, record { named = refl; size = refl; taken = ap (λ (n : ℕ). OfDevice (FinishTags n)) (le_le_bytes 4 f) })
read_back (OfDevice (MediaError tag error sector)) f = (kinds.MediaError, record { named = refl; size = refl; taken = ap (λ (n : ℕ). OfDevice (MediaError tag error n)) (le_le_bytes 4 f) })
read_back (OfDevice (LinkEvent row)) f = (kinds.LinkEvent, record { named = refl; size = refl; taken = refl })
read_back (OfDevice (LinkTally amounts)) f = absurd f
read_back (OfDevice Comreset) f = (kinds.Comreset, record { named = refl; size = refl; taken = refl })
read_back (HostData byte) f = (kinds.HostData, record { named = refl; size = refl; taken = refl })
read_back (HostRegister frame) f = (kinds.HostRegister, record { named = ap kind_named f.1; size = f.0; taken = refl })
read_back (Bist frame) f = (kinds.Bist, record { named = ap kind_named f.1; size = f.0; taken = refl })

-- also with more behind them
first_same : (l more : List ℕ) → 0 < length l → get_or (l ++ more) 0 0 ≡ get_or l 0 0
first_same [] more h = absurd (omega arith)
first_same (b ∷ l) more h = refl

pub named_front : (x : Event) (kind : Kind) (more : List ℕ) → IsOfKind x kind → kind_named (get_or (event_bytes x ++ more) 0 0) ≡ Some kind
named_front x kind more a = ap kind_named (first_same (event_bytes x) more (omega (arith, a.size))) ∙ a.named

-- no event's bytes begin another's [event-kinds]
pub prefix_free : (x y : Event) (more more' : List ℕ) → Fits x → Fits y → event_bytes x ++ more ≡ event_bytes y ++ more' → (x ≡ y) × (more ≡ more')
prefix_free x y more more' f g q =
    let (k, a) = read_back x f.0 in
    let (k', b) = read_back y g.0 in
    let named = sym (named_front x k more a) ∙ ap (λ (l : List ℕ). kind_named (get_or l 0 0)) q ∙ named_front y k' more' b in
    let kind : k ≡ k' = cc named in
    let long : length (event_bytes x) ≡ length (event_bytes y) = a.size ∙ ap (λ (k : Kind). body_of k + 1) kind ∙ sym b.size in
    let same : event_bytes x ≡ event_bytes y = sym (take-append_seam (event_bytes x) more) ∙ ap₂ (λ (n : ℕ) (l : List ℕ). take n l) long q ∙ take-append_seam (event_bytes y) more' in
    (sym a.taken ∙ ap₂ event_by_kind same kind ∙ b.taken, append_cancel_left (event_bytes x) more more' (cc))
