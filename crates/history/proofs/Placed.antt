-- Data at a place: sent, they are what the medium held there; brought, the medium holds them there and is otherwise as it was. What each reply sends.
use Rattle.std.proofs.Common.{◌≡◌, refl, sym, ap, ◌∙◌, Bool, List, [], ◌∷◌, ◌++◌, append-nil, ℕ, zero, suc, ◌+◌, ◌≤◌, ◌<◌, add-zero, arith, length, take, drop, take-append-drop}
use Rattle.frames.specs.declared.shared.Task.{Task}
use Rattle.frames.specs.Write.{payload}
use Rattle.rules.specs.declared.acts.Queued.{Queued}
use Rattle.replies.specs.Replies.{setup_reply, log_replies, activate_if}
use Rattle.history.specs.Event.{Event}
use Rattle.history.specs.Asked.{brought}
use Rattle.history.specs.Replied.{some, sent}
use Rattle.history.specs.Placed.{written}
use Rattle.history.proofs.Views.{sent_in}

-- the bytes l are what the medium m holds from a place on
abbrev pub SentFrom : ℕ → List ℕ → List ℕ → Type 0
SentFrom at m l = l ≡ take (length l) (drop at m)

-- `left` holds the bytes l from a place on, and is otherwise as the medium m
abbrev pub LeftAt : ℕ → List ℕ → List ℕ → List ℕ → Type 0
LeftAt at m left l = left ≡ written at l m

-- if there are any, the bytes l end within the medium m from a place on
abbrev pub EndsIn : ℕ → List ℕ → List ℕ → Type 0
EndsIn at m l = 0 < length l → at + length l ≤ length m

-- the bytes l stand in what is left of the medium m at a place, and end within it
pub record DataStands (at : ℕ) (m left l : List ℕ) : Type 0 where
  pub left_at : LeftAt at m left l
  pub ends_in : EndsIn at m l

-- an event's data, sent and brought, stand at a place, and those brought end within the medium
pub record Placed (x : Event) (at : ℕ) : Type 0 where
  pub sends : SentFrom at x.medium (sent x)
  pub keeps : LeftAt at x.medium x.left (brought x)
  pub within : EndsIn at x.medium (brought x)

-- ---- no data

-- nothing is sent
pub sent_none : (at : ℕ) (m l : List ℕ) → l ≡ [] → SentFrom at m l
sent_none at m l e = rw e

-- the medium as it was
left_none : (at : ℕ) (m left l : List ℕ) → l ≡ [] → left ≡ m → LeftAt at m left l
left_none at m left l e k = k ∙ sym (ap (λ (y : List ℕ). written at y m) e ∙ ap (λ (n : ℕ). take at m ++ drop n m) (add-zero at) ∙ take-append-drop at m)

-- no data end nowhere
ends_none : (at : ℕ) (m l : List ℕ) → l ≡ [] → EndsIn at m l
ends_none at m l e p = absurd (omega (arith, p, ap length e))

-- where no data came, the medium is as it was
pub left_same : (at : ℕ) (m left l : List ℕ) → LeftAt at m left l → l ≡ [] → left ≡ m
left_same at m left l k e = k ∙ sym (left_none at m m l e refl)

-- no bytes, and the medium as it was
pub nowhere_lies : (at : ℕ) (m : List ℕ) → DataStands at m m []
nowhere_lies at m = record { left_at = left_none at m m [] refl refl; ends_in = ends_none at m [] refl }

-- ---- data to the host

-- a beginning of a list is as long as it is
take_short : (n : ℕ) (l : List ℕ) → take n l ≡ take (length (take n l)) l
take_short zero l = refl
take_short (suc n) [] = refl
take_short (suc n) (x ∷ l) = ap (λ (y : List ℕ). x ∷ y) (take_short n l)

-- a part of the medium as a data frame
pub payload_sent : (at n : ℕ) (m : List ℕ) → SentFrom at m (sent_in (payload (take n (drop at m)) ∷ []))
unfolding some
payload_sent at n m = rw (append-nil (take n (drop at m))) (take_short n (drop at m))

-- a page is no command's data, with a sweep before it or without
pub log_none : (on : Bool) (task : Task) (page : List ℕ) → sent_in (log_replies on task page) ≡ []
unfolding some
log_none on task page = grind arith

-- nor is an Activate
pub active_none : (on : Bool) → sent_in (activate_if on) ≡ []
unfolding some
active_none on = grind arith

-- nor a DMA Setup
pub setup_none : (q : Queued) (on : Bool) → sent_in (setup_reply q ∷ activate_if on) ≡ []
unfolding some
setup_none q on = grind arith
