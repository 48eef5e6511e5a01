-- What the known bytes begin with, by what was read of them.
use Rattle.std.proofs.Common.{◌≡◌, ℕ, ◌+◌, ◌<◌, ◌≤◌, true, false, true≢false, List, [], ◌∷◌, ◌++◌, length, length-append, drop, get_or, take, length-take-le, slice_get, take-append-drop, Option, Some, None, IfSome, refl, sym, ap, ◌∙◌, append-nil, arith, ⊎_elim}
use Rattle.std.proofs.lemmas.Bool.Decides.{nat_tests}
use Rattle.std.specs.Io.KnownBytes.{Consumes, IsAtEnd}
use Rattle.bits.specs.Little.{Bytes}
use Rattle.bits.proofs.Picks.{tested}
use Rattle.events.specs.Kinds.{kind_named, body_of}
use Rattle.events.specs.declared.kinds.Kind.{Kind}
use Rattle.events.specs.declared.kinds.InputEnd.TheVariants as ends
use Rattle.events.specs.declared.asked.Event.{Event}
use Rattle.events.specs.Grammar.{event_bytes, Fits, BeginsWith, NoEventBegins}
use Rattle.events.specs.Reading.{end_at, IsEnd}
use Rattle.events.specs.Stops.{not_whole, begins_none}
use Rattle.events.proofs.Spelling.{read_back, named_front, front_is}

-- what holds of all bytes that begin so holds of the known ones
pub begun : (P : List ℕ → Type 0) (u v : Option (List ℕ)) (a : List ℕ) → Consumes u v a → ((more : List ℕ) → P (a ++ more)) → IfSome u P
begun P None v a x f = tt
begun P (Some xs) None a x f = absurd x
begun P (Some xs) (Some ys) a x f = rw x (f ys)

-- what was read to its end is known
pub ended : (P : List ℕ → Type 0) (u v : Option (List ℕ)) (a : List ℕ) → Consumes u v a → IsAtEnd v → P a → IfSome u P
ended P None v a x e p = tt
ended P (Some xs) None a x e p = absurd x
ended P (Some xs) (Some ys) a x e p = rw (x ∙ ap (λ (t : List ℕ). a ++ t) e ∙ append-nil a) p

-- and what follows from it
pub known : (P Q : List ℕ → Type 0) (u : Option (List ℕ)) → ((l : List ℕ) → P l → Q l) → IfSome u P → IfSome u Q
known P Q None f p = tt
known P Q (Some l) f p = f l p

-- an event that begins some bytes is whole in them
whole : (kind : Kind) (have : ℕ) → body_of kind + 1 ≤ have → not_whole (Some kind) have ≡ false
unfolding not_whole
whole kind have h = grind (arith, nat_tests)

-- so where none is whole, none begins
pub no_event : (l : List ℕ) → begins_none l ≡ true → NoEventBegins l
no_event l h x rest f q =
    let (kind, a) = read_back x f.0 in
    let named : kind_named (get_or l 0 0) ≡ Some kind = ap (λ (m : List ℕ). kind_named (get_or m 0 0)) q ∙ named_front x kind rest a in
    let long : body_of kind + 1 ≤ length l = omega (arith, ap length q, length-append (event_bytes x) rest, a.size) in
    true≢false (sym h ∙ ap (λ (o : Option Kind). not_whole o (length l)) named ∙ whole kind (length l) long)

-- nothing is there, its first byte names no kind, or the body is short
pub none_there : (l : List ℕ) → None ≡ slice_get l 0 → NoEventBegins l
unfolding kind_named not_whole
none_there [] h = no_event [] refl
none_there (b ∷ l) h = absurd (cc h)

pub none_named : (l : List ℕ) → kind_named (get_or l 0 0) ≡ None → NoEventBegins l
unfolding not_whole
none_named l h = no_event l (rw h refl)

pub none_whole : (l : List ℕ) (kind : Kind) → kind_named (get_or l 0 0) ≡ Some kind → length l < body_of kind + 1 → NoEventBegins l
unfolding not_whole
none_whole l kind named h = no_event l (rw named (grind (arith, nat_tests)))

-- and then the input ends with `stop`
pub stops : (k : ℕ) (l : List ℕ) → NoEventBegins (k ∷ l) → IsEnd ends.NoEvent (k ∷ l)
unfolding end_at
stops k l n = (n, refl)

pub ends_clean : IsEnd ends.Clean []
unfolding end_at
ends_clean = (none_there [] refl, refl)

-- no body is longer than a frame of 27h behind its type
pub short_body : (kind : Kind) → body_of kind ≤ 19
unfolding body_of
short_body kind = grind arith

-- behind the byte of a kind
module _ (k : ℕ) (kind : Kind) (n : ℕ) (named : kind_named k ≡ Some kind) (size : n ≡ body_of kind) where
  pub short_behind : (l : List ℕ) → length l < n → NoEventBegins (k ∷ l)
  short_behind l h = none_whole (k ∷ l) kind named (omega (arith, size, h))

  pub stops_short : (l : List ℕ) → length l < n → IsEnd ends.NoEvent (k ∷ l)
  stops_short l h = stops k l (short_behind l h)

  -- in a room for the longest an event has the bytes of its kind
  pub room_for : (room event : List ℕ) → length room ≡ 20 → length event ≡ length (take (n + 1) room) → length event ≡ n + 1
  room_for room event limit same = let h = short_body kind in same ∙ length-take-le (n + 1) room (omega (arith, size, limit, h))

-- ---- an event begins some bytes exactly if the rules say
pub begins : {l : List ℕ} {x : Event} {n : ℕ} → BeginsWith l x n → Fits x × (l ≡ event_bytes x ++ drop n l)
begins {l = l} {n = n} b = (b.spelt.0, sym (take-append-drop n l) ∙ ap (λ (e : List ℕ). e ++ drop n l) b.spelt.1)

some_event : (l : List ℕ) → Bytes l → (o : Option Kind) → kind_named (get_or l 0 0) ≡ o → not_whole o (length l) ≡ false → NoEventBegins l → ⊥
unfolding not_whole
some_event l w None e h n = true≢false h
some_event l w (Some kind) e h n = let b = begins (front_is l w kind (body_of kind + 1) e refl (grind (arith, nat_tests))) in n _ _ b.0 b.1

pub stop_exactly : (l : List ℕ) → Bytes l → (NoEventBegins l → begins_none l ≡ true) × (begins_none l ≡ true → NoEventBegins l)
stop_exactly l w = (λ n. ⊎_elim (λ (h : begins_none l ≡ true). h) (λ (h : begins_none l ≡ false). absurd (some_event l w (kind_named (get_or l 0 0)) refl h n)) (tested (begins_none l)), no_event l)
