-- What is promised of a history, and the truth of the counters: of calls, refusals and bytes. The newest event stands first.
use Rattle.std.specs.Prelude.{◌≡◌, Bool, true, false, ◌||◌, List, [], ◌∷◌, ◌++◌, map, ℕ, ◌+◌, ◌≤◌, ◌<◌, ltb, length, take, drop, Ok}
use Rattle.std.specs.Option.{option_map}
use Rattle.pages.specs.Read11.{read_counter, row_value, no_number}
use Rattle.history.specs.Event.{Event}
use Rattle.history.specs.Asked.{brought}
use Rattle.history.specs.Replied.{page, sent}
use Rattle.history.specs.Seen.{Seen, seen, Transfer, no_transfer, under_way}
use Rattle.history.specs.Fates.{Command, commands, own_tag, outstanding_at, finished_at, given_up_at, dropped_at, outstanding, finished, given_up, dropped, one, how_many, All, total, total_with}
use Rattle.history.specs.Waits.{sactive, waits, given_up_there, bad_since}
use Rattle.history.specs.Carried.{transfer, span, base, size, belongs, carried, NoStray}
use Rattle.history.specs.Counted.{told_for}
use Rattle.history.specs.Placed.{owns, written}

-- exactly one of four
abbrev pub exactly_one : Bool → Bool → Bool → Bool → Type 0
exactly_one a b c d = one a + (one b + (one c + one d)) ≡ 1

-- every queued command accepted is exactly one of these: outstanding, finished, given up at an error, dropped by a reset
abbrev pub OneFate : Command → Type 0
OneFate c = exactly_one (outstanding c) (finished c) (given_up c) (dropped c)

-- once not outstanding it never changes, whatever the events x that follow [settled]
pub record Settled (c : Command) (x : List Seen) : Type 0 where
  pub outstanding : outstanding_at (own_tag c) (x ++ c.after) ≡ false
  pub finished : finished_at (own_tag c) (x ++ c.after) ≡ finished c
  pub given_up : given_up_at (own_tag c) (x ++ c.after) ≡ given_up c
  pub dropped : dropped_at (own_tag c) (x ++ c.after) ≡ dropped c

-- of every command accepted [one-fate]
abbrev pub Fates : List Seen → Type 0
Fates h = All (λ c. OneFate c × ((x : List Seen) → outstanding c ≡ false → Settled c x)) (commands h)

-- l is a beginning of the n numbers from a on
pub record Beginning (a n : ℕ) (l : List ℕ) : Type 0 where
  pub long : ℕ
  pub within : long ≤ n
  pub is : l ≡ span a long

-- a finished command's data frames carried each byte of its range once, in rising order, none outside; those of any command a beginning of its range [carried-once]
abbrev pub Ranges : List Seen → Type 0
Ranges h = All (λ c. (finished c ≡ true → carried c ≡ span (base c) (size c)) × Beginning (base c) (size c) (carried c)) (commands h)

-- data at a place: read, the payload is what the medium lent to that call held there; written, the medium that the call left holds the payload there and is otherwise as it was,
-- and none of it stands behind the medium's end [bytes-of-medium] [data-place]
pub record Moved (e : Event) (to_host : Bool) (at : ℕ) : Type 0 where
  pub read : to_host ≡ true → sent e ≡ take (length (sent e)) (drop at e.medium)
  pub written : to_host ≡ false → e.left ≡ written at (brought e) e.medium
  pub within : to_host ≡ false → 0 < length (brought e) → at + length (brought e) ≤ length e.medium

-- the data of an event that belongs to a command
abbrev pub MovedOf : Event → Command → Transfer → Type 0
MovedOf e c no_transfer = Unit
MovedOf e c (under_way d t a z) = belongs c.accepted.asks.write (own_tag c) d t ≡ true → Moved e d (base c + a)

-- what is under way is the data of exactly one command, which is outstanding [data-owned]
abbrev pub Owned : Transfer → List Command → Type 0
Owned no_transfer cs = Unit
Owned (under_way d t a z) cs = how_many (owns d t) cs ≡ 1

-- a Setup under way ends where the command's range ends [setup-reaches]
abbrev pub Reaches : Command → Transfer → Type 0
Reaches c no_transfer = Unit
Reaches c (under_way d t a z) = belongs c.accepted.asks.write (own_tag c) d t ≡ true → z ≡ size c

-- one event after a history: its data are of what is under way, which is one command's and reaches to the end of its range, the same for each command as for the whole history;
-- each command's data stand as they should, and where no data came the medium is as it was [bytes-of-medium]
pub record Moves (e : Event) (h : List Seen) : Type 0 where
  pub due : NoStray (seen e) (transfer h)
  pub owned : Owned (transfer h) (commands h)
  pub since : All (λ c. transfer c.after ≡ transfer h) (commands h)
  pub reaches : All (λ c. outstanding c ≡ true → Reaches c (transfer c.after)) (commands h)
  pub each : All (λ c. outstanding c ≡ true → MovedOf e c (transfer c.after)) (commands h)
  pub untouched : brought e ≡ [] → e.left ≡ e.medium

-- of every event [bytes-of-medium]
unfoldable pub Contents : List Event → Type 0
Contents [] = Unit
Contents (e ∷ h) = Moves e (map seen h) × Contents h

-- while no error waits to be read, SActive names exactly the outstanding tags [sactive-calm]
abbrev pub Sactive : List Seen → Type 0
Sactive h = waits h ≡ false → (t : ℕ) → t < 32 → sactive t h ≡ ltb 0 (total_with t h)

-- while one waits nothing is outstanding, and SActive names the tags given up at that error and those of queued commands answered with an error since [sactive-waiting]
abbrev pub Waiting : List Seen → Type 0
Waiting h = waits h ≡ true → (total h ≡ 0) × ((t : ℕ) → t < 32 → sactive t h ≡ (given_up_there t h || bad_since t h))

-- at most the queue depth is ever outstanding [within-depth]
abbrev pub Depth : ℕ → List Seen → Type 0
Depth depth h = total h ≤ depth

-- no two commands of one tag are outstanding [one-per-tag]
abbrev pub OnePerTag : List Seen → Type 0
OnePerTag h = (t : ℕ) → t < 32 → total_with t h ≤ 1

-- every page 11h ever delivered, read by the reader's definition, gives for each kept row its events since its zeroing, held at the top, and absent for every other number [counters-told]
unfoldable pub Counters : ℕ → List Event → Type 0
Counters mask [] = Unit
Counters mask (e ∷ h) = ((seen e).delivers 0x11 ≡ true → (number : ℕ) → no_number number ≡ false → read_counter (page e) number ≡ Ok (option_map row_value (told_for mask h number))) × Counters mask h

-- a faithful history: all of these
pub record Faithful (deep mask : ℕ) (h : List Event) : Type 0 where
  pub fates : Fates (map seen h)
  pub ranges : Ranges (map seen h)
  pub contents : Contents h
  pub sactive : Sactive (map seen h)
  pub waiting : Waiting (map seen h)
  pub depth : Depth deep (map seen h)
  pub single : OnePerTag (map seen h)
  pub counters : Counters mask h
