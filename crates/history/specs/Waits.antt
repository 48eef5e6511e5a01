-- The host's SActive register, and whether an error waits to be read: from frames and resets alone.
use Rattle.std.specs.Prelude.{Bool, false, not, ◌&&◌, ◌||◌, List, [], ◌∷◌, ℕ, ltb}
use Rattle.bits.specs.Pick.{pick}
use Rattle.history.specs.Seen.{Seen, asks_for}
use Rattle.history.specs.Replied.{some}
use Rattle.history.specs.Fates.{total, total_with}

-- SActive: a taken queued command sets its tag's bit; each A1h clears the bits in its field; a taken SRST and a taken COMRESET clear all [sactive]
unfoldable pub sactive : ℕ → List Seen → Bool
sactive t [] = false
sactive t (e ∷ h) = (asks_for t e || sactive t h) && (not (e.clears t) && not e.asks.resets)

-- an error begins to wait at a taken 60h or 61h answered with ERR, at any other command answered with ERR while something is outstanding, or at an A1h with ERR
abbrev pub raises : Seen → List Seen → Bool
raises e h = (e.bad && (e.asks.queued || ltb 0 (total h))) || e.fails

-- if none waits; it waits to be read, until page 10h is delivered to a host that asked for it, or to a taken SRST or COMRESET [waiting]
unfoldable pub waits : List Seen → Bool
waits [] = false
waits (e ∷ h) = pick (waits h) (not (e.delivers 0x10) && not e.asks.resets) (raises e h)

-- of a history in which an error waits: the events before the one that raised it [sactive-waiting]
unfoldable pub before : List Seen → List Seen
before [] = []
before (e ∷ h) = pick (waits h) (before h) h

-- and the events since, that one included [sactive-waiting]
unfoldable pub since : List Seen → List Seen
since [] = []
since (e ∷ h) = e ∷ pick (waits h) (since h) []

-- a tag given up at the error that waits: one of its commands was outstanding before that error [sactive-waiting]
abbrev pub given_up_there : ℕ → List Seen → Bool
given_up_there t h = ltb 0 (total_with t (before h))

-- a queued command of tag t answered with an error
abbrev pub asks_bad : ℕ → Seen → Bool
asks_bad t e = asks_for t e && e.bad

-- the tags of queued commands answered with an error since, one that raised it included [sactive-waiting]
abbrev pub bad_since : ℕ → List Seen → Bool
bad_since t h = some (asks_bad t) (since h)
