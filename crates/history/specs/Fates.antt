-- Commands, each known by its accepting call, and what became of them. Histories stand with the newest event first.
use Rattle.std.specs.Prelude.{Bool, true, false, not, ◌&&◌, ◌||◌, List, [], ◌∷◌, map, ℕ, ◌+◌, eqb}
use Rattle.bits.specs.Pick.{pick}
use Rattle.history.specs.Seen.{Seen, errs, accepts}

-- a command: the event that accepted it, and the events after that one
pub record Command : Type 0 where
  pub accepted : Seen
  pub after : List Seen

-- one event later
abbrev pub later : Seen → Command → Command
later e c = record { accepted = c.accepted; after = e ∷ c.after }

-- all queued commands accepted in a history [one-fate]
unfoldable pub commands : List Seen → List Command
commands [] = []
commands (e ∷ h) = pick (accepts e) (record { accepted = e; after = [] } ∷ map (later e) (commands h)) (map (later e) (commands h))

-- its tag
abbrev pub own_tag : Command → ℕ
own_tag c = c.accepted.asks.tag

-- an event ends a command of tag t: an A1h names it finished, an error is answered, or a reset is taken
abbrev pub ends : ℕ → Seen → Bool
ends t e = e.finishes t || (errs e || e.asks.resets)

-- outstanding: nothing since has ended it [one-fate]
unfoldable pub outstanding_at : ℕ → List Seen → Bool
outstanding_at t [] = true
outstanding_at t (e ∷ n) = outstanding_at t n && not (ends t e)

-- finished: while it was outstanding an A1h without ERR, not the sweep, named its tag [one-fate] [sweep-known]
unfoldable pub finished_at : ℕ → List Seen → Bool
finished_at t [] = false
finished_at t (e ∷ n) = finished_at t n || (outstanding_at t n && e.finishes t)

-- given up: while it was outstanding an error was answered [one-fate]
unfoldable pub given_up_at : ℕ → List Seen → Bool
given_up_at t [] = false
given_up_at t (e ∷ n) = given_up_at t n || (outstanding_at t n && errs e)

-- dropped: while it was outstanding SRST or COMRESET was taken [one-fate]
unfoldable pub dropped_at : ℕ → List Seen → Bool
dropped_at t [] = false
dropped_at t (e ∷ n) = dropped_at t n || (outstanding_at t n && e.asks.resets)

-- a command is outstanding
abbrev pub outstanding : Command → Bool
outstanding c = outstanding_at (own_tag c) c.after

-- finished
abbrev pub finished : Command → Bool
finished c = finished_at (own_tag c) c.after

-- given up at an error
abbrev pub given_up : Command → Bool
given_up c = given_up_at (own_tag c) c.after

-- dropped by a reset
abbrev pub dropped : Command → Bool
dropped c = dropped_at (own_tag c) c.after

-- 1 for a test that holds
abbrev pub one : Bool → ℕ
one true = 1
one false = 0

-- how many commands of a list are so
unfoldable pub how_many : (Command → Bool) → List Command → ℕ
how_many p [] = 0
how_many p (c ∷ cs) = one (p c) + how_many p cs

-- every command of a list is so
unfoldable pub All : (Command → Type 0) → List Command → Type 0
All P [] = Unit
All P (c ∷ cs) = P c × All P cs

-- how many commands are outstanding [within-depth]
unfoldable pub total : List Seen → ℕ
total h = how_many outstanding (commands h)

-- and with tag t
unfoldable pub total_with : ℕ → List Seen → ℕ
total_with t h = how_many (λ c. eqb (own_tag c) t && outstanding c) (commands h)
