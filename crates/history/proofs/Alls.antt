-- Laws of what holds of every command of a history.
use Rattle.std.proofs.Common.{◌≡◌, true, List, [], ◌∷◌, map}
use Rattle.bits.proofs.Picks.{by_test}
use Rattle.history.specs.Seen.{Seen, accepts}
use Rattle.history.specs.Fates.{Command, later, commands, All}

-- the command that an event accepts, before anything has followed
abbrev pub fresh_command : Seen → Command
fresh_command e = record { accepted = e; after = [] }

-- what follows from what holds of every command holds of every command
pub all_imp : (P Q : Command → Type 0) → ((c : Command) → P c → Q c) → (cs : List Command) → All P cs → All Q cs
unfolding All
all_imp P Q f [] a = tt
all_imp P Q f (c ∷ cs) a = (f c a.0, all_imp P Q f cs a.1)

-- what holds of every command, two facts together
pub all_both : (P Q : Command → Type 0) (cs : List Command) → All P cs → All Q cs → All (λ c. P c × Q c) cs
unfolding All
all_both P Q [] a b = tt
all_both P Q (c ∷ cs) a b = ((a.0, b.0), all_both P Q cs a.1 b.1)

-- what holds of any command whatever holds of every command
pub all_any : (P : Command → Type 0) → ((c : Command) → P c) → (cs : List Command) → All P cs
unfolding All
all_any P f [] = tt
all_any P f (c ∷ cs) = (f c, all_any P f cs)

-- the commands one event later
pub all_later : (P Q : Command → Type 0) (e : Seen) → ((c : Command) → Q c → P (later e c)) → (cs : List Command) → All Q cs → All P (map (later e) cs)
unfolding All
all_later P Q e f [] a = tt
all_later P Q e f (c ∷ cs) a = (f c a.0, all_later P Q e f cs a.1)

-- no command has been accepted yet
pub all_start : (P : Command → Type 0) → All P (commands [])
unfolding All commands
all_start P = tt

-- one event more: the command that it accepts, and each earlier one an event later
pub all_step : (P Q : Command → Type 0) (e : Seen) (h : List Seen) → (accepts e ≡ true → P (fresh_command e)) → ((c : Command) → Q c → P (later e c))
    → All Q (commands h) → All P (commands (e ∷ h))
unfolding All commands
all_step P Q e h new old a =
    by_test (All P) (accepts e) (fresh_command e ∷ map (later e) (commands h)) (map (later e) (commands h))
    (λ x. (new x, all_later P Q e old (commands h) a))
    (λ x. all_later P Q e old (commands h) a)
