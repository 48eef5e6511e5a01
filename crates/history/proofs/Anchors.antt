-- A history splits at the error that waits, and what was outstanding before that error was given up at it.
use Rattle.std.proofs.Common.{◌≡◌, ◌∙◌, Bool, true, false, ◌&&◌, ◌||◌, List, [], ◌∷◌, ◌++◌, map, ⊎_elim, ℕ, ◌≤◌, ◌<◌, arith, eqb, ltb-true}
use mathlib.Core.Bool.{or-false, false≢true}
use Rattle.bits.proofs.Picks.{by_test, tested}
use Rattle.history.specs.Seen.{Seen, errs, accepts}
use Rattle.history.specs.Fates.{Command, later, commands, own_tag, outstanding_at, given_up_at, outstanding, given_up, one, how_many, All, total_with}
use Rattle.history.specs.Waits.{waits, before, since, given_up_there}
use Rattle.history.proofs.Commands.{many_pick}

-- ---- the parts of a history in which an error waits

-- the events since the error that waits, and those before it, are the history
pub since_before : (h : List Seen) → waits h ≡ true → since h ++ before h ≡ h
unfolding waits since before
since_before [] w = absurd (false≢true w)
since_before (e ∷ h) w =
    let ih = since_before h in
    grind arith

-- ---- what became of what was outstanding before

-- the first event of an error that waits answers an error
waits_new : (e : Seen) (h : List Seen) → waits (e ∷ h) ≡ true → waits h ≡ false → errs e ≡ true
unfolding waits
waits_new e h w x = grind arith

-- of a command of tag t: n are the events after it up to an error, s those since
pub record Up (t : ℕ) (n s : List Seen) : Type 0 where
  -- it has been given up if it was given up by then, or was outstanding
  pub up : given_up_at t (s ++ n) ≡ given_up_at t n || outstanding_at t n
  -- and is not outstanding
  pub out : outstanding_at t (s ++ n) ≡ false

-- and an event later
up_more : (t : ℕ) (n s : List Seen) (e : Seen) → Up t n s → Up t n (e ∷ s)
unfolding outstanding_at given_up_at
up_more t n s e u = record {
  up = rw u.out (or-false (given_up_at t (s ++ n)) ∙ u.up);
  out = rw u.out;
}

-- at the error itself
up_new : (t : ℕ) (n : List Seen) (e : Seen) → errs e ≡ true → Up t n (e ∷ [])
unfolding outstanding_at given_up_at
up_new t n e x = record { up = grind arith; out = grind arith }

-- a command outstanding before the error that waits is given up in the history, one that was not is given up only if it was before; none is outstanding
pub given_up_there_lem : (h : List Seen) → waits h ≡ true → (t : ℕ) (n : List Seen) → Up t n (since h)
unfolding waits since
given_up_there_lem [] w t n = absurd (false≢true w)
given_up_there_lem (e ∷ h) w t n =
    ⊎_elim
    (λ (x : waits h ≡ true). rw x (up_more t n (since h) e (given_up_there_lem h x t n)))
    (λ (x : waits h ≡ false). rw x (up_new t n e (waits_new e h w x)))
    (tested (waits h))

-- ---- they are commands of the history

-- a command, the events x later
abbrev pub later_by : List Seen → Command → Command
later_by x c = record { accepted = c.accepted; after = x ++ c.after }

-- what holds of the images of all holds of each image
all_unmap : (P : Command → Type 0) (f : Command → Command) (cs : List Command) → All P (map f cs) → All (λ c. P (f c)) cs
unfolding All
all_unmap P f [] a = tt
all_unmap P f (c ∷ cs) a = (a.0, all_unmap P f cs a.1)

-- what holds of all commands of a history holds of those before its last event, that event later
pub all_back : (P : Command → Type 0) (e : Seen) (h : List Seen) → All P (commands (e ∷ h)) → All (λ c. P (later e c)) (commands h)
unfolding commands All
all_back P e h a =
    let cs = map (later e) (commands h) in
    all_unmap P (later e) (commands h) (by_test (λ (l : List Command). All P l → All P cs) (accepts e) (record { accepted = e; after = [] } ∷ cs) cs (λ _ a. a.1) (λ _ a. a) a)

-- of several events
pub all_since : (P : Command → Type 0) (x h : List Seen) → All P (commands (x ++ h)) → All (λ c. P (later_by x c)) (commands h)
all_since P [] h a = a
all_since P (e ∷ x) h a = all_since (λ c. P (later e c)) x h (all_back P e (x ++ h) a)

-- ---- and so each tag named at that error is one of a command given up

-- given up, with tag t
abbrev pub is_up : ℕ → Command → Bool
is_up t c = eqb (own_tag c) t && given_up c

-- as many are so, or more, where each that was so is so
many_le : (p q : Command → Bool) (f : Command → Command) → ((c : Command) → p c ≡ true → q (f c) ≡ true) → (cs : List Command)
    → how_many p cs ≤ how_many q (map f cs)
unfolding how_many
many_le p q f g [] = omega arith
many_le p q f g (c ∷ cs) = let ih = many_le p q f g cs in let o : one (p c) ≤ one (q (f c)) = grind (arith, g c) in omega arith

-- an event takes no command away
many_event : (q : Command → Bool) (e : Seen) (h : List Seen) → how_many q (map (later e) (commands h)) ≤ how_many q (commands (e ∷ h))
unfolding commands
many_event q e h = omega (arith, many_pick q (accepts e) (record { accepted = e; after = [] }) (map (later e) (commands h)))

-- what is given up stays so
up_on : (t : ℕ) (e : Seen) (h : List Seen) → how_many (is_up t) (commands h) ≤ how_many (is_up t) (commands (e ∷ h))
unfolding given_up_at
up_on t e h =
    omega (
      arith,
      many_event (is_up t) e h,
      many_le (is_up t) (is_up t) (later e) (λ c x. grind arith) (commands h),
    )

-- what is outstanding is given up at an error
up_at : (t : ℕ) (e : Seen) (h : List Seen) → errs e ≡ true → total_with t h ≤ how_many (is_up t) (commands (e ∷ h))
unfolding given_up_at total_with
up_at t e h r =
    omega (
      arith,
      many_event (is_up t) e h,
      many_le (λ c. eqb (own_tag c) t && outstanding c) (is_up t) (later e) (λ c x. grind arith) (commands h),
    )

-- of the commands of tag t that were outstanding before the error that waits, all are commands given up in the history
pub given_up_number : (h : List Seen) → waits h ≡ true → (t : ℕ) → total_with t (before h) ≤ how_many (is_up t) (commands h)
unfolding waits before
given_up_number [] w t = absurd (false≢true w)
given_up_number (e ∷ h) w t =
    ⊎_elim
    (λ (x : waits h ≡ true). rw x (omega (arith, given_up_number h x t, up_on t e h)))
    (λ (x : waits h ≡ false). rw x (up_at t e h (waits_new e h w x)))
    (tested (waits h))

-- a tag named as given up at the error that waits is the tag of a command given up
pub named_up : (h : List Seen) → waits h ≡ true → (t : ℕ) → given_up_there t h ≡ true → 0 < how_many (is_up t) (commands h)
named_up h w t x = omega (arith, given_up_number h w t, ltb-true 0 (total_with t (before h)) x)
