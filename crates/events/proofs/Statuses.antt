-- What a program's exit status says of its run.
use Rattle.std.proofs.Common.{◌≡◌, ◌-◌, ◌^◌, ◌++◌, ℕ, Bool, true, false, List, [], ◌∷◌, Option, Some, None, Result, Ok, Err, sym, ap, ap₂, ◌∙◌, refl, subst, true≢false, append-nil, arith}
use Rattle.std.specs.Io.KnownBytes.{Consumes}
use Rattle.bits.specs.Pick.{pick}
use Rattle.device_state.specs.declared.shapes.Settings.{Settings}
use Rattle.streams.specs.Lost.{complaint}
use Rattle.events.specs.Reading.{end_at}
use Rattle.events.specs.Runs.{CameTo, Ran, said_of, run_status}
use Rattle.events.specs.Ends.{IsLost, reads_failed}
use Rattle.events.specs.Running.{Read, nothing, begun, bytes_read, count_read, refused, Plays, NoneFollows, end_behind}
use Rattle.events.specs.declared.asked.Event.{Event}
use Rattle.events.specs.declared.kinds.InputEnd.{InputEnd}
use Rattle.events.specs.declared.kinds.InputEnd.TheVariants as ends
use Rattle.events.specs.declared.errors.RunError.{RunError}
use Rattle.events.specs.declared.errors.RunError.TheVariants.{Input, Output, Memory, TooMany}
use Rattle.events.proofs.Cuts.{IsCut, cut_once}

-- ---- where lines are missing, and there alone, a run complains and its status is 4

pub missing_said : (r : Result InputEnd RunError) → run_status r ≡ 4 → said_of r ≡ complaint
missing_said (Ok ends.Clean) e = absurd (omega (arith, e))
missing_said (Ok ends.NoEvent) e = absurd (omega (arith, e))
missing_said (Ok ends.Refused) e = absurd (omega (arith, e))
missing_said (Err (Input x)) e = absurd (omega (arith, e))
missing_said (Err (Output x)) e = refl
missing_said (Err Memory) e = refl
missing_said (Err TooMany) e = absurd (omega (arith, e))

pub whole_silent : (r : Result InputEnd RunError) → (run_status r ≡ 4 → ⊥) → said_of r ≡ []
whole_silent (Ok end) h = refl
whole_silent (Err (Input x)) h = refl
whole_silent (Err (Output x)) h = absurd (h refl)
whole_silent (Err Memory) h = absurd (h refl)
whole_silent (Err TooMany) h = refl

lost_four : (r : Result InputEnd RunError) → IsLost r → run_status r ≡ 4
lost_four (Ok end) l = absurd l
lost_four (Err (Input e)) l = absurd l
lost_four (Err (Output e)) l = refl
lost_four (Err Memory) l = absurd l
lost_four (Err TooMany) l = absurd l

not_four : (r : Result InputEnd RunError) (all : Read) (now left : Option (List ℕ)) → CameTo r all now left → run_status r ≡ 4 → ⊥
not_four (Ok ends.Clean) all now left m h = absurd (omega (arith, h))
not_four (Ok ends.NoEvent) all now left m h = absurd (omega (arith, h))
not_four (Ok ends.Refused) all now left m h = absurd (omega (arith, h))
not_four (Err (Input e)) all now left m h = absurd (omega (arith, h))
not_four (Err (Output e)) all now left m h = m
not_four (Err Memory) all now left m h = m
not_four (Err TooMany) all now left m h = absurd (omega (arith, h))

-- the status is 4 where a write failed
pub lost_status : (traced : Bool) (known left : Option (List ℕ)) (input : Bool) (old new : Option (List ℕ)) (r : Result InputEnd RunError) → Ran traced known left input true old new r → run_status r ≡ 4
lost_status traced known left input old new r ran = lost_four r ran.0

-- and there alone
pub whole_status : (traced : Bool) (known left : Option (List ℕ)) (input : Bool) (old new : Option (List ℕ)) (r : Result InputEnd RunError) → Ran traced known left input false old new r → run_status r ≡ 4 → ⊥
whole_status traced known left input old new r ran h = not_four r ran.1.all ran.1.now left ran.1.came h

-- ---- 3 where a read failed or the numbers are used up

read_three : (r : Result InputEnd RunError) → true ≡ reads_failed r → run_status r ≡ 3
read_three (Ok end) h = absurd (true≢false h)
read_three (Err (Input e)) h = refl
read_three (Err (Output e)) h = absurd (true≢false h)
read_three (Err Memory) h = absurd (true≢false h)
read_three (Err TooMany) h = absurd (true≢false h)

-- it is 3 where a read failed, and no write
pub broken_status : (traced : Bool) (known left old new : Option (List ℕ)) (r : Result InputEnd RunError) → Ran traced known left true false old new r → run_status r ≡ 3
broken_status traced known left old new r ran = read_three r ran.0

used_up : (r : Result InputEnd RunError) (all : Read) (now left : Option (List ℕ)) → false ≡ reads_failed r → CameTo r all now left → run_status r ≡ 3 → count_read all ≡ 2 ^ 64 - 1
used_up (Ok ends.Clean) all now left f m h = absurd (omega (arith, h))
used_up (Ok ends.NoEvent) all now left f m h = absurd (omega (arith, h))
used_up (Ok ends.Refused) all now left f m h = absurd (omega (arith, h))
used_up (Err (Input e)) all now left f m h = absurd (true≢false (sym f))
used_up (Err (Output e)) all now left f m h = absurd m
used_up (Err Memory) all now left f m h = absurd m
used_up (Err TooMany) all now left f m h = m.0

-- where nothing failed it is 3 behind the last number alone
pub last_status : (traced : Bool) (known left old new : Option (List ℕ)) (r : Result InputEnd RunError) (ran : Ran traced known left false false old new r) → run_status r ≡ 3 → count_read ran.1.all ≡ 2 ^ 64 - 1
last_status traced known left old new r ran h = used_up r ran.1.all ran.1.now left ran.0 ran.1.came h

-- ---- else the input alone says it: 1 behind `stop` and refused settings, 0 where all was played

known_rest : (input front : List ℕ) (now : Option (List ℕ)) → Consumes (Some input) now front → (rest : List ℕ) × (now ≡ Some rest) × (input ≡ front ++ rest)
known_rest input front None c = absurd c
known_rest input front (Some rest) c = (rest, refl, c)

ended_at : (r : Result InputEnd RunError) (all : Read) (rest : List ℕ) (left : Option (List ℕ)) → false ≡ reads_failed r → CameTo r all (Some rest) left → (run_status r ≡ 3 → ⊥) → NoneFollows all rest × (r ≡ Ok (end_behind all rest))
ended_at (Ok end) all rest left f m h = (m.0, ap Ok m.1)
ended_at (Err (Input e)) all rest left f m h = absurd (true≢false (sym f))
ended_at (Err (Output e)) all rest left f m h = absurd m
ended_at (Err Memory) all rest left f m h = absurd m
ended_at (Err TooMany) all rest left f m h = absurd (h refl)

-- of an input that is these events and this rest the run ends so, whatever was written before
pub end_is : (traced : Bool) (input : List ℕ) (left old new : Option (List ℕ)) (r : Result InputEnd RunError) (all : Read) (rest : List ℕ) → Ran traced (Some input) left false false old new r → (run_status r ≡ 3 → ⊥) → IsCut input all rest → r ≡ Ok (end_behind all rest)
end_is traced input left old new r all rest ran h cut =
    let a = ran.1 in
    let x = known_rest input (bytes_read a.all) a.now a.read in
    let m = ended_at r a.all x.0 left ran.0 (subst (λ (o : Option (List ℕ)). CameTo r a.all o left) x.1 a.came) h in
    let same = cut_once input a.all all x.0 rest (record { whole = x.2; events = a.events; ends = m.0 }) cut in
    m.1 ∙ ap Ok (ap₂ end_behind same.0 same.1)

none_left : (rest : List ℕ) → run_status (Ok (end_at rest)) ≡ 0 → rest ≡ []
unfolding end_at
none_left [] h = refl
none_left (b ∷ rest) h = absurd (omega (arith, h))

played_all : (all : Read) (rest : List ℕ) → run_status (Ok (end_behind all rest)) ≡ 0 → (s : Settings) × (es : List Event) × (all ≡ begun s es) × (refused s ≡ false) × (rest ≡ [])
unfolding end_behind
played_all nothing rest h = absurd (omega (arith, h))
played_all (begun s es) rest h = by_refused (refused s) refl h
  where
    by_refused : (b : Bool) → refused s ≡ b → run_status (Ok (pick b ends.Refused (end_at rest))) ≡ 0 → (s' : Settings) × (es' : List Event) × (begun s es ≡ begun s' es') × (refused s' ≡ false) × (rest ≡ [])
    by_refused true e h = absurd (omega (arith, h))
    by_refused false e h = (s, es, refl, e, none_left rest h)

-- the status is 0 only of an input that is settings which are taken, and events, all of which are played
pub zero_status : (traced : Bool) (input : List ℕ) (left old new : Option (List ℕ)) (i o : Bool) (r : Result InputEnd RunError) → Ran traced (Some input) left i o old new r → run_status r ≡ 0
    → (s : Settings) × (es : List Event) × Plays (begun s es) × (refused s ≡ false) × (input ≡ bytes_read (begun s es))
zero_status traced input left old new i true r ran h = absurd (omega (arith, h, lost_four r ran.0))
zero_status traced input left old new true false r ran h = absurd (omega (arith, h, read_three r ran.0))
zero_status traced input left old new false false r ran h =
    let a = ran.1 in
    let x = known_rest input (bytes_read a.all) a.now a.read in
    let m = ended_at r a.all x.0 left ran.0 (subst (λ (o : Option (List ℕ)). CameTo r a.all o left) x.1 a.came) (λ t. absurd (omega (arith, t, h))) in
    let p = played_all a.all x.0 (subst (λ (q : Result InputEnd RunError). run_status q ≡ 0) m.1 h) in
    (p.0, p.1, subst Plays p.2 a.events, p.3, x.2 ∙ ap₂ (λ (l m : List ℕ). l ++ m) (ap bytes_read p.2) p.4 ∙ append-nil _)
