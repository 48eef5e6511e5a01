-- Where a run stands behind the events that it has played.
use Rattle.std.proofs.Common.{◌≡◌, ℕ, ◌+◌, ◌-◌, ◌^◌, Bool, true, false, true≢false, List, [], ◌∷◌, ◌++◌, flat_map, length, length-append, append-nil, Option, IfSome, Result, refl, sym, ap, subst, ◌∙◌, arith, Ok, Err}
use Rattle.std.proofs.KnownBytes.{Consumes-kept, Consumes-nil, Consumes-trans}
use Rattle.std.specs.Io.KnownBytes.{Consumes, Keeps}
use Rattle.events.specs.declared.errors.RunError.{RunError}
use Rattle.events.specs.declared.kinds.InputEnd.{InputEnd}
use Rattle.events.specs.Ends.{Finished, IsLost, reads_failed}
use Rattle.streams.specs.Gathered.{Gathering, Gathered, Pushes}
use Rattle.streams.proofs.Gathering.{pushes_none, pushes_then}
use Rattle.events.specs.declared.errors.RunError.TheVariants.{TooMany}
use Rattle.events.specs.Reading.{IsEnd, BreaksIn, ReadNext}
use Rattle.events.specs.Settings.{settings_bytes, SettingsFit}
use Rattle.device_state.specs.declared.shapes.Settings.{Settings}
use Rattle.events.specs.declared.asked.Event.{Event}
use Rattle.events.specs.Grammar.{event_bytes, NoEventBegins}
use Rattle.events.specs.Running.{Kept, step_of, after_step, step_told, told, after, lines_from, kept_after, AllFit, begun, bytes_read, Plays, ReadsOn, run_lines, refused, started, start_line, NoneFollows, end_behind}
use Rattle.events.specs.Runs.{CameTo, Ran}
use Rattle.events.proofs.Nexts.{known}
use Rattle.events.proofs.Runs.{joined_more, kept_more, events_more, lines_more, lost_before, finished}

-- the events so far were read, and left k; their lines were gathered behind those before; n is the next number
pub record Played (traced : Bool) (first : Kept) (old : Gathering) (known now : Option (List ℕ)) (new : Gathering) (k : Kept) (n : ℕ) : Type 0 where
  pub es : List Event
  pub number : 1 + length es ≡ n
  pub events : AllFit es
  pub state : k ≡ kept_after first es
  pub read : Consumes known now (flat_map event_bytes es)
  pub pushed : Pushes old new (lines_from traced 1 first es)

pub none_yet : (traced : Bool) (first : Kept) (old : Gathering) (known : Option (List ℕ)) → Played traced first old known known old first 1
unfolding lines_from kept_after AllFit
none_yet traced first old known = record { es = []; number = refl; events = tt; state = refl; read = Consumes-nil known; pushed = pushes_none old }

module _ {traced : Bool} {first : Kept} {old : Gathering} {known now : Option (List ℕ)} {new : Gathering} {k : Kept} {n : ℕ} (p : Played traced first old known now new k n) where
  -- one event more
  pub one_more : {next : Result Event InputEnd} {event : Event} {now' : Option (List ℕ)} {k' : Kept} {new' : Gathering} → next ≡ Ok event → ReadNext now next now' → k' ≡ after_step k (step_of k event) → Pushes new new' (step_told traced n (step_of k event))
      → Played traced first old known now' new' k' (n + 1)
  unfolding after told
  one_more {event = event} {now' = now'} {new' = new'} w came q t =
      let read = rw w at came in
      let line : Pushes new new' (told traced (1 + length p.es) (kept_after first p.es) event) = rw (p.state, sym p.number) at t in
      record {
        es = p.es ++ event ∷ [];
        number = omega (arith, p.number, length-append p.es (event ∷ []));
        events = events_more p.es event p.events read.0;
        state = rw p.state at q ∙ sym (kept_more first p.es event);
        read = rw (joined_more p.es event) (Consumes-trans known now now' (flat_map event_bytes p.es) (event_bytes event) p.read read.1);
        pushed = subst (Pushes old new') (sym (lines_more traced 1 first p.es event)) (pushes_then p.pushed line);
      }

  -- nothing was read
  pub kept_there : {now' : Option (List ℕ)} → Keeps now now' → Played traced first old known now' new k n
  kept_there {now' = now'} q =
      record { es = p.es; number = p.number; events = p.events; state = p.state; read = Consumes-kept known now now' (flat_map event_bytes p.es) p.read q; pushed = p.pushed }

  -- of the lines that are gathered some were written
  pub passed_on : {new' : Gathering} → Pushes new new' [] → Played traced first old known now new' k n
  passed_on {new' = new'} q =
      record { es = p.es; number = p.number; events = p.events; state = p.state; read = p.read; pushed = subst (Pushes old new') (append-nil _) (pushes_then p.pushed q) }

  -- behind settings that were taken
  module _ (s : Settings) (base before : Option (List ℕ)) (taken : refused s ≡ false) (from : first ≡ started s) (line : Gathered base (start_line traced s) old) (i : SettingsFit s) (c : Consumes before known (settings_bytes s)) where
    plays : Plays (begun s p.es)
    unfolding Plays
    plays = (i, p.events, λ t. absurd (true≢false (sym t ∙ taken)))

    read : Consumes before now (bytes_read (begun s p.es))
    read = Consumes-trans before known now (settings_bytes s) (flat_map event_bytes p.es) c p.read

    text : run_lines traced (begun s p.es) ≡ start_line traced s ++ lines_from traced 1 first p.es
    unfolding run_lines
    text = ap (λ (k : Kept). start_line traced s ++ lines_from traced 1 k p.es) (sym from)

    all : Gathered base (run_lines traced (begun s p.es)) new
    all = subst (λ (l : List ℕ). Gathered base l new) (sym text) (p.pushed.goes base (start_line traced s) line)

    -- a write failed
    pub lost : (input : Bool) (r : Result InputEnd RunError) → input ≡ false → new.failed ≡ true → IsLost r → Ran traced before now input new.failed base new.written r
    lost input r off on l = lost_before traced before now base new.written new.held (begun s p.es) plays read input new.failed r off on l all

    -- the run ends
    pub ended : (left out : Option (List ℕ)) (input output : Bool) (end : Result InputEnd RunError) (r : Result InputEnd RunError) → input ≡ reads_failed end → CameTo end (begun s p.es) now left → Finished end new out output r → Ran traced before left input output base out r
    ended left out input output end r e m f = finished traced before now left base out (begun s p.es) plays read input output end r e m (f.goes base (run_lines traced (begun s p.es)) all)

-- and the next event was read, of which now' is left
pub record Reads (traced : Bool) (first : Kept) (old : Gathering) (known now' : Option (List ℕ)) (new : Gathering) (k : Kept) (n : ℕ) (event : Event) : Type 0 where
  pub now : Option (List ℕ)
  pub played : Played traced first old known now new k n
  pub next : ReadNext now (Ok event) now'

-- it is played
pub then_played : {traced : Bool} {first : Kept} {old : Gathering} {known now' : Option (List ℕ)} {new new' : Gathering} {k k' : Kept} {n : ℕ} {event : Event} → Reads traced first old known now' new k n event → k' ≡ after_step k (step_of k event) → Pushes new new' (step_told traced n (step_of k event))
    → Played traced first old known now' new' k' (n + 1)
then_played r q t = one_more r.played refl r.next q t

-- what a run comes to behind settings that were taken, and events: the end of the input, a read that failed, the last number
module _ (s : Settings) (es : List Event) (taken : refused s ≡ false) where
  pub at_end : (now : Option (List ℕ)) (end : InputEnd) → IfSome now (IsEnd end) → IfSome now (λ rest. NoneFollows (begun s es) rest × (end ≡ end_behind (begun s es) rest))
  unfolding NoneFollows end_behind
  at_end now end m = known (IsEnd end) _ now (λ rest e. (λ t. e.0, rw taken e.1)) m

  pub at_failure : (now left : Option (List ℕ)) → BreaksIn NoEventBegins now left → ReadsOn (begun s es) × BreaksIn (NoneFollows (begun s es)) now left
  unfolding ReadsOn NoneFollows
  at_failure now left m = (taken, (m.0, m.1, λ t. m.2))

  pub at_last : (now : Option (List ℕ)) (n : ℕ) → 1 + length es ≡ n → n ≡ 2 ^ 64 - 1 → CameTo (Err TooMany) (begun s es) now now
  at_last now n e q = (omega (arith, e, q), refl)
