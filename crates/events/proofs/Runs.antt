-- A run grows by one event.
use Rattle.std.proofs.Common.{◌≡◌, ℕ, suc, ◌+◌, Bool, List, [], ◌∷◌, ◌++◌, length, flat_map, Option, Some, None, IfSome, sym, refl, ap, ◌∙◌, append-nil, append_assoc, arith}
use Rattle.events.specs.Grammar.{event_bytes, Fits}
use Rattle.events.specs.declared.asked.Event.{Event}
use Rattle.events.specs.Running.{Kept, told, after, lines_from, kept_after, AllFit, Read, bytes_read, Plays, run_lines}
use Rattle.std.specs.Io.KnownBytes.{Appends, Consumes}
use Rattle.events.specs.declared.kinds.InputEnd.{InputEnd}
use mathlib.Core.Bool.{false≢true}
use Rattle.std.proofs.Common.{true, false, Result, subst, inl, inr}
use Rattle.events.specs.declared.errors.RunError.{RunError}
use Rattle.streams.specs.Fronts.{AppendsFront}
use Rattle.events.specs.Ends.{last_text, reads_failed, IsLost, FinishedBy, Finished}
use Rattle.streams.specs.Gathered.{Gathering, gathering, GatheredBy, Pushes}
use Rattle.events.specs.Runs.{CameTo, EndsWith, Ran}

pub joined_more : (es : List Event) (e : Event) → flat_map event_bytes (es ++ e ∷ []) ≡ flat_map event_bytes es ++ event_bytes e
joined_more [] e = append-nil (event_bytes e)
joined_more (d ∷ es) e = ap (λ (l : List ℕ). event_bytes d ++ l) (joined_more es e) ∙ sym (append_assoc (event_bytes d) (flat_map event_bytes es) (event_bytes e))

pub lines_more : (traced : Bool) (n : ℕ) (k : Kept) (es : List Event) (e : Event) → lines_from traced n k (es ++ e ∷ []) ≡ lines_from traced n k es ++ told traced (n + length es) (kept_after k es) e
unfolding lines_from kept_after
lines_more traced n k [] e = let z : n + 0 ≡ n = omega arith in rw z (append-nil (told traced n k e))
lines_more traced n k (x ∷ es) e =
    let z : n + 1 + length es ≡ n + suc (length es) = omega arith in
    ap (λ (l : List ℕ). told traced n k x ++ l) (lines_more traced (n + 1) (after k x) es e ∙ rw z refl) ∙ sym (append_assoc (told traced n k x) _ _)

pub kept_more : (k : Kept) (es : List Event) (e : Event) → kept_after k (es ++ e ∷ []) ≡ after (kept_after k es) e
unfolding kept_after
kept_more k [] e = refl
kept_more k (x ∷ es) e = kept_more (after k x) es e

pub events_more : (es : List Event) (e : Event) → AllFit es → Fits e → AllFit (es ++ e ∷ [])
unfolding AllFit
events_more [] e a i = (i, tt)
events_more (x ∷ es) e a i = (a.0, events_more es e a.1 i)

-- what was read of known bytes is what they begin with
pub begins : (known now : Option (List ℕ)) (front : List ℕ) → Consumes known now front → IfSome known (λ input. (rest : List ℕ) × (input ≡ front ++ rest))
begins None now front c = tt
begins (Some xs) None front c = absurd c
begins (Some xs) (Some ys) front c = (ys, c)

-- so it ends, where its lines and the last text could be written, and where they could not
module _ (traced : Bool) (known now left base new : Option (List ℕ)) (all : Read) (events : Plays all) (read : Consumes known now (bytes_read all)) where
  ends : (input : Bool) (end : Result InputEnd RunError) (W : List ℕ → Type 0) → input ≡ reads_failed end → CameTo end all now left → W (run_lines traced all ++ last_text end) → EndsWith traced known left input end W
  ends input end W i m f = (i, record { all = all; now = now; events = events; read = read; came = m; written = f })

  pub finished : (input output : Bool) (end : Result InputEnd RunError) (r : Result InputEnd RunError) → input ≡ reads_failed end → CameTo end all now left → FinishedBy output end base new (run_lines traced all) r → Ran traced known left input output base new r
  finished input false end r i m f = subst (λ (e : Result InputEnd RunError). EndsWith traced known left input e (Appends base new)) (sym f.0) (ends input end (Appends base new) i m f.1)
  finished input true end r i m f = (f.0, inr (end, ends input end (AppendsFront base new) i m f.1))

-- before an end a write failed
pub lost_before : (traced : Bool) (known now base new : Option (List ℕ)) (held : List ℕ) (all : Read) (events : Plays all) (read : Consumes known now (bytes_read all)) (input output : Bool) (r : Result InputEnd RunError) → input ≡ false → output ≡ true → IsLost r
    → GatheredBy output base new held (run_lines traced all) → Ran traced known now input output base new r
lost_before traced known now base new held all events read input true r i o l f = (l, inl (i, record { all = all; now = now; events = events; read = read; came = refl; written = f }))
lost_before traced known now base new held all events read input false r i o l f = absurd (false≢true o)

-- all is passed on
pub finished_by : (end : Result InputEnd RunError) (old : Gathering) (new : Option (List ℕ)) (held : List ℕ) (r : Result InputEnd RunError) (failed : Bool) → held ≡ [] → Pushes old (gathering new held failed) (last_text end) → (failed ≡ true → IsLost r) → (failed ≡ false → r ≡ end) → Finished end old new failed r
finished_by end old new held r false h p l o = record { goes = λ base text g. let q = p.goes base text g in (o refl, subst (Appends base new) (sym (append-nil q.0) ∙ ap (λ (x : List ℕ). q.0 ++ x) (sym h) ∙ sym q.2) q.1) }
finished_by end old new held r true h p l o = record { goes = λ base text g. (l refl, p.goes base text g) }
