-- What a run begins with: its settings, and power-on by these.
use Rattle.std.proofs.Common.{◌≡◌, ℕ, Bool, true, false, true≢false, List, [], Option, Some, None, IfSome, Result, Ok, Err, subst, sym, refl, ap, ◌∙◌, append-nil, length, take, length-take-le, ◌≤◌, arith, replicate, option_copied, Bor}
use Rattle.std.proofs.lemmas.Bool.Decides.{nat_tests}
use Rattle.std.specs.Io.KnownBytes.{Consumes}
use Rattle.std.proofs.KnownBytes.{Appends-nil}
use Rattle.events.specs.declared.kinds.InputEnd.{InputEnd}
use Rattle.events.specs.declared.kinds.InputEnd.TheVariants as ends
use Rattle.events.specs.Start.{start_of}
use Rattle.events.specs.Settings.{settings_bytes, SettingsFit}
use Rattle.device_state.specs.declared.shapes.Settings.{Settings}
use Rattle.device.specs.declared.state.Outcome.{Outcome}
use Rattle.events.specs.Lines.{line_of}
use Rattle.events.specs.Running.{kept}
use Rattle.std.specs.Result.{result_err, result_copied}
use Rattle.refusals.specs.declared.reasons.Refusal.{Refusal}
use Rattle.std.proofs.lemmas.List.{length-replicate}
use Rattle.device_state.specs.State.{medium_size}
use Rattle.device.specs.Device.{fresh_device, power_on}
use Rattle.device.specs.Sealing.{powered_of}
use Rattle.device.specs.declared.sealed.Sealed.{Sealed}
use Rattle.events.specs.declared.errors.RunError.{RunError}
use Rattle.events.specs.Running.{begun, AllFit, lines_from, refused, started, start_line, run_lines, Plays, NoneFollows, end_behind}
use Rattle.streams.specs.Gathered.{Gathering, gathering, Gathered, Pushes}
use Rattle.events.specs.Runs.{Ran}
use Rattle.events.specs.Ends.{Finished}
use Rattle.events.proofs.Runs.{finished}
use Rattle.events.proofs.Steps.{same_kept}

-- no line is gathered yet
pub none_gathered : (w : Option (List ℕ)) {h : List ℕ} {f : Bool} → f ≡ false → h ≡ [] → Gathered w [] (gathering w h f)
none_gathered w off none = rw (off, none) ([], Appends-nil w, refl)

-- refused settings end a run
none_behind : (s : Settings) (rest : List ℕ) → refused s ≡ true → NoneFollows (begun s []) rest × (ends.Refused ≡ end_behind (begun s []) rest)
unfolding NoneFollows end_behind
none_behind s rest h = (λ t. absurd (true≢false (sym h ∙ t)), rw h refl)

plays_refused : (s : Settings) → SettingsFit s → Plays (begun s [])
unfolding Plays AllFit
plays_refused s i = (i, tt, λ t. refl)

line_refused : (traced : Bool) (s : Settings) → run_lines traced (begun s []) ≡ start_line traced s
unfolding run_lines lines_from
line_refused traced s = append-nil (start_line traced s)

all_known : {Q : List ℕ → Type 0} (u : Option (List ℕ)) → ((l : List ℕ) → Q l) → IfSome u Q
all_known None f = tt
all_known (Some l) f = f l

pub stays_refused : (traced : Bool) (s : Settings) (old : Gathering) (base before known known' new : Option (List ℕ)) (input output : Bool) (r : Result InputEnd RunError) → refused s ≡ true → input ≡ false → SettingsFit s → Consumes before known (settings_bytes s) → Gathered base (start_line traced s) old
    → Finished (Ok ends.Refused) old new output r → Ran traced before known' input output base new r
stays_refused traced s old base before known known' new input output r h off i c g f =
    finished traced before known known' base new (begun s []) (plays_refused s i)
    (subst (Consumes before known) (sym (append-nil (settings_bytes s))) c)
    input output (Ok ends.Refused) r off
    (all_known known (λ rest. none_behind s rest h))
    (f.goes base (run_lines traced (begun s [])) (subst (λ (l : List ℕ). Gathered base l old) (sym (line_refused traced s)) g))

-- a start leaves nothing outstanding
none_outstanding : (e : Settings) → (start_of e).state.status.outstanding ≡ 0
unfolding start_of power_on powered_of fresh_device
none_outstanding e = grind arith

-- what power-on gave
pub refused_yes : (s : Settings) (r : Refusal) → powered_of (Err r) ≡ start_of s → refused s ≡ true
unfolding powered_of
refused_yes s r e = rw (← e) refl

pub refused_no : (s : Settings) (d : Sealed) → powered_of (Ok d) ≡ start_of s → refused s ≡ false
unfolding powered_of
refused_no s d e = rw (← e) refl

-- a refusal that is handed on is that of the outcome
handed_on : (r : Result (Bor Sealed) (Bor Refusal)) → option_copied (result_err r) ≡ (powered_of (result_copied r)).refusal
unfolding powered_of
handed_on r = grind arith

pub first_line : (traced : Bool) (s : Settings) (base : Option (List ℕ)) {begun : Result Sealed Refusal} (r : Result (Bor Sealed) (Bor Refusal)) {o : Option (Bor Refusal)} {given : Option Refusal} {old new : Gathering}
    → powered_of begun ≡ start_of s → result_copied r ≡ begun → o ≡ result_err r → given ≡ option_copied o → Gathered base [] old → Pushes old new (line_of traced 0 given 0 []) → Gathered base (start_line traced s) new
first_line traced s base r {given = given} {new = new} e p q t g l =
    let h = handed_on r in
    let same : given ≡ (start_of s).refusal = cc in
    rw (none_outstanding s) (rw same at l.goes base [] g)

-- the medium of a run has room in the program's array
started_in_limit : (e : Settings) → (start_of e).state.settings.capacity ≤ 64
unfolding start_of power_on powered_of fresh_device
started_in_limit e = grind (arith, nat_tests)

pub medium_fits : (s : Settings) {r : Result Sealed Refusal} {d : Sealed} → powered_of r ≡ start_of s → r ≡ Ok d → d.device.settings.capacity ≤ 64
unfolding powered_of
medium_fits s e o = subst (λ (n : ℕ). n ≤ 64) (sym (ap (λ (x : Outcome). x.state.settings.capacity) (sym (ap powered_of o) ∙ e))) (started_in_limit s)

pub room_is : (s : Settings) (r : Result Sealed Refusal) (d : Sealed) → powered_of r ≡ start_of s → r ≡ Ok d → (n : ℕ) → n ≡ medium_size d.device.settings.capacity → (room : List ℕ) → room ≡ replicate 32768 0 → n ≡ length (take n room)
room_is s r d e o n size room q = let f = medium_fits s e o in sym (length-take-le n room (rw q (omega (arith, f, size, length-replicate {A = ℕ} 32768 0))))

pub started_is : (s : Settings) (d : Sealed) (m b : List ℕ) → powered_of (Ok d) ≡ start_of s → (n : ℕ) → n ≡ medium_size d.device.settings.capacity → m ≡ replicate n 0 → b ≡ replicate 8196 0 → kept d.device m b ≡ started s
unfolding started powered_of
started_is s d m b e n size p q =
    same_kept (ap (λ (x : Outcome). x.state) e) (p ∙ ap (λ (k : ℕ). replicate k 0) (size ∙ ap (λ (x : Outcome). medium_size x.state.settings.capacity) e)) q
