-- An input is events and a rest in one way, and what a run writes for it is one text.
use Rattle.std.proofs.Common.{◌≡◌, ℕ, Bool, true, false, List, [], ◌∷◌, ◌++◌, flat_map, Option, Some, None, Result, Ok, Err, refl, sym, ap, ap₂, subst, ◌∙◌, append_assoc, IfSome}
use Rattle.std.proofs.lemmas.List.{append_cancel_right}
use Rattle.std.specs.Io.KnownBytes.{Appends, Consumes}
use Rattle.device_state.specs.declared.shapes.Settings.{Settings}
use Rattle.events.specs.Grammar.{event_bytes, NoEventBegins}
use Rattle.events.specs.Settings.{settings_bytes}
use Rattle.events.specs.declared.asked.Event.{Event}
use Rattle.events.specs.declared.kinds.InputEnd.{InputEnd}
use Rattle.events.specs.declared.kinds.InputEnd.TheVariants as ends
use Rattle.events.specs.Running.{Read, nothing, begun, bytes_read, AllFit, Plays, refused, NoneFollows, end_behind, run_lines, ending}
use Rattle.events.specs.Runs.{Wrote, CameTo, OneText, OneBroken}
use Rattle.events.specs.Ends.{last_text, reads_failed}
use Rattle.events.specs.declared.errors.RunError.{RunError}
use Rattle.events.specs.declared.errors.RunError.TheVariants.{Input, Output, Memory, TooMany}
use Rattle.std.specs.declared.io.Error.{Error}
use mathlib.Core.Bool.{true≢false}
use Rattle.events.proofs.Spelling.{prefix_free}
use Rattle.events.proofs.Records.{settings_once}

-- an input is events that a run plays, and a rest that begins with none
pub record IsCut (input : List ℕ) (all : Read) (rest : List ℕ) : Type 0 where
  pub whole : input ≡ bytes_read all ++ rest
  pub events : Plays all
  pub ends : NoneFollows all rest

later_once : (es es' : List Event) (r r' : List ℕ) → AllFit es → AllFit es' → NoEventBegins r → NoEventBegins r' → flat_map event_bytes es ++ r ≡ flat_map event_bytes es' ++ r' → (es ≡ es') × (r ≡ r')
unfolding AllFit
later_once [] [] r r' a a' n n' q = (refl, q)
later_once [] (e' ∷ es') r r' a a' n n' q = absurd (n e' (flat_map event_bytes es' ++ r') a'.0 (q ∙ append_assoc (event_bytes e') (flat_map event_bytes es') r'))
later_once (e ∷ es) [] r r' a a' n n' q = absurd (n' e (flat_map event_bytes es ++ r) a.0 (sym q ∙ append_assoc (event_bytes e) (flat_map event_bytes es) r))
later_once (e ∷ es) (e' ∷ es') r r' a a' n n' q =
    let front = prefix_free e e' (flat_map event_bytes es ++ r) (flat_map event_bytes es' ++ r') a.0 a'.0 (sym (append_assoc (event_bytes e) (flat_map event_bytes es) r) ∙ q ∙ append_assoc (event_bytes e') (flat_map event_bytes es') r') in
    let more = later_once es es' r r' a.1 a'.1 n n' front.1 in
    (cc (front.0, more.0), more.1)

-- behind the same settings
behind_once : (s : Settings) (b : Bool) → refused s ≡ b → (es es' : List Event) (r r' : List ℕ) → Plays (begun s es) → Plays (begun s es') → NoneFollows (begun s es) r → NoneFollows (begun s es') r' → flat_map event_bytes es ++ r ≡ flat_map event_bytes es' ++ r' → (es ≡ es') × (r ≡ r')
unfolding Plays NoneFollows
behind_once s true t es es' r r' a a' n n' q =
    (a.2 t ∙ sym (a'.2 t), sym (ap (λ (x : List Event). flat_map event_bytes x ++ r) (a.2 t)) ∙ q ∙ ap (λ (x : List Event). flat_map event_bytes x ++ r') (a'.2 t))
behind_once s false t es es' r r' a a' n n' q = later_once es es' r r' a.1 a'.1 (n t) (n' t) q

pub cut_once : (input : List ℕ) (all all' : Read) (r r' : List ℕ) → IsCut input all r → IsCut input all' r' → (all ≡ all') × (r ≡ r')
unfolding Plays NoneFollows
cut_once input nothing nothing r r' c c' = (refl, sym c.whole ∙ c'.whole)
cut_once input nothing (begun s' es') r r' c c' = absurd (c.ends s' (flat_map event_bytes es' ++ r') c'.events.0 (sym c.whole ∙ c'.whole ∙ append_assoc (settings_bytes s') (flat_map event_bytes es') r'))
cut_once input (begun s es) nothing r r' c c' = absurd (c'.ends s (flat_map event_bytes es ++ r) c.events.0 (sym c'.whole ∙ c.whole ∙ append_assoc (settings_bytes s) (flat_map event_bytes es) r))
cut_once input (begun s es) (begun s' es') r r' c c' =
    let front = settings_once s s' (flat_map event_bytes es ++ r) (flat_map event_bytes es' ++ r') c.events.0 c'.events.0 (sym (append_assoc (settings_bytes s) (flat_map event_bytes es) r) ∙ sym c.whole ∙ c'.whole ∙ append_assoc (settings_bytes s') (flat_map event_bytes es') r') in
    let same = sym front.0 in
    let more = behind_once s (refused s) refl es es' r r' c.events (subst (λ (t : Settings). Plays (begun t es')) same c'.events) c.ends (subst (λ (t : Settings). NoneFollows (begun t es') r') same c'.ends) front.1 in
    (cc (front.0, more.0), more.1)

-- what is written behind the same bytes is the same
pub appended : (o t t' : List ℕ) (w w' : Option (List ℕ)) → t ≡ t' → Appends (Some o) w t → Appends (Some o) w' t' → w ≡ w'
appended o t t' None w' e p p' = absurd p
appended o t t' (Some x) None e p p' = absurd p'
appended o t t' (Some x) (Some y) e p p' = ap Some (p ∙ ap (λ (l : List ℕ). o ++ l) e ∙ sym p')

-- known bytes of which some were read
rest_known : (input front : List ℕ) (now : Option (List ℕ)) → Consumes (Some input) now front → (rest : List ℕ) × (now ≡ Some rest) × (input ≡ front ++ rest)
rest_known input front None c = absurd c
rest_known input front (Some rest) c = (rest, refl, c)

-- so two outputs that the contract allows for an input are equal
over_once : (traced : Bool) (input old : List ℕ) (left left' new new' : Option (List ℕ)) (end end' : InputEnd) → Wrote traced (Some input) (λ all now. CameTo (Ok end) all now left) (λ lines. Appends (Some old) new (lines ++ last_text (Ok end)))
    → Wrote traced (Some input) (λ all now. CameTo (Ok end') all now left') (λ lines. Appends (Some old) new' (lines ++ last_text (Ok end'))) → (new ≡ new') × (end ≡ end')
over_once traced input old left left' new new' end end' a b =
    let x = rest_known input (bytes_read a.all) a.now a.read in
    let y = rest_known input (bytes_read b.all) b.now b.read in
    let m : NoneFollows a.all x.0 × (end ≡ end_behind a.all x.0) = subst (λ (o : Option (List ℕ)). IfSome o (λ rest. NoneFollows a.all rest × (end ≡ end_behind a.all rest))) x.1 a.came in
    let n : NoneFollows b.all y.0 × (end' ≡ end_behind b.all y.0) = subst (λ (o : Option (List ℕ)). IfSome o (λ rest. NoneFollows b.all rest × (end' ≡ end_behind b.all rest))) y.1 b.came in
    let same = cut_once input a.all b.all x.0 y.0 (record { whole = x.2; events = a.events; ends = m.0 }) (record { whole = y.2; events = b.events; ends = n.0 }) in
    let end_same : end ≡ end' = m.1 ∙ ap₂ end_behind same.0 same.1 ∙ sym n.1 in
    (appended old _ _ new new' (ap₂ (λ (es : Read) (e : InputEnd). run_lines traced es ++ ending e) same.0 end_same) a.written b.written, end_same)

pub run_once : OneText
run_once traced input old left left' new new' end end' a b = over_once traced input old left left' new new' end end' a.1 b.1

-- what was read before a read failed
part_known : (input left front part : List ℕ) (now : Option (List ℕ)) → Consumes (Some input) now front → Consumes now (Some left) part → input ≡ (front ++ part) ++ left
part_known input left front part None c d = absurd c
part_known input left front part (Some rest) c d = c ∙ ap (λ (l : List ℕ). front ++ l) d ∙ sym (append_assoc front part left)

broken_over : (traced : Bool) (input left old : List ℕ) (new new' : Option (List ℕ)) (e e' : Error) → Wrote traced (Some input) (λ all now. CameTo (Err (Input e)) all now (Some left)) (λ lines. Appends (Some old) new (lines ++ last_text (Err (Input e))))
    → Wrote traced (Some input) (λ all now. CameTo (Err (Input e')) all now (Some left)) (λ lines. Appends (Some old) new' (lines ++ last_text (Err (Input e')))) → new ≡ new'
broken_over traced input left old new new' e e' a b =
    let x = part_known input left (bytes_read a.all) a.came.1.0 a.now a.read a.came.1.1 in
    let y = part_known input left (bytes_read b.all) b.came.1.0 b.now b.read b.came.1.1 in
    let read = append_cancel_right (bytes_read a.all ++ a.came.1.0) (bytes_read b.all ++ b.came.1.0) left (sym x ∙ y) in
    let same = cut_once (bytes_read b.all ++ b.came.1.0) a.all b.all a.came.1.0 b.came.1.0 (record { whole = sym read; events = a.events; ends = a.came.1.2 }) (record { whole = refl; events = b.events; ends = b.came.1.2 }) in
    appended old _ _ new new' (ap (λ (es : Read). run_lines traced es ++ ending ends.NoEvent) same.0) a.written b.written

is_input : (end : Result InputEnd RunError) → true ≡ reads_failed end → (e : Error) × (end ≡ Err (Input e))
is_input (Ok end) i = absurd (true≢false i)
is_input (Err (Input e)) i = (e, refl)
is_input (Err (Output e)) i = absurd (true≢false i)
is_input (Err Memory) i = absurd (true≢false i)
is_input (Err TooMany) i = absurd (true≢false i)

-- and where a read failed, two outputs for the same bytes read
pub broken_once : OneBroken
broken_once traced input left old new new' r r' (i, a) (i', b) =
    let f = is_input r i in
    let f' = is_input r' i' in
    broken_over traced input left old new new' f.0 f'.0
    (subst (λ (x : Result InputEnd RunError). Wrote traced (Some input) (λ all now. CameTo x all now (Some left)) (λ lines. Appends (Some old) new (lines ++ last_text x))) f.1 a)
    (subst (λ (x : Result InputEnd RunError). Wrote traced (Some input) (λ all now. CameTo x all now (Some left)) (λ lines. Appends (Some old) new' (lines ++ last_text x))) f'.1 b)
