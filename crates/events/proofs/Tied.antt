-- Each public function's own contract: it asks nothing, and two answers which it allows are equal.
use Rattle.std.proofs.Common.{◌≡◌, ℕ, ◌∙◌, List, length, length-take-le, Option, Some, None, sym, ap, refl}
use Rattle.device.specs.Lent.{answered}
use Rattle.bits.specs.Contract.{Sole}
use Rattle.bits.proofs.Tying.{same, sole}
use Rattle.device.proofs.Outcomes.{given_once}
use Rattle.device.proofs.Kept.{kept_once, powered_once, same_answer, same_state}
use Rattle.device_state.specs.declared.shapes.Settings.{Settings}
use Rattle.events.specs.Grammar.{event_bytes, FirstEvent}
use Rattle.events.specs.Settings.{FirstSettings}
use Rattle.events.specs.declared.asked.Event.{Event}
use Rattle.events.proofs.Nexts as events
use Rattle.events.proofs.Records as records
use Rattle.events.proofs.Spelling.{prefix_free}
use Rattle.events.proofs.asked
use Rattle.events.specs.contracts.asked as asked-said
use Rattle.events.proofs.settings
use Rattle.events.specs.contracts.settings as settings-said
use Rattle.events.proofs.by_value
use Rattle.events.specs.contracts.by_value as by_value-said
use Rattle.events.proofs.plays
use Rattle.events.specs.contracts.plays as plays-said
use Rattle.events.proofs.starts
use Rattle.events.specs.contracts.starts as starts-said

pub tied_play : Sole plays-said.play.ended plays.play.Reads.Asked plays.play.Reads.Post
tied_play = sole (λ κs a. tt) (λ κs a r r' ws ws' p q. let e = given_once _ _ (answered ws.0.device r) (answered ws'.0.device r') ws.1.1.0 ws'.1.1.0 ws.1.1.1.0 ws'.1.1.1.0 p q in (same_answer ws.0.device ws'.0.device r r' e.0, λ i. (kept_once ws.0 ws'.0 (same_state ws.0.device ws'.0.device r r' e.0) i, (tt, (e.1.0 i, (e.1.1 i, tt))))))

pub tied_play_by_value : Sole by_value-said.play_by_value.ended by_value.play_by_value.Reads.Asked by_value.play_by_value.Reads.Post
tied_play_by_value = sole (λ κs a. tt) (λ κs a r r' ws ws' p q. let e = given_once _ _ r r' ws.1.1.0 ws'.1.1.0 ws.1.1.1.0 ws'.1.1.1.0 p q in (e.0, λ i. (tt, (tt, (e.1.0 i, (e.1.1 i, tt))))))

pub tied_start : Sole starts-said.start.ended starts.start.Reads.Asked starts.start.Reads.Post
tied_start = sole (λ κs a. tt) (λ κs a r r' ws ws' p q. (powered_once r r' (same p q), refl))

-- bytes begin with one event, or with none
first_once : (l : List ℕ) (o o' : Option (Event × ℕ)) → FirstEvent l o → FirstEvent l o' → o ≡ o'
first_once l None None p q = refl
first_once l None (Some x) p q = let b = events.begins q in absurd (p _ _ b.0 b.1)
first_once l (Some x) None p q = let b = events.begins p in absurd (q _ _ b.0 b.1)
first_once l (Some (e, n)) (Some (e', n')) p q =
    let a = events.begins p in
    let b = events.begins q in
    let same = (prefix_free e e' _ _ a.0 b.0 (sym a.1 ∙ b.1)).0 in
    let size : n ≡ length (event_bytes e) = sym (length-take-le n l p.within) ∙ ap length p.spelt.1 in
    let size' : n' ≡ length (event_bytes e') = sym (length-take-le n' l q.within) ∙ ap length q.spelt.1 in
    cc (same, size, size')

pub tied_first_event : Sole asked-said.first_event.ended asked.first_event.Reads.Asked asked.first_event.Reads.Post
tied_first_event = sole (λ κs a. tt) (λ κs a r r' ws ws' p q. (first_once a.0.now r r' p q, refl))

settings_once : (l : List ℕ) (o o' : Option Settings) → FirstSettings l o → FirstSettings l o' → o ≡ o'
settings_once l None None p q = refl
settings_once l None (Some s) p q = absurd (p s _ q.0 (records.begins q))
settings_once l (Some s) None p q = absurd (q s _ p.0 (records.begins p))
settings_once l (Some s) (Some t) p q = ap Some (records.settings_once s t _ _ p.0 q.0 (sym (records.begins p) ∙ records.begins q)).0

pub tied_first_settings : Sole settings-said.first_settings.ended settings.first_settings.Reads.Asked settings.first_settings.Reads.Post
tied_first_settings = sole (λ κs a. tt) (λ κs a r r' ws ws' p q. (settings_once a.0.now r r' p q, refl))
