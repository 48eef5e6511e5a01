-- Two histories of the same calls that keep the tables are one. Laws about the tables alone, with no device in them.
use Rattle.std.proofs.Common.{Option, None, is_none, ◌≡◌, refl, sym, ap, ap₂, subst, ◌∙◌, List, [], ◌∷◌, map, ℕ, length}
use Rattle.bits.specs.Pick.{pick}
use Rattle.bits.specs.Laid.{overlay}
use Rattle.frames.specs.Cut.{joined_bytes}
use Rattle.frames.specs.Write.{encode}
use Rattle.refusals.specs.First.{Rung, first_of, rung}
use Rattle.refusals.specs.declared.reasons.Refusal.{Refusal}
use Rattle.refusals.specs.declared.reasons.Refusal.TheVariants.{Contradiction}
use Rattle.rules.specs.Call.{Call, host_frame, happens}
use Rattle.rules.specs.declared.event.DeviceEvent.TheVariants.{SendData}
use Rattle.device.specs.Lent.{Lent}
use Rattle.history.specs.Event.{Event}
use Rattle.history.specs.Reading.{call_brings}
use Rattle.history.specs.Faithful.{Contents}
use Rattle.history.specs.Refused.{out_of_bounds, own_tests, Refusals}
use Rattle.history.specs.Placed.{due_place, written}
use Rattle.history.specs.Answered.{replies_by, AnsweredBy, Answers}
use Rattle.history.specs.NoChoice.{lent_in, Tabled, NoChoice}
use Rattle.history.proofs.Lying.{left_lies}

-- events of which all is the same are one
same_event : {c c' : Call} {m m' b b' f f' l l' : List ℕ} {n n' : Option Refusal} {k k' : ℕ} → c ≡ c' → m ≡ m' → b ≡ b' → n ≡ n' → k ≡ k' → f ≡ f' → l ≡ l'
    → ◌≡◌ {A = Event} (record { call = c; medium = m; buffer = b; refusal = n; len = k; filled = f; left = l }) (record { call = c'; medium = m'; buffer = b'; refusal = n'; len = k'; filled = f'; left = l' })
same_event p q r s t u v = cc

-- a call of which nothing came back
abbrev unanswered : Lent → Event
unanswered l = record { call = l.call; medium = l.medium; buffer = l.buffer; refusal = None; len = 0; filled = []; left = [] }

module _ (deep capacity mask : ℕ) (h : List Event) where
  -- the tests of a call look at what was lent to it alone
  tests_lent : (e : Event) (c : Call) → own_tests capacity mask e h c ≡ own_tests capacity mask (unanswered (lent_in e)) h c
  unfolding own_tests
  tests_lent e (host_frame f) = refl
  tests_lent e (happens SendData) = refl
  tests_lent e _ = refl

  -- what the tables make of a call that is lent l
  abbrev refusal_of : Lent → Option Refusal
  refusal_of l = first_of (rung Contradiction (out_of_bounds deep capacity mask) ∷ own_tests capacity mask (unanswered l) h l.call)

  abbrev bytes_of : Option Refusal → Lent → List ℕ
  bytes_of n l = joined_bytes (map encode (pick (is_none n) (replies_by deep capacity mask h l.medium l.call) []))

  abbrev left_in_transfer : Option Refusal → Lent → List ℕ
  left_in_transfer n l = written (due_place h) (pick (is_none n) (call_brings l.call) []) l.medium

  -- an event that keeps them after h
  record Keeps (e : Event) : Type 0 where
    refused : e.refusal ≡ refusal_of (lent_in e)
    answered : AnsweredBy (bytes_of e.refusal (lent_in e)) e
    moved : e.left ≡ left_in_transfer e.refusal (lent_in e)

  -- leaves no choice
  one_event : (e e' : Event) → lent_in e ≡ lent_in e' → Keeps e → Keeps e' → e ≡ e'
  one_event e e' l k k' =
      let n : e.refusal ≡ e'.refusal = k.refused ∙ ap refusal_of l ∙ sym k'.refused in
      let b : bytes_of e.refusal (lent_in e) ≡ bytes_of e'.refusal (lent_in e') = ap₂ bytes_of n l in
      same_event (ap (λ (x : Lent). x.call) l) (ap (λ (x : Lent). x.medium) l) (ap (λ (x : Lent). x.buffer) l) n (k.answered.len ∙ ap length b ∙ sym k'.answered.len)
      (k.answered.filled ∙ ap₂ overlay b (ap (λ (x : Lent). x.buffer) l) ∙ sym k'.answered.filled) (k.moved ∙ ap₂ left_in_transfer n l ∙ sym k'.moved)

-- the newest event of a history that keeps the tables keeps them after the rest, which keeps them too
keeps_last : (deep capacity mask : ℕ) (e : Event) (h : List Event) → Tabled deep capacity mask (e ∷ h) → Keeps deep capacity mask h e
unfolding Refusals Answers Contents
keeps_last deep capacity mask e h t = record {
  refused = t.refusals.0 ∙ ap (λ (rs : List Rung). first_of (rung Contradiction (out_of_bounds deep capacity mask) ∷ rs)) (tests_lent deep capacity mask h e e.call);
  answered = t.answers.0;
  moved = left_lies e h t.contents.0;
}

keeps_rest : (deep capacity mask : ℕ) (e : Event) (h : List Event) → Tabled deep capacity mask (e ∷ h) → Tabled deep capacity mask h
unfolding Refusals Answers Contents
keeps_rest deep capacity mask e h t = record { refusals = t.refusals.1; answers = t.answers.1; contents = t.contents.1 }

-- the tables leave no choice
pub no_choice : (deep capacity mask : ℕ) → NoChoice deep capacity mask
no_choice deep capacity mask [] [] l t t' = refl
no_choice deep capacity mask [] (e ∷ h) l t t' = cc
no_choice deep capacity mask (e ∷ h) [] l t t' = cc
no_choice deep capacity mask (e ∷ h) (e' ∷ h') l t t' =
    let i : h ≡ h' = no_choice deep capacity mask h h' (cc) (keeps_rest deep capacity mask e h t) (keeps_rest deep capacity mask e' h' t') in
    let k : Keeps deep capacity mask h e' = subst (λ (x : List Event). Keeps deep capacity mask x e') (sym i) (keeps_last deep capacity mask e' h' t') in
    ap₂ (λ (x : Event) (xs : List Event). x ∷ xs) (one_event deep capacity mask h e e' (cc) (keeps_last deep capacity mask e h t) k) i
