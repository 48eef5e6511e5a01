-- What an event may say, as far as its kind tells.
use Rattle.std.proofs.Common.{◌≡◌, refl, sym, ap, ◌∙◌, Bool, true, false, ◌||◌, List, ℕ, ◌+◌, ◌<◌, arith}
use mathlib.Core.Bool.{false≢true}
use Rattle.device.specs.declared.state.Device.{Device}
use Rattle.history.specs.Seen.{Seen, errs, accepts}
use Rattle.history.specs.Fates.{ends, one, total_with}
use Rattle.history.specs.Waits.{waits}
use Rattle.history.proofs.Class as K
use Rattle.history.proofs.Class.{none, Is, Unbegun, Class}
use Rattle.history.proofs.Core.{Inv}

-- of what is seen alone
pub record SeenRules (e : Seen) (h : List Seen) : Type 0 where
  pub answered : e.asks.queued ≡ true → one (accepts e) + one e.bad ≡ 1
  pub named : (t : ℕ) → t < 32 → e.finishes t ≡ true → total_with t h ≡ 1
  pub alone : 0 < e.sends + e.asks.brings → Unbegun e × ((t : ℕ) → ends t e ≡ false)
  pub shut : errs e || e.asks.resets ≡ true → Unbegun e
  pub swept : e.sweeps ≡ true → (waits h ≡ true) × (e.fails ≡ false)
  pub behind : waits h ≡ true → e.delivers 0x10 ≡ true → e.sweeps ≡ true

-- false is not true
never : {A : Type 0} → false ≡ true → A
never e = absurd (false≢true e)

-- by what is seen of it
ruled : {e : Seen} {h : List Seen} {q ac ba fa re sw de : Bool} {fi cl : ℕ → Bool} {se br : ℕ} → Is e q ac ba fa re sw de fi cl se br → (q ≡ true → one ac + one ba ≡ 1) → ((t : ℕ) → t < 32 → fi t ≡ true → total_with t h ≡ 1)
    → (0 < se + br → Unbegun e × ((t : ℕ) → ends t e ≡ false)) → ((ba || fa) || re ≡ true → Unbegun e) → (sw ≡ true → (waits h ≡ true) × (fa ≡ false)) → (waits h ≡ true → de ≡ true → sw ≡ true) → SeenRules e h
ruled i a n l u s b = record {
  answered = λ x. rw (i.accepted, i.bad) (a (sym i.queued ∙ x));
  named = λ t k x. n t k (sym (i.finishes t) ∙ x);
  alone = λ x. l (rw (i.sends, i.brings) at x);
  shut = λ x. u (rw (i.bad, i.fails, i.resets) at x);
  swept = λ x. rw i.fails (s (sym i.sweeps ∙ x));
  behind = λ w x. i.sweeps ∙ b w (sym i.delivers ∙ x);
}

-- an event that finishes and carries nothing, and begins nothing; page 10h it delivers only while no error waits
mute : {e : Seen} {h : List Seen} {q ac ba fa re de : Bool} {cl : ℕ → Bool} → Is e q ac ba fa re false de none cl 0 0 → Unbegun e → (q ≡ true → one ac + one ba ≡ 1) → (waits h ≡ true → de ≡ false) → SeenRules e h
mute i u a n = ruled i a (λ t l. never) (λ l. absurd (omega (arith, l))) (λ _. u) never (λ w x. sym (n w) ∙ x)

-- each kind
pub seen_rules : (d d' : Device) (e : Seen) (h : List Seen) → Inv d.status.outstanding d.status.halted h → Class d e d' → SeenRules e h
seen_rules d d' e h v (K.plain i u s) = mute i u never (λ _. refl)
seen_rules d d' e h v (K.pages de i u x s) = mute i u never (λ w. never (sym (v.waiting ∙ x) ∙ w))
seen_rules d d' e h v (K.again q i u x z s) = mute i u (λ _. refl) (λ _. refl)
seen_rules d d' e h v (K.freely i u x z s) = mute i u never (λ _. refl)
seen_rules d d' e h v (K.halts q ba fa i u a x c s) = mute i u (λ y. let b = a y in grind arith) (λ _. refl)
seen_rules d d' e h v (K.resets i u s) = mute i u never (λ _. refl)
seen_rules d d' e h v (K.sweeps cl all i u x z p s) = ruled i never (λ t l. never) (λ l. absurd (omega (arith, l))) (λ _. u) (λ _. (v.waiting ∙ x, refl)) (λ _ _. refl)
seen_rules d d' e h v (K.takes i u s) = mute i u (λ _. refl) (λ _. refl)
seen_rules d d' e h v (K.opens tag i s) = ruled i never (λ t l. never) (λ l. absurd (omega (arith, l))) never never (λ _. never)
seen_rules d d' e h v (K.carries tag n i u s) = ruled i never (λ t l. never) (λ _. (u, λ t. rw (i.finishes t, i.bad, i.fails, i.resets))) (λ _. u) never (λ _. never)
seen_rules d d' e h v (K.ends set i u s) = ruled i never (λ t l y. v.number t l ∙ ap one (s.ready t l y).0) (λ l. absurd (omega (arith, l))) (λ _. u) never (λ _. never)
