-- Answers of the reader of page 11h that tell the same are the same.
use Rattle.std.proofs.Common.{◌≡◌, refl, sym, ap, [], ◌∷◌, ℕ, Option, Some, None, Result, Ok, Err}
use Rattle.bits.specs.Answer.{Answer}
use Rattle.refusals.specs.declared.reasons.Refusal.{Refusal}
use Rattle.refusals.proofs.NumberLaws.{number_once, number_some}
use Rattle.pages.specs.Read11.{counter_answer}
use Rattle.pages.specs.declared.value.CounterValue.{CounterValue}

same_value : {a a' b b' : ℕ} → a ≡ a' → b ≡ b' → ◌≡◌ {A = CounterValue} (record { value = a; bytes = b }) (record { value = a'; bytes = b' })
same_value p q = cc

-- a value with its width is what its two numbers are
once : (v w : CounterValue) → (v.value ∷ v.bytes ∷ []) ≡ (w.value ∷ w.bytes ∷ []) → v ≡ w
once v w e =
    let p : v.value ≡ w.value = cc in
    let q : v.bytes ≡ w.bytes = cc in
    same_value p q

-- value, absent and refusal are told apart, and so are two of each
pub told_apart : (a b : Result (Option CounterValue) Refusal) → counter_answer a ≡ counter_answer b → a ≡ b
unfolding counter_answer
told_apart (Ok (Some v)) (Ok (Some w)) e = ap (λ (x : CounterValue). Ok (Some x)) (once v w (ap (λ (x : Answer). x.values) e))
told_apart (Ok (Some v)) (Ok None) e = let s = ap (λ (x : Answer). x.values) e in cc
told_apart (Ok None) (Ok (Some w)) e = let s = ap (λ (x : Answer). x.values) e in cc
told_apart (Ok None) (Ok None) e = refl
told_apart (Ok (Some v)) (Err r) e = absurd (number_some r (ap (λ (x : Answer). x.number) e))
told_apart (Ok None) (Err r) e = absurd (number_some r (ap (λ (x : Answer). x.number) e))
told_apart (Err r) (Ok (Some w)) e = absurd (number_some r (ap (λ (x : Answer). x.number) (sym e)))
told_apart (Err r) (Ok None) e = absurd (number_some r (ap (λ (x : Answer). x.number) (sym e)))
told_apart (Err r) (Err s) e = ap (λ (x : Refusal). Err x) (number_once r s (ap (λ (x : Answer). x.number) e))
