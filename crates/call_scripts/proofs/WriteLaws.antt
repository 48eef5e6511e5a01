-- A write and its line, and the values of a line so far.
use Rattle.std.proofs.Common.{◌≡◌, ℕ, zero, suc, ◌+◌, ◌-◌, ◌<◌, Bool, List, length, take, Some, None, Result, refl, sym, ap, ◌∙◌, add-one, arith}
use Rattle.std.proofs.lemmas.List.{take_all, take_more_set}
use Rattle.std.proofs.Math.ListN.{set}
use Rattle.refusals.specs.declared.reasons.Refusal.{Refusal}
use Rattle.frames.specs.Emit.{WriteGiven}
use Rattle.call_scripts.specs.WriteLines.{written_text, emit_text}
use Rattle.call_scripts.specs.Words.{long_at}
use Rattle.call_scripts.specs.Writings.{one_more, values_at}

-- what is told of a write is its line
pub written_is : (fit : Bool) (s d d' : List ℕ) (r : Result ℕ Refusal) → WriteGiven fit s d r d' → written_text r d' ≡ emit_text fit s d
unfolding emit_text
written_is fit s d d' r g = rw (g.answer, g.bytes) refl

-- values of which one is none are none, however many more there are
values_lost : (words : List (List ℕ)) (place n k : ℕ) → values_at words place n ≡ None → values_at words place (k + n) ≡ None
unfolding values_at
values_lost words place n zero h = let e : 0 + n ≡ n = omega arith in rw e h
values_lost words place n (suc k) h = let e : suc k + n ≡ suc (k + n) = omega arith in rw e (ap (λ o. one_more o (long_at words (place + (k + n)))) (values_lost words place n k h))

-- one value more
pub values_more : (words : List (List ℕ)) (place row : ℕ) (values : List ℕ) (value : ℕ) → row < length values → values_at words place row ≡ Some (take row values) → long_at words (place + row) ≡ Some value
    → values_at words place (row + 1) ≡ Some (take (row + 1) (set values row value))
unfolding values_at
values_more words place row values value h e v =
    ap (λ n. values_at words place n) (add-one row)
    ∙ ap (λ o. one_more o (long_at words (place + row))) e
    ∙ ap (λ o. one_more (Some (take row values)) o) v
    ∙ ap Some (sym (take_more_set values row value h))

-- a word that tells no value
pub values_none : (words : List (List ℕ)) (place row : ℕ) (front : List ℕ) → row < 16 → values_at words place row ≡ Some front → long_at words (place + row) ≡ None → None ≡ values_at words place 16
unfolding values_at
values_none words place row front h e v =
    let one : values_at words place (suc row) ≡ None = ap (λ o. one_more o (long_at words (place + row))) e ∙ ap (λ o. one_more (Some front) o) v in
    let all : (15 - row) + suc row ≡ 16 = omega arith in
    sym (rw all at (values_lost words place (suc row) (15 - row) one))

-- all sixteen
pub values_all : (words : List (List ℕ)) (place row : ℕ) (values : List ℕ) → length values ≡ 16 → row ≡ 16 → values_at words place row ≡ Some (take row values) → Some values ≡ values_at words place 16
values_all words place row values l r e =
    let whole : take 16 values ≡ values = take_all 16 values (omega (arith, l)) in
    sym (rw whole at (rw r at e))
