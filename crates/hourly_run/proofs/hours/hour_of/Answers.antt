use Rattle.std.proofs.Common.{◌-◌, get_or, eqb-true, sym, ◌∙◌, refl, arith, rules}
use Rattle.std.proofs.lemmas.Bool.{eqb-false}
use Rattle.hourly_run.proofs.Numerals.{none_long, none_digit, digit_less, too_large, all_told, some_hour}
use Rattle.hourly_run.proofs.hours.hour_of.Goals as goal

pub returns-then-is_empty : goal.returns-then-is_empty
returns-then-is_empty c = none_long c.args.digits.now (λ p. let none = eqb-true _ 0 (sym c.is_empty.ensures ∙ c.if-is_empty.true) in let one = p.0 in omega arith)

pub returns-then-digits-gt-HOUR_DIGITS : goal.returns-then-digits-gt-HOUR_DIGITS
returns-then-digits-gt-HOUR_DIGITS c = none_long c.args.digits.now (λ p. let most = p.1 in omega arith)

pub returns-then-not-is_ascii_digit : goal.returns-then-not-is_ascii_digit
returns-then-not-is_ascii_digit c = none_digit c.args.digits.now c.loop-digit.digit-index (search rules) (sym c.is_ascii_digit.ensures.value ∙ c.if-not-is_ascii_digit.true)

pub returns-in_err-checked_mul : goal.returns-in_err-checked_mul
returns-in_err-checked_mul c =
    rw c.from_residual.ensures
    (too_large c.args.digits.now c.loop-digit.digit-index c.loop-digit.hour (get_or c.args.digits.now c.loop-digit.digit-index 0 - 48) (search rules) c.loop-digit.invariant.told
    (digit_less _ _ c.if-not-is_ascii_digit.ensures.cases refl) (omega (arith, c.in_err-checked_mul.ensures)))

pub returns-in_err-hour : goal.returns-in_err-hour
returns-in_err-hour c =
    rw c.from_residual-in_err-hour.ensures
    (too_large c.args.digits.now c.loop-digit.digit-index c.loop-digit.hour c.from.result (search rules) c.loop-digit.invariant.told
    (digit_less _ _ c.if-not-is_ascii_digit.ensures.cases c.from.ensures) (omega (arith, c.in_err-hour.ensures, c.in_ok-checked_mul.ensures.1)))

pub returns : goal.returns
returns c =
    some_hour c.args.digits.now c.loop-digit.hour (omega (arith, eqb-false _ 0 (sym c.is_empty.ensures ∙ c.if-is_empty.false))) (omega arith) (λ k h. c.loop-digit.invariant.digits k (omega arith)) c.loop-digit.invariant.small
    (all_told c.args.digits.now c.loop-digit.digit-index c.loop-digit.hour (omega arith) c.loop-digit.invariant.told)
