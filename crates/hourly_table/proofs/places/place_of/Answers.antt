use Rattle.std.proofs.Common.{sym, ap, ◌∙◌, ◌+◌, ◌<◌, length, suc, add-one, arith}
use Rattle.std.specs.Option.{option_map}
use Rattle.hourly_table.specs.Samples.{sampled}
use Rattle.hourly_table.specs.Places.{refused_so}
use Rattle.hourly_table.specs.declared.samples.Sample.{Sample}
use Rattle.hourly_table.proofs.Blamed.{position-map, fall-map, place_inside, fall_inside}
use Rattle.hourly_table.proofs.places.place_of.Goals as goal

pub returns-in_err-first_fall-in-HourBackwards-clause-value : goal.returns-in_err-first_fall-in-HourBackwards-clause-value
returns-in_err-first_fall-in-HourBackwards-clause-value c =
    rw (c.in-HourBackwards.is, fall-map c.args.samples.now) (c.from_residual.ensures ∙ ap (option_map suc) (sym c.in_err-first_fall-in-HourBackwards.was ∙ c.first_fall.ensures))

pub overflow_add-result : goal.overflow_add-result
overflow_add-result c =
    let inside : c.in_ok-first_fall-in-HourBackwards.field-0 + 1 < length c.args.samples.now = fall_inside c.args.samples.now _ (sym c.in_ok-first_fall-in-HourBackwards.was ∙ c.first_fall.ensures) in
    omega arith

pub returns-in-Reading-clause-value : goal.returns-in-Reading-clause-value
returns-in-Reading-clause-value c = rw c.in-Reading.is (c.first_refused_so.ensures ∙ sym (position-map (λ s. refused_so c.in-Reading.refusal c.args.numbers.now s.page) sampled c.args.samples.now))

pub returns-in-Reading-clause-inside : goal.returns-in-Reading-clause-inside
returns-in-Reading-clause-inside c =
    place_inside (λ (s : Sample). refused_so c.in-Reading.refusal c.args.numbers.now s.page.now) c.args.samples.now c.first_refused_so.result c.first_refused_so.ensures

pub returns-in_ok-first_fall-in-HourBackwards-clause-value : goal.returns-in_ok-first_fall-in-HourBackwards-clause-value
returns-in_ok-first_fall-in-HourBackwards-clause-value c =
    rw (c.in-HourBackwards.is, fall-map c.args.samples.now, add-one) (ap (option_map suc) (sym c.in_ok-first_fall-in-HourBackwards.was ∙ c.first_fall.ensures))

pub returns-in_ok-first_fall-in-HourBackwards-clause-inside : goal.returns-in_ok-first_fall-in-HourBackwards-clause-inside
returns-in_ok-first_fall-in-HourBackwards-clause-inside c =
    fall_inside c.args.samples.now _ (sym c.in_ok-first_fall-in-HourBackwards.was ∙ c.first_fall.ensures)
