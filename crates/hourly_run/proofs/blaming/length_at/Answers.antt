use Rattle.std.proofs.Common.{sym, ap, ◌∙◌, ◌<◌, ℕ, length, map, arith}
use Rattle.std.proofs.lemmas.List.{get_or-map, length-map}
use Rattle.hourly_table.specs.Samples.{Sampled, sampled}
use Rattle.hourly_table.specs.declared.samples.Sample.{Sample}
use Rattle.hourly_run.proofs.blaming.length_at.Goals as goal

abbrev page_length : Sampled → ℕ
page_length s = length s.page

pub returns-in-Some-get : goal.returns-in-Some-get
returns-in-Some-get c =
    let samples = c.args.samples.now in
    let k = c.in-Some.place in
    let sample = c.in-Some-get.sample.now in
    let read = c.in-Some-get.ensures.lookup in
    let inside : k < length samples = read.3.0 in
    let inside' : k < length (map sampled samples) = (let l = length-map samples sampled in omega arith) in
    rw c.in-Some.is
    (ap (λ (s : Sample). length s.page.now) read.1
    ∙ ap page_length (sym (get_or-map sampled samples k sample (sampled sample) inside))
    ∙ sym (get_or-map page_length (map sampled samples) k (sampled sample) 0 inside'))
