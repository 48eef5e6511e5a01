use Rattle.std.proofs.Common.{◌≡◌, ◌%◌, subst, refl, rules}
use Rattle.std.specs.List.{sum}
use Rattle.std.proofs.lemmas.Fn.{fold_over, slice_gives, fronts}
use Rattle.std.proofs.lemmas.List.Sums.{sum_by_push}
use Rattle.pages.specs.Sum.{sum256}
use Rattle.pages.proofs.sums.byte_sum.Goals as goal

pub returns : goal.returns
unfolding sum256
returns c =
    subst (λ l. c.fold.result ≡ sum l % 256) c.iter.ensures.rest
    (fold_over fronts (λ y. y.now) _ (λ ys n. n ≡ sum ys % 256) _ (λ ys a x b f' j k. let more = sum_by_push (λ n. n) ys x.now in search rules)
    _ _ _ _ (slice_gives c.iter.result) refl c.fold.ensures.ran)
