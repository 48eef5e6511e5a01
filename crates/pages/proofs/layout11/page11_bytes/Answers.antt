use Rattle.std.proofs.Common.{rules, ◌∙◌, length, tests}
use Rattle.std.proofs.lemmas.List.{length_push}
use Rattle.std.proofs.lemmas.Iterator.Consumers.{YieldsList-turn, YieldsList-end}
use Rattle.std.proofs.lemmas.List.FromFn.{length-enumerate_from}
use Rattle.counters.specs.Rows.{ids}
use Rattle.pages.proofs.Filling.{gives_kept, kept_rows, placed, kept_small, lay_row, laid_all}
use Rattle.pages.proofs.layout11.page11_bytes.Goals as goal

pub row_bytes-requires : goal.row_bytes-requires
unfolding ids
row_bytes-requires c =
    let l = c.loop-place in
    let t = YieldsList-turn (gives_kept _ c.args.mask c.args.values.now c.filter-kept.result (cc) (cc) c.filter-kept.ensures.closure (cc) (cc) (cc) (λ x b q k. search (rules, tests))) l.yielded _ l.yielded_by _ c.next.new.self _ c.in-Some.is c.next.ensures.steps in
    let p = placed c.args.mask c.args.values.now _ _ t in
    kept_small c.args.mask c.args.values.now (search rules) _ _ p.kept p.row

pub loop-place-preserved : goal.loop-place-preserved
unfolding ids
loop-place-preserved c =
    let l = c.loop-place in
    let t = YieldsList-turn (gives_kept _ c.args.mask c.args.values.now c.filter-kept.result (cc) (cc) c.filter-kept.ensures.closure (cc) (cc) (cc) (λ x b q k. search (rules, tests))) l.yielded _ l.yielded_by _ c.next.new.self _ c.in-Some.is c.next.ensures.steps in
    let p = placed c.args.mask c.args.values.now _ _ t in
    rw (length_push l.yielded _) (lay_row c.args.mask c.args.values.now (search rules) (length l.yielded) p.kept _ p.place _ p.row l.page c.row_bytes.result c.lay.new.buf l.invariant c.row_bytes.ensures c.lay.ensures.1)

pub returns : goal.returns
unfolding ids
returns c =
    let l = c.loop-place in
    let t = YieldsList-end (gives_kept _ c.args.mask c.args.values.now c.filter-kept.result (cc) (cc) c.filter-kept.ensures.closure (cc) (cc) (cc) (λ x b q k. search (rules, tests))) l.yielded _ l.yielded_by _ c.next.new.self c.in-None.is c.next.ensures.steps in
    c.seal.ensures ∙ laid_all c.args.mask c.args.values.now (search rules) l.page (length l.yielded) l.invariant (t.1 ∙ length-enumerate_from 0 (kept_rows c.args.mask c.args.values.now))
