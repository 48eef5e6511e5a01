use Rattle.std.proofs.Common.{◌∙◌, refl, arith}
use Rattle.identity.specs.Page.{words_to}
use Rattle.identity.proofs.Laying.{lay_word, laid_all}
use Rattle.identity.proofs.page.page_bytes.Goals as goal

pub loop-index-init : goal.loop-index-init
unfolding words_to
loop-index-init c = refl

pub loop-index-preserved : goal.loop-index-preserved
loop-index-preserved c =
    let l = c.loop-index in
    lay_word c.args.identity l.index (omega arith) l.page _ c.lay.new.buf l.invariant c.word_bytes.ensures c.lay.ensures.1

pub returns : goal.returns
returns c =
    let l = c.loop-index in
    c.seal.ensures ∙ laid_all c.args.identity l.page l.index l.invariant (omega arith)
