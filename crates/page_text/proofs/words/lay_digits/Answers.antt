-- The digits of a number, the last one first.
use Rattle.page_text.proofs.Digits.{laying_none, laying_more, laying_front}
use Rattle.page_text.proofs.words.lay_digits.Goals as goal

pub loop-rest-init : goal.loop-rest-init
loop-rest-init c = laying_none c.args.n c.args.places.now c.told-places c.ranges.n.fits

pub loop-rest-preserved : goal.loop-rest-preserved
loop-rest-preserved c = laying_more _ _ _ _ _ _ c.loop-rest.invariant c.loop-rest-test.true c.hex_digit.ensures

pub returns-clause-front : goal.returns-clause-front
returns-clause-front c = laying_front _ _ _ _ _ _ c.loop-rest.invariant
