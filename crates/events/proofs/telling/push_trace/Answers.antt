use Rattle.std.proofs.Common.{take, ◌-◌, ◌≤◌, ◌∷◌, [], drop, get_or, length, subst, rules}
use Rattle.hex.specs.Hex.{encode_lower}
use Rattle.streams.specs.Gathered.{Pushes}
use Rattle.events.proofs.Pushing.{begun_by, pushed_by, pushed_to_end, hex_next, hex_none, hex_eight_more}
use Rattle.events.proofs.telling.push_trace.Goals as goal

pub loop-rest-init : goal.loop-rest-init
loop-rest-init g c = begun_by (61 ∷ []) (encode_lower c.args.reply.now) c.push.ensures.pushed

pub loop-rest-preserved : goal.loop-rest-preserved
loop-rest-preserved g c =
    let rest = c.loop-rest.rest.now in
    let eight : 8 ≤ length rest = search rules in
    pushed_by (encode_lower (get_or rest 0 0 ∷ get_or rest 1 0 ∷ get_or rest 2 0 ∷ get_or rest 3 0 ∷ get_or rest 4 0 ∷ get_or rest 5 0 ∷ get_or rest 6 0 ∷ get_or rest 7 0 ∷ [])) (encode_lower (take (length rest - 8) (drop 8 rest))) (hex_eight_more rest eight) c.loop-rest.invariant (subst (Pushes _ _) c.lower8.ensures c.push-in-loop-rest.ensures.pushed)

pub loop-byte-init : goal.loop-byte-init
loop-byte-init g c = c.loop-rest.invariant

pub loop-byte-preserved : goal.loop-byte-preserved
loop-byte-preserved g c = pushed_by _ _ (hex_next _ _ c.loop-byte-test.true) c.loop-byte.invariant (subst (Pushes _ _) c.lower.ensures c.push-in-loop-byte.ensures.pushed)

pub returns : goal.returns
returns g c = pushed_to_end (hex_none _ _ c.loop-byte-test.false) c.loop-byte.invariant
