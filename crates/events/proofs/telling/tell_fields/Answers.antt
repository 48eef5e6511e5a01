use Rattle.std.proofs.Common.{rules, ◌≡◌, ◌∷◌, ap}
use Rattle.events.specs.Lines.{field_of, fields_of}
use Rattle.events.proofs.Pushing.{pushed_by}
use Rattle.events.proofs.telling.tell_fields.Goals as goal

pub loop-reply-preserved : goal.loop-reply-preserved
loop-reply-preserved g c =
    let next : c.loop-reply.reply-iterator ≡ c.in-Some.reply.now ∷ c.next.new.self = search rules in
    pushed_by (field_of c.args.traced c.in-Some.reply.now) (fields_of c.args.traced c.next.new.self) (ap (fields_of c.args.traced) next) c.loop-reply.invariant c.push_field.ensures
