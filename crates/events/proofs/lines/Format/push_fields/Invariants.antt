use Rattle.std.proofs.Common.{◌≡◌, ◌++◌}
use Rattle.frames.specs.Cut.{cut}
use Rattle.events.specs.Lines.{fields_of}
use Rattle.events.proofs.lines.Format.push_fields.Given as goal

-- what is gathered, and the fields of the replies that are left
abbrev pub invariant-loop-reply : goal.invariant-loop-reply
invariant-loop-reply l = l.lines.items ++ fields_of l.self.traced l.reply-iterator ≡ l.fn.lines.items ++ fields_of l.self.traced (cut l.replies)
