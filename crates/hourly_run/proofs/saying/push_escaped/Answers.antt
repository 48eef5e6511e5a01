use Rattle.std.proofs.Common.{◌≡◌, sym, ap, ◌∙◌, ℕ, List, [], ◌∷◌, ◌++◌, take, drop, append_assoc, append-nil}
use Rattle.std.specs.Char.Iter.{escape_byte_rest}
use Rattle.hourly_run.proofs.saying.push_escaped.Goals as goal

pub loop-c-init : goal.loop-c-init
loop-c-init c =
    let same = c.into_iter-c-iterator.ensures.into_iter_gives in
    record {
      bound = rw same c.escape_ascii-c-items.ensures.bound;
      pushed = ap (λ (r : List ℕ). c.args.text.now.items ++ r) (ap escape_byte_rest same ∙ c.escape_ascii-c-items.ensures.rest);
    }

pub loop-c-preserved : goal.loop-c-preserved
loop-c-preserved c =
    let s = c.in-Some.ensures.steps in
    record {
      bound = rw s.0 c.loop-c.invariant.bound;
      pushed =
          ap (λ (t : List ℕ). t ++ escape_byte_rest c.next.new.self) c.in_ok-push.ensures.items
          ∙ append_assoc c.loop-c.text.items (c.in-Some.c ∷ []) (escape_byte_rest c.next.new.self)
          ∙ ap (λ (r : List ℕ). c.loop-c.text.items ++ r) (sym s.1.0)
          ∙ c.loop-c.invariant.pushed;
    }

pub returns : goal.returns
returns c =
    let left = c.in-None.ensures.steps.1.0 in
    let none : escape_byte_rest c.loop-c.c-iterator ≡ [] = ap (λ (n : ℕ). take n (drop c.loop-c.c-iterator.from c.loop-c.c-iterator.bytes)) left in
    sym (append-nil c.loop-c.text.items) ∙ ap (λ (r : List ℕ). c.loop-c.text.items ++ r) (sym none) ∙ c.loop-c.invariant.pushed
