use Rattle.std.proofs.Common.{◌≡◌, ap, true, eqb, get_or, take, drop, arith, rules, tests, length, ◌-◌, length-drop}
use Rattle.std.proofs.lemmas.List.{take_all}
use Rattle.bits.specs.Pick.{pick}
use Rattle.call_scripts.specs.Bytes.{decoded, repeated, word_bytes}
use Rattle.call_scripts.proofs.bytes.word_bytes.Goals as goal

pub returns-then-eq : goal.returns-then-eq
returns-then-eq c =
    let word = c.args.word.now in
    let star : eqb (get_or word 2 0) 42 ≡ true = search (rules, tests, c.if-eq.true, c.eq.ensures, c.get.ensures.lookup) in
    let e : word_bytes word ≡ repeated (take 2 word) (drop 3 word) = ap (λ b. pick b (repeated (take 2 word) (drop 3 word)) (decoded word)) star in
    let rest : take (length word - 3) (drop 3 word) ≡ drop 3 word = take_all _ (drop 3 word) (omega (arith, length-drop 3 word)) in
    rw e (rw rest at c.repeated.ensures)
