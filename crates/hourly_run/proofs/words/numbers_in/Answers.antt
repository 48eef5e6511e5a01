use Rattle.std.proofs.Common.{sym, ◌∙◌, ◌<◌, ◌≤◌, ℕ, List, [], length, map, get_or, arith}
use Rattle.std.specs.Borrow.{Bor}
use Rattle.std.proofs.lemmas.List.{get_or-map, length-map}
use Rattle.hourly_run.specs.Numbers.{numbers_in}
use Rattle.hourly_run.proofs.HexNumbers.{none_behind, word_more, word_none, words_all}
use Rattle.hourly_run.proofs.words.numbers_in.Goals as goal

abbrev now : Bor (List ℕ) → List ℕ
now word = word.now

pub loop-word-init : goal.loop-word-init
loop-word-init c = rw c.new-numbers.ensures.items (none_behind (numbers_in (map now c.args.words.now)))

pub returns-in-None : goal.returns-in-None
returns-in-None c =
    let words = map now c.args.words.now in
    let word = get_or c.args.words.now c.loop-word.word-index (record { ref_ptr = (0, 0); now = [] }) in
    let there : c.loop-word.word-index < length words = (let l = length-map c.args.words.now now in let t = c.loop-word-test.true in omega arith) in
    word_none words c.loop-word.word-index word.now there (get_or-map now c.args.words.now c.loop-word.word-index (record { ref_ptr = (0, 0); now = [] }) [] c.loop-word-test.true) c.loop-word.numbers.items c.loop-word.invariant
    (sym c.in-None.is ∙ c.number_of.ensures)

pub loop-word-preserved : goal.loop-word-preserved
loop-word-preserved c =
    let words = map now c.args.words.now in
    let word = get_or c.args.words.now c.loop-word.word-index (record { ref_ptr = (0, 0); now = [] }) in
    let there : c.loop-word.word-index < length words = (let l = length-map c.args.words.now now in let t = c.loop-word-test.true in omega arith) in
    rw c.in_ok-push-in-Some.ensures.items
    (word_more words c.loop-word.word-index word.now there (get_or-map now c.args.words.now c.loop-word.word-index (record { ref_ptr = (0, 0); now = [] }) [] c.loop-word-test.true) c.loop-word.numbers.items c.loop-word.invariant
    c.in-Some.number (sym c.in-Some.is ∙ c.number_of.ensures))

pub returns : goal.returns
returns c =
    let words = map now c.args.words.now in
    let past : length words ≤ c.loop-word.word-index = (let l = length-map c.args.words.now now in let t = c.loop-word-test.false in omega arith) in
    words_all words c.loop-word.word-index c.loop-word.numbers.items past c.loop-word.invariant
