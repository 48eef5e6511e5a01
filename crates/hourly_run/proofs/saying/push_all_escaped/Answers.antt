use Rattle.std.proofs.Common.{◌≡◌, sym, ap, ◌∙◌, ℕ, ◌+◌, List, [], ◌∷◌, ◌++◌, get_or, flat_map, take, take_all, append_assoc, append-nil}
use Rattle.std.specs.Char.Escape.{escape_ascii}
use Rattle.std.proofs.lemmas.Grind.{flat_map-append}
use Rattle.std.proofs.lemmas.List.{take_more}
use Rattle.hourly_run.proofs.saying.push_all_escaped.Goals as goal

pub loop-byte-init : goal.loop-byte-init
loop-byte-init c = sym (append-nil c.args.text.now.items)

pub loop-byte-preserved : goal.loop-byte-preserved
loop-byte-preserved c =
    let bytes = c.args.bytes.now in
    let i = c.loop-byte.byte-index in
    let more : flat_map escape_ascii (take (i + 1) bytes) ≡ flat_map escape_ascii (take i bytes) ++ escape_ascii (get_or bytes i 0) =
    ap (flat_map escape_ascii) (take_more bytes i 0 c.loop-byte-test.true) ∙ flat_map-append escape_ascii (take i bytes) (get_or bytes i 0 ∷ [])
    ∙ ap (λ (t : List ℕ). flat_map escape_ascii (take i bytes) ++ t) (append-nil (escape_ascii (get_or bytes i 0))) in
    c.in_ok-push_escaped.ensures
    ∙ ap (λ (t : List ℕ). t ++ escape_ascii (get_or bytes i 0)) c.loop-byte.invariant
    ∙ append_assoc c.args.text.now.items (flat_map escape_ascii (take i bytes)) (escape_ascii (get_or bytes i 0))
    ∙ ap (λ (t : List ℕ). c.args.text.now.items ++ t) (sym more)

pub returns : goal.returns
returns c = c.loop-byte.invariant ∙ ap (λ (t : List ℕ). c.args.text.now.items ++ flat_map escape_ascii t) (take_all c.loop-byte.byte-index c.args.bytes.now c.loop-byte-test.false)
