-- The digits of a text, as far as it was gone through.
use Rattle.std.proofs.Common.{◌≡◌, ℕ, ◌+◌, ◌<◌, true, false, List, [], ◌∷◌, ◌++◌, length, get_or, take, drop, sym, ap, ◌∙◌, arith, length-append, append-nil, take-append-drop, length-take-le, not, filter}
use Rattle.std.proofs.lemmas.List.Elements.{filter_more, filter-append}
use Rattle.std.specs.Char.{is_ascii_whitespace}
use Rattle.page_text.specs.HexText.{digits_in}

-- white space is none
pub digits_in_white : (text : List ℕ) (i : ℕ) → i < length text → is_ascii_whitespace (get_or text i 0) ≡ true → digits_in (take (i + 1) text) ≡ digits_in (take i text)
unfolding digits_in
digits_in_white text i h white = rw (filter_more (λ c. not (is_ascii_whitespace c)) text i 0 h, white) (append-nil _)

-- anything else is one
pub digits_in_more : (text : List ℕ) (i : ℕ) → i < length text → is_ascii_whitespace (get_or text i 0) ≡ false
    → digits_in (take (i + 1) text) ≡ digits_in (take i text) ++ get_or text i 0 ∷ []
unfolding digits_in
digits_in_more text i h dark = rw (filter_more (λ c. not (is_ascii_whitespace c)) text i 0 h, dark)

-- one behind a page's is too many
pub digits_beyond : (text digits : List ℕ) (i count : ℕ) → take count digits ≡ digits_in (take i text) → count ≡ 1024 → length digits ≡ 1024 → i < length text → is_ascii_whitespace (get_or text i 0) ≡ false
    → 1024 < length (digits_in text)
unfolding digits_in
digits_beyond text digits i count front full sized h dark =
    let p = λ (c : ℕ). not (is_ascii_whitespace c) in
    let more = ap length (digits_in_more text i h dark) in
    let whole = ap length (sym (filter-append p (take (i + 1) text) (drop (i + 1) text)) ∙ ap (filter p) (take-append-drop (i + 1) text)) in
    omega (arith, ap length front, length-take-le count digits, length-append {A = ℕ})
