-- Where white space may stand.
use Rattle.std.proofs.Common.{◌≡◌, ℕ, ◌+◌, ◌%◌, ◌==◌, ◌&&◌, Bool, true, false, not, cond, List, [], ◌∷◌, ◌++◌, length, None, refl, sym, ap, ◌∙◌, arith, eqb-true}
use Rattle.std.specs.Char.{is_ascii_whitespace}
use Rattle.std.specs.List.{filter, list_all, onto_first, slice_split}
use Rattle.std.proofs.lemmas.List.Elements.{filter-append}
use Rattle.page_text.specs.declared.parsing.Notation.{Notation}
use Rattle.page_text.specs.HexText.{digits_each, digits_in, in_units, page_of}

-- so many digits are whole units
abbrev is_whole : Notation → ℕ → Bool
is_whole notation n = n % digits_each notation == 0

-- the groups are whole, with n digits before the first
abbrev fits : Notation → ℕ → List (List ℕ) → Bool
fits notation n [] = is_whole notation n
fits notation n (group ∷ rest) = is_whole notation (n + length group) && list_all (λ g. is_whole notation (length g)) rest

-- the same, digit by digit
abbrev fits_on : Notation → ℕ → List ℕ → Bool
fits_on notation n [] = is_whole notation n
fits_on notation n (c ∷ rest) = cond (is_ascii_whitespace c) (is_whole notation n && fits_on notation 0 rest) (fits_on notation (n + 1) rest)

-- with none before it
fits_none : (notation : Notation) (groups : List (List ℕ)) → list_all (λ g. is_whole notation (length g)) groups ≡ fits notation 0 groups
fits_none notation groups = grind arith

-- a character more, which is white space or none
fits_cons : (notation : Notation) (n c : ℕ) (white : Bool) (groups : List (List ℕ)) (rest : List ℕ)
    → fits notation 0 groups ≡ fits_on notation 0 rest → fits notation (n + 1) groups ≡ fits_on notation (n + 1) rest
    → fits notation n (cond white ([] ∷ groups) (onto_first c groups)) ≡ cond white (is_whole notation n && fits_on notation 0 rest) (fits_on notation (n + 1) rest)
fits_cons notation n c white groups rest none more = grind arith

-- group by group is digit by digit
fits_slice_split : (notation : Notation) (n : ℕ) (text : List ℕ) → fits notation n (slice_split is_ascii_whitespace text) ≡ fits_on notation n text
fits_slice_split notation n [] = let e : n + 0 ≡ n = omega arith in grind (arith, e)
fits_slice_split notation n (c ∷ rest) =
    fits_cons notation n c (is_ascii_whitespace c) (slice_split is_ascii_whitespace rest) rest (fits_slice_split notation 0 rest) (fits_slice_split notation (n + 1) rest)

-- and so the rule
in_units_fits : (notation : Notation) (text : List ℕ) → in_units notation text ≡ fits_on notation 0 text
unfolding in_units
in_units_fits notation text = fits_none notation (slice_split is_ascii_whitespace text) ∙ fits_slice_split notation 0 text

-- white space parts a text in two
fits_on_parted : (notation : Notation) (n w : ℕ) (front back : List ℕ) → is_ascii_whitespace w ≡ true
    → fits_on notation n (front ++ w ∷ back) ≡ (fits_on notation n front && fits_on notation 0 back)
fits_on_parted notation n w [] back white = rw white
fits_on_parted notation n w (c ∷ rest) back white = parted (is_ascii_whitespace c) (fits_on_parted notation 0 w rest back white) (fits_on_parted notation (n + 1) w rest back white) where
  parted : (b : Bool) → fits_on notation 0 (rest ++ w ∷ back) ≡ (fits_on notation 0 rest && fits_on notation 0 back)
      → fits_on notation (n + 1) (rest ++ w ∷ back) ≡ (fits_on notation (n + 1) rest && fits_on notation 0 back)
      → cond b (is_whole notation n && fits_on notation 0 (rest ++ w ∷ back)) (fits_on notation (n + 1) (rest ++ w ∷ back))
      ≡ (cond b (is_whole notation n && fits_on notation 0 rest) (fits_on notation (n + 1) rest) && fits_on notation 0 back)
  parted b none more = grind arith

-- nothing is no unit begun
none_left : (notation : Notation) → 0 % digits_each notation ≡ 0
none_left notation = grind arith

-- only what is left of the last unit counts
is_whole_alike : (notation : Notation) (n m : ℕ) → n % digits_each notation ≡ m % digits_each notation → (n + 1) % digits_each notation ≡ (m + 1) % digits_each notation
is_whole_alike notation n m h = grind arith

-- so many before the first group, or so many
fits_on_alike : (notation : Notation) (n m : ℕ) (text : List ℕ) → n % digits_each notation ≡ m % digits_each notation → fits_on notation n text ≡ fits_on notation m text
fits_on_alike notation n m [] h = ap (λ (k : ℕ). k == 0) h
fits_on_alike notation n m (c ∷ rest) h = let more = fits_on_alike notation (n + 1) (m + 1) rest (is_whole_alike notation n m h) in grind (arith, more)

-- behind whole units all is as at the start
fits_on_behind : (notation : Notation) (n : ℕ) (front back : List ℕ) → fits_on notation n front ≡ true → fits_on notation n (front ++ back) ≡ fits_on notation 0 back
fits_on_behind notation n [] back whole = fits_on_alike notation n 0 back (eqb-true (n % digits_each notation) 0 whole ∙ sym (none_left notation))
fits_on_behind notation n (c ∷ rest) back whole =
    let none = fits_on_behind notation 0 rest back in
    let more = fits_on_behind notation (n + 1) rest back in
    grind (arith, none, more)

-- white space parts a text in two, and either has whole units
in_units_parted : (notation : Notation) (front back : List ℕ) (w : ℕ) → is_ascii_whitespace w ≡ true
    → in_units notation (front ++ w ∷ back) ≡ (in_units notation front && in_units notation back)
in_units_parted notation front back w white =
    rw (in_units_fits notation (front ++ w ∷ back), in_units_fits notation front, in_units_fits notation back) (fits_on_parted notation 0 w front back white)

-- behind whole units white space may stand or not
in_units_spaced : (notation : Notation) (front back : List ℕ) (w : ℕ) → is_ascii_whitespace w ≡ true → in_units notation front ≡ true
    → in_units notation (front ++ w ∷ back) ≡ in_units notation (front ++ back)
in_units_spaced notation front back w white whole =
    in_units_parted notation front back w white ∙ rw whole refl ∙ in_units_fits notation back
    ∙ sym (in_units_fits notation (front ++ back) ∙ fits_on_behind notation 0 front back (sym (in_units_fits notation front) ∙ whole))

-- it is no digit
digits_in_spaced : (front back : List ℕ) (w : ℕ) → is_ascii_whitespace w ≡ true → digits_in (front ++ w ∷ back) ≡ digits_in (front ++ back)
unfolding digits_in
digits_in_spaced front back w white =
    let p = λ (c : ℕ). not (is_ascii_whitespace c) in
    let none : filter p (w ∷ back) ≡ filter p back = rw white refl in
    filter-append p front (w ∷ back) ∙ ap (λ (l : List ℕ). filter p front ++ l) none ∙ sym (filter-append p front back)

-- white space behind whole bytes, or whole words, changes nothing
pub space_between : (notation : Notation) (front back : List ℕ) (w : ℕ) → is_ascii_whitespace w ≡ true → in_units notation front ≡ true
    → page_of notation (front ++ w ∷ back) ≡ page_of notation (front ++ back)
unfolding page_of
space_between notation front back w white whole = rw (in_units_spaced notation front back w white whole, digits_in_spaced front back w white) refl

-- and within one there is no page
pub space_within : (notation : Notation) (front back : List ℕ) (w : ℕ) → is_ascii_whitespace w ≡ true → in_units notation front ≡ false
    → page_of notation (front ++ w ∷ back) ≡ None
unfolding page_of
space_within notation front back w white cut = rw (in_units_parted notation front back w white, cut) refl
