-- The number that hex digits tell, as the library reads it.
use Rattle.std.proofs.Common.{◌≡◌, refl, sym, ap, ◌∙◌, ℕ, suc, ◌+◌, ◌<◌, ◌≤◌, ◌^◌, Bool, true, false, not, ◌||◌, T, eqb, ltb, ltb-true, lt-ltb, le-ltb, List, [], ◌∷◌, ◌++◌, length, get_or, drop, Some, None, Result, Ok, Err, arith, lit<, zero-lt-suc, ne_eqb, append_assoc, append-nil, add-one, drop-cons, drop_of_length-le}
use Rattle.std.specs.Char.{is_ascii_hexdigit, digit_value}
use Rattle.std.specs.List.{list_all}
use Rattle.std.specs.Result.{result_ok}
use Rattle.std.specs.Str.Parse.{AllDigits, digits_value, ParsesUnsigned}
use Rattle.std.proofs.Math.Nat.{pow-le-pow_right}
use Rattle.std.proofs.lemmas.Int.Digits.{digits_value-lt}
use Rattle.bits.proofs.Picks.{and_left, and_right}
use Rattle.bits.proofs.Tables.{below_all}
use Rattle.bits.specs.Little.{Bytes}
use Rattle.hourly_run.specs.Numbers.{number_of, number_before, numbers_in}

implied : (a b : Bool) → T (not a || b) → a ≡ true → b ≡ true
implied true true t e = refl
implied true false t e = absurd t
implied false b t e = absurd (cc)

digit_below : (c : ℕ) → c < 256 → is_ascii_hexdigit c ≡ true → digit_value c < 16
digit_below c h e = ltb-true (digit_value c) 16 (implied (is_ascii_hexdigit c) (ltb (digit_value c) 16) (below_all 256 (λ m. not (is_ascii_hexdigit m) || ltb (digit_value m) 16) tt c h) e)

no_plus : (c : ℕ) → c < 256 → is_ascii_hexdigit c ≡ true → eqb c 43 ≡ false
no_plus c h e = ne_eqb c 43 (λ p. let z : false ≡ true = ap is_ascii_hexdigit (sym p) ∙ e in cc)

all_digits : (word : List ℕ) → Bytes word → list_all is_ascii_hexdigit word ≡ true → AllDigits 16 word
all_digits [] b e = tt
all_digits (c ∷ cs) b e =
    (digit_below c (b 0) (and_left (is_ascii_hexdigit c) (list_all is_ascii_hexdigit cs) e), all_digits cs (λ i. b (suc i)) (and_right (is_ascii_hexdigit c) (list_all is_ascii_hexdigit cs) e))

pub none_hex : (word : List ℕ) → list_all is_ascii_hexdigit word ≡ false → None ≡ number_of word
unfolding number_of
none_hex word e = rw e refl

pub none_long : (word : List ℕ) → list_all is_ascii_hexdigit word ≡ true → 4 < length word → None ≡ number_of word
unfolding number_of
none_long word e h = rw (e, lt-ltb 0 (length word) (omega arith), le-ltb (length word) 5 (omega arith)) refl

-- one to four hex digits, of which the first is no plus
some_of : {E : Type 0} (c : ℕ) (cs : List ℕ) → Bytes (c ∷ cs) → list_all is_ascii_hexdigit (c ∷ cs) ≡ true → length (c ∷ cs) ≤ 4 → (r : Result ℕ E) → ParsesUnsigned 16 16 (c ∷ cs) r → result_ok r ≡ Some (digits_value 16 (c ∷ cs))
some_of c cs b e h (Ok n) p = let q = rw (no_plus c (b 0) (and_left (is_ascii_hexdigit c) (list_all is_ascii_hexdigit cs) e)) at p in ap Some q.1
some_of c cs b e h (Err x) p =
    let q = rw (no_plus c (b 0) (and_left (is_ascii_hexdigit c) (list_all is_ascii_hexdigit cs) e)) at p in
    let all = all_digits (c ∷ cs) b e in
    let below = digits_value-lt 16 (c ∷ cs) all in
    let power : 16 ^ length (c ∷ cs) ≤ 16 ^ 4 = pow-le-pow_right (lit< tt) h in
    absurd (q (((zero-lt-suc (length cs)), all), (omega arith)))

pub read_hex : {E : Type 0} (word : List ℕ) → Bytes word → list_all is_ascii_hexdigit word ≡ true → length word ≤ 4 → (r : Result ℕ E) → ParsesUnsigned 16 16 word r → result_ok r ≡ number_of word
unfolding number_of
read_hex [] b e h (Ok n) p = absurd (let q = p.0.0.0 in omega arith)
read_hex [] b e h (Err x) p = refl
read_hex (c ∷ cs) b e h r p =
    rw (e, lt-ltb 0 (length (c ∷ cs)) (zero-lt-suc (length cs)), lt-ltb (length (c ∷ cs)) 5 (omega arith)) (some_of c cs b e h r p)

-- ---- of several words

-- numbers behind others
abbrev pub behind_numbers : List ℕ → Result (List ℕ) (List ℕ) → Result (List ℕ) (List ℕ)
behind_numbers first (Ok numbers) = Ok (first ++ numbers)
behind_numbers first (Err word) = Err word

pub none_behind : (r : Result (List ℕ) (List ℕ)) → r ≡ behind_numbers [] r
none_behind (Ok numbers) = refl
none_behind (Err word) = refl

before_behind : (first : List ℕ) (word : List ℕ) (n : ℕ) (r : Result (List ℕ) (List ℕ)) → behind_numbers first (number_before word (Some n) r) ≡ behind_numbers (first ++ n ∷ []) r
before_behind first word n (Ok numbers) = ap Ok (sym (append_assoc first (n ∷ []) numbers))
before_behind first word n (Err other) = refl

module _ (words : List (List ℕ)) (i : ℕ) (word : List ℕ) (there : i < length words) (is : get_or words i [] ≡ word) (first : List ℕ) (so : numbers_in words ≡ behind_numbers first (numbers_in (drop i words))) where
  next : drop i words ≡ word ∷ drop (i + 1) words
  next = rw add-one (drop-cons words i [] there ∙ ap (λ w. w ∷ drop (suc i) words) is)

  pub word_more : (n : ℕ) → Some n ≡ number_of word → numbers_in words ≡ behind_numbers (first ++ n ∷ []) (numbers_in (drop (i + 1) words))
  unfolding numbers_in
  word_more n e = so ∙ rw (next, sym e) (before_behind first word n (numbers_in (drop (i + 1) words)))

  pub word_none : None ≡ number_of word → Err word ≡ numbers_in words
  unfolding numbers_in
  word_none e = sym (so ∙ rw (next, sym e) refl)

pub words_all : (words : List (List ℕ)) (i : ℕ) (first : List ℕ) → length words ≤ i → numbers_in words ≡ behind_numbers first (numbers_in (drop i words)) → Ok first ≡ numbers_in words
unfolding numbers_in
words_all words i first h so = sym (so ∙ rw (drop_of_length-le words h) (ap Ok (append-nil first)))
