-- The size of the table, by the tests and by what is left of the room.
use Rattle.std.proofs.Common.{◌≡◌, refl, sym, ap, ◌∙◌, Bool, true, false, ltb, List, [], ◌∷◌, ◌++◌, ℕ, ◌-◌, ◌≤◌, length, Some, None, Ok, Err, arith, lt-ltb, ltb-false, le-ltb, ⊎_elim}
use Rattle.bits.proofs.Picks.{tested}
use Rattle.hourly_table.specs.Samples.{Sampled}
use Rattle.hourly_table.specs.Refused.{TableTest, refuses, input_tests, first_refusal, unless_refused}
use Rattle.hourly_table.specs.Table.{table, table_tests, table_size}
use Rattle.hourly_table.specs.Room.{left_of}
use Rattle.hourly_table.specs.declared.reasons.TableRefusal.{TableRefusal}
use Rattle.hourly_table.specs.declared.reasons.TableRefusal.TheVariants.{TableShort}
use Rattle.hourly_table.proofs.Firsts.{passed, turned_down}
use Rattle.hourly_table.proofs.Lefts.{left_some, left_none}

refused_earlier : (a b : List TableTest) (r : TableRefusal) → first_refusal a ≡ Some r → first_refusal (a ++ b) ≡ Some r
unfolding first_refusal
refused_earlier [] b r e = absurd (let z : None ≡ Some r = e in cc)
refused_earlier (t ∷ ts) b r e =
    ⊎_elim (λ (y : t.0 ≡ true). rw y (rw y at e)) (λ (n : t.0 ≡ false). rw n (refused_earlier ts b r (rw n at e))) (tested t.0)

refused_later : (a b : List TableTest) → first_refusal a ≡ None → first_refusal (a ++ b) ≡ first_refusal b
unfolding first_refusal
refused_later [] b e = refl
refused_later (t ∷ ts) b e =
    ⊎_elim (λ (y : t.0 ≡ true). absurd (let z : Some t.1 ≡ None = rw y at e in cc)) (λ (n : t.0 ≡ false). rw n (refused_later ts b (rw n at e))) (tested t.0)

none_earlier : (a b : List TableTest) → first_refusal (a ++ b) ≡ None → first_refusal a ≡ None
unfolding first_refusal
none_earlier [] b e = refl
none_earlier (t ∷ ts) b e =
    ⊎_elim (λ (y : t.0 ≡ true). absurd (let z : Some t.1 ≡ None = rw y at e in cc)) (λ (n : t.0 ≡ false). rw n (none_earlier ts b (rw n at e))) (tested t.0)

long_enough : (room n : ℕ) → first_refusal (refuses TableShort (ltb room n) ∷ []) ≡ None → n ≤ room
unfolding first_refusal
long_enough room n e =
    ⊎_elim (λ (y : ltb room n ≡ true). absurd (let z : Some TableShort ≡ None = rw y at e in cc)) (λ (f : ltb room n ≡ false). ltb-false room n f) (tested (ltb room n))

short_given : (short : Bool) → short ≡ true → first_refusal (refuses TableShort short ∷ []) ≡ Some TableShort
unfolding first_refusal
short_given short e = rw e refl

long_given : (short : Bool) → short ≡ false → first_refusal (refuses TableShort short ∷ []) ≡ None
unfolding first_refusal
long_given short e = rw e refl

module _ (samples : List Sampled) (numbers : List ℕ) (room : ℕ) where
  abbrev short : Bool
  short = ltb room (length (table samples numbers))

  -- refused for its input
  pub size_refused : (r : TableRefusal) → Err r ≡ unless_refused {A = Unit {0}} (first_refusal (input_tests samples numbers)) tt → Err r ≡ table_size samples numbers room
  size_refused r e =
      ap (λ o. unless_refused o (length (table samples numbers)))
      (sym (refused_earlier (input_tests samples numbers) (refuses TableShort short ∷ []) r (turned_down (first_refusal (input_tests samples numbers)) tt r e)))

  -- or for the room
  pub size_short : first_refusal (input_tests samples numbers) ≡ None → None ≡ left_of room (table samples numbers) → Err TableShort ≡ table_size samples numbers room
  size_short p e =
      ap (λ o. unless_refused o (length (table samples numbers)))
      (sym (refused_later (input_tests samples numbers) (refuses TableShort short ∷ []) p ∙ short_given short (lt-ltb room (length (table samples numbers)) (left_none room (table samples numbers) e))))

  -- or given
  pub size_given : (left : ℕ) → first_refusal (input_tests samples numbers) ≡ None → Some left ≡ left_of room (table samples numbers) → Ok (room - left) ≡ table_size samples numbers room
  size_given left p e =
      let l = left_some room (table samples numbers) left e in
      ap Ok (omega (arith, l.fits, l.rest))
      ∙ ap (λ o. unless_refused o (length (table samples numbers)))
      (sym (refused_later (input_tests samples numbers) (refuses TableShort short ∷ []) p ∙ long_given short (le-ltb room (length (table samples numbers)) l.fits)))

  -- what is known where it is given
  pub record Passed (size : ℕ) : Type 0 where
    pub input : first_refusal (input_tests samples numbers) ≡ None
    pub room_for : length (table samples numbers) ≤ room
    pub whole : size ≡ length (table samples numbers)

  pub given : (size : ℕ) → Ok size ≡ table_size samples numbers room → Passed size
  given size e =
      let p = passed (first_refusal (table_tests samples numbers room)) (length (table samples numbers)) size e in
      let input = none_earlier (input_tests samples numbers) (refuses TableShort short ∷ []) p.0 in
      record {
        input = input;
        room_for = long_enough room (length (table samples numbers)) (sym (refused_later (input_tests samples numbers) (refuses TableShort short ∷ []) input) ∙ p.0);
        whole = p.1;
      }
