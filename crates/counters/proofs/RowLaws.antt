-- Laws of the sixteen rows: each identifier has its row, and no other number has one.
use Rattle.std.proofs.Common.{◌≡◌, refl, ap, sym, ◌∙◌, Bool, false, ℕ, ◌<◌, length, Option, Some, None, T, eqb, ltb, ltb→lt, eqb-true, arith}
use Rattle.std.proofs.lemmas.List.Quantifiers.{position-Some}
use Rattle.bits.proofs.Tables.{below_all}
use Rattle.counters.specs.Rows.{ids, id_of, row_of, place_answer}
use Rattle.counters.specs.declared.rows.TheConstants.{IDENTIFIERS}

-- the public constant has the identifiers of the rows
pub identifiers_ids : IDENTIFIERS ≡ ids
unfolding ids
identifiers_ids = refl

-- there are sixteen
pub length_ids : length ids ≡ 16
unfolding ids
length_ids = refl

-- ---- the table

at_row : ℕ → Option ℕ → Bool
at_row k (Some j) = eqb j k
at_row k None = false

at_row_lem : (k : ℕ) (row : Option ℕ) → T (at_row k row) → row ≡ Some k
unfolding at_row
at_row_lem k row t = grind arith

finds : ℕ → Bool
finds k = at_row k (row_of (id_of k))

-- the identifier of a row has that row
pub row_found : (k : ℕ) → k < 16 → row_of (id_of k) ≡ Some k
unfolding finds at_row row_of ids
row_found k h = at_row_lem k (row_of (id_of k)) (below_all 16 finds tt k h)

-- two rows have two identifiers
pub id_other : (j k : ℕ) → j < 16 → k < 16 → (j ≡ k → ⊥) → id_of j ≡ id_of k → ⊥
id_other j k hj hk d e =
    let r : Some j ≡ Some k = sym (row_found j hj) ∙ ap row_of e ∙ row_found k hk in
    d cc

-- identifiers are numbers of 12 bits, and not 0
positive : ℕ → Bool
positive k = ltb 0 (id_of k)

small : ℕ → Bool
small k = ltb (id_of k) 4096

pub id_positive : (k : ℕ) → k < 16 → 0 < id_of k
unfolding positive ids
id_positive k h = ltb→lt 0 (id_of k) (below_all 16 positive tt k h)

pub id_small : (k : ℕ) → k < 16 → id_of k < 4096
unfolding small ids
id_small k h = ltb→lt (id_of k) 4096 (below_all 16 small tt k h)

-- a number that has a row is that row's identifier
pub row_only : (n k : ℕ) → row_of n ≡ Some k → (k < 16) × (id_of k ≡ n)
unfolding row_of
row_only n k e =
    let f = position-Some (λ (id : ℕ). eqb id n) ids k 0 e in
    (rw length_ids at f.0, eqb-true (id_of k) n f.1)

-- a number that has no row is no row's identifier
pub row_missing : (n : ℕ) → row_of n ≡ None → (k : ℕ) → k < 16 → id_of k ≡ n → ⊥
row_missing n e k h s =
    let r : None ≡ Some k = sym e ∙ ap row_of (sym s) ∙ row_found k h in
    cc

-- what is told of a place tells it from every other, and from none
pub place_told : (a b : Option ℕ) → place_answer a ≡ place_answer b → a ≡ b
unfolding place_answer
place_told a b e = grind arith
