-- Laws of the commands of a history: what one more event does to all of them, and to how many are outstanding.
use Rattle.std.proofs.Common.{◌≡◌, refl, sym, ap, ap₂, ◌∙◌, Bool, true, ◌&&◌, List, [], ◌∷◌, map, ℕ, zero, suc, ◌+◌, ◌<◌, zero-add, add-zero, arith, eqb, eq-eqb, ne_eqb}
use mathlib.Core.Bool.{and-true}
use Rattle.bits.specs.Pick.{pick}
use Rattle.bits.proofs.Picks.{by_test}
use Rattle.history.specs.Seen.{Seen, accepts}
use Rattle.history.specs.Fates.{Command, later, commands, own_tag, ends, outstanding_at, outstanding, one, how_many, All, total, total_with}
use Rattle.history.proofs.Alls.{all_step}

-- ---- how many are outstanding with a tag

-- a command is outstanding with tag t
abbrev is_out : ℕ → Command → Bool
is_out t c = eqb (own_tag c) t && outstanding c

-- of one command more, by its tag u and what came after it: an event that ends tag t leaves none of that tag outstanding, any other leaves all
out_at : (t : ℕ) (e : Seen) (n u : ℕ) (a : List Seen) → one (eqb u t && outstanding_at u (e ∷ a)) + pick (ends t e) 0 n ≡ pick (ends t e) 0 (one (eqb u t && outstanding_at u a) + n)
unfolding outstanding_at
out_at t e n u a = grind arith

out_one : (t : ℕ) (e : Seen) (c : Command) (n : ℕ) → one (is_out t (later e c)) + pick (ends t e) 0 n ≡ pick (ends t e) 0 (one (is_out t c) + n)
out_one t e c n = out_at t e n (own_tag c) c.after

-- of all commands of a list
out_map : (t : ℕ) (e : Seen) (cs : List Command) → how_many (is_out t) (map (later e) cs) ≡ pick (ends t e) 0 (how_many (is_out t) cs)
unfolding how_many
out_map t e [] = sym (by_test (λ (n : ℕ). n ≡ 0) (ends t e) 0 0 (λ _. refl) (λ _. refl))
out_map t e (c ∷ cs) = ap (λ (n : ℕ). one (is_out t (later e c)) + n) (out_map t e cs) ∙ out_one t e c (how_many (is_out t) cs)

-- how many are so, of a list that may have a command more
pub many_pick : (p : Command → Bool) (a : Bool) (c : Command) (cs : List Command) → how_many p (pick a (c ∷ cs) cs) ≡ one (a && p c) + how_many p cs
unfolding how_many
many_pick p a c cs = grind arith

-- a command more where one of tag t is accepted, none of the older where the event ends tag t
pub with_step : (t : ℕ) (e : Seen) (h : List Seen)
    → total_with t (e ∷ h) ≡ one (accepts e && eqb e.asks.tag t) + pick (ends t e) 0 (total_with t h)
unfolding total_with commands outstanding_at
with_step t e h =
    many_pick (is_out t) (accepts e) (record { accepted = e; after = [] }) (map (later e) (commands h))
    ∙ ap₂ (λ (a : Bool) (n : ℕ). one (accepts e && a) + n) (and-true (eqb e.asks.tag t)) (out_map t e (commands h))

-- none at first
pub with_none : (t : ℕ) → total_with t [] ≡ 0
unfolding total_with commands how_many
with_none t = refl

-- ---- sums over tags

-- the sum of f over the numbers below k
unfoldable pub sum_below : (ℕ → ℕ) → ℕ → ℕ
sum_below f zero = 0
sum_below f (suc k) = f 0 + sum_below (λ t. f (suc t)) k

-- the same summands, the same sum
pub sum_ext : (f g : ℕ → ℕ) (k : ℕ) → ((t : ℕ) → t < k → f t ≡ g t) → sum_below f k ≡ sum_below g k
unfolding sum_below
sum_ext f g zero e = refl
sum_ext f g (suc k) e = ap₂ (λ (a b : ℕ). a + b) (e 0 (omega arith)) (sum_ext (λ t. f (suc t)) (λ t. g (suc t)) k (λ t l. e (suc t) (omega arith)))

-- a sum of nothing
pub sum_none : (k : ℕ) → sum_below (λ t. 0) k ≡ 0
unfolding sum_below
sum_none zero = refl
sum_none (suc k) = zero-add (sum_below (λ t. 0) k) ∙ sum_none k

-- two sums in one
sum_add : (f g : ℕ → ℕ) (k : ℕ) → sum_below (λ t. f t + g t) k ≡ sum_below f k + sum_below g k
unfolding sum_below
sum_add f g zero = refl
sum_add f g (suc k) = let ih = sum_add (λ t. f (suc t)) (λ t. g (suc t)) k in omega arith

-- one summand that is not 0
sum_one : (u : ℕ) (b : Bool) (k : ℕ) → u < k → sum_below (λ t. one (eqb u t && b)) k ≡ one b
unfolding sum_below
sum_one u b zero l = absurd (omega arith)
sum_one zero b (suc k) l =
    ap₂ (λ (x : Bool) (n : ℕ). one (x && b) + n) (eq-eqb 0 0 refl)
    (sum_ext (λ t. one (eqb 0 (suc t) && b)) (λ t. 0) k (λ t _. ap (λ (x : Bool). one (x && b)) (ne_eqb 0 (suc t) (λ x. absurd (omega arith)))) ∙ sum_none k)
    ∙ add-zero (one b)
sum_one (suc u) b (suc k) l =
    ap₂ (λ (x : Bool) (n : ℕ). one (x && b) + n) (ne_eqb (suc u) 0 (λ x. absurd (omega arith)))
    (sum_ext (λ t. one (eqb (suc u) (suc t) && b)) (λ t. one (eqb u t && b)) k (λ t _. ap (λ (x : Bool). one (x && b)) (let e : eqb (suc u) (suc t) ≡ eqb u t = grind arith in e)) ∙ sum_one u b k (omega arith))
    ∙ zero-add (one b)

-- ---- all that are outstanding, tag by tag

-- of a list of commands
many_sum : (k : ℕ) (cs : List Command) → All (λ c. own_tag c < k) cs → how_many outstanding cs ≡ sum_below (λ t. how_many (is_out t) cs) k
unfolding how_many All
many_sum k [] a = sym (sum_none k)
many_sum k (c ∷ cs) a =
    ap₂ (λ (x y : ℕ). x + y) (sym (sum_one (own_tag c) (outstanding c) k a.0)) (many_sum k cs a.1)
    ∙ sym (sum_add (λ t. one (is_out t c)) (λ t. how_many (is_out t) cs) k)

-- every command's tag is below a bound
abbrev pub TagsBelow : ℕ → List Seen → Type 0
TagsBelow k h = All (λ c. own_tag c < k) (commands h)

-- how many are outstanding is the sum over the tags
pub total_sum : (k : ℕ) (h : List Seen) → TagsBelow k h → total h ≡ sum_below (λ t. total_with t h) k
unfolding total total_with
total_sum k h a = many_sum k (commands h) a

-- the tags of a history and one more event are below the bound, where that of the command that it accepts is
pub tags_step : (k : ℕ) (e : Seen) (h : List Seen) → (accepts e ≡ true → e.asks.tag < k) → TagsBelow k h → TagsBelow k (e ∷ h)
tags_step k e h new a = all_step (λ c. own_tag c < k) (λ c. own_tag c < k) e h new (λ c l. l) a

-- of no events
pub tags_none : (k : ℕ) → TagsBelow k []
unfolding All commands
tags_none k = tt
