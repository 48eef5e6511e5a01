-- What one more event does to SActive, to how many are outstanding and to a waiting error, by what is seen of it; and the ones of a set of tags.
use Rattle.std.proofs.Common.{◌≡◌, refl, sym, ap, ap₂, ◌∙◌, Bool, true, false, not, ◌&&◌, ◌||◌, List, ◌∷◌, ℕ, zero, suc, ◌+◌, ◌/◌, ◌%◌, ◌^◌, ◌<◌, div-one, add-one, arith, eqb, ltb, shr_lt}
use lib.Arith.{lt-one, bin_ind}
use lib.Count.{ones, ones_in, ones_step}
use Rattle.bits.specs.Pick.{pick}
use Rattle.bits.specs.Bit.{bit_in}
use Rattle.std.proofs.lemmas.Nat.Bits.{bit_at-lt, bit_at-suc}
use Rattle.history.specs.Replied.{some}
use Rattle.history.specs.Seen.{Seen}
use Rattle.history.specs.Fates.{ends, one, total, total_with}
use Rattle.history.specs.Waits.{sactive, waits, before, since, given_up_there, asks_bad, bad_since}
use Rattle.history.proofs.Class.{Is}
use Rattle.history.proofs.Commands.{with_step, sum_below, sum_ext, TagsBelow, total_sum}

-- ---- one more event

module _ {e : Seen} {qu ac ba fa re sw de : Bool} {fi cl : ℕ → Bool} {se br : ℕ} (h : List Seen) (i : Is e qu ac ba fa re sw de fi cl se br) where
  -- whether an error waits
  pub waits_is : waits (e ∷ h) ≡ pick (waits h) (not de && not re) ((ba && (qu || ltb 0 (total h))) || fa)
  unfolding waits
  waits_is = rw (i.delivers, i.resets, i.bad, i.queued, i.fails)

  -- SActive
  pub sactive_is : (t : ℕ) → sactive t (e ∷ h) ≡ ((qu && eqb e.asks.tag t) || sactive t h) && (not (cl t) && not re)
  unfolding sactive
  sactive_is t = rw (i.queued, i.clears t, i.resets)

  -- how many are outstanding with a tag
  pub number_is : (t : ℕ) → total_with t (e ∷ h) ≡ one (ac && eqb e.asks.tag t) + pick (fi t || ((ba || fa) || re)) 0 (total_with t h)
  number_is t =
      with_step t e h
      ∙ ap (λ (b : Bool). one (b && eqb e.asks.tag t) + pick (ends t e) 0 (total_with t h)) i.accepted
      ∙ rw (i.finishes t, i.bad, i.fails, i.resets)

  -- a queued command answered with an error
  pub asked_is : (t : ℕ) → asks_bad t e ≡ (qu && eqb e.asks.tag t) && ba
  asked_is t = rw (i.queued, i.bad)

-- the tags given up at the error that waits, and those of queued commands answered with an error since
abbrev pub blamed : ℕ → List Seen → Bool
blamed t h = given_up_there t h || bad_since t h

-- while it waits
pub blamed_on : (t : ℕ) (e : Seen) (h : List Seen) → waits h ≡ true → blamed t (e ∷ h) ≡ given_up_there t h || (asks_bad t e || bad_since t h)
unfolding before since some
blamed_on t e h w = rw w

-- at the event that raises it
pub blamed_new : (t : ℕ) (e : Seen) (h : List Seen) → waits h ≡ false → blamed t (e ∷ h) ≡ ltb 0 (total_with t h) || (asks_bad t e || false)
unfolding before since some
blamed_new t e h w = rw w

-- ---- sets of tags

-- a digit is 1 where its bit is on, else 0
bit_digit : (m t : ℕ) → t < 32 → one (bit_in 32 m t) ≡ m / 2 ^ t % 2
bit_digit m t l = grind (arith, bit_at-lt)

-- the ones of a number are the sum of its digits
ones_sum : (k m : ℕ) → m < 2 ^ k → ones m ≡ sum_below (λ t. m / 2 ^ t % 2) k
unfolding sum_below ones ones_in
ones_sum zero m h = ap ones (lt-one h)
ones_sum (suc k) m h =
    ones_step m
    ∙ ap₂ (λ (a b : ℕ). a + b) (ap (λ (n : ℕ). n % 2) (sym (div-one m)))
    (ones_sum k (m / 2) (shr_lt k 1 (rw add-one h)) ∙ sum_ext (λ t. m / 2 / 2 ^ t % 2) (λ t. m / 2 ^ suc t % 2) k (λ t _. sym (bit_at-suc m t)))

-- a number without ones is 0
ones_none : (n : ℕ) → ones n ≡ 0 → n ≡ 0
ones_none =
    bin_ind (λ (n : ℕ). ones n ≡ 0 → n ≡ 0) (λ e. refl)
    (λ n ih e.
    let a : n / 2 ≡ 0 = ih (omega (arith, ones_step n)) in
    let b : n % 2 ≡ 0 = omega (arith, ones_step n) in
    omega arith)

-- it has some exactly when it is not 0
pub ones_some : (k : ℕ) → ltb 0 (ones k) ≡ not (eqb k 0)
unfolding ones ones_in
ones_some k = let none = ones_none k in grind arith

-- as many are outstanding as the set has ones, where each tag of the set has one command outstanding, and no other tag any
pub total_ones : (k : ℕ) (h : List Seen) → k < 2 ^ 32 → TagsBelow 32 h → ((t : ℕ) → t < 32 → total_with t h ≡ one (bit_in 32 k t)) → total h ≡ ones k
total_ones k h l a n =
    total_sum 32 h a
    ∙ sum_ext (λ t. total_with t h) (λ t. k / 2 ^ t % 2) 32 (λ t u. n t u ∙ bit_digit k t u)
    ∙ sym (ones_sum 32 k l)
