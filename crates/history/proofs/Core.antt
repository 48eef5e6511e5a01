-- The set outstanding and the halt of a device, held together with its history: kept by each of the eleven kinds of effect.
use Rattle.std.proofs.Common.{◌≡◌, refl, sym, ap, ◌∙◌, Bool, true, false, not, ◌&&◌, ◌||◌, true≢false, List, [], ◌∷◌, ℕ, ◌-◌, ◌^◌, ◌<◌, zero-add, lt_of_le_of_lt, eqb, ltb, lit<, eqb-true, eq-eqb, lt-ltb, arith}
use mathlib.Core.Bool.{and-true, and-false, false≢true}
use lib.Bits.{or_lt, and_le_l}
use lib.Count.{ones, ones_in}
use lib.Pow.{pow-lt}
use Rattle.bits.specs.Pick.{pick}
use Rattle.bits.specs.Bit.{bit_in, with_bit_in, clear_in}
use Rattle.bits.proofs.Masks.{no_bit}
use Rattle.device.proofs.Tags.{bit_with, bit_without}
use Rattle.device.specs.declared.state.Device.{Device}
use Rattle.history.specs.Seen.{Seen, accepts}
use Rattle.history.specs.Fates.{one, total, total_with}
use Rattle.history.specs.Waits.{sactive, waits, given_up_there, bad_since}
use Rattle.history.specs.Faithful.{Sactive, Waiting}
use Rattle.history.proofs.Class as kinds
use Rattle.history.proofs.Class.{Class, Is, none}
use Rattle.history.proofs.Commands.{TagsBelow, tags_step, tags_none, with_none}
use Rattle.history.proofs.CoreSteps.{waits_is, sactive_is, number_is, asked_is, blamed, blamed_on, blamed_new, ones_some, total_ones}

-- k is the set outstanding, `halted` says whether the device is halted, h is what was seen
pub record Inv (k : ℕ) (halted : Bool) (h : List Seen) : Type 0 where
  pub bound : k < 2 ^ 32
  pub tags : TagsBelow 32 h
  -- one command is outstanding with each tag of the set, and none with another
  pub number : (t : ℕ) → t < 32 → total_with t h ≡ one (bit_in 32 k t)
  -- an error waits exactly while halted
  pub waiting : waits h ≡ halted
  -- not halted, SActive is the set
  pub calm : halted ≡ false → (t : ℕ) → t < 32 → sactive t h ≡ bit_in 32 k t
  -- halted, nothing is outstanding, and SActive names the tags given up, and those of queued commands answered with an error since
  pub stop : halted ≡ true → (k ≡ 0) × ((t : ℕ) → t < 32 → sactive t h ≡ blamed t h)

-- at power-on
pub inv_start : Inv 0 false []
unfolding waits sactive
inv_start = record {
  bound = lit< tt;
  tags = tags_none 32;
  number = λ t _. rw (no_bit t) (with_none t);
  waiting = refl;
  calm = λ _ t _. sym (no_bit t);
  stop = λ x. absurd (false≢true x);
}

-- ---- the kinds of effect

-- as many are outstanding as the set has ones
pub inv_total : {k : ℕ} {b : Bool} {h : List Seen} → Inv k b h → total h ≡ ones k
inv_total {k} {b} {h} v = total_ones k h v.bound v.tags v.number

-- some are outstanding exactly when the set is not empty
some_is : {k : ℕ} {b : Bool} {h : List Seen} → Inv k b h → ltb 0 (total h) ≡ not (eqb k 0)
some_is {k} v = ap (ltb 0) (inv_total v) ∙ ones_some k

-- an event that accepts nothing brings no tag
same_tags : {k : ℕ} {b : Bool} {h : List Seen} → Inv k b h → (e : Seen) → accepts e ≡ false → TagsBelow 32 (e ∷ h)
same_tags {k} {b} {h} v e x = tags_step 32 e h (λ y. absurd (false≢true (sym x ∙ y))) v.tags

module _ {k : ℕ} {b : Bool} {h : List Seen} (v : Inv k b h) {e : Seen} where
  -- nothing that is read here; a page, if no error waits
  keep_plain : {de : Bool} {se br : ℕ} → Is e false false false false false false de none none se br → pick b (not de && true) false ≡ b → Inv k b (e ∷ h)
  keep_plain {de} i w = record {
    bound = v.bound;
    tags = same_tags v e i.accepted;
    number = λ t u. number_is h i t ∙ zero-add (total_with t h) ∙ v.number t u;
    waiting = waits_is h i ∙ ap (λ (x : Bool). pick x (not de && true) false) v.waiting ∙ w;
    calm = λ x t u. sactive_is h i t ∙ and-true (sactive t h) ∙ v.calm x t u;
    stop = λ x. (
      (v.stop x).0,
      λ t u. sactive_is h i t ∙ and-true (sactive t h) ∙ (v.stop x).1 t u
          ∙ sym (blamed_on t e h (v.waiting ∙ x) ∙ ap (λ (a : Bool). given_up_there t h || (a || bad_since t h)) (asked_is h i t)),
    );
  }

  -- an error answered while halted
  keep_again : {q : Bool} → Is e q false true false false false false none none 0 0 → b ≡ true → Inv k b (e ∷ h)
  keep_again {q} i x = record {
    bound = v.bound;
    tags = same_tags v e i.accepted;
    number = λ t u. number_is h i t ∙ sym (rw (v.stop x).0 (ap one (no_bit t)));
    waiting = waits_is h i ∙ rw (v.waiting, x);
    calm = λ y. absurd (true≢false (sym x ∙ y));
    stop = λ _. (
      (v.stop x).0,
      λ t u. rw (sactive_is h i t, blamed_on t e h (v.waiting ∙ x), asked_is h i t, (v.stop x).1 t u) (grind arith),
    );
  }

  -- an error answered to a command that is not queued, while nothing is outstanding
  keep_freely : Is e false false true false false false false none none 0 0 → b ≡ false → k ≡ 0 → Inv k b (e ∷ h)
  keep_freely i x z = record {
    bound = v.bound;
    tags = same_tags v e i.accepted;
    number = λ t u. number_is h i t ∙ sym (rw z (ap one (no_bit t)));
    waiting = waits_is h i ∙ rw (v.waiting, x, some_is v, eq-eqb k 0 z);
    calm = λ y t u. sactive_is h i t ∙ and-true (sactive t h) ∙ v.calm y t u;
    stop = λ y. absurd (false≢true (sym x ∙ y));
  }

  -- a halt
  keep_halts : {q ba fa : Bool} → Is e q false ba fa false false false none none 0 0 → (q ≡ true → fa ≡ false) → b ≡ false → (ba && (q || not (eqb k 0))) || fa ≡ true → Inv 0 true (e ∷ h)
  keep_halts {q} {ba} {fa} i a x c =
      let bad : ba || fa ≡ true = grind arith in
      record {
        bound = lit< tt;
        tags = same_tags v e i.accepted;
        number = λ t u. number_is h i t ∙ rw (bad, no_bit t);
        waiting = waits_is h i ∙ rw (v.waiting, x, some_is v) c;
        calm = λ y. absurd (true≢false y);
        stop = λ _. (
          refl,
          λ t u. rw (sactive_is h i t, blamed_new t e h (v.waiting ∙ x), asked_is h i t, v.calm x t u, v.number t u) (grind arith),
        );
      }

  -- SRST, COMRESET
  keep_resets : Is e false false false false true false false none none 0 0 → Inv 0 false (e ∷ h)
  keep_resets i = record {
    bound = lit< tt;
    tags = same_tags v e i.accepted;
    number = λ t u. number_is h i t ∙ sym (ap one (no_bit t));
    waiting = waits_is h i ∙ grind arith;
    calm = λ _ t u. sactive_is h i t ∙ and-false (sactive t h) ∙ sym (no_bit t);
    stop = λ y. absurd (false≢true y);
  }

  -- the sweep
  keep_sweeps : {cl : ℕ → Bool} → ((t : ℕ) → t < 32 → cl t ≡ true) → Is e false false false false false true true none cl 0 0 → b ≡ true → Inv 0 false (e ∷ h)
  keep_sweeps {cl} all i x = record {
    bound = lit< tt;
    tags = same_tags v e i.accepted;
    number = λ t u. number_is h i t ∙ zero-add (total_with t h) ∙ v.number t u ∙ ap (λ (n : ℕ). one (bit_in 32 n t)) (v.stop x).0;
    waiting = waits_is h i ∙ grind arith;
    calm = λ _ t u. sactive_is h i t ∙ rw (all t u) (and-false (sactive t h)) ∙ sym (no_bit t);
    stop = λ y. absurd (false≢true y);
  }

  -- a command accepted
  keep_takes : Is e true true false false false false false none none 0 0 → b ≡ false → e.asks.tag < 32 → bit_in 32 k e.asks.tag ≡ false
      → Inv (with_bit_in 32 k e.asks.tag) b (e ∷ h)
  keep_takes i x l free = record {
    bound = rw (lt-ltb e.asks.tag 32 l) (or_lt 32 k (2 ^ e.asks.tag) v.bound (pow-lt l));
    tags = tags_step 32 e h (λ _. l) v.tags;
    number = λ t u.
        let f : eqb e.asks.tag t ≡ true → bit_in 32 k t ≡ false = λ y. ap (bit_in 32 k) (sym (eqb-true e.asks.tag t y)) ∙ free in
        rw (number_is h i t, v.number t u, with_is t u) (grind arith);
    waiting = waits_is h i ∙ rw v.waiting (grind arith);
    calm = λ y t u. sactive_is h i t ∙ and-true (eqb e.asks.tag t || sactive t h) ∙ ap (λ (s : Bool). eqb e.asks.tag t || s) (v.calm y t u) ∙ sym (with_is t u);
    stop = λ y. absurd (false≢true (sym x ∙ y));
  }
    where
      with_is : (t : ℕ) → t < 32 → bit_in 32 (with_bit_in 32 k e.asks.tag) t ≡ eqb e.asks.tag t || bit_in 32 k t
      with_is t u = bit_with k e.asks.tag t l u ∙ ap (λ (s : Bool). s || bit_in 32 k t) (let y : eqb t e.asks.tag ≡ eqb e.asks.tag t = grind arith in y)

  -- a set of tags finished
  keep_ends : (set : ℕ) → Is e false false false false false false false (bit_in 32 set) (bit_in 32 set) 0 0 → b ≡ false → set < 2 ^ 32 → Inv (clear_in 32 k set) b (e ∷ h)
  keep_ends set i x l = record {
    bound = lt_of_le_of_lt (and_le_l k ((2 ^ 32 - 1) - set)) v.bound;
    tags = same_tags v e i.accepted;
    number = λ t u. rw (number_is h i t, v.number t u, bit_without k set t l u) (grind arith);
    waiting = waits_is h i ∙ rw v.waiting (grind arith);
    calm = λ y t u. rw (sactive_is h i t, v.calm y t u, bit_without k set t l u) (grind arith);
    stop = λ y. absurd (false≢true (sym x ∙ y));
  }

-- every kind of effect keeps it
pub keeps : (d d' : Device) (e : Seen) (h : List Seen) → Inv d.status.outstanding d.status.halted h → Class d e d'
    → Inv d'.status.outstanding d'.status.halted (e ∷ h)
keeps d d' e h v (kinds.plain i u s) = rw (s.outstanding, s.halted) (keep_plain v i (grind arith))
keeps d d' e h v (kinds.pages de i u x s) = rw (s.outstanding, s.halted) (keep_plain v i (rw x))
keeps d d' e h v (kinds.again q i u x z s) = rw (s.outstanding, s.halted) (keep_again v i x)
keeps d d' e h v (kinds.freely i u x z s) = rw (s.outstanding, s.halted) (keep_freely v i x z)
keeps d d' e h v (kinds.halts q ba fa i u a x c s) = rw (s.outstanding, s.halted) (keep_halts v i a x c)
keeps d d' e h v (kinds.resets i u s) = rw (s.outstanding, s.halted) (keep_resets v i)
keeps d d' e h v (kinds.sweeps cl all i u x z p s) = rw (s.outstanding, s.halted) (keep_sweeps v all i x)
keeps d d' e h v (kinds.takes i u s) = rw (s.outstanding, s.halted) (keep_takes v i s.calm s.small s.free)
keeps d d' e h v (kinds.opens tag i s) = rw (s.outstanding, s.halted) (keep_plain v i (grind arith))
keeps d d' e h v (kinds.carries tag n i u s) = rw (s.outstanding, s.halted) (keep_plain v i (grind arith))
keeps d d' e h v (kinds.ends set i u s) = rw (s.outstanding, s.halted) (keep_ends v set i s.calm s.width)

-- ---- what it says

-- one is more than none
pub one_test : (b : Bool) → ltb 0 (one b) ≡ b
one_test b = grind arith

-- while no error waits, SActive names exactly the outstanding tags
pub inv_sactive : {k : ℕ} {b : Bool} {h : List Seen} → Inv k b h → Sactive h
inv_sactive {k} v = λ w t u. v.calm (sym v.waiting ∙ w) t u ∙ sym (ap (ltb 0) (v.number t u) ∙ one_test (bit_in 32 k t))

-- with an empty set nothing is outstanding
pub inv_none : {k : ℕ} {b : Bool} {h : List Seen} → Inv k b h → k ≡ 0 → total h ≡ 0
unfolding ones ones_in
inv_none {k} v e = inv_total v ∙ ap ones e

-- while one waits nothing is outstanding, and SActive names what the demand says
pub inv_waiting : {k : ℕ} {b : Bool} {h : List Seen} → Inv k b h → Waiting h
inv_waiting {k} v = λ w. let s = v.stop (sym v.waiting ∙ w) in (inv_none v s.0, s.1)
