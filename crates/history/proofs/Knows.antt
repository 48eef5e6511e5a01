-- What the device keeps of its business is what the history tells of it (ByHistory): the commands outstanding, what has moved of them, their ranges, and the open phase.
use Rattle.std.proofs.Common.{◌≡◌, refl, sym, ap, ap₂, ◌∙◌, Bool, true, false, not, ◌&&◌, ◌||◌, List, [], ◌∷◌, map, ⊎_elim, ℕ, zero, suc, ◌+◌, ◌*◌, ◌<◌, arith, eqb, ltb, leb, length, eqb-true, ltb-true, ltb-false}
use mathlib.Core.Bool.{and-true}
use Rattle.bits.proofs.Picks.{tested}
use Rattle.rules.specs.Tests.{outside}
use Rattle.device.specs.declared.state.Device.{Device}
use Rattle.history.specs.Event.{Event}
use Rattle.history.specs.Replied.{some}
use Rattle.history.specs.Seen.{seen}
use Rattle.history.specs.Fates.{Command, commands, own_tag, outstanding, one, how_many, All, total_with}
use Rattle.history.specs.Carried.{span, base}
use Rattle.history.specs.Waits.{waits}
use Rattle.history.specs.ByHistory.{outstanding_with, is_out, whole, covers, under_way_after, holding}
use Rattle.history.proofs.Alls.{all_imp}
use Rattle.history.proofs.Core.{Inv, one_test}
use Rattle.history.proofs.Transfers.{transfer_of}
use Rattle.history.proofs.Moving.{device_entry, busy_at}
use Rattle.history.proofs.Table.{Standing, Following, Tracked}

-- the state d after the history h; a tag of 32 or more is outstanding by neither
pub record Known (d : Device) (h : List Event) : Type 0 where
  pub out : (t : ℕ) → is_out t h ≡ busy_at d t
  pub moved : (t : ℕ) → outstanding_with t whole h ≡ (busy_at d t && eqb (device_entry d t).moved (512 * (device_entry d t).count))
  pub ranged : (t sector : ℕ) → outstanding_with t (covers sector) h ≡ (busy_at d t && not (outside (device_entry d t) sector))
  pub phase : under_way_after h ≡ transfer_of d
  pub held : holding h ≡ d.status.held
  pub halted : waits (map seen h) ≡ d.status.halted

-- ---- some of a list

-- some are so where more than none are
some_many : (p : Command → Bool) (cs : List Command) → some p cs ≡ ltb 0 (how_many p cs)
unfolding some how_many
some_many p [] = refl
some_many p (c ∷ cs) = ap (λ (b : Bool). p c || b) (some_many p cs) ∙ (let e : p c || ltb 0 (how_many p cs) ≡ ltb 0 (one (p c) + how_many p cs) = grind arith in e)

-- where every outstanding command of tag t is so or not as b says, some is so where some is outstanding and b holds
some_same : (t : ℕ) (is : Command → Bool) (b : Bool) (cs : List Command) → All (λ c. eqb (own_tag c) t ≡ true → outstanding c ≡ true → is c ≡ b) cs
    → some (λ c. eqb (own_tag c) t && (outstanding c && is c)) cs ≡ some (λ c. eqb (own_tag c) t && (outstanding c && true)) cs && b
unfolding some All
some_same t is b [] a = refl
some_same t is b (c ∷ cs) a =
    let here = a.0 in
    let rest = some_same t is b cs a.1 in
    grind arith

-- tests that agree of every command
some_ext : (p q : Command → Bool) → ((c : Command) → p c ≡ q c) → (cs : List Command) → some p cs ≡ some q cs
unfolding some
some_ext p q e [] = refl
some_ext p q e (c ∷ cs) = ap₂ ◌||◌ (e c) (some_ext p q e cs)

-- none is so
some_none : (p : Command → Bool) (cs : List Command) → All (λ c. p c ≡ false) cs → some p cs ≡ false
unfolding some All
some_none p [] a = refl
some_none p (c ∷ cs) a = ap₂ ◌||◌ a.0 (some_none p cs a.1)

-- ---- sectors and bytes

-- a sector from `first` on and below its end is not outside
pub covers_not : (first count sector : ℕ) → leb first sector && ltb sector (first + count) ≡ not (ltb sector first || leb (first + count) sector)
covers_not first count sector = grind arith

-- a span has its length
span_length : (a n : ℕ) → length (span a n) ≡ n
unfolding span
span_length a zero = refl
span_length a (suc n) = ap suc (span_length (suc a) n)

-- ---- what is known

module _ (d : Device) (c : Command) (s : Standing d c) where
  -- an outstanding command is wholly carried where its entry says that all has moved
  stands_whole : whole c ≡ eqb (device_entry d (own_tag c)).moved (512 * (device_entry d (own_tag c)).count)
  stands_whole = ap₂ eqb (ap length s.bytes ∙ span_length (base c) (device_entry d (own_tag c)).moved) (ap (λ (n : ℕ). 512 * n) (sym s.count))

  -- and its range is its entry's
  stands_covers : (sector : ℕ) → covers sector c ≡ not (outside (device_entry d (own_tag c)) sector)
  stands_covers sector = ap₂ (λ (a n : ℕ). leb a sector && ltb sector (a + n)) (sym s.first) (sym s.count) ∙ covers_not (device_entry d (own_tag c)).first (device_entry d (own_tag c)).count sector

module _ (d : Device) (h : List Event) (i : Inv d.status.outstanding d.status.halted (map seen h)) where
  -- a tag is outstanding by the history where it is by the state
  known_out : (t : ℕ) → is_out t h ≡ busy_at d t
  unfolding total_with
  known_out t =
      ⊎_elim
      (λ (x : ltb t 32 ≡ true).
      some_ext _ _ (λ c. ap (λ (b : Bool). eqb (own_tag c) t && b) (and-true (outstanding c))) (commands (map seen h))
      ∙ some_many (λ c. eqb (own_tag c) t && outstanding c) (commands (map seen h))
      ∙ ap (ltb 0) (i.number t (ltb-true t 32 x)) ∙ one_test (busy_at d t))
      (λ (x : ltb t 32 ≡ false).
      some_none _ (commands (map seen h)) (all_imp (λ c. own_tag c < 32) _ (λ c l. let k = ltb-false t 32 x in grind arith) (commands (map seen h)) i.tags)
      ∙ rw x)
      (tested (ltb t 32))

  -- a test of the outstanding command of a tag is one of its entry
  known_with : Tracked d (map seen h) → (t : ℕ) (is : Command → Bool) (b : ℕ → Bool) → ((c : Command) → Standing d c → is c ≡ b (own_tag c))
      → outstanding_with t is h ≡ busy_at d t && b t
  known_with k t is b f =
      some_same t is (b t) (commands (map seen h))
      (all_imp (Following d) _ (λ c y u o. f c (y.stands o) ∙ ap b (eqb-true (own_tag c) t u)) (commands (map seen h)) k.commands)
      ∙ ap (λ (x : Bool). x && b t) (known_out t)

  -- all of it, given that reset is held by both or neither
  pub knows : Tracked d (map seen h) → holding h ≡ d.status.held → Known d h
  knows k e = record {
    out = known_out;
    moved = λ t. known_with k t whole (λ u. eqb (device_entry d u).moved (512 * (device_entry d u).count)) (stands_whole d);
    ranged = λ t sector. known_with k t (covers sector) (λ u. not (outside (device_entry d u) sector)) (λ c s. stands_covers d c s sector);
    phase = k.under;
    held = e;
    halted = i.waiting;
  }
