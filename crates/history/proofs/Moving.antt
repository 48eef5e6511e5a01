-- What each kind of effect does to the table, as far as the carried positions need it.
use Rattle.std.proofs.Common.{Some, None, ◌≡◌, refl, sym, ap, ap₂, ◌∙◌, subst, ⊎_elim, Bool, true, false, not, ◌||◌, true≢false, List, [], ◌++◌, append-nil, ℕ, ◌+◌, ◌*◌, ◌≤◌, eqb, eqb-true, eq-eqb, arith}
use mathlib.Core.Bool.{false≢true}
use borrow.Author.Tests.{eqb-false}
use Rattle.std.proofs.lemmas.Bool as bools
use Rattle.bits.specs.Bit.{bit_in}
use Rattle.bits.proofs.Picks.{tested, or_left}
use Rattle.device.proofs.Tags.{bit_with, bit_without, busy_below}
use Rattle.device_state.specs.Table.{entry_of}
use Rattle.device_state.specs.declared.shapes.Entry.{Entry}
use Rattle.device.specs.declared.state.Device.{Device}
use Rattle.history.specs.Seen.{Seen, errs, accepts}
use Rattle.history.specs.Fates.{ends}
use Rattle.history.specs.Carried.{load, span, positions}
use Rattle.history.proofs.Class as K
use Rattle.history.proofs.Class.{Took, Carried, Ended, Class}
use Rattle.history.proofs.Spans.{Empty, first_length_none, span_add, belongs_own, belongs_other}
use Rattle.history.proofs.Transfers.{transfer_of, transfer_open, empty_of, closing, load_own}
use Rattle.history.proofs.Sets.{no_busy}

-- the entry of a tag
abbrev pub device_entry : Device → ℕ → Entry
device_entry d t = entry_of d.entries t

-- the tag is outstanding by the state
abbrev pub busy_at : Device → ℕ → Bool
busy_at d t = bit_in 32 d.status.outstanding t

-- a tag that stays outstanding: its entry asks for the same, and what has moved grows by the event's positions
pub record Stays (d : Device) (e : Seen) (d' : Device) (t : ℕ) : Type 0 where
  pub busy : busy_at d' t ≡ true
  pub write : (device_entry d' t).write ≡ (device_entry d t).write
  pub first : (device_entry d' t).first ≡ (device_entry d t).first
  pub count : (device_entry d' t).count ≡ (device_entry d t).count
  pub moved : (device_entry d t).moved ≤ 512 * (device_entry d t).count → (device_entry d' t).moved ≤ 512 * (device_entry d t).count
  pub carried : (start : ℕ) → span start (device_entry d t).moved ++ positions start (device_entry d t).write t e (transfer_of d) ≡ span start (device_entry d' t).moved

-- a command that is accepted: its entry is what was asked for, and nothing has moved
pub record New (e : Seen) (d' : Device) : Type 0 where
  pub shut : d'.status.phase ≡ None
  pub busy : busy_at d' e.asks.tag ≡ true
  pub write : (device_entry d' e.asks.tag).write ≡ e.asks.write
  pub first : (device_entry d' e.asks.tag).first ≡ e.asks.first
  pub count : (device_entry d' e.asks.tag).count ≡ e.asks.count
  pub moved : (device_entry d' e.asks.tag).moved ≡ 0

-- what an event does to the table: tags that stay, that are finished with all moved, that are new; one that ends commands carries nothing
pub record Moving (d : Device) (e : Seen) (d' : Device) : Type 0 where
  pub stay : (t : ℕ) → busy_at d t ≡ true → ends t e ≡ false → Stays d e d' t
  pub over : (t : ℕ) → ends t e ≡ true → Empty e
  pub done : (t : ℕ) → busy_at d t ≡ true → e.finishes t ≡ true → (device_entry d t).moved ≡ 512 * (device_entry d t).count
  pub new : accepts e ≡ true → New e d'

-- a tag whose entry and whose bit stay, at an event that carries nothing of it
stays : (d d' : Device) (e : Seen) (t : ℕ) → ((start : ℕ) → positions start (device_entry d t).write t e (transfer_of d) ≡ []) → busy_at d' t ≡ true → device_entry d' t ≡ device_entry d t → Stays d e d' t
stays d d' e t y b x = record {
  busy = b;
  write = ap (λ (r : Entry). r.write) x;
  first = ap (λ (r : Entry). r.first) x;
  count = ap (λ (r : Entry). r.count) x;
  moved = λ l. rw x l;
  carried = λ start. ap (λ (l : List ℕ). span start (device_entry d t).moved ++ l) (y start)
      ∙ append-nil (span start (device_entry d t).moved) ∙ ap (λ (r : Entry). span start r.moved) (sym x);
}

-- a tag of a state that keeps its set and its table
kept : (d d' : Device) (e : Seen) (t : ℕ) → Empty e → d'.status.outstanding ≡ d.status.outstanding → d'.entries ≡ d.entries → busy_at d t ≡ true → Stays d e d' t
kept d d' e t y o x b = stays d d' e t (λ start. first_length_none start _ t e _ y) (ap (λ (m : ℕ). bit_in 32 m t) o ∙ b) (ap (λ (es : List Entry). entry_of es t) x)

-- a command is accepted: the tags that were outstanding stay
took_stays : (d d' : Device) (e : Seen) → Empty e → Took d e d' → (t : ℕ) → busy_at d t ≡ true → Stays d e d' t
took_stays d d' e y k t b =
    let l = busy_below d.status.outstanding t b in
    stays d d' e t (λ start. first_length_none start _ t e _ y)
    (ap (λ (m : ℕ). bit_in 32 m t) k.outstanding ∙ bit_with d.status.outstanding e.asks.tag t k.small l ∙ bools.or_right (eqb t e.asks.tag) (busy_at d t) b)
    (k.others t l (λ x. true≢false (sym b ∙ ap (busy_at d) x ∙ k.free)))

-- a command is accepted: its own tag
took_new : (d d' : Device) (e : Seen) → Took d e d' → New e d'
took_new d d' e k =
    let t = e.asks.tag in
    record {
      shut = k.phase ∙ k.shut;
      busy = ap (λ (m : ℕ). bit_in 32 m t) k.outstanding ∙ bit_with d.status.outstanding t t k.small k.small ∙ bools.or_left (eqb t t) (busy_at d t) (eq-eqb t t refl);
      write = k.write;
      first = k.first;
      count = k.count;
      moved = k.moved;
    }

-- the tag whose data moved
own_positions : (d : Device) (e : Seen) (tag n : ℕ) → d.status.phase ≡ Some tag → load (not (device_entry d tag).write) e ≡ n
    → (start : ℕ) → positions start (device_entry d tag).write tag e (transfer_of d) ≡ span (start + (device_entry d tag).moved) n
own_positions d e tag n p l start =
    rw (transfer_open d tag p, belongs_own (device_entry d tag).write tag, l) refl

-- a tag whose data did not move
other_positions : (d : Device) (e : Seen) (tag t : ℕ) (w : Bool) → d.status.phase ≡ Some tag → (t ≡ tag → ⊥) → (start : ℕ) → positions start w t e (transfer_of d) ≡ []
other_positions d e tag t w p x start =
    rw (transfer_open d tag p, belongs_other w (not (device_entry d tag).write) t tag (λ y. x (sym y))) refl

-- n bytes of a tag moved
module _ (d d' : Device) (e : Seen) (tag n : ℕ) (k : Carried tag n d d') (l : load (not (device_entry d tag).write) e ≡ n) where
  -- its tag stays outstanding, with that much more moved
  carried_own : Stays d e d' tag
  carried_own = record {
    busy = ap (λ (m : ℕ). bit_in 32 m tag) k.outstanding ∙ k.busy;
    write = k.write;
    first = k.first;
    count = k.count;
    moved = λ _. rw k.moved k.within;
    carried = λ start.
        let m = (device_entry d tag).moved in
        ap (λ (x : List ℕ). span start m ++ x) (own_positions d e tag n k.phased l start)
        ∙ sym (span_add start m n) ∙ ap (span start) (sym k.moved);
  }

  -- each other tag stays as it was
  carried_other : (t : ℕ) → busy_at d t ≡ true → (t ≡ tag → ⊥) → Stays d e d' t
  carried_other t b x =
      stays d d' e t (other_positions d e tag t (device_entry d t).write k.phased x) (ap (λ (m : ℕ). bit_in 32 m t) k.outstanding ∙ b)
      (k.others t (busy_below d.status.outstanding t b) x)

  -- every outstanding tag stays
  carried_stays : (t : ℕ) → busy_at d t ≡ true → Stays d e d' t
  carried_stays t b =
      ⊎_elim
      (λ (x : eqb t tag ≡ true). subst (Stays d e d') (sym (eqb-true t tag x)) carried_own)
      (λ (x : eqb t tag ≡ false). carried_other t b (eqb-false t tag x))
      (tested (eqb t tag))

-- a set of tags is finished: each other tag stays as it was
ended_stays : (d d' : Device) (e : Seen) (set : ℕ) → Empty e → Ended set d d' → (t : ℕ) → busy_at d t ≡ true → bit_in 32 set t ≡ false → Stays d e d' t
ended_stays d d' e set y k t b x =
    let l = busy_below d.status.outstanding t b in
    stays d d' e t (λ start. first_length_none start _ t e _ y)
    (ap (λ (m : ℕ). bit_in 32 m t) k.outstanding ∙ bit_without d.status.outstanding set t k.width l ∙ rw (x, b))
    (k.others t l x)

-- a kind of effect that ends every command, or has none
gone : (d d' : Device) (e : Seen) → Empty e → accepts e ≡ false → ((t : ℕ) → e.finishes t ≡ false) → ((t : ℕ) → busy_at d t ≡ true → ends t e ≡ false → Stays d e d' t) → Moving d e d'
gone d d' e y a f s = record { stay = s; over = λ t x. y; done = λ t b x. absurd (false≢true (sym (f t) ∙ x)); new = λ x. absurd (false≢true (sym a ∙ x)) }

-- of each kind of effect
pub moving : (d d' : Device) (e : Seen) → Class d e d' → Moving d e d'
moving d d' e (K.plain s u k) = gone d d' e (empty_of s) s.accepted s.finishes (λ t b x. kept d d' e t (empty_of s) k.outstanding k.entries b)
moving d d' e (K.pages de s u y k) = gone d d' e (empty_of s) s.accepted s.finishes (λ t b x. kept d d' e t (empty_of s) k.outstanding k.entries b)
moving d d' e (K.again q s u ha o k) = gone d d' e (empty_of s) s.accepted s.finishes (λ t b x. absurd (let c = closing s in grind arith))
moving d d' e (K.freely s u ha o k) = gone d d' e (empty_of s) s.accepted s.finishes (λ t b x. absurd (let c = closing s in grind arith))
moving d d' e (K.halts q ba fa s u a ha w k) =
    gone d d' e (empty_of s) s.accepted s.finishes (λ t b x. absurd (let c = closing s in grind arith))
moving d d' e (K.resets s u k) = gone d d' e (empty_of s) s.accepted s.finishes (λ t b x. absurd (let c = closing s in grind arith))
moving d d' e (K.sweeps cl a s u ha o p k) = gone d d' e (empty_of s) s.accepted s.finishes (λ t b x. absurd (no_busy d.status.outstanding t o b))
moving d d' e (K.takes s u k) = record {
  stay = λ t b x. took_stays d d' e (empty_of s) k t b;
  over = λ t x. empty_of s;
  done = λ t b x. absurd (false≢true (sym (s.finishes t) ∙ x));
  new = λ x. took_new d d' e k;
}
moving d d' e (K.opens tag s k) = gone d d' e (empty_of s) s.accepted s.finishes (λ t b x. kept d d' e t (empty_of s) k.outstanding k.entries b)
moving d d' e (K.carries tag n s u k) = record {
  stay = λ t b x. carried_stays d d' e tag n k (load_own (device_entry d tag).write e n s.sends s.brings) t b;
  over = λ t x. absurd (false≢true (sym (ap₂ ◌||◌ (s.finishes t) (closing s)) ∙ x));
  done = λ t b x. absurd (false≢true (sym (s.finishes t) ∙ x));
  new = λ x. absurd (false≢true (sym s.accepted ∙ x));
}
moving d d' e (K.ends set s u k) = record {
  stay = λ t b x. ended_stays d d' e set (empty_of s) k t b (sym (s.finishes t) ∙ or_left (e.finishes t) (errs e || e.asks.resets) x);
  over = λ t x. empty_of s;
  done = λ t b x. (k.ready t (busy_below d.status.outstanding t b) (sym (s.finishes t) ∙ x)).1;
  new = λ x. absurd (false≢true (sym s.accepted ∙ x));
}
